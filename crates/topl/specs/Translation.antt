-- The high-level automaton that a property stands for.
use Rattle.std.specs.Prelude.{ℕ, suc, ◌+◌, cond, List, [], ◌∷◌, ◌++◌, map, length, ◌==◌, nat_eq}
use Rattle.topl.specs.Lists.{Class, each, once}
use Rattle.topl.specs.Automata.{ident, given, Tuple, Guard, eq, neq, always, both, Action, nop, assign, after, Guarded, Automaton}
use Rattle.topl.specs.Table.{Event, places, Pattern, Any, Write, Same, Differs, Matcher, any_event, event_of, Statement, matchers, start, error, Table, numbered}

-- The letter of an event has seven components: the event id, the returned value and the five parameters.
abbrev pub letter : Event → Tuple
letter e = ident e.id ∷ map given (places e)

-- the event id that a matcher mentions, in a list
abbrev pub mentions : Matcher → List ℕ
mentions any_event = []
mentions (event_of i ps) = i ∷ []

-- the event ids that the property mentions, each once
abbrev pub ids : Table → List ℕ
ids P = once nat_eq (each (λ t. each mentions (matchers t.1)) (numbered P))

-- The automaton's registers: one for each event id that is mentioned, which holds it for ever, and then the property's own.
abbrev pub loaded : List ℕ → List Class → Tuple
loaded is s = map ident is ++ map given s

-- the place of an id among the ids
abbrev pub index : ℕ → List ℕ → ℕ
index x [] = 0
index x (y ∷ ys) = cond (x == y) 0 (suc (index x ys))

-- the guard of a pattern at component j, with m registers before the property's own
abbrev pub guard_of : ℕ → ℕ → Pattern → Guard
guard_of m j Any = always
guard_of m j (Write r) = always
guard_of m j (Same r) = eq (m + r) j
guard_of m j (Differs r) = neq (m + r) j

-- the action of a pattern at component j
abbrev pub action_of : ℕ → ℕ → Pattern → Action
action_of m j Any = nop
action_of m j (Write r) = assign (m + r) j
action_of m j (Same r) = nop
action_of m j (Differs r) = nop

-- all guards of some patterns at the components from j on
abbrev pub guards_of : ℕ → ℕ → List Pattern → Guard
guards_of m j [] = always
guards_of m j (p ∷ ps) = both (guard_of m j p) (guards_of m (suc j) ps)

-- All their actions, composed: the first one after the others. The order matters only where one matcher writes a register twice, which none of a lawful
-- table does; a run writes the first one first.
abbrev pub actions_of : ℕ → ℕ → List Pattern → Action
actions_of m j [] = nop
actions_of m j (p ∷ ps) = after (action_of m j p) (actions_of m (suc j) ps)

-- what a matcher becomes: the letter's first component is the id, and the patterns stand from the second on
abbrev pub translated : List ℕ → Matcher → Guarded
translated is any_event = (always, nop)
translated is (event_of i ps) = (both (eq (index i is) 0) (guards_of (length is) 1 ps), actions_of (length is) 1 ps)

-- what a statement becomes
abbrev pub transition : List ℕ → ℕ × Statement → ℕ × List Guarded × ℕ
transition is t = (t.1.source, map (translated is) (matchers t.1), t.1.target)

-- The automaton of a property whose registers hold s at first: it begins in `start`, and only `error` is final.
abbrev pub automaton_of : Table → List Class → Automaton (List Guarded)
automaton_of P s = record { initial = start; store = loaded (ids P) s; δ = map (transition (ids P)) (numbered P); final = error ∷ [] }

-- The table of the theory that a property stands for.
use Rattle.std.specs.Prelude.{ℕ, suc, cond, List, [], ◌∷◌, map, take, drop, slice_index_or}
use Rattle.topl.specs.Table as T
use Rattle.topl.specs.declared.pattern.Pattern.{Pattern}
use Rattle.topl.specs.declared.pattern.Pattern.TheVariants as patterns
use Rattle.property.specs.States.{Declared, Key, Property}
use Rattle.property.specs.declared.table.Event.{Event}
use Rattle.property.specs.declared.table.Event.TheVariants as events
use Rattle.property.specs.declared.table.Call.{Call}
use Rattle.property.specs.declared.table.Slot.{Slot}
use Rattle.property.specs.declared.table.Statement.{Statement}

-- A pattern, by the number of its register.
abbrev pub pattern : Pattern ℕ → T.Pattern
pattern patterns.Any = T.Any
pattern (patterns.Write r) = T.Write r
pattern (patterns.Same r) = T.Same r
pattern (patterns.Differs r) = T.Differs r

-- The pattern that stands at a place of the text.
abbrev pub placed : Slot → T.Pattern
placed s = pattern s.pattern

-- The slots of a call: as many as its method has parameters.
abbrev pub parameters : Call → List Slot
parameters c = take c.arity c.slots

-- What one event has to meet.
abbrev pub matcher : Event → T.Matcher
matcher events.Any = T.any_event
matcher (events.Calls c) = T.called c.number (map placed (parameters c))
matcher (events.Returns a) = T.returned (placed a.slot) a.number

-- The events that a statement spans.
abbrev pub spanned : Statement → List Event
spanned s = take s.span s.events

-- From one state to another over events that meet these, of which there is at least one.
abbrev pub over : ℕ → ℕ → List T.Matcher → T.Statement
over source target ms = record { source = source; target = target; head = slice_index_or ms 0 T.any_event; rest = drop 1 ms }

abbrev pub statement : Statement → T.Statement
statement s = over s.source s.target (map matcher (spanned s))

-- A method, by its number and its arity.
abbrev pub method : Declared → ℕ × ℕ
method m = (m.number, m.arity)

-- The registers of constants among some registers, of which the first is n.
abbrev pub constants_from : ℕ → List Key → List ℕ
constants_from n [] = []
constants_from n (g ∷ gs) = cond g.constant (n ∷ constants_from (suc n) gs) (constants_from (suc n) gs)

-- The table that a property stands for: its methods, its constants in the order of first appearance, and its statements.
abbrev pub table_of : Property → T.Table
table_of P = record { methods = map method P.methods; constants = constants_from 0 P.registers; statements = map statement P.statements }

-- What holds of every property that an accepted text writes.
use Rattle.std.specs.Prelude.{◌≡◌, ℕ, ◌+◌, ◌<◌, ◌≤◌, false, List, [], ◌∷◌, map, length, get_or, All}
use Rattle.topl.specs.Lists.{◌∈◌, each, Distinct}
use Rattle.topl.specs.declared.pattern.Pattern.{Pattern}
use Rattle.topl.specs.declared.pattern.Pattern.TheVariants as patterns
use Rattle.property.specs.States.{Declared, Key, Property}
use Rattle.property.specs.declared.table.Answer.{Answer}
use Rattle.property.specs.declared.table.Call.{Call}
use Rattle.property.specs.declared.table.Event.{Event}
use Rattle.property.specs.declared.table.Event.TheVariants as events
use Rattle.property.specs.declared.table.Slot.{Slot}
use Rattle.property.specs.declared.table.Statement.{Statement}
use Rattle.limits.specs.Tables.{parameters, spanned}

-- The registers that a slot writes, in a list.
abbrev pub written_by : Pattern ℕ → List ℕ
written_by patterns.Any = []
written_by (patterns.Write r) = r ∷ []
written_by (patterns.Same r) = []
written_by (patterns.Differs r) = []

abbrev pub writes : Slot → List ℕ
writes s = written_by s.pattern

-- The register r holds a variable.
abbrev pub Variable : List Key → ℕ → Type 0
Variable gs r = (r < length gs) × ((d : Key) → (get_or gs r d).constant ≡ false)

-- A pattern names one of the registers, and writes none but a variable's.
abbrev pub PatternFits : List Key → Pattern ℕ → Type 0
PatternFits gs patterns.Any = Unit {0}
PatternFits gs (patterns.Write r) = Variable gs r
PatternFits gs (patterns.Same r) = r < length gs
PatternFits gs (patterns.Differs r) = r < length gs

abbrev pub SlotFits : List Key → Slot → Type 0
SlotFits gs s = PatternFits gs s.pattern

-- A call of a declared method, with a pattern for each parameter, the first of five slots; it writes no register twice.
pub record CallFits (ms : List Declared) (gs : List Key) (c : Call) : Type 0 where
  pub declared : (m : Declared) × (m ∈ ms) × (m.number ≡ c.number) × (m.arity ≡ c.arity)
  pub five : length c.slots ≡ 5
  pub fit : All (SlotFits gs) (parameters c)
  pub once : Distinct (each writes (parameters c))

-- A return of a declared method.
pub record AnswerFits (ms : List Declared) (gs : List Key) (a : Answer) : Type 0 where
  pub declared : (m : Declared) × (m ∈ ms) × (m.number ≡ a.number)
  pub fits : SlotFits gs a.slot

-- What an event of a statement is.
abbrev pub EventFits : List Declared → List Key → Event → Type 0
EventFits ms gs events.Any = Unit {0}
EventFits ms gs (events.Calls c) = CallFits ms gs c
EventFits ms gs (events.Returns a) = AnswerFits ms gs a

-- A statement spans one to four events, the first of the four that it holds, between two of n states, and does not leave `error`.
pub record StatementFits (ms : List Declared) (n : ℕ) (gs : List Key) (s : Statement) : Type 0 where
  pub some : 1 ≤ s.span
  pub few : s.span ≤ 4
  pub four : length s.events ≡ 4
  pub from : s.source < n
  pub to : s.target < n
  pub leaves : s.source ≡ 1 → ⊥
  pub fit : All (EventFits ms gs) (spanned s)

-- A declared method has a number up to 65,535 and at most five parameters.
abbrev pub MethodFits : Declared → Type 0
MethodFits m = (m.number ≤ 65535) × (m.arity ≤ 5)

-- How many states a property has: `start`, `error` and the others.
abbrev pub states : Property → ℕ
states P = 2 + length P.others

-- At most 32 methods, 16 states, 8 registers and 64 statements; no method has the name or the number of another, and no state or register stands twice. What
-- names look like is no part of it.
pub record Within (P : Property) : Type 0 where
  pub few_methods : length P.methods ≤ 32
  pub methods_fit : All MethodFits P.methods
  pub names_apart : Distinct (map (λ m. m.name) P.methods)
  pub numbers_apart : Distinct (map (λ m. m.number) P.methods)
  pub few_states : states P ≤ 16
  pub states_apart : Distinct P.others
  pub few_registers : length P.registers ≤ 8
  pub registers_apart : Distinct P.registers
  pub some_statement : 1 ≤ length P.statements
  pub few_statements : length P.statements ≤ 64
  pub statements_fit : All (StatementFits P.methods (states P) P.registers) P.statements

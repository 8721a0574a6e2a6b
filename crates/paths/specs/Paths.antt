-- Paths of statements on which a register is not written, and the reads of a statement.
use Rattle.std.specs.Prelude.{◌≡◌, ℕ, ◌<◌, Bool, false, cond, List, [], ◌∷◌, length, get_or, take, min, ◌==◌, slice_index_or}
use Rattle.std.specs.List.{list_any}
use Rattle.property.specs.declared.table.Event.{Event}
use Rattle.property.specs.declared.table.Event.TheVariants as events
use Rattle.topl.specs.declared.pattern.Pattern.{Pattern}
use Rattle.topl.specs.declared.pattern.Pattern.TheVariants as patterns
use Rattle.property.specs.declared.table.Slot.{Slot}
use Rattle.property.specs.declared.table.Statement.{Statement}

-- Whether a pattern writes the register x.
abbrev pub pattern_writes : ℕ → Pattern ℕ → Bool
pattern_writes x patterns.Any = false
pattern_writes x (patterns.Write r) = r == x
pattern_writes x (patterns.Same r) = false
pattern_writes x (patterns.Differs r) = false

abbrev pub slot_writes : ℕ → Slot → Bool
slot_writes x s = pattern_writes x s.pattern

-- The patterns of an event that count, and the events of a statement.
abbrev pub slots_of : Event → List Slot
slots_of events.Any = []
slots_of (events.Calls c) = take (min c.arity 5) c.slots
slots_of (events.Returns a) = a.slot ∷ []

abbrev pub events_of : Statement → List Event
events_of s = take (min s.span 4) s.events

-- Whether an event, and a statement, writes the register x.
abbrev pub event_writes : ℕ → Event → Bool
event_writes x e = list_any (slot_writes x) (slots_of e)

abbrev pub statement_writes : ℕ → Statement → Bool
statement_writes x s = list_any (event_writes x) (events_of s)

-- The elements up to and with the first that passes a test.
abbrev pub through : {A : Type 0} → (A → Bool) → List A → List A
through f [] = []
through f (x ∷ xs) = x ∷ cond (f x) [] (through f xs)

-- The state of a number: all from 16 on are one.
abbrev pub state : ℕ → ℕ
state n = min n 16

-- Some path of statements from `start` reaches the state with no write of the register x.
pub data Unwritten (ss : List Statement) (x : ℕ) : ℕ → Type 0 where
  start : Unwritten ss x 0
  along : (k : ℕ) (d : Statement) → k < length ss → statement_writes x (slice_index_or ss k d) ≡ false → Unwritten ss x (state (get_or ss k d).source)
      → Unwritten ss x (state (get_or ss k d).target)

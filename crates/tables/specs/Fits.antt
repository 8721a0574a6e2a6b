-- What of a property fits a table: eight registers, numbers up to 65,535, at most five parameters, one to four events, sixteen states.
use Rattle.std.specs.Prelude.{◌≡◌, ℕ, ◌<◌, ◌≤◌, length, All}
use Rattle.topl.specs.declared.pattern.Pattern.{Pattern}
use Rattle.topl.specs.declared.pattern.Pattern.TheVariants as patterns
use Rattle.property.specs.declared.table.Answer.{Answer}
use Rattle.property.specs.declared.table.Call.{Call}
use Rattle.property.specs.declared.table.Event.{Event}
use Rattle.property.specs.declared.table.Event.TheVariants as events
use Rattle.property.specs.declared.table.Slot.{Slot}
use Rattle.property.specs.declared.table.Statement.{Statement}
use Rattle.limits.specs.Tables.{parameters, spanned}

-- A pattern names one of the eight registers, if any.
abbrev pub PatternFits : Pattern ℕ → Type 0
PatternFits patterns.Any = Unit {0}
PatternFits (patterns.Write r) = r < 8
PatternFits (patterns.Same r) = r < 8
PatternFits (patterns.Differs r) = r < 8

-- So does the pattern of a slot.
abbrev pub SlotFits : Slot → Type 0
SlotFits s = PatternFits s.pattern

-- A call of a method with a number of two bytes and at most five parameters.
pub record CallFits (c : Call) : Type 0 where
  pub number : c.number ≤ 65535
  pub arity : c.arity ≤ 5
  pub five : length c.slots ≡ 5
  pub fit : All SlotFits (parameters c)

-- A return of a method with such a number.
pub record AnswerFits (a : Answer) : Type 0 where
  pub number : a.number ≤ 65535
  pub fits : SlotFits a.slot

-- What one event has to meet.
abbrev pub EventFits : Event → Type 0
EventFits events.Any = Unit {0}
EventFits (events.Calls c) = CallFits c
EventFits (events.Returns a) = AnswerFits a

-- A statement between two of sixteen states over one to four events.
pub record StatementFits (s : Statement) : Type 0 where
  pub some : 1 ≤ s.span
  pub few : s.span ≤ 4
  pub four : length s.events ≡ 4
  pub from : s.source < 16
  pub to : s.target < 16
  pub fit : All EventFits (spanned s)

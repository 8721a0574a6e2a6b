-- What one step of a reader tells, with the place where it then stands.
use Rattle.std.specs.Prelude.{ℕ, Ok, Err, Result}
use Rattle.kinds.specs.declared.refusal.Refusal.{Refusal}
use Rattle.sources.specs.Events.{Happening}
use Rattle.sources.specs.Sayings.{says}
use Rattle.sources.specs.declared.event.Event.{Event}

-- What was read and the place after it, or the refusal.
abbrev pub told : {A : Type 0} → Result A Refusal → ℕ → Result (A × ℕ) Refusal
told (Ok a) p = Ok (a, p)
told (Err f) p = Err f

-- What the event that was read says and the place after it, or the refusal.
abbrev pub event_told : {V : Type 0} → Result (Event V) Refusal → ℕ → Result (Happening V × ℕ) Refusal
event_told (Ok e) p = Ok (says e, p)
event_told (Err f) p = Err f

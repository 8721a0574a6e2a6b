-- What an event in hand says, and what becomes of one that is asked for.
use Rattle.std.specs.Prelude.{◌≡◌, ◌<◌, ◌≤◌, ◌⊎◌, length, take, Ok, Err, Result}
use Rattle.kinds.specs.declared.refusal.Reason.{Reason}
use Rattle.kinds.specs.declared.refusal.Reason.TheVariants.{WildId, TooManyValues}
use Rattle.sources.specs.Events.{Happening, Lawful, most}
use Rattle.sources.specs.declared.event.Event.{Event}

-- What an event in hand says: its id and its first values, as many as it counts.
abbrev pub says : {V : Type 0} → Event V → Happening V
says e = record { id = e.id; values = take e.count e.values }

-- Why there is no such event: 4 for its id, and 5 for its values where its id is none.
abbrev pub Unlawful : {V : Type 0} → Happening V → Reason → Type 0
Unlawful h r =
    ((r ≡ WildId) × (131071 < h.id)) ⊎ ((r ≡ TooManyValues) × (h.id ≤ 131071) × (most h.id < length h.values))

-- An event that is lawful is made as it is asked for; any other is refused.
abbrev pub Judged : {V : Type 0} → Happening V → Result (Event V) Reason → Type 0
Judged h (Ok e) = Lawful h × (says e ≡ h)
Judged h (Err r) = Unlawful h r

-- A source is a list of events that wait, and an ending.
use Rattle.std.specs.Prelude.{◌≡◌, List, [], ◌∷◌, Some, None, Ok, Err, Option, Result}
use Rattle.kinds.specs.Refusals.{Ending}
use Rattle.kinds.specs.declared.refusal.Refusal.{Refusal}
use Rattle.sources.specs.Events.{Happening, Lawful}
use Rattle.sources.specs.Sayings.{says}
use Rattle.sources.specs.declared.event.Event.{Event}

-- Every event of a list is lawful.
abbrev pub AllLawful : {V : Type 0} → List (Happening V) → Type 0
AllLawful [] = Unit {0}
AllLawful (h ∷ hs) = Lawful h × AllLawful hs

-- Next hands over the first event and removes only it; where none waits it tells the ending, and nothing changes.
abbrev pub Next : {V : Type 0} → List (Happening V) → Ending → Result (Option (Event V)) Refusal → List (Happening V) → Ending → Type 0
Next hs n (Ok (Some e)) hs' n' = (hs ≡ says e ∷ hs') × (n' ≡ n)
Next hs n (Ok None) hs' n' = (hs ≡ []) × (n ≡ Ok tt) × (hs' ≡ hs) × (n' ≡ n)
Next hs n (Err f) hs' n' = (hs ≡ []) × (n ≡ Err f) × (hs' ≡ hs) × (n' ≡ n)

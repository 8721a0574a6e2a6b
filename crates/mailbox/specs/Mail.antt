-- A mailbox is a queue of events with so many places.
use Rattle.std.specs.Prelude.{◌≡◌, ℕ, ◌<◌, ◌≤◌, ◌⊎◌, List, [], ◌∷◌, ◌++◌, map, length, Ok, Err, Result}
use Rattle.std.specs.VecDeque.{deque_capacity, deque_items}
use Rattle.kinds.specs.declared.kind.Kind.{Ghosts}
use Rattle.kinds.specs.declared.refusal.Layer.TheVariants.{Mailbox as mailbox}
use Rattle.kinds.specs.declared.refusal.Reason.{Reason}
use Rattle.kinds.specs.declared.refusal.Reason.TheVariants.{NoRoom}
use Rattle.kinds.specs.declared.refusal.Refusal.{Refusal}
use Rattle.sources.specs.Events.{Happening, Lawful}
use Rattle.sources.specs.Lawfulness.{says_lawful}
use Rattle.sources.specs.Sayings.{Unlawful, says}
use Rattle.sources.specs.Sources.{AllLawful}
use Rattle.sources.specs.declared.event.Event.{Event}
use Rattle.mailbox.specs.declared.held.Mailbox.{Mailbox}

-- The events that wait in a mailbox.
abbrev pub waits : {K V : Type 0} {G : Ghosts K V} → Mailbox K V G → List (Happening V)
waits m = map says (deque_items m.queue)

-- How many events a mailbox can hold.
abbrev pub places : {K V : Type 0} {G : Ghosts K V} → Mailbox K V G → ℕ
places m = deque_capacity m.queue

-- Why an event is not put: 4 or 5 where there is no such event, and then 50 where every place is taken.
abbrev pub Unfit : {V : Type 0} → ℕ → ℕ → Happening V → Reason → Type 0
Unfit room held h r = Unlawful h r ⊎ ((r ≡ NoRoom) × Lawful h × (room ≤ held))

-- A lawful event goes behind the others where a place is free; a refusal is placed at how many are held, and nothing changes.
abbrev pub Put : {V : Type 0} → ℕ → List (Happening V) → Happening V → Result (Unit {0}) Refusal → List (Happening V) → Type 0
Put room hs h (Ok _) hs' = Lawful h × (length hs < room) × (hs' ≡ hs ++ h ∷ [])
Put room hs h (Err f) hs' = Unfit room (length hs) h f.reason × (f.layer ≡ mailbox) × (f.place ≡ length hs) × (hs' ≡ hs)

-- Why only lawful events wait; the source's ghost member cites it.
pub all_lawful : {V : Type 0} (es : List (Event V)) → AllLawful (map says es)
all_lawful [] = tt
all_lawful (e ∷ es) = (says_lawful e, all_lawful es)

-- The journals of the worked days, and the events that they record.
use Rattle.std.specs.Prelude.{◌≡◌, ℕ, List, [], ◌∷◌, ◌++◌, map, Some, None, Ok, codes, Option, Result}
use Rattle.kinds.specs.Labels.{label_of}
use Rattle.kinds.specs.declared.label.Label.{Label}
use Rattle.kinds.specs.declared.refusal.Fault.{Fault}
use Rattle.sources.specs.Events.{Happening}
use Rattle.sources.specs.Opening.{head_refusal}
use Rattle.sources.specs.Records.{Recorded}
use Rattle.topl.specs.Lists.{Class}
use Rattle.topl.specs.Table.{Event, call_id, return_id}
use Rattle.topl.specs.Theorems.{seen}

-- The bytes are a journal of a kind, which has this number, this reading and these classes. It records the events hs and ends at its end; the watch sees
-- them as es.
pub record Journals {V : Type 0} (number : ℕ) (reads : List ℕ → Result (V × ℕ) Fault) (class : V → Class) (bytes : List ℕ) (hs : List (Happening V)) (es : List Event) : Type 0 where
  pub opens : head_refusal number bytes ≡ None
  pub records : Recorded reads bytes 2 hs (Ok tt)
  pub seen_as : map (λ h. seen class h.id h.values) hs ≡ es

-- A call and a return of a method, with values.
abbrev pub called : {V : Type 0} → ℕ → List V → Happening V
called m vs = record { id = call_id m; values = vs }

abbrev pub returned : {V : Type 0} → ℕ → List V → Happening V
returned m vs = record { id = return_id m; values = vs }

-- fetch(f) returns s, midnight, apply(f', s')
abbrev pub stale_events : {V : Type 0} → V → V → V → V → List (Happening V)
stale_events f s f' s' = called 3 (f ∷ []) ∷ returned 3 (s ∷ []) ∷ called 5 [] ∷ called 4 (f' ∷ s' ∷ []) ∷ []

-- NUMBERS: 12 and 900, and 12 and what these bytes say. An id is a byte, then the count of the values, then each value.
abbrev pub stale_bytes : List ℕ → List ℕ
stale_bytes last =
    0x01 ∷ 0x01 ∷
    0x06 ∷ 0x01 ∷ 0x0C ∷
    0x07 ∷ 0x01 ∷ 0x84 ∷ 0x07 ∷
    0x0A ∷ 0x00 ∷
    0x08 ∷ 0x02 ∷ 0x0C ∷ last

-- 900 again, as it was fetched
abbrev pub number_bytes : List ℕ
number_bytes = stale_bytes (0x84 ∷ 0x07 ∷ [])

abbrev pub number_events : List (Happening (Option ℕ))
number_events = stale_events (Some 12) (Some 900) (Some 12) (Some 900)

-- 901, which was not fetched
abbrev pub other_bytes : List ℕ
other_bytes = stale_bytes (0x85 ∷ 0x07 ∷ [])

abbrev pub other_events : List (Happening (Option ℕ))
other_events = stale_events (Some 12) (Some 900) (Some 12) (Some 901)

-- Calls of g, p and r.
abbrev pub gpr_bytes : List ℕ
gpr_bytes =
    0x01 ∷ 0x01 ∷
    0x02 ∷ 0x00 ∷
    0x04 ∷ 0x00 ∷
    0x06 ∷ 0x00 ∷ []

abbrev pub gpr_events : List (Happening (Option ℕ))
gpr_events = called 1 [] ∷ called 2 [] ∷ called 3 [] ∷ []

-- And of z.
abbrev pub gprz_bytes : List ℕ
gprz_bytes = gpr_bytes ++ 0x08 ∷ 0x00 ∷ []

abbrev pub gprz_events : List (Happening (Option ℕ))
gprz_events = gpr_events ++ called 4 [] ∷ []

-- LABELS: HW-12 and day-1, and hw-12 and DAY-1.
abbrev pub label_bytes : List ℕ
label_bytes =
    0x01 ∷ 0x02 ∷
    0x06 ∷ 0x01 ∷ 0x05 ∷ codes "HW-12" ++
    0x07 ∷ 0x01 ∷ 0x05 ∷ codes "day-1" ++
    0x0A ∷ 0x00 ∷
    0x08 ∷ 0x02 ∷ 0x05 ∷ codes "hw-12" ++ 0x05 ∷ codes "DAY-1"

abbrev pub label_events : List (Happening Label)
label_events = stale_events (label_of (codes "HW-12")) (label_of (codes "day-1")) (label_of (codes "hw-12")) (label_of (codes "DAY-1"))

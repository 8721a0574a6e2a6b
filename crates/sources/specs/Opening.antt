-- The head of a journal: a version and the number of a kind, a byte each.
use Rattle.std.specs.Prelude.{◌≡◌, ℕ, cond, List, [], ◌∷◌, length, Some, None, Option, Result, ◌==◌, nat_lt}
use Rattle.kinds.specs.declared.refusal.Fault.{Fault}
use Rattle.kinds.specs.declared.refusal.Reason.TheVariants.{Cut, OtherHead, TooLong}
use Rattle.kinds.specs.declared.refusal.Refusal.{Refusal}
use Rattle.sources.specs.Format.{Meaning, means, refuses}
use Rattle.sources.specs.Records.{Recorded, ShortRecords}
use Rattle.sources.specs.declared.journal.Journal.{Journal}

-- The first byte of a head that differs from version 1 and the kind's number.
abbrev pub head_differs : ℕ → ℕ → ℕ → Option Refusal
head_differs version kind number =
    cond (version == 1) (cond (kind == number) None (Some (refuses OtherHead 1))) (Some (refuses OtherHead 0))

-- A head has two bytes.
abbrev pub head_cut : ℕ → List ℕ → Option Refusal
head_cut number [] = Some (refuses Cut 0)
head_cut number (version ∷ []) = Some (refuses Cut 0)
head_cut number (version ∷ kind ∷ _) = head_differs version kind number

-- Why a journal is not opened under a kind's number: 7 where it is too long, then 1 where its head is cut, then 3 where its head differs.
abbrev pub head_refusal : ℕ → List ℕ → Option Refusal
head_refusal number bytes = cond (nat_lt 65536 (length bytes)) (Some (refuses TooLong 0)) (head_cut number bytes)

-- What a reader has before it: the events that wait and the ending.
abbrev pub ahead : {V K : Type 0} → (List ℕ → Result (V × ℕ) Fault) → Journal K → Meaning V
ahead reads j = means reads j.place.bytes.now j.place.at

-- A reader of these bytes that stands behind an accepted head, so that all that they record waits in it.
pub record Opened {V K : Type 0} (reads : List ℕ → Result (V × ℕ) Fault) (longest number : ℕ) (bytes : List ℕ) (j : Journal K) : Type 0 where
  pub head : head_refusal number bytes ≡ None
  pub bytes_are : j.place.bytes.now ≡ bytes
  pub place_is : j.place.at ≡ 2
  pub holds : Recorded reads bytes 2 (means reads bytes 2).waits (means reads bytes 2).ends
  pub short : ShortRecords reads bytes longest

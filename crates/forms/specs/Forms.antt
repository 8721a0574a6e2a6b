-- Forms: which bytes have a form and what they write, which faults lie in them, and which fault decides.
use Rattle.std.specs.Prelude.{◌≡◌, ℕ, ◌<◌, ◌≤◌, ◌⊎◌, List, [], ◌∷◌, ◌++◌, length}

-- takes v s: the bytes s have this form and write the value v. faults n k s: as far as the bytes s have this form,
-- something in them has the fault n, at place k of s.
pub record Form (V : Type 0) : Type 1 where
  pub takes : V → List ℕ → Type 0
  pub faults : ℕ → ℕ → List ℕ → Type 0

-- The fault n at place k comes before the fault m at place j, or is the same: the lower place, and at one place the lower number.
abbrev pub Before : ℕ → ℕ → ℕ → ℕ → Type 0
Before n k m j = (k < j) ⊎ ((k ≡ j) × (n ≤ m))

module _ {V : Type 0} where
  -- Some text that begins with a has the form.
  abbrev pub Viable : Form V → List ℕ → Type 0
  Viable F a = (v : V) × (u : List ℕ) × F.takes v (a ++ u)

  -- After a the next byte of r fits no form; where there is none, the text breaks off.
  abbrev pub Dead : Form V → List ℕ → List ℕ → Type 0
  Dead F a [] = (v : V) → F.takes v a → ⊥
  Dead F a (b ∷ r) = (v : V) (u : List ℕ) → F.takes v (a ++ b ∷ u) → ⊥

  -- k is the place of the first byte of s that fits no form, or the length of s where s breaks off.
  abbrev pub Misfit : Form V → List ℕ → ℕ → Type 0
  Misfit F s k = (a : List ℕ) × (r : List ℕ) × (s ≡ a ++ r) × (k ≡ length a) × Viable F a × Dead F a r

  -- s has the fault n at place k: 10 where it fits no form, or a fault of what stands there.
  abbrev pub Flawed : Form V → List ℕ → ℕ → ℕ → Type 0
  Flawed F s n k = ((n ≡ 10) × Misfit F s k) ⊎ F.faults n k s

  -- s is refused with n at place k: that is a fault of s, and it comes before every other.
  pub record Refused (F : Form V) (s : List ℕ) (n k : ℕ) : Type 0 where
    pub flawed : Flawed F s n k
    pub first : (m j : ℕ) → Flawed F s m j → Before n k m j

  -- s is accepted as v: it writes v and nothing else, and has no fault.
  pub record Accepted (F : Form V) (s : List ℕ) (v : V) : Type 0 where
    pub writes : F.takes v s
    pub only : (w : V) → F.takes w s → w ≡ v
    pub sound : (m j : ℕ) → Flawed F s m j → ⊥

  -- F, where a text of more bytes than `most` has the fault 11 at the first byte too many.
  abbrev pub bounded : ℕ → Form V → Form V
  bounded most F =
      record { takes = F.takes; faults = λ n k s. ((n ≡ 11) × (k ≡ most) × (most < length s)) ⊎ F.faults n k s }

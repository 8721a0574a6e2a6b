-- What a line and each of its fields write.
use Rattle.std.specs.Prelude.{◌≡◌, ℕ, Bool, List, [], ◌∷◌, ◌++◌, ◌==◌, Ok, codes, count_by}
use Rattle.hex.specs.Hex.{decode_of}
use Rattle.vectors.specs.declared.hex_field.Fault.{Fault}
use Rattle.vectors.specs.declared.hex_field.Fault.TheVariants.{NotHex, Memory}

-- The byte between fields.
abbrev pub tab : ℕ → Bool
tab b = b == 9

-- A field writes these bytes: none by a `-` alone, and else each by two hex digits.
pub data Writes (field bytes : List ℕ) : Type 0 where
  dash : field ≡ codes "-" → bytes ≡ [] → Writes field bytes
  digits : decode_of field ≡ Ok bytes → Writes field bytes

-- Why no bytes come of a field: it writes none, or memory gave out.
pub data Unwritten (field : List ℕ) : Fault → Type 0 where
  not_hex : ((bytes : List ℕ) → Writes field bytes → ⊥) → Unwritten field NotHex
  memory : Unwritten field Memory

-- A line has a first tab between these parts.
pub record Cut (line front back : List ℕ) : Type 0 where
  pub joined : line ≡ front ++ (9 ∷ back)
  pub first : count_by tab front ≡ 0

-- A line is four fields with tabs between them, of which only the last may have one.
pub record Parts (line text journal constants expected : List ℕ) : Type 0 where
  pub joined : line ≡ text ++ (9 ∷ (journal ++ (9 ∷ (constants ++ (9 ∷ expected)))))
  pub text_free : count_by tab text ≡ 0
  pub journal_free : count_by tab journal ≡ 0
  pub constants_free : count_by tab constants ≡ 0

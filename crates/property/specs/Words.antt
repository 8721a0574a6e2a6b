-- Words of a text.
use Rattle.std.specs.Prelude.{ℕ, ◌+◌, Bool, cond, ◌||◌, List, [], ◌∷◌, length, codes, nat_lt, bytes_eq}
use Rattle.forms.specs.Bytes.{capital}

-- Whether two words are spelled alike.
abbrev pub same : List ℕ → List ℕ → Bool
same = bytes_eq

-- The bytes of a class that come first, and those after them.
abbrev pub front : (ℕ → Bool) → List ℕ → List ℕ
front c [] = []
front c (b ∷ s) = cond (c b) (b ∷ front c s) []

abbrev pub past : (ℕ → Bool) → List ℕ → List ℕ
past c [] = []
past c (b ∷ s) = cond (c b) (past c s) (b ∷ s)

-- The reserved words.
abbrev pub reserved : List ℕ → Bool
reserved w = same w (codes "property") || (same w (codes "method") || (same w (codes "call") || same w (codes "ret")))

-- More than twelve letters and digits.
abbrev pub long : List ℕ → Bool
long w = nat_lt 12 (length w)

-- A variable's name without the case of its first letter.
abbrev pub lowered : List ℕ → List ℕ
lowered [] = []
lowered (b ∷ w) = cond (capital b) (b + 32) b ∷ w

-- The first byte, or 0.
abbrev pub first_byte : List ℕ → ℕ
first_byte [] = 0
first_byte (b ∷ s) = b

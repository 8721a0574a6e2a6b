-- The pieces of a text: words, numbers and marks, with spaces between them.
use Rattle.std.specs.Prelude.{◌≡◌, ℕ, Bool, true, false, List, [], ◌∷◌, ◌++◌}
use Rattle.forms.specs.Bytes.{space, digit, wordy, Every, Stops, Word, Decimal}

-- A piece: a word or a number, by its bytes, or any other byte.
pub data Piece : Type 0 where
  word number : List ℕ → Piece
  mark : ℕ → Piece

-- The byte that a piece begins with.
abbrev pub head_of : Piece → ℕ
head_of (word []) = 0
head_of (word (b ∷ w)) = b
head_of (number []) = 0
head_of (number (b ∷ d)) = b
head_of (mark b) = b

-- The bytes w, with r after them, are the piece x: all of a word or a number stands there.
abbrev pub Stands : Piece → List ℕ → List ℕ → Type 0
Stands (word w) b r = (b ≡ w) × Every wordy w × Word w × Stops wordy r
Stands (number d) b r = (b ≡ d) × Every digit d × Decimal d × Stops digit r
Stands (mark m) b r = (b ≡ m ∷ []) × (space m ≡ false) × (wordy m ≡ false)

-- The bytes s are spaces sp, then the bytes b of the piece x, then r. In a tight place the piece is the next byte, whatever it is.
abbrev pub Next : Bool → Piece → List ℕ → List ℕ → List ℕ → List ℕ → Type 0
Next false x s sp b r = (s ≡ sp ++ (b ++ r)) × Every space sp × Stands x b r
Next true (word w) s sp b r = ⊥
Next true (number d) s sp b r = ⊥
Next true (mark m) s sp b r = (s ≡ b ++ r) × (sp ≡ []) × (b ≡ m ∷ [])

-- The bytes s are spaces sp, then the byte c, then u; c is no space, and in a tight place there are no spaces.
pub record Comes (tight : Bool) (s sp : List ℕ) (c : ℕ) (u : List ℕ) : Type 0 where
  pub whole : s ≡ sp ++ (c ∷ u)
  pub gap : Every space sp
  pub none : tight ≡ true → sp ≡ []
  pub plain : tight ≡ false → space c ≡ false

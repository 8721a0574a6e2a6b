-- The bytes of a text, by class.
use Rattle.std.specs.Prelude.{◌≡◌, ℕ, ◌+◌, ◌-◌, ◌*◌, Bool, true, false, ◌&&◌, ◌||◌, List, [], ◌∷◌, ◌==◌, nat_le}

abbrev pub space : ℕ → Bool
space b = b == 32

abbrev pub digit : ℕ → Bool
digit b = nat_le 48 b && nat_le b 57

abbrev pub capital : ℕ → Bool
capital b = nat_le 65 b && nat_le b 90

abbrev pub small : ℕ → Bool
small b = nat_le 97 b && nat_le b 122

abbrev pub letter : ℕ → Bool
letter b = capital b || small b

-- What a word is made of.
abbrev pub wordy : ℕ → Bool
wordy b = letter b || digit b

-- Each byte is of the class.
abbrev pub Every : (ℕ → Bool) → List ℕ → Type 0
Every c [] = Unit {0}
Every c (b ∷ s) = (c b ≡ true) × Every c s

-- No byte of the class comes next.
abbrev pub Stops : (ℕ → Bool) → List ℕ → Type 0
Stops c [] = Unit {0}
Stops c (b ∷ s) = c b ≡ false

-- The bytes begin with a letter.
abbrev pub Word : List ℕ → Type 0
Word [] = ⊥
Word (b ∷ s) = letter b ≡ true

-- A decimal number: some digits, and no zero before others.
abbrev pub Decimal : List ℕ → Type 0
Decimal [] = ⊥
Decimal (b ∷ []) = Unit {0}
Decimal (b ∷ d ∷ s) = b ≡ 48 → ⊥

-- The number that digits write after the number a.
abbrev pub value_from : ℕ → List ℕ → ℕ
value_from a [] = a
value_from a (b ∷ s) = value_from (a * 10 + (b - 48)) s

-- The number that digits write.
abbrev pub value : List ℕ → ℕ
value s = value_from 0 s

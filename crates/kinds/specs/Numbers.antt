-- Numbers in bytes: groups of seven bits, lowest first, the top bit set on every byte but the last.
use Rattle.std.specs.Prelude.{◌≡◌, ℕ, zero, suc, ◌+◌, ◌*◌, ◌/◌, ◌%◌, ◌^◌, ◌<◌, cond, ◌⊎◌, List, [], ◌∷◌, ◌++◌, length, Some, None, Ok, Err, Option, Result, ◌==◌, nat_lt}
use Rattle.kinds.specs.declared.refusal.Fault.{Fault}
use Rattle.kinds.specs.Refusals.{number_cut, number_overlong}

-- The form of a number that takes one group and at most `more` others.
unfoldable pub form : ℕ → ℕ → List ℕ
form zero n = n ∷ []
form (suc more) n = cond (nat_lt n 128) (n ∷ []) ((128 + n % 128) ∷ form more (n / 128))

-- The one form of a number below 2 ^ 63: at most nine groups, and no needless last group of zero.
unfoldable pub encode : ℕ → List ℕ
encode n = form 8 n

-- The bytes begin with the form of a number.
abbrev pub Whole : List ℕ → ℕ → Type 0
Whole bytes n = (n < 2 ^ 63) × ((rest : List ℕ) × (bytes ≡ encode n ++ rest))

-- The bytes end inside the form of some number, which wants at least one byte more.
abbrev pub Inside : List ℕ → Type 0
Inside bytes = (n : ℕ) × (n < 2 ^ 63) × ((b : ℕ) × (rest : List ℕ) × (bytes ++ (b ∷ rest) ≡ encode n))

-- What a number's reading means: the number with whose form the bytes begin, and how long that form is; 1 where the bytes end inside a form; 2 where neither holds.
abbrev pub Numbered : List ℕ → Result (ℕ × ℕ) Fault → Type 0
Numbered bytes (Ok p) = Whole bytes p.0 × (p.1 ≡ length (encode p.0))
Numbered bytes (Err f) = ((f ≡ number_cut) × Inside bytes) ⊎ ((f ≡ number_overlong) × (Inside bytes → ⊥) × ((n : ℕ) → Whole bytes n → ⊥))

-- A group in front of what was read after it; what comes after is 0 only where its last group is needless.
abbrev pub lifted : ℕ → Result (ℕ × ℕ) Fault → Result (ℕ × ℕ) Fault
lifted b (Err f) = Err f
lifted b (Ok p) = cond (p.0 == 0) (Err number_overlong) (Ok (b % 128 + 128 * p.0, p.1 + 1))

-- What is read where at most `more` groups may come after the first.
unfoldable pub groups_read : ℕ → List ℕ → Result (ℕ × ℕ) Fault
groups_read more [] = Err number_cut
groups_read zero (b ∷ bytes) = cond (nat_lt b 128) (Ok (b, 1)) (Err number_overlong)
groups_read (suc more) (b ∷ bytes) = cond (nat_lt b 128) (Ok (b, 1)) (lifted b (groups_read more bytes))

-- What the bytes decide of a number's reading: the number and how many bytes it takes, or the fault.
abbrev pub number_read : List ℕ → Result (ℕ × ℕ) Fault
number_read bytes = groups_read 8 bytes

-- A number that was read, as a value of the kind of numbers.
abbrev pub number_given : Result (ℕ × ℕ) Fault → Result (Option ℕ × ℕ) Fault
number_given (Ok p) = Ok (Some p.0, p.1)
number_given (Err f) = Err f

-- What the bytes decide of the reading of a value of the kind of numbers.
abbrev pub number_value : List ℕ → Result (Option ℕ × ℕ) Fault
number_value bytes = number_given (number_read bytes)

-- The class of a number is the number; nothing has the empty class.
abbrev pub number_class : Option ℕ → List ℕ
number_class None = []
number_class (Some n) = n ∷ []

-- The deciding rule.
use Rattle.std.specs.Prelude.{ℕ, zero, suc, ◌+◌, Bool, false, cond, ◌||◌, List, [], ◌∷◌, length, ◌==◌, nat_le, nat_lt}
use Rattle.topl.specs.Table.{Table, error}
use Rattle.topl.specs.Runs.{Registers, Configuration, World, reached}

-- Its four results: broken at a position, spilled, full, or nothing is decided.
pub data Ruling : Type 0 where
  breaks : ℕ → Ruling
  spills overfills goes_on : Ruling

-- is one of them in `error`
abbrev pub any_error : List Configuration → Bool
any_error [] = false
any_error (c ∷ cs) = c.state == error || any_error cs

-- how many configurations are reached at p
abbrev pub count : Table → Registers → World → ℕ → ℕ
count P k w p = length (reached P k w p)

-- f 0 + .. + f (n - 1)
abbrev pub sum : ℕ → (ℕ → ℕ) → ℕ
sum zero f = 0
sum (suc n) f = sum n f + f n

-- The need at p: the configurations reached at positions 0 to p now, and those reached at later positions before.
unfoldable pub need : Table → Registers → World → World → ℕ → ℕ
need P k before now p = sum (suc (length now.events)) (λ q. cond (nat_le q p) (count P k now q) (count P k before q))

-- the first of two rulings that decides
abbrev pub or_else : Ruling → Ruling → Ruling
or_else (breaks p) r = breaks p
or_else spills r = spills
or_else overfills r = overfills
or_else goes_on r = r

-- the first that decides, at n positions from p on
abbrev pub first_ruling : (ℕ → Ruling) → ℕ → ℕ → Ruling
first_ruling f zero p = goes_on
first_ruling f (suc n) p = let later = first_ruling f n (suc p) in or_else (f p) later

module _ (P : Table) (k : Registers) (cap book : ℕ) (before now : World) where
  -- What one position decides, in this order: `error` is reached, more than cap configurations are, the need exceeds the book.
  unfoldable pub ruling_at : ℕ → Ruling
  unfolding need
  ruling_at p =
      cond (any_error (reached P k now p)) (breaks p) (cond (nat_lt cap (count P k now p)) spills (cond (nat_lt book (need P k before now p)) overfills goes_on))

  -- The lowest position at which one of them is true decides.
  unfoldable pub decides : Ruling
  unfolding ruling_at
  decides = first_ruling ruling_at (suc (length now.events)) 0

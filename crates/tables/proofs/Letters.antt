-- A capital first letter, whatever the case before.
use Rattle.std.proofs.Common.{◌≡◌, ℕ, ◌+◌, ◌-◌, cond, List, [], ◌∷◌, refl, ap, arith}
use Rattle.std.proofs.lemmas.Bool.Decides.{nat_tests}
use Rattle.forms.specs.Bytes.{capital, small}
use Rattle.property.specs.Words.{lowered}
use Rattle.tables.specs.Letters.{raised}

-- A letter that was made small is made capital again.
letter : (b : ℕ) → cond (small (cond (capital b) (b + 32) b)) (cond (capital b) (b + 32) b - 32) (cond (capital b) (b + 32) b) ≡ cond (small b) (b - 32) b
letter b = grind (arith, nat_tests)

-- The case before does not count.
pub raised_lowered : (w : List ℕ) → raised (lowered w) ≡ raised w
raised_lowered [] = refl
raised_lowered (b ∷ w) = ap (λ c. c ∷ w) (letter b)

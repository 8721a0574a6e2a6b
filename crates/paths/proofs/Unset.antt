-- How many flags are not set.
use Rattle.std.proofs.Common.{ℕ, suc, Bool, true, false, List, [], ◌∷◌}

abbrev pub unset : List Bool → ℕ
unset [] = 0
unset (true ∷ f) = unset f
unset (false ∷ f) = suc (unset f)

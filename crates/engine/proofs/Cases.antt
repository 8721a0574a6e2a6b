-- What two cases that are not one give.
use Rattle.std.proofs.Common.{◌≡◌, ℕ, arith}

pub never : ◌≡◌ {A = ℕ} 0 1 → ⊥
never z = omega (arith, z)

-- What every reading of a value keeps to.
use Rattle.std.specs.Prelude.{◌≡◌, ℕ, ◌≤◌, ◌⊎◌, List, length, Result, MatchResult}
use Rattle.kinds.specs.declared.refusal.Fault.{Fault}
use Rattle.kinds.specs.Refusals.{number_cut, number_overlong, value_cut, value_bad}

-- The faults of a reading: 1 and 2 of a number, 1 and 6 of a value.
abbrev pub Misread : Fault → Type 0
Misread f = (f ≡ number_cut) ⊎ ((f ≡ number_overlong) ⊎ ((f ≡ value_cut) ⊎ (f ≡ value_bad)))

-- A value that is read takes at least one byte, and no more than the longest form and the bytes have; a fault is one of a reading.
abbrev pub Reading : {V : Type 0} → ℕ → List ℕ → Result (V × ℕ) Fault → Type 0
Reading longest bytes r = MatchResult r (λ p. (1 ≤ p.1) × (p.1 ≤ longest) × (p.1 ≤ length bytes)) Misread

-- Values that stand one after the other: one more, and where they stop.
use Rattle.std.proofs.Common.{◌≡◌, ℕ, ◌<◌, ◌≤◌, ◌⊎◌, inl, inr, arith, List, [], ◌∷◌, ◌++◌, Ok, Result}
use Rattle.std.proofs.lemmas.Bool.Decides.{leb_tells}
use Rattle.kinds.specs.declared.refusal.Fault.{Fault}
use Rattle.sources.specs.Format.{at}
use Rattle.sources.specs.Records.{Values, none, one_more}

-- the end of the bytes or the ninth value
pub stops_at : (place size count : ℕ) → ¬ ((place < size) × (count < 9)) → count ≤ 9 → (size ≤ place) ⊎ (count ≡ 9)
stops_at place size count other few =
    elim (leb_tells size place) [
      | inl a ↦ inl a.1
      | inr a ↦ elim (leb_tells 9 count) [
        | inl b ↦ inr (omega (arith, b.1))
        | inr b ↦ absurd (other (a.1, b.1))
      ]
    ]

module _ {V : Type 0} (reads : List ℕ → Result (V × ℕ) Fault) (bytes : List ℕ) where
  pub values_more : {p q : ℕ} {vs : List V} (v : V) (m : ℕ) → Values reads bytes p vs q → at reads bytes q ≡ Ok (v, m) → Values reads bytes p (vs ++ v ∷ []) m
  values_more v m (none p) e = one_more p v m [] m e (none m)
  values_more v m (one_more p w o vs q f s) e = one_more p w o (vs ++ v ∷ []) m f (values_more v m s e)

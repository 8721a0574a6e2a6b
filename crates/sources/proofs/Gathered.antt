-- Values that are read one after the other.
use Rattle.std.proofs.Common.{◌≡◌, ℕ, suc, ◌+◌, ◌-◌, ◌<◌, List, [], ◌∷◌, ◌++◌, Ok, Err, Result, sym, refl, ap, ◌∙◌, arith}
use Rattle.std.proofs.lemmas.List.{append_assoc}
use Rattle.sources.specs.Format.{at, and_then, values_at, event_at}
use Rattle.kinds.specs.declared.refusal.Fault.{Fault}
use Rattle.kinds.specs.declared.refusal.Refusal.{Refusal}

abbrev pub prepend : {V : Type 0} → List V → Result (List V × ℕ) Refusal → Result (List V × ℕ) Refusal
prepend xs (Ok t) = Ok (xs ++ t.0, t.1)
prepend xs (Err f) = Err f

prepend_one : {V : Type 0} (xs : List V) (v : V) (r : Result (List V × ℕ) Refusal) → prepend xs (and_then r (λ vs. Ok (v ∷ vs.0, vs.1))) ≡ prepend (xs ++ (v ∷ [])) r
prepend_one xs v (Ok t) = ap (λ ys. Ok (ys, t.1)) (sym (append_assoc xs (v ∷ []) t.0))
prepend_one xs v (Err f) = refl

module _ {V : Type 0} (reads : List ℕ → Result (V × ℕ) Fault) (bytes : List ℕ) where
  module _ (whole : Result (List V × ℕ) Refusal) (p n i : ℕ) (xs : List V) (less : i < n) (left : whole ≡ prepend xs (values_at reads bytes p (n - i))) where
    one_left : whole ≡ prepend xs (values_at reads bytes p (suc (n - (i + 1))))
    one_left = let e : n - i ≡ suc (n - (i + 1)) = omega arith in left ∙ ap (λ k. prepend xs (values_at reads bytes p k)) e

    -- one value more
    pub one_read : (v : V) (q : ℕ) (ys : List V) → Ok (v, q) ≡ at reads bytes p → ys ≡ xs ++ (v ∷ []) → whole ≡ prepend ys (values_at reads bytes q (n - (i + 1)))
    one_read v q ys e s =
        one_left ∙ ap (λ r. prepend xs (and_then r (λ w. and_then (values_at reads bytes w.1 (n - (i + 1))) (λ vs. Ok (w.0 ∷ vs.0, vs.1))))) (sym e)
        ∙ prepend_one xs v (values_at reads bytes q (n - (i + 1))) ∙ ap (λ zs. prepend zs (values_at reads bytes q (n - (i + 1)))) (sym s)

    -- one value refused
    pub one_refused : (f : Refusal) → Err f ≡ at reads bytes p → whole ≡ Err f
    one_refused f e = one_left ∙ ap (λ r. prepend xs (and_then r (λ w. and_then (values_at reads bytes w.1 (n - (i + 1))) (λ vs. Ok (w.0 ∷ vs.0, vs.1))))) (sym e)

-- the same of an event
module _ {V : Type 0} (reads : List ℕ → Result (V × ℕ) Fault) (bytes : List ℕ) (p n id : ℕ) where
  pub event_refused : (f : Refusal) → values_at reads bytes p n ≡ Err f → Err f ≡ event_at reads bytes p id n
  event_refused f e = sym (ap (λ w. and_then w (λ vs. Ok (record { id = id; values = vs.0 }, vs.1))) e)

-- A position once it is filled: what stood there and what came is what is reached now.
use Rattle.std.proofs.Common.{◌≡◌, ℕ, ◌+◌, ◌-◌, ◌<◌, ◌≤◌, false, ◌||◌, List, ◌++◌, length, sym, refl, ap, ◌∙◌, arith}
use Rattle.topl.specs.Lists.{holds}
use Rattle.topl.specs.Table.{Event, Table}
use Rattle.topl.specs.Runs.{Configuration, Registers, World, alikeᶜ, reached, so_far}
use Rattle.topl.specs.Rows.{Filled, Over, Stands, incoming}
use Rattle.topl.specs.Deciding.{any_error, count}
use Rattle.topl.specs.Theorems.{StepsTo}
use Rattle.topl.proofs.Basics.{alikeᶜ_tests, holds-∈, ∈-holds, apart_distinct, no_longer}
use Rattle.topl.proofs.Loops.{holds_append, error_append, error_same}

module _ (P : Table) (k : Registers) (L : List Event) (w : World) (row : ℕ → List Configuration) (base p : ℕ) (S : StepsTo P k L w) (b : length L - 3 ≡ base)
    (earlier : (q : ℕ) → length L < q + 4 → q < p → Stands P k w q (row q)) (old : List Configuration) (before : Stands P k (so_far L) p old) where
  -- what stood, and what comes
  pub truth_stands : Stands P k w p (old ++ incoming P w row p base (p - base))
  truth_stands =
      S row p old (old ++ incoming P w row p base (p - base)) before earlier
      (λ c. holds_append alikeᶜ old (incoming P w row p base (p - base)) c ∙ ap (λ (z : ℕ). holds alikeᶜ old c || holds alikeᶜ (incoming P w row p z (p - z)) c) (sym b))

  pub errs : any_error (reached P k w p) ≡ (any_error old || any_error (incoming P w row p base (p - base)))
  errs = error_same (reached P k w p) (old ++ incoming P w row p base (p - base)) (λ c. sym (truth_stands c)) ∙ error_append old (incoming P w row p base (p - base))

  pub over_count : (cap : ℕ) → Over cap (old ++ incoming P w row p base (p - base)) → cap < count P k w p
  over_count cap (xs, a, l, f) =
      let h : length xs ≤ count P k w p =
      no_longer xs (reached P k w p) (apart_distinct alikeᶜ_tests xs a) (λ c m. holds-∈ alikeᶜ_tests (reached P k w p) c (sym (truth_stands c) ∙ f c (∈-holds alikeᶜ_tests m))) in
      omega arith

  pub filled_stands : (cap : ℕ) (new : List Configuration) → Filled cap new (old ++ incoming P w row p base (p - base)) false → Stands P k w p new
  filled_stands cap new F c = F.same refl c ∙ truth_stands c

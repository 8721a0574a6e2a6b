-- The step of the watch from row to row.
use Rattle.std.proofs.Common.{◌≡◌, ℕ, zero, suc, ◌+◌, ◌-◌, ◌<◌, ◌≤◌, Bool, true, false, cond, ◌||◌, eqb, ◌⊎◌, ◌↔◌, List, [], ◌∷◌, ◌++◌, length, sym, refl, ◌∙◌, subst, inl, inr, ⊎_elim, arith, eq-eqb, eqb-true}
use mathlib.Core.List.Memᴰ
use Rattle.std.proofs.lemmas.Bool.{or_cases, or_left, or_right, cases_lt}
use Rattle.topl.specs.Lists.{◌∈◌, apart, each, holds}
use Rattle.topl.specs.Table.{Event, Table}
use Rattle.topl.specs.Runs.{Configuration, Landing, Reaches, Registers, World, alikeᶜ, closing, moves, onward, reached, so_far}
use Rattle.topl.specs.Rows.{Stands, incoming, landed}
use Rattle.topl.specs.Deciding.{count}
use Rattle.topl.specs.Theorems.{Gained, Stepping, StepsTo}
use Rattle.topl.proofs.Basics.{∈-each, each-∈, alikeᶜ_tests, holds-∈, ∈-holds, apart_distinct, bool_same, as_long}
use Rattle.topl.proofs.Persist.{move_bounds, reach_bound}
use Rattle.topl.proofs.Gain.{gains}
use Rattle.topl.proofs.Enumerate.{enumerates, moves_sound, moves_complete}

landed_sound : {d : Configuration} (p : ℕ) (ms : List Landing) → d ∈ landed p ms → (n : ℕ) × ((n, p, d) ∈ ms)
landed_sound p [] h = absurd (Memᴰ.not-nil h)
landed_sound {d} p (m ∷ ms) h = go (landed_sound p ms) (eqb m.1 p) refl h
  where
    go : (d ∈ landed p ms → (n : ℕ) × ((n, p, d) ∈ ms)) → (b : Bool) → eqb m.1 p ≡ b → d ∈ cond b (m.2 ∷ landed p ms) (landed p ms) → (n : ℕ) × ((n, p, d) ∈ (m ∷ ms))
    go below true e h' =
        ⊎_elim (λ (i : d ≡ m.2). (m.0, Memᴰ.head (λ j. (m.0, sym (eqb-true m.1 p e) j, i j)))) (λ h''. let x = below h'' in (x.0, Memᴰ.tail x.1)) (Memᴰ.cases_cons h')
    go below false e h' = let x = below h' in (x.0, Memᴰ.tail x.1)

landed_complete : {n p : ℕ} {d : Configuration} {ms : List Landing} → (n, p, d) ∈ ms → d ∈ landed p ms
landed_complete {n} {p} {d} (Memᴰ.head {x = m} {xs = ms} e) = rw (eq-eqb m.1 p (λ j. (sym e j).1)) (Memᴰ.head (λ j. (e j).2))
landed_complete {n} {p} {d} (Memᴰ.tail {x = m} {xs = ms} h) = go (eqb m.1 p) (landed_complete h)
  where
    go : (b : Bool) → d ∈ landed p ms → d ∈ cond b (m.2 ∷ landed p ms) (landed p ms)
    go true h' = Memᴰ.tail h'
    go false h' = h'

module _ (P : Table) (w : World) (row : ℕ → List Configuration) (p : ℕ) where
  Comes : ℕ → ℕ → Configuration → Type 0
  Comes q n c = (r : ℕ) × (q ≤ r) × (r < q + n) × (d : Configuration) × (d ∈ row r) × (m : ℕ) × ((m, p, c) ∈ moves P w r d)

  incoming_sound : (c : Configuration) (q n : ℕ) → c ∈ incoming P w row p q n → Comes q n c
  unfolding Comes
  incoming_sound c q zero h = absurd (Memᴰ.not-nil h)
  incoming_sound c q (suc n) h = go (incoming_sound c (suc q) n) (Memᴰ.append_cases (each (λ d. landed p (moves P w q d)) (row q)) h)
    where
      go : (c ∈ incoming P w row p (suc q) n → Comes (suc q) n c) → (c ∈ each (λ d. landed p (moves P w q d)) (row q)) ⊎ (c ∈ incoming P w row p (suc q) n) → Comes q (suc n) c
      go below (inl m) =
          let x = each-∈ (λ d. landed p (moves P w q d)) (row q) m in
          let y = landed_sound p (moves P w q x.0) x.2 in
          (q, omega arith, omega arith, x.0, x.1, y.0, y.1)
      go below (inr m) =
          let (r, l₁, l₂, d, i, n', j) = below m in
          (r, omega arith, omega arith, d, i, n', j)

  incoming_complete : (c : Configuration) (q n r : ℕ) → q ≤ r → r < q + n → (d : Configuration) → d ∈ row r → (m : ℕ) → (m, p, c) ∈ moves P w r d → c ∈ incoming P w row p q n
  incoming_complete c q zero r l₁ l₂ d i m j = absurd (omega arith)
  incoming_complete c q (suc n) r l₁ l₂ d i m j = go (incoming_complete c (suc q) n r) (cases_lt q r)
    where
      go : (suc q ≤ r → r < suc q + n → (d : Configuration) → d ∈ row r → (m : ℕ) → (m, p, c) ∈ moves P w r d → c ∈ incoming P w row p (suc q) n) → (q < r) ⊎ (r ≤ q) → c ∈ (each (λ d. landed p (moves P w q d)) (row q) ++ incoming P w row p (suc q) n)
      go below (inl l) = Memᴰ.append_right (each (λ d. landed p (moves P w q d)) (row q)) (below l (omega arith) d i m j)
      go below (inr l) =
          let e : r ≡ q = omega arith in
          Memᴰ.append_left (incoming P w row p (suc q) n)
          (∈-each (λ d. landed p (moves P w q d)) (subst (λ (r : ℕ). d ∈ row r) e i) (landed_complete (subst (λ (r : ℕ). (m, p, c) ∈ moves P w r d) e j)))

module _ (P : Table) (k : Registers) where
  stands_reach : (w : World) (p : ℕ) (row : List Configuration) → Stands P k w p row → (c : Configuration) → holds alikeᶜ row c ≡ true → Reaches P k w p c
  stands_reach w p row S c h = ((enumerates P k w p).2 c).0 (holds-∈ alikeᶜ_tests (reached P k w p) c (sym (S c) ∙ h))

  reach_stands : (w : World) (p : ℕ) (row : List Configuration) → Stands P k w p row → (c : Configuration) → Reaches P k w p c → holds alikeᶜ row c ≡ true
  reach_stands w p row S c r = S c ∙ ∈-holds alikeᶜ_tests (((enumerates P k w p).2 c).1 r)

  steps_to : (L : List Event) (now : World) → ((p : ℕ) (c : Configuration) → Reaches P k now p c ↔ (Reaches P k (so_far L) p c ⊎ Gained P k (length L) now p c)) → StepsTo P k L now
  unfolding Comes
  steps_to L now G row p old new S R E c =
      bool_same (holds alikeᶜ new c) (holds alikeᶜ (reached P k now p) c)
      (λ h. ∈-holds alikeᶜ_tests (((enumerates P k now p).2 c).1 (there (or_cases (holds alikeᶜ old c) (holds alikeᶜ fresh c) (sym (E c) ∙ h)))))
      (λ h. E c ∙ back ((G p c).0 (((enumerates P k now p).2 c).0 (holds-∈ alikeᶜ_tests (reached P k now p) c h))))
    where
      fresh : List Configuration
      fresh = incoming P now row p (length L - 3) (p - (length L - 3))

      there : (holds alikeᶜ old c ≡ true) ⊎ (holds alikeᶜ fresh c ≡ true) → Reaches P k now p c
      there (inl h) = (G p c).1 (inl (stands_reach (so_far L) p old S c h))
      there (inr h) =
          let (r, l₁, l₂, d, i, m, j) = incoming_sound P now row p c (length L - 3) (p - (length L - 3)) (holds-∈ alikeᶜ_tests fresh c h) in
          let x = stands_reach now r (row r) (R r (omega arith) (omega arith)) d (∈-holds alikeᶜ_tests i) in
          (x.0 ++ (m ∷ []), onward {path = x.0} x.1 (moves_sound P now r d j))

      back : Reaches P k (so_far L) p c ⊎ Gained P k (length L) now p c → (holds alikeᶜ old c || holds alikeᶜ fresh c) ≡ true
      back (inl r) = or_left (holds alikeᶜ old c) (holds alikeᶜ fresh c) (reach_stands (so_far L) p old S c r)
      back (inr (q, d, m, l, r, v)) =
          let b = move_bounds (reach_bound r.1) v in
          let b₀ : q < p = b.0 in
          or_right (holds alikeᶜ old c) (holds alikeᶜ fresh c)
          (∈-holds alikeᶜ_tests (incoming_complete P now row p c (length L - 3) (p - (length L - 3)) q (omega arith) (omega arith) d
          (holds-∈ alikeᶜ_tests (row q) d (reach_stands now q (row q) (R q l b₀) d r)) m (moves_complete P now v)))

  counted : (w : World) (p : ℕ) (row : List Configuration) → Stands P k w p row → apart alikeᶜ row ≡ true → length row ≡ count P k w p
  counted w p row S a =
      as_long row (reached P k w p) (apart_distinct alikeᶜ_tests row a) (enumerates P k w p).1
      (λ c m. holds-∈ alikeᶜ_tests (reached P k w p) c (sym (S c) ∙ ∈-holds alikeᶜ_tests m)) (λ c m. holds-∈ alikeᶜ_tests row c (S c ∙ ∈-holds alikeᶜ_tests m))

pub stepping : Stepping
stepping =
    (λ P k L e N. (steps_to P k L (so_far (L ++ (e ∷ []))) (λ p c. (gains P k L e N p c).0), steps_to P k L (closing L) (λ p c. (gains P k L e N p c).1)), counted)

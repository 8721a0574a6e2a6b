-- A feed or a close has to look only at the last positions.
use Rattle.std.proofs.Common.{◌≡◌, ℕ, zero, suc, ◌+◌, ◌<◌, ◌≤◌, cond, leb, ◌⊎◌, ◌↔◌, List, [], ◌∷◌, ◌++◌, length, sym, refl, ap, ◌∙◌, ap₂, inl, inr, ⊎_elim, arith, length-append, le-leb}
use mathlib.Core.List.Memᴰ
use borrow.Author.Tests.{lt-leb}
use Rattle.std.proofs.lemmas.Bool.{cases_lt}
use Rattle.topl.specs.Lists.{◌∈◌}
use Rattle.topl.specs.Table.{Event, Table}
use Rattle.topl.specs.Runs.{Configuration, Reaches, Registers, World, closing, reached, so_far}
use Rattle.topl.specs.Deciding.{count, decides, goes_on, need, sum}
use Rattle.topl.specs.Theorems.{Gained, Resumes, Steady, Undecided, Watching}
use Rattle.topl.proofs.Basics.{as_long}
use Rattle.topl.proofs.Persist.{move_bounds, reach_bound}
use Rattle.topl.proofs.Gain.{gains}
use Rattle.topl.proofs.Enumerate.{enumerates}
use Rattle.topl.proofs.Deciding.{deciding}

-- sums
sum_same : (n : ℕ) (f g : ℕ → ℕ) → ((q : ℕ) → q < n → f q ≡ g q) → sum n f ≡ sum n g
sum_same zero f g h = refl
sum_same (suc n) f g h = ap₂ ◌+◌ (sum_same n f g (λ q l. h q (omega arith))) (h n (omega arith))

module _ (a b : ℕ → ℕ) where
  abbrev mix : ℕ → ℕ → ℕ
  mix p q = cond (leb q p) (a q) (b q)

  mix_low : (p q : ℕ) → q ≤ p → mix p q ≡ a q
  mix_low p q l = rw (le-leb q p l)

  mix_high : (p q : ℕ) → p < q → mix p q ≡ b q
  mix_high p q l = rw (lt-leb q p l)

  mix_next : (n p : ℕ) → suc p < n → sum n (mix (suc p)) + b (suc p) ≡ sum n (mix p) + a (suc p)
  mix_next zero p l = absurd (omega arith)
  mix_next (suc n) p l = go (mix_next n p) (cases_lt (suc p) n)
    where
      go : (suc p < n → sum n (mix (suc p)) + b (suc p) ≡ sum n (mix p) + a (suc p)) → (suc p < n) ⊎ (n ≤ suc p) → sum n (mix (suc p)) + mix (suc p) n + b (suc p) ≡ sum n (mix p) + mix p n + a (suc p)
      go below (inl i) =
          let h = below i in
          let x : mix (suc p) n ≡ b n = mix_high (suc p) n i in
          let y : mix p n ≡ b n = mix_high p n (omega arith) in
          omega arith
      go below (inr i) =
          let e : n ≡ suc p = omega arith in
          let x : mix (suc p) n ≡ a (suc p) = mix_low (suc p) n (omega arith) ∙ ap a e in
          let y : mix p n ≡ b (suc p) = mix_high p n (omega arith) ∙ ap b e in
          let z : sum n (mix (suc p)) ≡ sum n (mix p) = sum_same n (mix (suc p)) (mix p) (λ q l. mix_low (suc p) q (omega arith) ∙ sym (mix_low p q (omega arith))) in
          omega arith

  mix_same : (n p : ℕ) → ((q : ℕ) → q ≤ p → a q ≡ b q) → sum n (mix p) ≡ sum n b
  mix_same n p h = sum_same n (mix p) b (λ q l. ⊎_elim (λ (i : p < q). mix_high p q i) (λ (i : q ≤ p). mix_low p q i ∙ h q i) (cases_lt p q))

module _ (P : Table) (k : Registers) where
  same_count : (w w' : World) (p : ℕ) → ((c : Configuration) → Reaches P k w p c ↔ Reaches P k w' p c) → count P k w p ≡ count P k w' p
  same_count w w' p h =
      let x = enumerates P k w p in
      let y = enumerates P k w' p in
      as_long (reached P k w p) (reached P k w' p) x.1 y.1 (λ c m. (y.2 c).1 ((h c).0 ((x.2 c).0 m))) (λ c m. (x.2 c).1 ((h c).1 ((y.2 c).0 m)))

  -- no run goes past the events
  pub beyond : (w : World) (p : ℕ) → length w.events < p → count P k w p ≡ 0
  beyond w p l = empty (reached P k w p) (λ c m. let r = ((enumerates P k w p).2 c).0 m in let b = reach_bound r.1 in omega arith)
    where
      empty : (cs : List Configuration) → ((c : Configuration) → ¬ (c ∈ cs)) → length cs ≡ 0
      empty [] h = refl
      empty (c ∷ cs) h = absurd (h c (Memᴰ.head refl))

  -- what is gained is gained at the last positions, and not at 0
  late : {n p : ℕ} {c : Configuration} {w : World} → Gained P k n w p c → (n < p + 3) × (0 < p)
  late g =
      let b = move_bounds (reach_bound g.4.1) g.5 in
      let l : _ < g.0 + 4 = g.3 in
      (omega arith, omega arith)

  module _ (cap book : ℕ) (L : List Event) (now : World) where
    abbrev Grows : Type 0
    Grows = (p : ℕ) (c : Configuration) → Reaches P k now p c ↔ (Reaches P k (so_far L) p c ⊎ Gained P k (length L) now p c)

    unchanged : Grows → (p : ℕ) → ((c : Configuration) → ¬ Gained P k (length L) now p c) → (c : Configuration) → Reaches P k now p c ↔ Reaches P k (so_far L) p c
    unchanged G p h c = (λ r. ⊎_elim (λ x. x) (λ g. absurd (h c g)) ((G p c).0 r), λ r. (G p c).1 (inl r))

    resumes : Grows → length L ≤ length now.events → length now.events ≤ suc (length L) → Steady P k cap book L → Resumes P k cap book L now
    unfolding need
    resumes G l₁ l₂ S = record { kept = low; passed = passed; low = λ p l. whole p (λ q i. low q (omega arith)); last = every; origin = (whole 0 at_0, at_0 0 (omega arith)); further = λ p l. mix_next (count P k now) (count P k (so_far L)) (suc (length now.events)) p (omega arith) }
      where
        low : (p : ℕ) → p + 3 ≤ length L → count P k now p ≡ count P k (so_far L) p
        low p l = same_count now (so_far L) p (unchanged G p (λ c g. let b = late g in omega arith))

        at_0 : (q : ℕ) → q ≤ 0 → count P k now q ≡ count P k (so_far L) q
        at_0 q l = same_count now (so_far L) q (unchanged G q (λ c g. let b = late g in omega arith))

        longer : (n : ℕ) → n ≡ length L ⊎ n ≡ suc (length L) → sum (suc n) (count P k (so_far L)) ≡ sum (suc (length L)) (count P k (so_far L))
        longer n (inl e) = ap (λ (n : ℕ). sum (suc n) (count P k (so_far L))) e
        longer n (inr e) =
            let z : count P k (so_far L) (suc (length L)) ≡ 0 = beyond (so_far L) (suc (length L)) (omega arith) in
            ap (λ (n : ℕ). sum (suc n) (count P k (so_far L))) e ∙ omega arith

        which : length now.events ≡ length L ⊎ length now.events ≡ suc (length L)
        which = ⊎_elim (λ (i : length L < length now.events). inr (omega arith)) (λ (i : length now.events ≤ length L). inl (omega arith)) (cases_lt (length L) (length now.events))

        whole : (p : ℕ) → ((q : ℕ) → q ≤ p → count P k now q ≡ count P k (so_far L) q) → need P k (so_far L) now p ≡ sum (suc (length L)) (count P k (so_far L))
        whole p h = mix_same (count P k now) (count P k (so_far L)) (suc (length now.events)) p h ∙ longer (length now.events) which

        every : need P k (so_far L) now (length now.events) ≡ sum (suc (length now.events)) (count P k now)
        every = sum_same (suc (length now.events)) (λ q. cond (leb q (length now.events)) (count P k now q) (count P k (so_far L) q)) (count P k now) (λ q l. mix_low (count P k now) (count P k (so_far L)) (length now.events) q (omega arith))

        passed : (p : ℕ) → p + 3 ≤ length L → Undecided P k cap book (so_far L) now p
        passed p l =
            let e : need P k (so_far L) now p ≡ sum (suc (length L)) (count P k (so_far L)) = whole p (λ q i. low q (omega arith)) in
            let c : count P k now p ≡ count P k (so_far L) p = low p l in
            let b : count P k (so_far L) p ≤ cap = S.1 p in
            let s : sum (suc (length L)) (count P k (so_far L)) ≤ book = S.2 in
            (λ x. S.0 p (x.0, x.1, (unchanged G p (λ c g. let b = late g in omega arith) x.0).0 x.2), omega arith, omega arith)

  pub steady_on : (cap book : ℕ) (before : World) (L : List Event) → decides P k cap book before (so_far L) ≡ goes_on → Steady P k cap book L
  unfolding need
  steady_on cap book before L e =
      let D = (deciding P k cap book before (so_far L)).when_not.0 e in
      (λ p x. (D p (reach_bound x.2.1)).0 x, counts D, rw (← all) (D (length L) (omega arith)).2)
    where
      counts : ((p : ℕ) → p ≤ length L → Undecided P k cap book before (so_far L) p) → (p : ℕ) → count P k (so_far L) p ≤ cap
      counts D p = ⊎_elim (λ (i : length L < p). let z : count P k (so_far L) p ≡ 0 = beyond (so_far L) p i in omega arith) (λ (i : p ≤ length L). (D p i).1) (cases_lt (length L) p)

      all : sum (suc (length L)) (λ q. cond (leb q (length L)) (count P k (so_far L) q) (count P k before q)) ≡ sum (suc (length L)) (count P k (so_far L))
      all = sum_same (suc (length L)) (λ q. cond (leb q (length L)) (count P k (so_far L) q) (count P k before q)) (count P k (so_far L)) (λ q l. mix_low (count P k (so_far L)) (count P k before) (length L) q (omega arith))

pub watching : Watching
watching P k cap book L e N S =
    let n : length (L ++ (e ∷ [])) ≡ length L + 1 = length-append L (e ∷ []) in (
      resumes P k cap book L (so_far (L ++ (e ∷ []))) (λ p c. (gains P k L e N p c).0) (omega arith) (omega arith) S,
      resumes P k cap book L (closing L) (λ p c. (gains P k L e N p c).1) (omega arith) (omega arith) S,
      steady_on P k cap book (so_far L) (L ++ (e ∷ [])),
    )

-- What one more event, or the end of the list, adds to what is reached.
use Rattle.std.proofs.Common.{◌≡◌, ℕ, ◌+◌, ◌-◌, ◌<◌, ◌≤◌, ◌⊎◌, ◌↔◌, List, [], ◌∷◌, ◌++◌, length, drop, sym, refl, ◌∙◌, inl, inr, ⊎_elim, arith, length-drop}
use lib.Seq.{drop-append-le}
use Rattle.std.proofs.lemmas.Bool.{cases_lt}
use Rattle.topl.specs.Table.{Event, Statement, Table, matchers, span}
use Rattle.topl.specs.Runs.{Configuration, Leaves, Move, Outcome, Reach, Reaches, Registers, World, at_start, closing, fails, hangs, onward, outcome_of, pass, passes, skip, so_far}
use Rattle.topl.specs.Theorems.{Gained, Gains}
use Rattle.topl.proofs.Lawful.{Short, lawful_short}
use Rattle.topl.proofs.Persist.{fares_more, fares_enough, move_bounds, reach_bound, Keeps, keeps_reach, keeps_longer, keeps_closing}

-- where all events that a statement can look at have come, the two worlds have the same moves
abbrev Backs : Table → World → World → Type 0
Backs P w w' = (p q n : ℕ) (c d : Configuration) → p + 4 ≤ length w.events → Move P w' p c n q d → Move P w p c n q d

pub gain : {P : Table} {k : Registers} {w w' : World} {p : ℕ} {c : Configuration} {path : List ℕ} → Backs P w w' → Reach P k w' p c path → Reach P k w p c path ⊎ Gained P k (length w.events) w' p c
gain B at_start = inl at_start
gain {P} {k} {w} {w'} B (onward {p} {q} {n} {c} {d} {path} r m) = go (gain B r) (cases_lt (length w.events) (p + 4))
  where
    go : Reach P k w p c path ⊎ Gained P k (length w.events) w' p c → (length w.events < p + 4) ⊎ (p + 4 ≤ length w.events) → Reach P k w q d (path ++ (n ∷ [])) ⊎ Gained P k (length w.events) w' q d
    go h (inl l) = inr (p, c, n, l, (path, r), m)
    go (inl r') (inr l) = inl (onward r' (B p q n c d l m))
    go (inr g) (inr l) =
        let h = move_bounds (reach_bound g.4.1) g.5 in
        let h' : length w.events < g.0 + 4 = g.3 in
        absurd (omega arith)

neither : (o : Outcome) → ¬ (o ≡ hangs) → ((s : Registers) → ¬ (o ≡ passes s)) → o ≡ fails
neither (passes s) h f = absurd (f s refl)
neither fails h f = refl
neither hangs h f = absurd (h refl)

module _ (P : Table) (N : Short P) (L : List Event) where
  -- at p every statement leaving c finds all its events, and does not hang
  decided : (p : ℕ) (c : Configuration) (t : ℕ × Statement) → p + 4 ≤ length L → Leaves P c t → ¬ (outcome_of (so_far L) p c t ≡ hangs)
  decided p c t h l =
      let a : span t.1 ≤ 4 = N t l.0 in
      let b : length (drop p L) ≡ length L - p = length-drop p L in
      fares_enough (matchers t.1) c.registers (drop p L) (omega arith)

  same_longer : (X : List Event) (p : ℕ) (c : Configuration) (t : ℕ × Statement) → p + 4 ≤ length L → Leaves P c t → outcome_of (so_far (L ++ X)) p c t ≡ outcome_of (so_far L) p c t
  same_longer X p c t h l =
      let le : p ≤ length L = omega arith in
      rw (drop-append-le p L X le) (fares_more (matchers t.1) c.registers (drop p L) X (outcome_of (so_far L) p c t) (decided p c t h l) refl)

  back_longer : (X : List Event) {p q n : ℕ} {c d : Configuration} → p + 4 ≤ length L → Move P (so_far (L ++ X)) p c n q d → Move P (so_far L) p c n q d
  back_longer X {p} {c = c} h (pass t s l e) = pass t s l (sym (same_longer X p c t h l) ∙ e)
  back_longer X {p} {c = c} h (skip l f) = skip (omega arith) (λ t v. sym (same_longer X p c t h v) ∙ f t v)

  back_closing : {p q n : ℕ} {c d : Configuration} → p + 4 ≤ length L → Move P (closing L) p c n q d → Move P (so_far L) p c n q d
  back_closing h (pass t s l e) = pass t s l e
  back_closing {p} {c = c} h (skip l f) = skip l (λ t v. neither (outcome_of (so_far L) p c t) (decided p c t h v) (f t v))

both_ways : {P : Table} {k : Registers} {w w' : World} (p : ℕ) (c : Configuration) → Keeps P w w' → Backs P w w' →
    Reaches P k w' p c ↔ (Reaches P k w p c ⊎ Gained P k (length w.events) w' p c)
both_ways {P} {k} {w} {w'} p c K B =
    (λ r. ⊎_elim (λ h. inl (r.0, h)) (λ g. inr g) (gain B r.1), back)
  where
    back : Reaches P k w p c ⊎ Gained P k (length w.events) w' p c → Reaches P k w' p c
    back (inl r) = (r.0, keeps_reach K r.1)
    back (inr g) = (g.4.0 ++ (g.2 ∷ []), onward g.4.1 g.5)

pub gains : Gains
gains P k L e law p c =
    let N = lawful_short P law in
    (both_ways p c (keeps_longer P L (e ∷ [])) (λ p q n c d h m. back_longer P N L (e ∷ []) h m), both_ways p c (keeps_closing P L) (λ p q n c d h m. back_closing P N L h m))

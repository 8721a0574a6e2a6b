-- Settled runs persist.
use Rattle.std.proofs.Common.{◌≡◌, ℕ, suc, ◌-◌, ◌<◌, ◌≤◌, Bool, true, false, cond, List, [], ◌∷◌, ◌++◌, length, drop, sym, refl, le_of_suc-le-suc, not-suc-le-zero, arith, length-append, length-drop}
use lib.Seq.{drop-append-le}
use Rattle.topl.specs.Table.{Event, Matcher, Table, matchers, span}
use Rattle.topl.specs.Runs.{Configuration, Move, Outcome, Reach, Registers, World, at_start, closing, fails, fares, hangs, meets, onward, pass, passes, skip, so_far, writes}
use Rattle.topl.specs.Theorems.{Persists}

pub passes≢fails : {o : Outcome} {s : Registers} → o ≡ passes s → o ≡ fails → ⊥
passes≢fails p q = let z : ◌≡◌ {A = ℕ} 0 1 = cc in omega arith

pub passes≢hangs : {o : Outcome} {s : Registers} → o ≡ passes s → o ≡ hangs → ⊥
passes≢hangs p q = let z : ◌≡◌ {A = ℕ} 0 1 = cc in omega arith

pub fails≢hangs : {o : Outcome} → o ≡ fails → o ≡ hangs → ⊥
fails≢hangs p q = let z : ◌≡◌ {A = ℕ} 0 1 = cc in omega arith

under : (o : Outcome) (b : Bool) (x y : Outcome) → (x ≡ o → y ≡ o) → cond b x fails ≡ o → cond b y fails ≡ o
under o true x y f e = f e
under o false x y f e = e

-- what does not hang stays as it is when more events come
pub fares_more : (ms : List Matcher) (s : Registers) (es xs : List Event) (o : Outcome) → ¬ (o ≡ hangs) → fares ms s es ≡ o → fares ms s (es ++ xs) ≡ o
fares_more [] s es xs o h e = e
fares_more (m ∷ ms) s [] xs o h e = absurd (h (sym e))
fares_more (m ∷ ms) s (a ∷ es) xs o h e =
    under o (meets s a m) (fares ms (writes s a m) es) (fares ms (writes s a m) (es ++ xs)) (fares_more ms (writes s a m) es xs o h) e

-- where enough events have come, nothing hangs
pub fares_enough : (ms : List Matcher) (s : Registers) (es : List Event) → length ms ≤ length es → ¬ (fares ms s es ≡ hangs)
fares_enough [] s es h e = passes≢hangs refl e
fares_enough (m ∷ ms) s [] h e = not-suc-le-zero h
fares_enough (m ∷ ms) s (a ∷ es) h e = go (meets s a m) (fares_enough ms (writes s a m) es (le_of_suc-le-suc h)) e
  where
    go : (b : Bool) → ¬ (fares ms (writes s a m) es ≡ hangs) → cond b (fares ms (writes s a m) es) fails ≡ hangs → ⊥
    go true f e' = f e'
    go false f e' = fails≢hangs refl e'

pub passes_come : (ms : List Matcher) (s s' : Registers) (es : List Event) → fares ms s es ≡ passes s' → length ms ≤ length es
passes_come [] s s' es e = omega arith
passes_come (m ∷ ms) s s' [] e = absurd (passes≢hangs e refl)
passes_come (m ∷ ms) s s' (a ∷ es) e = go (meets s a m) (passes_come ms (writes s a m) s' es) e
  where
    go : (b : Bool) → (fares ms (writes s a m) es ≡ passes s' → length ms ≤ length es) → cond b (fares ms (writes s a m) es) fails ≡ passes s' → suc (length ms) ≤ suc (length es)
    go true f e' = let h : length ms ≤ length es = f e' in omega arith
    go false f e' = absurd (passes≢fails e' refl)

module _ {P : Table} {w : World} where
  -- a move goes forward, over events that have come
  pub move_bounds : {p q n : ℕ} {c d : Configuration} → p ≤ length w.events → Move P w p c n q d → (p < q) × (q ≤ length w.events)
  move_bounds {p} {c = c} h (pass t s l e) =
      let a : span t.1 ≤ length (drop p w.events) = passes_come (matchers t.1) c.registers s (drop p w.events) e in
      let b : length (drop p w.events) ≡ length w.events - p = length-drop p w.events in
      (omega arith, omega arith)
  move_bounds h (skip l f) = (omega arith, l)

  pub reach_bound : {k : Registers} {p : ℕ} {c : Configuration} {path : List ℕ} → Reach P k w p c path → p ≤ length w.events
  reach_bound at_start = omega arith
  reach_bound (onward r m) = (move_bounds (reach_bound r) m).1

-- one world keeps the moves of another, at the positions of its events
abbrev pub Keeps : Table → World → World → Type 0
Keeps P w w' = (p q n : ℕ) (c d : Configuration) → p ≤ length w.events → Move P w p c n q d → Move P w' p c n q d

pub keeps_reach : {P : Table} {k : Registers} {w w' : World} {p : ℕ} {c : Configuration} {path : List ℕ} → Keeps P w w' → Reach P k w p c path → Reach P k w' p c path
keeps_reach K at_start = at_start
keeps_reach K (onward {p} {q} {n} {c} {d} r m) = onward (keeps_reach K r) (K p q n c d (reach_bound r) m)

longer : {P : Table} {L : List Event} (X : List Event) {p q n : ℕ} {c d : Configuration} → p ≤ length L → Move P (so_far L) p c n q d → Move P (so_far (L ++ X)) p c n q d
longer {L = L} X {p} {c = c} h (pass t s l e) =
    pass t s l (rw (drop-append-le p L X h) (fares_more (matchers t.1) c.registers (drop p L) X (passes s) (passes≢hangs refl) e))
longer {L = L} X {p} {c = c} h (skip l f) =
    skip (rw (length-append L X) (omega arith)) (λ t v. rw (drop-append-le p L X h) (fares_more (matchers t.1) c.registers (drop p L) X fails (fails≢hangs refl) (f t v)))

shut : {P : Table} {L : List Event} {p q n : ℕ} {c d : Configuration} → Move P (so_far L) p c n q d → Move P (closing L) p c n q d
shut (pass t s l e) = pass t s l e
shut (skip l f) = skip l (λ t v s e. passes≢fails e (f t v))

pub keeps_longer : (P : Table) (L X : List Event) → Keeps P (so_far L) (so_far (L ++ X))
keeps_longer P L X = λ p q n c d h m. longer X h m

pub keeps_closing : (P : Table) (L : List Event) → Keeps P (so_far L) (closing L)
keeps_closing P L = λ p q n c d h m. shut m

pub persists : Persists
persists P k L X p c path r =
    (keeps_reach (keeps_longer P L X) r, keeps_reach (keeps_closing P L) r, keeps_reach (keeps_closing P (L ++ X)) (keeps_reach (keeps_longer P L X) r))

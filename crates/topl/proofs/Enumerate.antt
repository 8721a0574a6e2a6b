-- The enumeration is sound and complete for the relation.
use Rattle.std.proofs.Common.{◌≡◌, ℕ, zero, suc, ◌+◌, ◌-◌, ◌<◌, ◌≤◌, Bool, true, false, cond, ◌&&◌, eqb, ◌⊎◌, ◌↔◌, List, [], ◌∷◌, ◌++◌, map, length, drop, sym, refl, ap, ◌∙◌, subst, subst₂, inl, inr, ⊎_elim, arith, length-drop, eq-eqb, eqb-true}
use mathlib.Core.Bool.{false≢true}
use mathlib.Core.List.Memᴰ
use Rattle.std.proofs.lemmas.Bool.{and_parts, and_from, cases_lt}
use Rattle.topl.specs.Lists.{Distinct, ◌∈◌, each, once}
use Rattle.topl.specs.Table.{Event, Statement, Table, numbered, span}
use Rattle.topl.specs.Runs.{Configuration, Landing, LetsSkip, Mode, Move, Outcome, Reach, Reaches, Registers, Run, World, alikeᶜ, arrivals, at_start, calm, closed, fails, hangs, has_come, landing_of, layers, moves, onto, onward, outcome_of, pass, passes, passing, quiet, reached, runs, settled, skip}
use Rattle.topl.specs.Theorems.{Enumerates}
use Rattle.topl.proofs.Basics.{∈-each, each-∈, alikeᶜ_tests, once-∈, ∈-once, once_distinct}
use Rattle.topl.proofs.Persist.{passes≢fails, passes≢hangs, fails≢hangs, move_bounds, reach_bound}

lands_at : ℕ → ℕ × Statement → Registers → Landing
lands_at p t s = (t.0, p + span t.1, record { state = t.1.target; registers = s })

-- one statement
landing_sound : {m : Landing} (p : ℕ) (t : ℕ × Statement) (o : Outcome) → m ∈ landing_of p t o → (s : Registers) × (o ≡ passes s) × (m ≡ lands_at p t s)
unfolding lands_at
landing_sound p t (passes s) h = (s, refl, Memᴰ.eq_of_singleton h)
landing_sound p t fails h = absurd (Memᴰ.not-nil h)
landing_sound p t hangs h = absurd (Memᴰ.not-nil h)

landing_complete : (p : ℕ) (t : ℕ × Statement) (o : Outcome) (s : Registers) → o ≡ passes s → lands_at p t s ∈ landing_of p t o
unfolding lands_at
landing_complete p t o s e = rw e (Memᴰ.head refl)

calm_sound : (m : Mode) (o : Outcome) → calm m o ≡ true → LetsSkip m o
calm_sound settled (passes s) e = absurd (false≢true e)
calm_sound settled fails e = refl
calm_sound settled hangs e = absurd (false≢true e)
calm_sound closed (passes s) e = absurd (false≢true e)
calm_sound closed fails e = λ s q. passes≢fails q refl
calm_sound closed hangs e = λ s q. passes≢hangs q refl

calm_complete : (m : Mode) (o : Outcome) → LetsSkip m o → calm m o ≡ true
calm_complete settled (passes s) e = absurd (passes≢fails refl e)
calm_complete settled fails e = refl
calm_complete settled hangs e = absurd (fails≢hangs e refl)
calm_complete closed (passes s) e = absurd (e s refl)
calm_complete closed fails e = refl
calm_complete closed hangs e = refl

module _ (w : World) (p : ℕ) (c : Configuration) where
  Passed : List (ℕ × Statement) → Landing → Type 0
  Passed ts m = (t : ℕ × Statement) × (t ∈ ts) × (t.1.source ≡ c.state) × (s : Registers) × (outcome_of w p c t ≡ passes s) × (m ≡ lands_at p t s)

  passing_sound : {m : Landing} (ts : List (ℕ × Statement)) → m ∈ passing w p c ts → Passed ts m
  unfolding Passed
  passing_sound [] h = absurd (Memᴰ.not-nil h)
  passing_sound {m} (t ∷ ts) h = go (passing_sound ts) (eqb t.1.source c.state) refl (Memᴰ.append_cases (cond (eqb t.1.source c.state) (landing_of p t (outcome_of w p c t)) []) h)
    where
      go : (m ∈ passing w p c ts → Passed ts m) → (b : Bool) → eqb t.1.source c.state ≡ b → (m ∈ cond b (landing_of p t (outcome_of w p c t)) []) ⊎ (m ∈ passing w p c ts) → Passed (t ∷ ts) m
      go below true e (inl h') = let r = landing_sound p t (outcome_of w p c t) h' in (t, Memᴰ.head refl, eqb-true t.1.source c.state e, r.0, r.1, r.2)
      go below false e (inl h') = absurd (Memᴰ.not-nil h')
      go below b e (inr h') = let r = below h' in (r.0, Memᴰ.tail r.1, r.2, r.3, r.4, r.5)

  passing_complete : {t : ℕ × Statement} {ts : List (ℕ × Statement)} (s : Registers) → t ∈ ts → t.1.source ≡ c.state → outcome_of w p c t ≡ passes s → lands_at p t s ∈ passing w p c ts
  passing_complete {t} s (Memᴰ.head {x = u} {xs = ts} e) q o =
      Memᴰ.append_left (passing w p c ts)
      (subst (λ (u : ℕ × Statement). lands_at p t s ∈ cond (eqb u.1.source c.state) (landing_of p u (outcome_of w p c u)) []) e
      (rw (eq-eqb t.1.source c.state q) (landing_complete p t (outcome_of w p c t) s o)))
  passing_complete s (Memᴰ.tail {x = u} m) q o = Memᴰ.append_right (cond (eqb u.1.source c.state) (landing_of p u (outcome_of w p c u)) []) (passing_complete s m q o)

  pub quiet_sound : {t : ℕ × Statement} {ts : List (ℕ × Statement)} → quiet w p c ts ≡ true → t ∈ ts → t.1.source ≡ c.state → LetsSkip w.mode (outcome_of w p c t)
  quiet_sound {t} e (Memᴰ.head {x = u} {xs = ts} i) q =
      let h = (and_parts (cond (eqb u.1.source c.state) (calm w.mode (outcome_of w p c u)) true) (quiet w p c ts) e).0 in
      subst (λ (u : ℕ × Statement). u.1.source ≡ c.state → LetsSkip w.mode (outcome_of w p c u)) (sym i)
      (λ q'. calm_sound w.mode (outcome_of w p c u) (rw (eq-eqb u.1.source c.state q') at h)) q
  quiet_sound e (Memᴰ.tail {x = u} {xs = ts} m) q = quiet_sound (and_parts (cond (eqb u.1.source c.state) (calm w.mode (outcome_of w p c u)) true) (quiet w p c ts) e).1 m q

  pub quiet_complete : (ts : List (ℕ × Statement)) → ((t : ℕ × Statement) → t ∈ ts → t.1.source ≡ c.state → LetsSkip w.mode (outcome_of w p c t)) → quiet w p c ts ≡ true
  quiet_complete [] f = refl
  quiet_complete (t ∷ ts) f =
      and_from (cond (eqb t.1.source c.state) (calm w.mode (outcome_of w p c t)) true) (quiet w p c ts) (go (eqb t.1.source c.state) refl) (quiet_complete ts (λ u m. f u (Memᴰ.tail m)))
    where
      go : (b : Bool) → eqb t.1.source c.state ≡ b → cond b (calm w.mode (outcome_of w p c t)) true ≡ true
      go true e = calm_complete w.mode (outcome_of w p c t) (f t (Memᴰ.head refl) (eqb-true t.1.source c.state e))
      go false e = refl

  pub has_come_sound : (es : List Event) → has_come es ≡ true → 0 < length es
  has_come_sound [] e = absurd (false≢true e)
  has_come_sound (a ∷ es) e = omega arith

  pub has_come_complete : (es : List Event) → 0 < length es → has_come es ≡ true
  has_come_complete [] h = absurd (omega arith)
  has_come_complete (a ∷ es) h = refl

module _ (P : Table) (w : World) where
  pub moves_sound : {m : Landing} (p : ℕ) (c : Configuration) → m ∈ moves P w p c → Move P w p c m.0 m.1 m.2
  unfolding Passed lands_at
  moves_sound {m} p c h = ⊎_elim (skipped (has_come (drop p w.events) && quiet w p c (numbered P)) refl) passed (Memᴰ.append_cases (cond (has_come (drop p w.events) && quiet w p c (numbered P)) ((0, suc p, c) ∷ []) []) h)
    where
      passed : m ∈ passing w p c (numbered P) → Move P w p c m.0 m.1 m.2
      passed h' =
          let r = passing_sound w p c (numbered P) h' in
          subst (λ (m : Landing). Move P w p c m.0 m.1 m.2) (sym r.5) (pass r.0 r.3 (r.1, r.2) r.4)

      skipped : (b : Bool) → (has_come (drop p w.events) && quiet w p c (numbered P)) ≡ b → m ∈ cond b ((0, suc p, c) ∷ []) [] → Move P w p c m.0 m.1 m.2
      skipped true e h' =
          let b = and_parts (has_come (drop p w.events)) (quiet w p c (numbered P)) e in
          let l : 0 < length (drop p w.events) = has_come_sound w p c (drop p w.events) b.0 in
          let l' : length (drop p w.events) ≡ length w.events - p = length-drop p w.events in
          subst (λ (m : Landing). Move P w p c m.0 m.1 m.2) (sym (Memᴰ.eq_of_singleton h')) (skip (omega arith) (λ t v. quiet_sound w p c b.1 v.0 v.1))
      skipped false e h' = absurd (Memᴰ.not-nil h')

  pub moves_complete : {p q n : ℕ} {c d : Configuration} → Move P w p c n q d → (n, q, d) ∈ moves P w p c
  unfolding lands_at
  moves_complete {p} {c = c} (pass t s l e) = Memᴰ.append_right (cond (has_come (drop p w.events) && quiet w p c (numbered P)) ((0, suc p, c) ∷ []) []) (passing_complete w p c s l.0 l.1 e)
  moves_complete {p} {c = c} (skip l f) =
      let l' : length (drop p w.events) ≡ length w.events - p = length-drop p w.events in
      Memᴰ.append_left (passing w p c (numbered P))
      (rw (and_from (has_come (drop p w.events)) (quiet w p c (numbered P)) (has_come_complete w p c (drop p w.events) (omega arith)) (quiet_complete w p c (numbered P) (λ t m e. f t (m, e))))
      (Memᴰ.head refl))

-- what lands at a position
Onto : ℕ → List ℕ → List Landing → Run → Type 0
Onto q path ms r = (n : ℕ) × ((n, q, r.0) ∈ ms) × (r.1 ≡ path ++ (n ∷ []))

onto_sound : {r : Run} (q : ℕ) (path : List ℕ) (ms : List Landing) → r ∈ onto q path ms → Onto q path ms r
unfolding Onto
onto_sound q path [] h = absurd (Memᴰ.not-nil h)
onto_sound {r} q path (m ∷ ms) h = go (onto_sound q path ms) (eqb m.1 q) refl h
  where
    further : Onto q path ms r → Onto q path (m ∷ ms) r
    further x = (x.0, Memᴰ.tail x.1, x.2)

    go : (r ∈ onto q path ms → Onto q path ms r) → (b : Bool) → eqb m.1 q ≡ b → r ∈ cond b ((m.2, path ++ (m.0 ∷ [])) ∷ onto q path ms) (onto q path ms) → Onto q path (m ∷ ms) r
    go below true e h' =
        ⊎_elim (λ (i : r ≡ (m.2, path ++ (m.0 ∷ []))). (m.0, Memᴰ.head (λ j. (m.0, sym (eqb-true m.1 q e) j, (i j).0)), λ j. (i j).1)) (λ h''. further (below h'')) (Memᴰ.cases_cons h')
    go below false e h' = further (below h')

onto_complete : {q n : ℕ} {d : Configuration} (path : List ℕ) {ms : List Landing} → (n, q, d) ∈ ms → (d, path ++ (n ∷ [])) ∈ onto q path ms
onto_complete {q} {n} {d} path (Memᴰ.head {x = m} {xs = ms} e) =
    rw (eq-eqb m.1 q (λ j. (sym e j).1)) (Memᴰ.head (λ j. ((e j).2, path ++ ((e j).0 ∷ []))))
onto_complete {q} {n} {d} path (Memᴰ.tail {x = m} {xs = ms} h) = go (eqb m.1 q) (onto_complete path h)
  where
    go : (b : Bool) → (d, path ++ (n ∷ [])) ∈ onto q path ms → (d, path ++ (n ∷ [])) ∈ cond b ((m.2, path ++ (m.0 ∷ [])) ∷ onto q path ms) (onto q path ms)
    go true h' = Memᴰ.tail h'
    go false h' = h'

-- r is in the layer of position p
abbrev In : List (List Run) → ℕ → Run → Type 0
In [] p r = ⊥
In (l ∷ ls) p r = ((p ≡ length ls) × (r ∈ l)) ⊎ In ls p r

module _ (P : Table) (k : Registers) (w : World) where
  Arrives : List (List Run) → ℕ → Run → Type 0
  Arrives ls q r = (p : ℕ) × (x : Run) × In ls p x × Onto q x.1 (moves P w p x.0) r

  arrivals_sound : {r : Run} (q : ℕ) (ls : List (List Run)) → r ∈ arrivals P w q ls → Arrives ls q r
  unfolding Arrives
  arrivals_sound q [] h = absurd (Memᴰ.not-nil h)
  arrivals_sound {r} q (l ∷ ls) h = go (arrivals_sound q ls) (Memᴰ.append_cases (each (λ x. onto q x.1 (moves P w (length ls) x.0)) l) h)
    where
      go : (r ∈ arrivals P w q ls → Arrives ls q r) → (r ∈ each (λ x. onto q x.1 (moves P w (length ls) x.0)) l) ⊎ (r ∈ arrivals P w q ls) → Arrives (l ∷ ls) q r
      go below (inl m) =
          let x = each-∈ (λ x. onto q x.1 (moves P w (length ls) x.0)) l m in
          (length ls, x.0, inl (refl, x.1), onto_sound q x.0.1 (moves P w (length ls) x.0.0) x.2)
      go below (inr m) = let x = below m in (x.0, x.1, inr x.2, x.3)

  arrivals_complete : {r : Run} (q p : ℕ) (x : Run) (ls : List (List Run)) → In ls p x → r ∈ onto q x.1 (moves P w p x.0) → r ∈ arrivals P w q ls
  arrivals_complete q p x [] i m = absurd i
  arrivals_complete {r} q p x (l ∷ ls) (inl i) m =
      Memᴰ.append_left (arrivals P w q ls) (∈-each (λ x. onto q x.1 (moves P w (length ls) x.0)) i.1 (subst (λ (p : ℕ). r ∈ onto q x.1 (moves P w p x.0)) i.0 m))
  arrivals_complete q p x (l ∷ ls) (inr i) m = Memᴰ.append_right (each (λ x. onto q x.1 (moves P w (length ls) x.0)) l) (arrivals_complete q p x ls i m)

  length_layers : (p : ℕ) → length (layers P k w p) ≡ suc p
  unfolding layers
  length_layers zero = refl
  length_layers (suc p) = ap suc (length_layers p)

  -- the layers hold the runs to each of their positions
  in_sound : (p q : ℕ) (r : Run) → In (layers P k w p) q r → Reach P k w q r.0 r.1
  unfolding layers Arrives Onto
  in_sound zero q r (inl i) = subst₂ (λ (q : ℕ) (r : Run). Reach P k w q r.0 r.1) (sym i.0) (sym (Memᴰ.eq_of_singleton i.1)) at_start
  in_sound zero q r (inr i) = absurd i
  in_sound (suc p) q r (inl i) =
      let a = arrivals_sound (suc p) (layers P k w p) i.1 in
      let b = in_sound p a.0 a.1 a.2 in
      let m = moves_sound P w a.0 a.1.0 a.3.1 in
      subst₂ (λ (q : ℕ) (path : List ℕ). Reach P k w q r.0 path) (sym (i.0 ∙ length_layers p)) (sym a.3.2) (onward b m)
  in_sound (suc p) q r (inr i) = in_sound p q r i

  in_down : (p q : ℕ) (r : Run) → q ≤ p → r ∈ runs P k w q → In (layers P k w p) q r
  unfolding layers runs
  in_down zero q r h m = let e : q ≡ 0 = omega arith in inl (e, subst (λ (q : ℕ). r ∈ runs P k w q) e m)
  in_down (suc p) q r h m = go (in_down p q r) (cases_lt p q)
    where
      go : (q ≤ p → r ∈ runs P k w q → In (layers P k w p) q r) → (p < q) ⊎ (q ≤ p) → In (layers P k w (suc p)) q r
      go below (inl l) = let e : q ≡ suc p = omega arith in inl (e ∙ sym (length_layers p), subst (λ (q : ℕ). r ∈ runs P k w q) e m)
      go below (inr l) = inr (below l m)

  lands : (p q : ℕ) (x r : Run) → p < q → x ∈ runs P k w p → r ∈ onto q x.1 (moves P w p x.0) → r ∈ runs P k w q
  unfolding layers runs
  lands p zero x r h i m = absurd (omega arith)
  lands p (suc q) x r h i m = arrivals_complete (suc q) p x (layers P k w q) (in_down q p x (omega arith) i) m

  complete : {p : ℕ} {c : Configuration} {path : List ℕ} → Reach P k w p c path → (c, path) ∈ runs P k w p
  unfolding layers runs
  complete at_start = Memᴰ.head refl
  complete (onward {p} {q} {n} {c} {d} {path} r m) =
      lands p q (c, path) (d, path ++ (n ∷ [])) (move_bounds (reach_bound r) m).0 (complete r) (onto_complete path (moves_complete P w m))

  sound : (p : ℕ) (r : Run) → r ∈ runs P k w p → Reach P k w p r.0 r.1
  sound p r m = in_sound p p r (in_down p p r (omega arith) m)

  configurations : (p : ℕ) (c : Configuration) → (c ∈ reached P k w p) ↔ Reaches P k w p c
  unfolding reached
  configurations p c = (there, back)
    where
      there : c ∈ once alikeᶜ (map (λ r. r.0) (runs P k w p)) → Reaches P k w p c
      there m =
          let x = Memᴰ.of_map (λ (r : Run). r.0) (runs P k w p) (once-∈ alikeᶜ_tests (map (λ r. r.0) (runs P k w p)) m) in
          (x.0.1, subst (λ (c : Configuration). Reach P k w p c x.0.1) x.2 (sound p x.0 x.1))

      back : Reaches P k w p c → c ∈ once alikeᶜ (map (λ r. r.0) (runs P k w p))
      back x = ∈-once alikeᶜ_tests (map (λ r. r.0) (runs P k w p)) (Memᴰ.map (λ (r : Run). r.0) (complete x.1))

  distinct : (p : ℕ) → Distinct (reached P k w p)
  unfolding reached
  distinct p = once_distinct alikeᶜ_tests (map (λ r. r.0) (runs P k w p))

pub enumerates : Enumerates
enumerates P k w p = (λ c path. (sound P k w p (c, path), complete P k w), distinct P k w p, configurations P k w p)

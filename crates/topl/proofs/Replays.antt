-- A run is known by its steps.
use Rattle.std.proofs.Common.{◌≡◌, ℕ, suc, ◌+◌, ◌-◌, ◌<◌, ◌≤◌, Bool, true, false, cond, ◌&&◌, eqb, ◌⊎◌, List, [], ◌∷◌, ◌++◌, length, drop, sym, refl, ap, ◌∙◌, subst, subst₂, inl, inr, append_assoc, append-nil, arith, length-drop, eq-eqb, ne_eqb, eqb-true}
use mathlib.Core.Option.{Option, none, some}
use mathlib.Core.List.Memᴰ
use Rattle.topl.proofs.Enumerate.{quiet_sound, quiet_complete, has_come_sound, has_come_complete}
use Rattle.std.proofs.lemmas.Bool.{and_parts, and_from}
use Rattle.topl.specs.Lists.{◌∈◌}
use Rattle.topl.specs.Table.{Statement, Table, count_from, implied, numbered}
use Rattle.topl.specs.Runs.{Configuration, Leaves, Move, Outcome, Reach, Registers, World, at_start, fails, first_configuration, hangs, has_come, onward, outcome_of, pass, passes, quiet, skip}
use Rattle.topl.specs.Rows.{by_statement, by_step, lead, look, replay, then}
use Rattle.topl.specs.Theorems.{Replays}

pub some_same : {X : Type 0} {x y : X} {o : Option X} → o ≡ some x → o ≡ some y → x ≡ y
some_same p q = cc

look_sound : (n : ℕ) (ts : List (ℕ × Statement)) (t : ℕ × Statement) → look n ts ≡ some t → (t ∈ ts) × (t.0 ≡ n)
look_sound n [] t e = let z : ◌≡◌ {A = ℕ} 0 1 = cc in absurd (omega arith)
look_sound n (u ∷ ts) t e = go (look_sound n ts t) (eqb u.0 n) refl e
  where
    go : (look n ts ≡ some t → (t ∈ ts) × (t.0 ≡ n)) → (b : Bool) → eqb u.0 n ≡ b → cond b (some u) (look n ts) ≡ some t → (t ∈ (u ∷ ts)) × (t.0 ≡ n)
    go below true i h = let k : t ≡ u = some_same h refl in (Memᴰ.head k, (λ j. (k j).0) ∙ eqb-true u.0 n i)
    go below false i h = let x = below h in (Memᴰ.tail x.0, x.1)

pub numbers : (n : ℕ) (ts : List Statement) (t : ℕ × Statement) → n + length ts ≤ 65 → t ∈ count_from n ts → n ≤ t.0
numbers n [] t l m = let e : t ≡ (65, implied) = Memᴰ.eq_of_singleton m in let k : t.0 ≡ 65 = (λ j. (e j).0) in omega arith
numbers n (u ∷ ts) t l m = go (numbers (suc n) ts t (omega arith)) (Memᴰ.cases_cons m)
  where
    go : (t ∈ count_from (suc n) ts → suc n ≤ t.0) → (t ≡ (n, u)) ⊎ (t ∈ count_from (suc n) ts) → n ≤ t.0
    go below (inl e) = let k : t.0 ≡ n = (λ j. (e j).0) in omega arith
    go below (inr h) = let k = below h in omega arith

look_complete : (n : ℕ) (ts : List Statement) (t : ℕ × Statement) → n + length ts ≤ 65 → t ∈ count_from n ts → look t.0 (count_from n ts) ≡ some t
look_complete n [] t l m = let e : t ≡ (65, implied) = Memᴰ.eq_of_singleton m in subst (λ (t : ℕ × Statement). look t.0 ((65, implied) ∷ []) ≡ some t) (sym e) refl
look_complete n (u ∷ ts) t l m = go (look_complete (suc n) ts t (omega arith)) (numbers (suc n) ts t (omega arith)) (Memᴰ.cases_cons m)
  where
    go : (t ∈ count_from (suc n) ts → look t.0 (count_from (suc n) ts) ≡ some t) → (t ∈ count_from (suc n) ts → suc n ≤ t.0) → (t ≡ (n, u)) ⊎ (t ∈ count_from (suc n) ts) → cond (eqb n t.0) (some (n, u)) (look t.0 (count_from (suc n) ts)) ≡ some t
    go below far (inl e) = rw (eq-eqb n t.0 (λ j. (sym e j).0)) (ap some (sym e))
    go below far (inr h) = let k = far h in rw (ne_eqb n t.0 (λ q. omega arith)) (below h)

then_some : (o : Option (ℕ × Configuration)) → then o some ≡ o
then_some none = refl
then_some (some x) = refl

replay_more : (P : Table) (w : World) (ns : List ℕ) (n : ℕ) (x : ℕ × Configuration) → replay P w (ns ++ (n ∷ [])) x ≡ then (replay P w ns x) (by_step P w n)
replay_more P w [] n x = then_some (by_step P w n x)
replay_more P w (m ∷ ns) n x = go (by_step P w m x) (replay_more P w ns n)
  where
    go : (o : Option (ℕ × Configuration)) → ((y : ℕ × Configuration) → replay P w (ns ++ (n ∷ [])) y ≡ then (replay P w ns y) (by_step P w n)) → then o (replay P w (ns ++ (n ∷ []))) ≡ then (then o (replay P w ns)) (by_step P w n)
    go none h = refl
    go (some y) h = h y

pub none≢some : {X : Type 0} {x : X} {o : Option X} → o ≡ none → o ≡ some x → ⊥
none≢some p q = let z : ◌≡◌ {A = ℕ} 0 1 = cc in omega arith

module _ (P : Table) (k : Registers) (w : World) where
  pub step_complete : {p q n : ℕ} {c d : Configuration} → length P.statements ≤ 64 → Move P w p c n q d → by_step P w n (p, c) ≡ some (q, d)
  step_complete {p} {c = c} few (pass t s l e) =
      let b : 1 ≤ t.0 = numbers 1 P.statements t (omega arith) l.0 in
      let b' : 1 + length P.statements ≤ 65 = omega arith in
      rw (ne_eqb t.0 0 (λ q. omega arith), look_complete 1 P.statements t b' l.0, eq-eqb t.1.source c.state l.1, e)
  step_complete {p} {c = c} few (skip l f) =
      let l' : length (drop p w.events) ≡ length w.events - p = length-drop p w.events in
      rw (and_from (has_come (drop p w.events)) (quiet w p c (numbered P)) (has_come_complete w p c (drop p w.events) (omega arith)) (quiet_complete w p c (numbered P) (λ t m e. f t (m, e))))

  pub step_sound : (n p : ℕ) (c : Configuration) (y : ℕ × Configuration) → by_step P w n (p, c) ≡ some y → Move P w p c n y.0 y.1
  step_sound n p c y e = go (eqb n 0) refl e
    where
      skipped : (b : Bool) → (has_come (drop p w.events) && quiet w p c (numbered P)) ≡ b → cond b (some (suc p, c)) none ≡ some y → Move P w p c 0 y.0 y.1
      skipped true i h =
          let b = and_parts (has_come (drop p w.events)) (quiet w p c (numbered P)) i in
          let l : 0 < length (drop p w.events) = has_come_sound w p c (drop p w.events) b.0 in
          let l' : length (drop p w.events) ≡ length w.events - p = length-drop p w.events in
          subst (λ (y : ℕ × Configuration). Move P w p c 0 y.0 y.1) (some_same refl h) (skip (omega arith) (λ t v. quiet_sound w p c b.1 v.0 v.1))
      skipped false i h = absurd (none≢some refl h)

      leads : (t : ℕ × Statement) (o : Outcome) → outcome_of w p c t ≡ o → Leaves P c t → lead p t.1 o ≡ some y → Move P w p c t.0 y.0 y.1
      leads t (passes s) i l h = subst (λ (y : ℕ × Configuration). Move P w p c t.0 y.0 y.1) (some_same refl h) (pass t s l i)
      leads t fails i l h = absurd (none≢some refl h)
      leads t hangs i l h = absurd (none≢some refl h)

      leaves : (t : ℕ × Statement) (b : Bool) → eqb t.1.source c.state ≡ b → t ∈ numbered P → cond b (lead p t.1 (outcome_of w p c t)) none ≡ some y → Move P w p c t.0 y.0 y.1
      leaves t true i m h = leads t (outcome_of w p c t) refl (m, eqb-true t.1.source c.state i) h
      leaves t false i m h = absurd (none≢some refl h)

      found : (o : Option (ℕ × Statement)) → look n (numbered P) ≡ o → by_statement w (p, c) o ≡ some y → Move P w p c n y.0 y.1
      found none i h = absurd (none≢some refl h)
      found (some t) i h =
          let x = look_sound n (numbered P) t i in
          subst (λ (n : ℕ). Move P w p c n y.0 y.1) x.1 (leaves t (eqb t.1.source c.state) refl x.0 h)

      go : (b : Bool) → eqb n 0 ≡ b → cond b (cond (has_come (drop p w.events) && quiet w p c (numbered P)) (some (suc p, c)) none) (by_statement w (p, c) (look n (numbered P))) ≡ some y → Move P w p c n y.0 y.1
      go true i h = subst (λ (n : ℕ). Move P w p c n y.0 y.1) (sym (eqb-true n 0 i)) (skipped (has_come (drop p w.events) && quiet w p c (numbered P)) refl h)
      go false i h = found (look n (numbered P)) refl h

  reach_replay : {p : ℕ} {c : Configuration} {path : List ℕ} → length P.statements ≤ 64 → Reach P k w p c path → replay P w path (0, first_configuration k) ≡ some (p, c)
  reach_replay few at_start = refl
  reach_replay few (onward {p} {q} {n} {c} {d} {path} r m) = replay_more P w path n (0, first_configuration k) ∙ ap (λ (o : Option (ℕ × Configuration)). then o (by_step P w n)) (reach_replay few r) ∙ step_complete few m

  replay_reach : (ns pre : List ℕ) (p : ℕ) (c : Configuration) (y : ℕ × Configuration) → Reach P k w p c pre → replay P w ns (p, c) ≡ some y → Reach P k w y.0 y.1 (pre ++ ns)
  replay_reach [] pre p c y r e = subst₂ (λ (x : ℕ × Configuration) (path : List ℕ). Reach P k w x.0 x.1 path) (some_same refl e) (sym (append-nil pre)) r
  replay_reach (n ∷ ns) pre p c y r e = go (by_step P w n (p, c)) refl (replay_reach ns) e
    where
      go : (o : Option (ℕ × Configuration)) → by_step P w n (p, c) ≡ o → ((pre : List ℕ) (p : ℕ) (c : Configuration) (y : ℕ × Configuration) → Reach P k w p c pre → replay P w ns (p, c) ≡ some y → Reach P k w y.0 y.1 (pre ++ ns)) → then o (replay P w ns) ≡ some y → Reach P k w y.0 y.1 (pre ++ (n ∷ ns))
      go none i below h = absurd (none≢some refl h)
      go (some x) i below h = subst (λ (path : List ℕ). Reach P k w y.0 y.1 path) (append_assoc pre (n ∷ []) ns) (below (pre ++ (n ∷ [])) x.0 x.1 y (onward r (step_sound n p c x i)) h)

pub replays : Replays
replays P k w p c path law = (reach_replay P k w law.few_statements, λ e. replay_reach P k w path [] 0 (first_configuration k) (p, c) at_start e)

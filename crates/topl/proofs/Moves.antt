-- The moves out of a configuration, statement by statement, and what they bring to a position: the laws of the loops that make them.
use Rattle.std.proofs.Common.{◌≡◌, ℕ, zero, suc, ◌+◌, ◌<◌, ◌≤◌, Bool, true, false, cond, ◌&&◌, ◌||◌, eqb, List, [], ◌∷◌, ◌++◌, length, get_or, take, drop, sym, refl, ap, ◌∙◌, true≢false, append_assoc, arith}
use Rattle.std.proofs.lemmas.List.{append-nil, take_more, drop_more, take-append-drop}
use Rattle.std.proofs.lemmas.Bool.{cond-true, cond-false, eq-eqb, ne_eqb}
use Rattle.topl.specs.Lists.{each}
use Rattle.topl.specs.Table.{Statement, Table, count_from, error, implied, numbered, span}
use Rattle.topl.specs.Runs.{Configuration, Landing, Outcome, Registers, World, calm, calms, fails, hangs, has_come, landing_of, lands, moves, outcome_of, passes, passing, quiet, skips}
use Rattle.topl.specs.Rows.{incoming, landed}
use Rattle.topl.specs.Deciding.{any_error}

length_count : (n : ℕ) (ts : List Statement) → length (count_from n ts) ≡ suc (length ts)
length_count n [] = refl
length_count n (t ∷ ts) = ap suc (length_count (suc n) ts)

count_at' : (n : ℕ) (ts : List Statement) (i : ℕ) (d : ℕ × Statement) (e : Statement) → i < length ts → (get_or (count_from n ts) i d).1 ≡ get_or ts i e
count_at' n [] i d e l = absurd (omega arith)
count_at' n (t ∷ ts) zero d e l = refl
count_at' n (t ∷ ts) (suc i) d e l = count_at' (suc n) ts i d e (omega arith)

count_end : (n : ℕ) (ts : List Statement) → get_or (count_from n ts) (length ts) (65, implied) ≡ (65, implied)
count_end n [] = refl
count_end n (t ∷ ts) = count_end (suc n) ts

-- the statement at a place, and the implied one behind the written ones
pub length_numbered : (P : Table) → length (numbered P) ≡ suc (length P.statements)
length_numbered P = length_count 1 P.statements

pub numbered_at : (P : Table) (i : ℕ) (d : Statement) → i < length P.statements → (get_or (numbered P) i (65, implied)).1 ≡ get_or P.statements i d
numbered_at P i d l = count_at' 1 P.statements i (65, implied) d l

pub numbered_end : (P : Table) (i : ℕ) → i ≡ length P.statements → get_or (numbered P) i (65, implied) ≡ (65, implied)
numbered_end P i l = ap (λ (z : ℕ). get_or (numbered P) z (65, implied)) l ∙ count_end 1 P.statements

module _ (w : World) (p : ℕ) (c : Configuration) where
  passing_push : (ts : List (ℕ × Statement)) (t : ℕ × Statement) → passing w p c (ts ++ t ∷ []) ≡ passing w p c ts ++ lands w p c t
  passing_push [] t = append-nil (lands w p c t)
  passing_push (u ∷ ts) t = ap (λ z. lands w p c u ++ z) (passing_push ts t) ∙ sym (append_assoc (lands w p c u) (passing w p c ts) (lands w p c t))

  pub landed_append : (q : ℕ) (ms ns : List Landing) → landed q (ms ++ ns) ≡ landed q ms ++ landed q ns
  landed_append q [] ns = refl
  landed_append q (m ∷ ms) ns = go (eqb m.1 q) (landed_append q ms ns)
    where
      go : (b : Bool) → landed q (ms ++ ns) ≡ landed q ms ++ landed q ns → cond b (m.2 ∷ landed q (ms ++ ns)) (landed q (ms ++ ns)) ≡ cond b (m.2 ∷ landed q ms) (landed q ms) ++ landed q ns
      go true e = ap (λ z. m.2 ∷ z) e
      go false e = e

  -- one statement more
  pub passing_more : (q : ℕ) (ts : List (ℕ × Statement)) (i : ℕ) → i < length ts → landed q (passing w p c (take (i + 1) ts)) ≡ landed q (passing w p c (take i ts)) ++ landed q (lands w p c (get_or ts i (65, implied)))
  passing_more q ts i l =
      ap (λ z. landed q (passing w p c z)) (take_more ts i (65, implied) l) ∙ (ap (landed q) (passing_push (take i ts) (get_or ts i (65, implied))) ∙ landed_append q (passing w p c (take i ts)) (lands w p c (get_or ts i (65, implied))))

-- does a statement let a skip from q go on
module _ (w : World) (q : ℕ) (c : Configuration) (t : ℕ × Statement) where
  pub calms_away : (t.1.source ≡ c.state → ⊥) → calms w q c t ≡ true
  calms_away n = cond-false (eqb t.1.source c.state) (calm w.mode (outcome_of w q c t)) true (ne_eqb t.1.source c.state n)

  pub calms_here : t.1.source ≡ c.state → calms w q c t ≡ calm w.mode (outcome_of w q c t)
  calms_here e = cond-true (eqb t.1.source c.state) (calm w.mode (outcome_of w q c t)) true (eq-eqb t.1.source c.state e)

-- what a statement brings from q to p
module _ (w : World) (q : ℕ) (c : Configuration) (t : ℕ × Statement) (p : ℕ) where
  pub lands_passes : t.1.source ≡ c.state → q + span t.1 ≡ p → (s : Registers) → passes s ≡ outcome_of w q c t → landed p (lands w q c t) ≡ record { state = t.1.target; registers = s } ∷ []
  lands_passes n e s h =
      ap (landed p) (cond-true (eqb t.1.source c.state) (landing_of q t (outcome_of w q c t)) [] (eq-eqb t.1.source c.state n) ∙ ap (landing_of q t) (sym h))
      ∙ cond-true (eqb (q + span t.1) p) (record { state = t.1.target; registers = s } ∷ []) [] (eq-eqb (q + span t.1) p e)

  -- where it leaves another state
  pub lands_away : (t.1.source ≡ c.state → ⊥) → landed p (lands w q c t) ≡ []
  lands_away n = ap (landed p) (cond-false (eqb t.1.source c.state) (landing_of q t (outcome_of w q c t)) [] (ne_eqb t.1.source c.state n))

  -- where it leads to another position, if it passes
  pub lands_elsewhere : (q + span t.1 ≡ p → ⊥) → landed p (lands w q c t) ≡ []
  lands_elsewhere n = go (eqb t.1.source c.state) (outcome_of w q c t)
    where
      go : (b : Bool) (o : Outcome) → landed p (cond b (landing_of q t o) []) ≡ []
      go true (passes s) = cond-false (eqb (q + span t.1) p) (record { state = t.1.target; registers = s } ∷ []) [] (ne_eqb (q + span t.1) p n)
      go true fails = refl
      go true hangs = refl
      go false o = refl

  -- where it does not pass
  pub lands_not : landing_of q t (outcome_of w q c t) ≡ [] → landed p (lands w q c t) ≡ []
  lands_not h = go (eqb t.1.source c.state)
    where
      go : (b : Bool) → landed p (cond b (landing_of q t (outcome_of w q c t)) []) ≡ []
      go true = ap (landed p) h
      go false = refl

module _ (w : World) (p : ℕ) (c : Configuration) where
  passing_append : (ts us : List (ℕ × Statement)) → passing w p c (ts ++ us) ≡ passing w p c ts ++ passing w p c us
  passing_append [] us = refl
  passing_append (t ∷ ts) us = ap (λ z. lands w p c t ++ z) (passing_append ts us) ∙ sym (append_assoc (lands w p c t) (passing w p c ts) (passing w p c us))

  -- the first statements, and the rest
  pub passing_split : (q k : ℕ) (ts : List (ℕ × Statement)) → landed q (passing w p c ts) ≡ landed q (passing w p c (take k ts)) ++ landed q (passing w p c (drop k ts))
  passing_split q k ts =
      ap (λ z. landed q (passing w p c z)) (sym (take-append-drop k ts))
      ∙ (ap (landed q) (passing_append (take k ts) (drop k ts)) ∙ landed_append w p c q (passing w p c (take k ts)) (passing w p c (drop k ts)))

module _ (P : Table) (w : World) (q : ℕ) (c : Configuration) where
  pub skips_here : q < length w.events → quiet w q c (numbered P) ≡ true → (p : ℕ) → suc q ≡ p → landed p (skips P w q c) ≡ c ∷ []
  skips_here l h p e =
      ap (λ z. landed p (cond (has_come z && quiet w q c (numbered P)) ((0, suc q, c) ∷ []) [])) (drop_more w.events q (record { id = 0; values = [] }) l)
      ∙ (ap (λ b. landed p (cond b ((0, suc q, c) ∷ []) [])) h ∙ cond-true _ _ _ (eq-eqb (suc q) p e))

error_behind : (xs ys zs : List Configuration) → (any_error ys ≡ true → any_error zs ≡ true) → any_error (xs ++ ys) ≡ true → any_error (xs ++ zs) ≡ true
error_behind [] ys zs f h = f h
error_behind (x ∷ xs) ys zs f h = go (eqb x.state error) (error_behind xs ys zs f) h
  where
    go : (b : Bool) → (any_error (xs ++ ys) ≡ true → any_error (xs ++ zs) ≡ true) → (b || any_error (xs ++ ys)) ≡ true → (b || any_error (xs ++ zs)) ≡ true
    go true i e = refl
    go false i e = i e

-- what one position more brings
module _ (P : Table) (w : World) (row : ℕ → List Configuration) (p : ℕ) where
  pub incoming_more : (b n q m : ℕ) → b + n ≡ q → m ≡ n + 1 → incoming P w row p b m ≡ incoming P w row p b n ++ each (λ c. landed p (moves P w q c)) (row q)
  incoming_more b zero q m e f =
      let g : b ≡ q = omega arith in
      let h : m ≡ 1 = omega arith in
      ap (incoming P w row p b) h ∙ (append-nil (each (λ c. landed p (moves P w b c)) (row b)) ∙ ap (λ (z : ℕ). each (λ c. landed p (moves P w z c)) (row z)) g)
  incoming_more b (suc n) q m e f =
      let h : m ≡ suc (n + 1) = omega arith in
      ap (incoming P w row p b) h ∙ (ap (λ z. each (λ c. landed p (moves P w b c)) (row b) ++ z) (incoming_more (suc b) n q (n + 1) (omega arith) refl)
      ∙ sym (append_assoc (each (λ c. landed p (moves P w b c)) (row b)) (incoming P w row p (suc b) n) (each (λ c. landed p (moves P w q c)) (row q))))

  -- an error from the first positions is one from more of them
  pub incoming_front : (b n m : ℕ) → m ≤ n → any_error (incoming P w row p b m) ≡ true → any_error (incoming P w row p b n) ≡ true
  incoming_front b zero zero l h = h
  incoming_front b (suc n) zero l h = absurd (true≢false (sym h))
  incoming_front b zero (suc m) l h = absurd (omega arith)
  incoming_front b (suc n) (suc m) l h = error_behind (each (λ c. landed p (moves P w b c)) (row b)) (incoming P w row p (suc b) m) (incoming P w row p (suc b) n) (incoming_front (suc b) n m (omega arith)) h

pub each_same : (P : Table) (w : World) (p : ℕ) {b b' : ℕ} {r r' : List Configuration} → b ≡ b' → r ≡ r' → each (λ c. landed p (moves P w b c)) r ≡ each (λ c. landed p (moves P w b' c)) r'
each_same P w p {b' = b'} {r} f g = ap (λ (z : ℕ). each (λ c. landed p (moves P w z c)) r) f ∙ ap (each (λ c. landed p (moves P w b' c))) g

-- What an earlier call decided stays as it was.
use Rattle.std.proofs.Common.{◌≡◌, ℕ, zero, suc, ◌+◌, ◌*◌, ◌-◌, ◌%◌, ◌<◌, ◌≤◌, Bool, true, false, cond, eqb, leb, not, ◌&&◌, List, [], ◌∷◌, ◌++◌, length, get_or, take, drop, map, vec_items, sym, refl, ap, ap₂, ◌∙◌, subst, ⊎_elim, true≢false, arith, eq-eqb, eqb-true, length-append, length-drop}
use mathlib.Core.List.Memᴰ
use lib.Seq.{drop-append-le}
use Rattle.std.proofs.lemmas.Bool.{and_parts, cases_eq, cond-false, leb-true, ne_eqb, not-true, or_cases, or_left}
use Rattle.std.proofs.lemmas.List.{get_or_append_left}
use Rattle.topl.specs.Lists.{Class, ◌∈◌, each, holds}
use Rattle.topl.specs.Table as T
use Rattle.topl.specs.Runs.{Configuration, Leaves, LetsSkip, Mode, Outcome, Reaches, Registers, World, alikeᶜ, closed, fails, fares, first_configuration, hangs, has_come, landing_of, lands, moves, onward, outcome_of, pass, passes, passing, quiet, reached, settled, skip, skips, so_far}
use Rattle.topl.specs.Rows.{Stands, landed}
use Rattle.topl.specs.Deciding.{any_error}
use Rattle.topl.proofs.Basics.{alikeᶜ_tests, holds-∈, ∈-holds}
use Rattle.topl.proofs.Deciding.{any_error_complete}
use Rattle.topl.proofs.Enumerate.{enumerates, quiet_sound}
use Rattle.topl.proofs.Loops.{holds_append}
use Rattle.topl.proofs.Moves.{landed_append, lands_elsewhere, length_numbered, numbered_end}
use Rattle.topl.proofs.Persist.{fares_enough, fares_more, passes≢fails}
use Rattle.std.specs.List.{list_all}
use Rattle.engine.specs.declared.front.Mark.{Mark}
use Rattle.engine.specs.declared.grid.Grid as G
use Rattle.tables.specs.declared.parts.Statement.{Statement}
use Rattle.tables.specs.Few.{few_items}
use Rattle.tables.specs.Views.{statement}
use Rattle.engine.proofs.Matchers.{span_is}
use Rattle.engine.specs.declared.scene.Position.{Position}
use Rattle.engine.specs.Fills.{Had, is_away, is_near, Told, Known, Onto, ReadyFor, Since, SinceAt}
use Rattle.engine.specs.Fronts.{Grid, Others, count_at, row_at}
use Rattle.engine.specs.Grids.{grid_of, row_of}
use Rattle.engine.specs.Judging.{Held}
use Rattle.engine.proofs.Fronts.{length_row_at, row_read}
use Rattle.engine.proofs.Tables.{get_or-∈}

-- more of them, and in a longer row
pub had_append : (row xs ys : List Configuration) → Had row xs → Had row ys → Had row (xs ++ ys)
had_append row [] ys a b = b
had_append row (x ∷ xs) ys a b = (a.0, a.1, had_append row xs ys a.2 b)

pub had_onto : (row more xs : List Configuration) → Had row xs → Had (row ++ more) xs
had_onto row more [] a = tt
had_onto row more (x ∷ xs) a = (a.0, holds_append alikeᶜ row more x ∙ or_left (holds alikeᶜ row x) (holds alikeᶜ more x) a.1, had_onto row more xs a.2)

-- what lets a skip go on and does not hang fails
calm_fails : (m : Mode) (o : Outcome) → LetsSkip m o → ¬ (o ≡ hangs) → o ≡ fails
calm_fails settled o l n = l
calm_fails closed (passes s) l n = absurd (l s refl)
calm_fails closed fails l n = refl
calm_fails closed hangs l n = absurd (n refl)

-- Where all events that a statement spans had come, a configuration that was reached before leads by it to one that was reached, and so stands in the row.
module _ (P : T.Table) (k : Registers) (L : List T.Event) (w : World) (q p : ℕ) (c : Configuration) (same : (t : ℕ × T.Statement) → q + T.span t.1 ≤ length L → outcome_of w q c t ≡ outcome_of (so_far L) q c t)
    (reach : Reaches P k (so_far L) q c) (l : p ≤ length L) (row : List Configuration) (stands : Stands P k (so_far L) p row) (safe : any_error row ≡ false) where
  stood : (d : Configuration) → Reaches P k (so_far L) p d → Had row (d ∷ [])
  stood d r =
      let h : holds alikeᶜ row d ≡ true = stands d ∙ ∈-holds alikeᶜ_tests (((enumerates P k (so_far L) p).2 d).1 r) in
      (λ z. true≢false (sym (any_error_complete row (holds-∈ alikeᶜ_tests row d h) z) ∙ safe), h, tt)

  passed : (t : ℕ × T.Statement) → t ∈ T.numbered P → t.1.source ≡ c.state → (s : Registers) → outcome_of w q c t ≡ passes s → q + T.span t.1 ≡ p → Had row (record { state = t.1.target; registers = s } ∷ [])
  passed t m e s o at =
      let d : Configuration = record { state = t.1.target; registers = s } in
      let r : Reaches P k (so_far L) (q + T.span t.1) d = (reach.0 ++ t.0 ∷ [], onward reach.1 (pass t s (m, e) (sym (same t (omega arith)) ∙ o))) in
      stood d (subst (λ (z : ℕ). Reaches P k (so_far L) z d) at r)

  one : (t : ℕ × T.Statement) → t ∈ T.numbered P → Had row (landed p (lands w q c t))
  one t m = go (eqb t.1.source c.state) refl (outcome_of w q c t) refl
    where
      here : (b : Bool) (s : Registers) → eqb (q + T.span t.1) p ≡ b → eqb t.1.source c.state ≡ true → outcome_of w q c t ≡ passes s → Had row (cond b (record { state = t.1.target; registers = s } ∷ []) [])
      here true s a e o = passed t m (eqb-true t.1.source c.state e) s o (eqb-true (q + T.span t.1) p a)
      here false s a e o = tt

      go : (b : Bool) → eqb t.1.source c.state ≡ b → (o : Outcome) → outcome_of w q c t ≡ o → Had row (landed p (cond b (landing_of q t o) []))
      go false e o x = tt
      go true e fails x = tt
      go true e hangs x = tt
      go true e (passes s) x = here (eqb (q + T.span t.1) p) s refl e x

  some : (ts : List (ℕ × T.Statement)) → ((t : ℕ × T.Statement) → t ∈ ts → t ∈ T.numbered P) → Had row (landed p (passing w q c ts))
  some [] f = tt
  some (t ∷ ts) f =
      subst (Had row) (sym (landed_append w q c p (lands w q c t) (passing w q c ts)))
      (had_append row (landed p (lands w q c t)) (landed p (passing w q c ts)) (one t (f t (Memᴰ.head refl))) (some ts (λ u m. f u (Memᴰ.tail m))))

  -- its skip, where none of its statements goes past the events
  module _ (near : (t : ℕ × T.Statement) → t ∈ T.numbered P → t.1.source ≡ c.state → q + T.span t.1 ≤ length L) where
    failed : quiet w q c (T.numbered P) ≡ true → (t : ℕ × T.Statement) → Leaves P c t → outcome_of (so_far L) q c t ≡ fails
    failed h t v =
        let n = near t v.0 v.1 in
        let e = same t n in
        let b : length (drop q L) ≡ length L - q = length-drop q L in
        sym e ∙ calm_fails w.mode (outcome_of w q c t) (quiet_sound w q c h v.0 v.1) (λ z. fares_enough (T.matchers t.1) c.registers (drop q L) (omega arith) (sym e ∙ z))

    skipped : Had row (landed p (skips P w q c))
    skipped = go (has_come (drop q w.events) && quiet w q c (T.numbered P)) refl
      where
        here : (b : Bool) → eqb (suc q) p ≡ b → quiet w q c (T.numbered P) ≡ true → Had row (cond b (c ∷ []) [])
        here true e h =
            let at : suc q ≡ p = eqb-true (suc q) p e in
            stood c (subst (λ (z : ℕ). Reaches P k (so_far L) z c) at (reach.0 ++ 0 ∷ [], onward reach.1 (skip (omega arith) (failed h))))
        here false e h = tt

        go : (b : Bool) → (has_come (drop q w.events) && quiet w q c (T.numbered P)) ≡ b → Had row (landed p (cond b ((0, suc q, c) ∷ []) []))
        go true e = here (eqb (suc q) p) refl (and_parts (has_come (drop q w.events)) (quiet w q c (T.numbered P)) e).1
        go false e = tt

  pub told_before : (n : ℕ) → n ≡ length L → Told row P w q p n c
  told_before n e = (omega arith, some (T.numbered P) (λ t m. m), λ near. skipped (λ t m s. let z = near t m s in omega arith))

-- a skip leads to the next position alone
pub skips_elsewhere : (P : T.Table) (w : World) (q : ℕ) (c : Configuration) (p : ℕ) → (q + 1 ≡ p → ⊥) → landed p (skips P w q c) ≡ []
skips_elsewhere P w q c p n = go (has_come (drop q w.events) && quiet w q c (T.numbered P))
  where
    go : (b : Bool) → landed p (cond b ((0, suc q, c) ∷ []) []) ≡ []
    go true = ap (λ z. cond z (c ∷ []) []) (ne_eqb (suc q) p (λ e. n (omega arith)))
    go false = refl

-- and from `start` never, since the implied statement passes once an event has come
lets : (m : Mode) (s : Registers) (es : List T.Event) → has_come es ≡ true → LetsSkip m (fares (T.any_event ∷ []) s es) → ⊥
lets m s [] h l = true≢false (sym h)
lets settled s (e ∷ es) h l = passes≢fails refl l
lets closed s (e ∷ es) h l = l s refl

skips_start : (P : T.Table) (w : World) (q : ℕ) (c : Configuration) (p : ℕ) → c.state ≡ T.start → landed p (skips P w q c) ≡ []
skips_start P w q c p n = go (has_come (drop q w.events) && quiet w q c (T.numbered P)) refl
  where
    among : (65, T.implied) ∈ T.numbered P
    among = let m = length_numbered P in subst (λ z. z ∈ T.numbered P) (numbered_end P (length P.statements) refl) (get_or-∈ (T.numbered P) (length P.statements) (65, T.implied) (omega arith))

    go : (b : Bool) → (has_come (drop q w.events) && quiet w q c (T.numbered P)) ≡ b → landed p (cond b ((0, suc q, c) ∷ []) []) ≡ []
    go true e = let h = and_parts (has_come (drop q w.events)) (quiet w q c (T.numbered P)) e in absurd (lets w.mode c.registers (drop q w.events) h.0 (quiet_sound w q c h.1 among (sym n)))
    go false e = refl

pub had_start : (row : List Configuration) (P : T.Table) (w : World) (q : ℕ) (c : Configuration) (p : ℕ) → c.state ≡ T.start → Had row (landed p (passing w q c (T.numbered P))) → Had row (landed p (moves P w q c))
had_start row P w q c p n h = subst (Had row) (sym (landed_append w q c p (skips P w q c) (passing w q c (T.numbered P)) ∙ ap (λ z. z ++ landed p (passing w q c (T.numbered P))) (skips_start P w q c p n))) h

-- no statement leads from q to p
module _ (w : World) (q : ℕ) (c : Configuration) (p span : ℕ) (far : q + 1 ≡ p → ⊥) (e : q + span ≡ p) where
  away : (n : ℕ) (t : Statement) → is_away c.state span t ≡ true → landed p (lands w q c (n, statement t)) ≡ []
  away n t a = ⊎_elim
      (λ b. ap (landed p) (cond-false (eqb t.source c.state) (landing_of q (n, statement t) (outcome_of w q c (n, statement t))) [] (not-true (eqb t.source c.state) b)))
      (λ b. let long = span_is t.source t.target (few_items t.events) t.some in
      let d = not-true (eqb (length (few_items t.events)) span) b in
      lands_elsewhere w q c (n, statement t) p (λ z. true≢false (sym (eq-eqb (length (few_items t.events)) span (omega arith)) ∙ d)))
      (or_cases (not (eqb t.source c.state)) (not (eqb (length (few_items t.events)) span)) a)

  all_away : (n : ℕ) (ts : List Statement) → list_all (is_away c.state span) ts ≡ true → landed p (passing w q c (T.count_from n (map statement ts))) ≡ []
  all_away n [] a = landed_append w q c p (lands w q c (65, T.implied)) [] ∙ ap (λ z. z ++ []) (lands_elsewhere w q c (65, T.implied) p far)
  all_away n (t ∷ ts) a =
      let h = and_parts (is_away c.state span t) (list_all (is_away c.state span) ts) a in
      landed_append w q c p (lands w q c (n, statement t)) (passing w q c (T.count_from (suc n) (map statement ts)))
      ∙ ap₂ ◌++◌ (away n t h.0) (all_away (suc n) ts h.1)

  pub had_away : (row : List Configuration) (P : T.Table) (ts : List Statement) → P.statements ≡ map statement ts → list_all (is_away c.state span) ts ≡ true → Had row (landed p (moves P w q c))
  had_away row P ts s a =
      let x : landed p (moves P w q c) ≡ [] = landed_append w q c p (skips P w q c) (passing w q c (T.numbered P))
      ∙ ap₂ ◌++◌ (skips_elsewhere P w q c p far) (ap (λ z. landed p (passing w q c (T.count_from 1 z))) s ∙ all_away 1 ts a) in
      subst (Had row) (sym x) tt

pub had_moves : (row : List Configuration) (P : T.Table) (w : World) (q : ℕ) (c : Configuration) (p : ℕ) → (q + 1 ≡ p → ⊥) → Had row (landed p (passing w q c (T.numbered P))) → Had row (landed p (moves P w q c))
had_moves row P w q c p n h = subst (Had row) (sym (landed_append w q c p (skips P w q c) (passing w q c (T.numbered P)) ∙ ap (λ z. z ++ landed p (passing w q c (T.numbered P))) (skips_elsewhere P w q c p n))) h

-- of the first of some configurations
-- where its statements span few events, all of them had come
pub near_all : (P : T.Table) (c : Configuration) (q judged : ℕ) (ts : List Statement) → P.statements ≡ map statement ts → q < judged → list_all (is_near c.state (judged - q)) ts ≡ true →
    (t : ℕ × T.Statement) → t ∈ T.numbered P → t.1.source ≡ c.state → q + T.span t.1 ≤ judged
near_all P c q judged ts e l a t m s = go 1 ts a (subst (λ z. t ∈ T.count_from 1 z) e m)
  where
    one : (u : Statement) → is_near c.state (judged - q) u ≡ true → u.source ≡ c.state → q + T.span (statement u) ≤ judged
    one u b s = ⊎_elim
        (λ d. absurd (true≢false (sym (eq-eqb u.source c.state s) ∙ not-true (eqb u.source c.state) d)))
        (λ d. let long = span_is u.source u.target (few_items u.events) u.some in let n = leb-true (length (few_items u.events)) (judged - q) d in omega arith)
        (or_cases (not (eqb u.source c.state)) (leb (length (few_items u.events)) (judged - q)) b)

    go : (n : ℕ) (ts : List Statement) → list_all (is_near c.state (judged - q)) ts ≡ true → t ∈ T.count_from n (map statement ts) → q + T.span t.1 ≤ judged
    go n [] b m = subst (λ (z : ℕ × T.Statement). q + T.span z.1 ≤ judged) (sym (Memᴰ.eq_of_singleton m)) (omega arith)
    go n (u ∷ ts) b m =
        let h = and_parts (is_near c.state (judged - q) u) (list_all (is_near c.state (judged - q)) ts) b in
        ⊎_elim (λ (i : t ≡ (n, statement u)). subst (λ (z : ℕ × T.Statement). q + T.span z.1 ≤ judged) (sym i) (one u h.0 (sym (λ j. (i j).1.source) ∙ s)))
        (λ k. go (suc n) ts h.1 k) (Memᴰ.cases_cons m)

-- so all that it brings is held
pub had_near : (row : List Configuration) (P : T.Table) (w : World) (q : ℕ) (c : Configuration) (p judged : ℕ) (ts : List Statement) → P.statements ≡ map statement ts → q < p → list_all (is_near c.state (judged - q)) ts ≡ true → Told row P w q p judged c → Had row (landed p (moves P w q c))
had_near row P w q c p judged ts s l a U =
    let low = U.0 in
    subst (Had row) (sym (landed_append w q c p (skips P w q c) (passing w q c (T.numbered P))))
    (had_append row (landed p (skips P w q c)) (landed p (passing w q c (T.numbered P))) (U.2 (near_all P c q judged ts s (omega arith) a)) U.1)

pub had_each : (row : List Configuration) (F : Configuration → List Configuration) (xs : List Configuration) (d : Configuration) (n : ℕ) → ((i : ℕ) → i < n → Had row (F (get_or xs i d))) → Had row (each F (take n xs))
had_each row F xs d zero f = tt
had_each row F [] d (suc n) f = tt
had_each row F (x ∷ xs) d (suc n) f = had_append row (F x) (each F (take n xs)) (f 0 (omega arith)) (had_each row F xs d n (λ i l. f (suc i) (omega arith)))

-- a statement whose events had come fares as it did, when one more comes and when none does
pub same_longer : (L : List T.Event) (e : T.Event) (q : ℕ) (c : Configuration) (t : ℕ × T.Statement) → q + T.span t.1 ≤ length L → outcome_of (so_far (L ++ e ∷ [])) q c t ≡ outcome_of (so_far L) q c t
same_longer L e q c t l =
    let b : length (drop q L) ≡ length L - q = length-drop q L in
    let le : q ≤ length L = omega arith in
    rw (drop-append-le q L (e ∷ []) le) (fares_more (T.matchers t.1) c.registers (drop q L) (e ∷ []) (outcome_of (so_far L) q c t) (fares_enough (T.matchers t.1) c.registers (drop q L) (omega arith)) refl)

-- the state of a configuration, as it is read on the front
pub state_is : {V : Type 0} (class : V → Class) (g : G.Grid V) (slot i at : ℕ) (m : Mark) → slot < 5 → slot ≡ at → i < count_at g.front at → m ≡ record { state = get_or g.front.states (64 * slot + i) 0; entry = get_or g.front.entries (64 * slot + i) 0 } →
    (get_or (row_of class g at) i (first_configuration [])).state ≡ m.state
state_is class g slot i at m five e l is =
    let held = take 8 (drop (8 * i) (drop (slot * (8 * g.cap)) (vec_items g.board))) in
    let l' : i < count_at g.front slot = subst (λ (z : ℕ). i < count_at g.front z) (sym e) l in
    let r = row_read class g.cap slot i (grid_of g) held (first_configuration []) five l' refl in
    ap (λ (z : ℕ). (get_or (row_of class g z) i (first_configuration [])).state) (sym e) ∙ (sym (λ j. (r j).state) ∙ sym (λ j. (is j).state))

-- so it is known at a position that is to be filled
pub known_since : {V : Type 0} (class : V → Class) (x : Position V) (P : T.Table) (k : Registers) (L : List T.Event) (w : World) (g : G.Grid V) → ReadyFor class x P k L w g → SinceAt class x P k L w g →
    (q : ℕ) → x.scene.now.base ≤ q → q < x.number → Known class x P w q g
known_since class x P k L w g R S q low later l i m =
    let all = S.all in
    let c = get_or (row_of class g (q % 5)) i (first_configuration []) in
    told_before P k L w q x.number c (S.same q c) (S.first q low (omega arith) i m).1 (omega arith) (row_of class g (x.number % 5)) R.before R.safe x.scene.now.judged all

module _ {V : Type 0} (class : V → Class) (before : List ℕ) (judged : ℕ) (base last : ℕ) (P : T.Table) (k : Registers) (L : List T.Event) (w : World) where
  -- of the first positions alone
  pub since_to : (cap : ℕ) (g : Grid V) (p : ℕ) → p ≤ last → Since class cap before judged g base last P k L w → Since class cap before judged g base p P k L w
  since_to cap g p l S = record { all = S.all; same = S.same; first = λ q low high. S.first q low (omega arith) }

  pub since_here : (cap : ℕ) (g : G.Grid V) → g.cap ≡ cap → (p : ℕ) → p ≤ last → Since class cap before judged (grid_of g) base last P k L w → Since class g.cap before judged (grid_of g) base p P k L w
  since_here cap g e p to S = subst (λ (z : ℕ). Since class z before judged (grid_of g) base p P k L w) (sym e) (since_to cap (grid_of g) p to S)

  -- when a position has more
  pub since_more : (cap : ℕ) (g h : Grid V) (p : ℕ) → last ≤ base + 4 → base ≤ p → p ≤ last → Others class cap (p % 5) g h → Onto class cap (p % 5) g h → Since class cap before judged g base last P k L w → Since class cap before judged h base last P k L w
  since_more cap g h p five from to others onto S = record {
    all = S.all;
    same = S.same;
    first = λ q low high i m. ⊎_elim (λ (e : q ≡ p). here q low high i m e)
        (λ (n : q ≡ p → ⊥). subst (λ z. (i < length z) × Reaches P k (so_far L) q (get_or z i (first_configuration []))) (sym (others (q % 5) (omega arith) (λ z. n (omega arith)))) (S.first q low high i m)) (cases_eq q p);
  }
    where
      here : (q : ℕ) → base ≤ q → q ≤ last → (i : ℕ) → i < get_or before (q % 5) 0 → q ≡ p → (i < length (row_at class cap h (q % 5))) × Reaches P k (so_far L) q (get_or (row_at class cap h (q % 5)) i (first_configuration []))
      here q low high i m e =
          let old = row_at class cap g (q % 5) in
          let f = S.first q low high i m in
          let o : row_at class cap h (q % 5) ≡ old ++ onto.0 = ap (λ (z : ℕ). row_at class cap h (z % 5)) e ∙ (onto.1 ∙ ap (λ (z : ℕ). row_at class cap g (z % 5) ++ onto.0) (sym e)) in
          let n : length (old ++ onto.0) ≡ length old + length onto.0 = length-append old onto.0 in
          subst (λ z. (i < length z) × Reaches P k (so_far L) q (get_or z i (first_configuration []))) (sym o)
          (omega (arith, f.0), subst (Reaches P k (so_far L) q) (sym (get_or_append_left old onto.0 (first_configuration []) i f.0)) f.1)

  -- when the call begins
  pub since_first : (cap : ℕ) (g : Grid V) → before ≡ g.front.counts → judged ≡ length L → ((q : ℕ) (c : Configuration) (t : ℕ × T.Statement) → q + T.span t.1 ≤ length L → outcome_of w q c t ≡ outcome_of (so_far L) q c t) →
      ((q : ℕ) → base ≤ q → q ≤ last → Held class cap g P k (so_far L) q) → Since class cap before judged g base last P k L w
  since_first cap g counts all same held = record {
    all = all;
    same = same;
    first = λ q low high i m.
        let row = row_at class cap g (q % 5) in
        let n : length row ≡ count_at g.front (q % 5) = length_row_at class cap (q % 5) g (omega arith) in
        let l : i < count_at g.front (q % 5) = subst (λ z. i < get_or z (q % 5) 0) counts m in
        let in' : i < length row = omega arith in
        let d = get_or row i (first_configuration []) in
        (in', ((enumerates P k (so_far L) q).2 d).0 (holds-∈ alikeᶜ_tests (reached P k (so_far L) q) d (sym ((held q low high).stands d) ∙ ∈-holds alikeᶜ_tests (get_or-∈ row i (first_configuration []) in'))));
  }

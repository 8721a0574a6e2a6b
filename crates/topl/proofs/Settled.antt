-- The settled runs of a list are the runs that every longer list keeps.
use Rattle.std.proofs.Common.{◌≡◌, ℕ, zero, suc, ◌+◌, ◌<◌, ◌≤◌, Bool, true, false, cond, eqb, ◌⊎◌, List, [], ◌∷◌, ◌++◌, map, length, get_or, drop, None, sym, refl, ap, ◌∙◌, subst, inl, inr, ⊎_elim, true≢false, append-nil, arith, length-append, eq-eqb}
use mathlib.Core.Option.{Option, none, some}
use mathlib.Core.List.Memᴰ
use lib.ListN.{length-map}
use lib.Seq.{drop-append-le}
use Rattle.std.proofs.lemmas.Bool.{and_from, not_from_false}
use Rattle.topl.proofs.Basics.{same_tests}
use Rattle.topl.proofs.Lawful.{written_or_implied, call_half, is_call_id, is_return_id}
use Rattle.topl.proofs.Refusing.{event_refusals}
use Rattle.topl.specs.Lists.{Class, Distinct, ◌∈◌, nothing, same_class}
use Rattle.topl.specs.Table.{Any, Differs, Event, Lawful, Matcher, Pattern, Same, Shaped, Statement, Table, Write, any_shaped, at, call_id, call_shaped, called, calls, implied, matchers, most_values, numbered, return_id, return_shaped, returned}
use Rattle.topl.specs.Runs.{Configuration, Leaves, LetsSkip, Move, Outcome, Reach, Registers, World, closing, fails, fares, first_configuration, fits, fits_all, hangs, meets, outcome_of, pass, passes, skip, so_far, writes}
use Rattle.topl.specs.Rows.{by_step, replay, then}
use Rattle.topl.specs.Ledger.{event_reason}
use Rattle.topl.specs.Theorems.{AllTaken, Certain, ErrsBy}
use Rattle.topl.specs.History.{WrongCount}
use Rattle.topl.proofs.Persist.{passes≢hangs, fails≢hangs, move_bounds, keeps_longer, keeps_closing, persists}
use Rattle.topl.proofs.Replays.{replays, numbers, some_same, none≢some, step_sound, step_complete}

-- AN EVENT THAT MEETS A MATCHER
-- a class that fits a pattern
abbrev fitting : Registers → Pattern → Class
fitting s Any = nothing
fitting s (Write r) = nothing
fitting s (Same r) = at s r
fitting s (Differs r) = 0 ∷ at s r

longer_differs : (c : Class) → same_class c (0 ∷ c) ≡ false
longer_differs c = go (same_class c (0 ∷ c)) refl
  where
    go : (b : Bool) → same_class c (0 ∷ c) ≡ b → same_class c (0 ∷ c) ≡ false
    go true h = absurd (let e : length c ≡ suc (length c) = ap length (same_tests.sound c (0 ∷ c) h) in omega arith)
    go false h = h

fits_so : (s : Registers) (p : Pattern) → fits s (fitting s p) p ≡ true
fits_so s Any = refl
fits_so s (Write r) = refl
fits_so s (Same r) = same_tests.complete (at s r)
fits_so s (Differs r) = not_from_false (same_class (at s r) (0 ∷ at s r)) (longer_differs (at s r))

fits_each : (s : Registers) (us : List Class) (j : ℕ) (ps : List Pattern) → ((i n : ℕ) → j + i ≡ n → i < length ps → fits s (at us n) (get_or ps i Any) ≡ true) → fits_all s us j ps ≡ true
fits_each s us j [] f = refl
fits_each s us j (p ∷ ps) f =
    and_from (fits s (at us j) p) (fits_all s us (suc j) ps) (f 0 j (omega arith) (omega arith)) (fits_each s us (suc j) ps (λ i n e l. f (suc i) n (omega arith) (omega arith)))

six : (us : List Class) (i : ℕ) → i < 6 → at (map (at us) (0 ∷ 1 ∷ 2 ∷ 3 ∷ 4 ∷ 5 ∷ [])) i ≡ at us i
six us zero l = refl
six us (suc zero) l = refl
six us (suc (suc zero)) l = refl
six us (suc (suc (suc zero))) l = refl
six us (suc (suc (suc (suc zero)))) l = refl
six us (suc (suc (suc (suc (suc zero))))) l = refl
six us (suc (suc (suc (suc (suc (suc i)))))) l = absurd (omega arith)

chosen_at : (s : Registers) (ps : List Pattern) (i : ℕ) → i < length ps → at (map (fitting s) ps) i ≡ fitting s (get_or ps i Any)
chosen_at s [] i l = absurd (omega arith)
chosen_at s (p ∷ ps) zero l = refl
chosen_at s (p ∷ ps) (suc i) l = chosen_at s ps i (omega arith)

call_meets : (s : Registers) (m : ℕ) (ps : List Pattern) → length ps ≤ 5 → meets s (record { id = call_id m; values = map (fitting s) ps }) (called m ps) ≡ true
call_meets s m ps l =
    and_from (eqb (call_id m) (call_id m)) (fits_all s (map (at us) (0 ∷ 1 ∷ 2 ∷ 3 ∷ 4 ∷ 5 ∷ [])) 0 (Any ∷ ps)) (eq-eqb (call_id m) (call_id m) refl)
    (fits_each s (map (at us) (0 ∷ 1 ∷ 2 ∷ 3 ∷ 4 ∷ 5 ∷ [])) 1 ps each_fits)
  where
    us : List Class
    us = cond (calls (call_id m)) (nothing ∷ map (fitting s) ps) (map (fitting s) ps)

    each_fits : (i n : ℕ) → 1 + i ≡ n → i < length ps → fits s (at (map (at us) (0 ∷ 1 ∷ 2 ∷ 3 ∷ 4 ∷ 5 ∷ [])) n) (get_or ps i Any) ≡ true
    each_fits i n q h =
        let k : n ≡ suc i = omega arith in
        let a : at (map (at us) (0 ∷ 1 ∷ 2 ∷ 3 ∷ 4 ∷ 5 ∷ [])) n ≡ at us (suc i) = six us n (omega arith) ∙ ap (at us) k in
        let b : at us (suc i) ≡ at (map (fitting s) ps) i = ap (λ (z : Bool). at (cond z (nothing ∷ map (fitting s) ps) (map (fitting s) ps)) (suc i)) (is_call_id m) in
        subst (λ (v : Class). fits s v (get_or ps i Any) ≡ true) (sym (a ∙ b ∙ chosen_at s ps i h)) (fits_so s (get_or ps i Any))

return_meets : (s : Registers) (m : ℕ) (p : Pattern) → meets s (record { id = return_id m; values = fitting s p ∷ [] }) (returned p m) ≡ true
return_meets s m p =
    and_from (eqb (return_id m) (return_id m)) _ (eq-eqb (return_id m) (return_id m) refl)
    (and_from (fits s (at (cond (calls (return_id m)) (nothing ∷ fitting s p ∷ []) (fitting s p ∷ [])) 0) p) true
    (subst (λ (b : Bool). fits s (at (cond b (nothing ∷ fitting s p ∷ []) (fitting s p ∷ [])) 0) p ≡ true) (sym (is_return_id m)) (fits_so s p)) refl)

module _ (P : Table) (law : Lawful P) where
  -- a declared method has one arity
  one_method : (ms : List (ℕ × ℕ)) (a b : ℕ × ℕ) → Distinct (map (λ m. m.0) ms) → a ∈ ms → b ∈ ms → a.0 ≡ b.0 → a ≡ b
  one_method [] a b d i j e = absurd (Memᴰ.not-nil i)
  one_method (m ∷ ms) a b d i j e = go (one_method ms a b d.1) (Memᴰ.cases_cons i) (Memᴰ.cases_cons j)
    where
      far : (c : ℕ × ℕ) → c ∈ ms → m.0 ≡ c.0 → ⊥
      far c k f = d.0 (subst (λ (n : ℕ). n ∈ map (λ m. m.0) ms) (sym f) (Memᴰ.map (λ (m : ℕ × ℕ). m.0) k))

      go : (a ∈ ms → b ∈ ms → a.0 ≡ b.0 → a ≡ b) → (a ≡ m) ⊎ (a ∈ ms) → (b ≡ m) ⊎ (b ∈ ms) → a ≡ b
      go below (inl p) (inl q) = p ∙ sym q
      go below (inl p) (inr q) = absurd (far b q ((λ k. (sym p k).0) ∙ e))
      go below (inr p) (inl q) = absurd (far a p ((λ k. (sym q k).0) ∙ sym e))
      go below (inr p) (inr q) = below p q e

  right_count : (m : ℕ × ℕ) (n : ℕ) → m ∈ P.methods → n ≡ m.1 → ¬ WrongCount P (call_id m.0) n
  right_count m n i e (c, (d, j, k, f)) = f (e ∙ (λ x. (one_method P.methods m d law.numbers_distinct i j (sym (call_half m.0) ∙ k) x).1))

  no_call : (id n : ℕ) → calls id ≡ false → ¬ WrongCount P id n
  no_call id n e w = true≢false (sym w.0 ∙ e)

  -- every matcher of the property is met by some event that a watch takes
  meeting : (s : Registers) {m : Matcher} → Shaped P m → (e : Event) × (event_reason P e ≡ None) × (meets s e m ≡ true)
  meeting s any_shaped = (record { id = 1; values = [] }, (event_refusals P 1 0).is_none.1 (omega arith, (omega arith, no_call 1 0 refl)), refl)
  meeting s (call_shaped m ps i e) =
      let n = law.numbers m i in
      let a : m.0 ≤ 65535 = n.0 in
      let b : m.1 ≤ 5 = n.1 in
      let c : length (map (fitting s) ps) ≡ length ps = length-map ps (fitting s) in
      let d : most_values (call_id m.0) ≡ 5 = ap (λ (z : Bool). cond z 5 1) (is_call_id m.0) in (
        record { id = call_id m.0; values = map (fitting s) ps },
        (event_refusals P (call_id m.0) (length (map (fitting s) ps))).is_none.1 (omega arith, (omega arith, right_count m (length (map (fitting s) ps)) i (c ∙ e))),
        call_meets s m.0 ps (omega arith),
      )
  meeting s (return_shaped m p i) =
      let a : m.0 ≤ 65535 = (law.numbers m i).0 in
      let d : most_values (return_id m.0) ≡ 1 = ap (λ (z : Bool). cond z 5 1) (is_return_id m.0) in (
        record { id = return_id m.0; values = fitting s p ∷ [] },
        (event_refusals P (return_id m.0) 1).is_none.1 (omega arith, (omega arith, no_call (return_id m.0) 1 (is_return_id m.0))),
        return_meets s m.0 p,
      )

  abbrev AllShaped : List Matcher → Type 0
  AllShaped ms = (m : Matcher) → m ∈ ms → Shaped P m

  -- so are some in turn
  meet_all : (ms : List Matcher) (s : Registers) → AllShaped ms → (X : List Event) × AllTaken P X × (s' : Registers) × (fares ms s X ≡ passes s')
  meet_all [] s f = ([], (λ e m. absurd (Memᴰ.not-nil m)), s, refl)
  meet_all (m ∷ ms) s f =
      let x = meeting s (f m (Memᴰ.head refl)) in
      let y = meet_all ms (writes s x.0 m) (λ n i. f n (Memᴰ.tail i)) in
      (x.0 ∷ y.0, (λ e i. ⊎_elim (λ (q : e ≡ x.0). subst (λ (z : Event). event_reason P z ≡ None) (sym q) x.1) (λ h. y.1 e h) (Memᴰ.cases_cons i)), y.2, rw x.2 y.3)

  -- what hangs may yet pass
  may_pass : (ms : List Matcher) (s : Registers) (es : List Event) → AllShaped ms → fares ms s es ≡ hangs → (X : List Event) × AllTaken P X × (s' : Registers) × (fares ms s (es ++ X) ≡ passes s')
  may_pass [] s es f h = absurd (passes≢hangs refl h)
  may_pass (m ∷ ms) s [] f h = meet_all (m ∷ ms) s f
  may_pass (m ∷ ms) s (a ∷ es) f h = go (meets s a m) (may_pass ms (writes s a m) es (λ n i. f n (Memᴰ.tail i))) h
    where
      go : (b : Bool) → (fares ms (writes s a m) es ≡ hangs → (X : List Event) × AllTaken P X × (s' : Registers) × (fares ms (writes s a m) (es ++ X) ≡ passes s')) → cond b (fares ms (writes s a m) es) fails ≡ hangs →
          (X : List Event) × AllTaken P X × (s' : Registers) × (cond b (fares ms (writes s a m) (es ++ X)) fails ≡ passes s')
      go true below i = below i
      go false below i = absurd (fails≢hangs refl i)

  shaped_statement : (t : ℕ × Statement) → t ∈ numbered P → AllShaped (matchers t.1)
  shaped_statement t i m j =
      ⊎_elim (λ (h : t.1 ∈ P.statements). ((law.statements_lawful t.1 h).matched m j).shaped)
      (λ (e : t ≡ (65, implied)). subst (Shaped P) (sym (Memᴰ.eq_of_singleton (subst (λ (u : ℕ × Statement). m ∈ matchers u.1) e j))) any_shaped)
      (written_or_implied 1 P.statements i)

  -- a skip lets every statement be calm
  skip_calm : {w : World} {p q n : ℕ} {c d : Configuration} → n ≡ 0 → Move P w p c n q d → (t : ℕ × Statement) → Leaves P c t → LetsSkip w.mode (outcome_of w p c t)
  skip_calm z (pass t s l e) u v = let k : length P.statements ≤ 64 = law.few_statements in let b : 1 ≤ t.0 = numbers 1 P.statements t (omega arith) l.0 in absurd (omega arith)
  skip_calm z (skip l f) u v = f u v

  module _ (L : List Event) where
    -- a move that every longer list keeps is one of a settled run
    settled_move : {p q n : ℕ} {c d : Configuration} → p ≤ length L → ((X : List Event) → AllTaken P X → (y : ℕ × Configuration) × Move P (closing (L ++ X)) p c n y.0 y.1) → Move P (closing L) p c n q d → Move P (so_far L) p c n q d
    settled_move b A (pass t s l e) = pass t s l e
    settled_move {p} {c = c} b A (skip l f) = skip l (λ t v. still t v (outcome_of (so_far L) p c t) refl)
      where
        still : (t : ℕ × Statement) → Leaves P c t → (o : Outcome) → outcome_of (so_far L) p c t ≡ o → outcome_of (so_far L) p c t ≡ fails
        still t v (passes s) i = absurd (f t v s i)
        still t v fails i = i
        still t v hangs i =
            let x = may_pass (matchers t.1) c.registers (drop p L) (shaped_statement t v.0) i in
            let k : outcome_of (closing (L ++ x.0)) p c t ≡ passes x.2 = ap (fares (matchers t.1) c.registers) (drop-append-le p L x.0 b) ∙ x.3 in
            absurd (skip_calm refl (A x.0 x.1).1 t v x.2 k)

    settled_replay : (ns : List ℕ) (x : ℕ × Configuration) → x.0 ≤ length L → ((X : List Event) → AllTaken P X → (y : ℕ × Configuration) × (replay P (closing (L ++ X)) ns x ≡ some y)) →
        (y : ℕ × Configuration) × (replay P (so_far L) ns x ≡ some y)
    settled_replay [] x b A = (x, refl)
    settled_replay (n ∷ ns) x b A = go (settled_replay ns)
      where
        -- the first step, for each longer list
        split : (w : World) (o : Option (ℕ × Configuration)) (y : ℕ × Configuration) → by_step P w n x ≡ o → then o (replay P w ns) ≡ some y → (z : ℕ × Configuration) × (by_step P w n x ≡ some z) × (replay P w ns z ≡ some y)
        split w none y i h = absurd (none≢some refl h)
        split w (some z) y i h = (z, i, h)

        step : (X : List Event) → AllTaken P X → (z : ℕ × Configuration) × (by_step P (closing (L ++ X)) n x ≡ some z) × ((y : ℕ × Configuration) × (replay P (closing (L ++ X)) ns z ≡ some y))
        step X a = let u = A X a in let v = split (closing (L ++ X)) (by_step P (closing (L ++ X)) n x) u.0 refl u.1 in (v.0, v.1, (u.0, v.2))

        no_more : AllTaken P []
        no_more e m = absurd (Memᴰ.not-nil m)

        z : ℕ × Configuration
        z = (step [] no_more).0

        moved : Move P (so_far L) x.0 x.1 n z.0 z.1
        moved =
            settled_move b (λ X a. let u = step X a in (u.0, step_sound P [] (closing (L ++ X)) n x.0 x.1 u.0 u.1))
            (subst (λ (es : List Event). Move P (closing es) x.0 x.1 n z.0 z.1) (append-nil L) (step_sound P [] (closing (L ++ [])) n x.0 x.1 z (step [] no_more).1))

        same_step : (X : List Event) → by_step P (closing (L ++ X)) n x ≡ some z
        same_step X =
            step_complete P [] (closing (L ++ X)) law.few_statements
            (keeps_closing P (L ++ X) x.0 z.0 n x.1 z.1 (let q : length (L ++ X) ≡ length L + length X = length-append L X in omega arith) (keeps_longer P L X x.0 z.0 n x.1 z.1 b moved))

        go : ((x : ℕ × Configuration) → x.0 ≤ length L → ((X : List Event) → AllTaken P X → (y : ℕ × Configuration) × (replay P (closing (L ++ X)) ns x ≡ some y)) → (y : ℕ × Configuration) × (replay P (so_far L) ns x ≡ some y)) →
            (y : ℕ × Configuration) × (then (by_step P (so_far L) n x) (replay P (so_far L) ns) ≡ some y)
        go below =
            let r = below z (move_bounds b moved).1 (λ X a. let u = step X a in (u.2.0, subst (λ (v : ℕ × Configuration). replay P (closing (L ++ X)) ns v ≡ some u.2.0) (some_same u.1 (same_step X)) u.2.1)) in
            (r.0, ap (λ (o : Option (ℕ × Configuration)). then o (replay P (so_far L) ns)) (step_complete P [] (so_far L) law.few_statements moved) ∙ r.1)

pub settled_runs : Certain
settled_runs P k L p path law = (there, back)
  where
    there : ErrsBy P k (so_far L) p path → (X : List Event) → AllTaken P X → ErrsBy P k (closing (L ++ X)) p path
    there x X a = (x.0, x.1, (persists P k L X p x.0 path x.2).2)

    back : ((X : List Event) → AllTaken P X → ErrsBy P k (closing (L ++ X)) p path) → ErrsBy P k (so_far L) p path
    back A =
        let x = A [] (λ e m. absurd (Memᴰ.not-nil m)) in
        let r = settled_replay P law L path (0, first_configuration k) (omega arith) (λ X a. let u = A X a in ((p, u.0), (replays P k (closing (L ++ X)) p u.0 path law).0 u.2)) in
        let s = (replays P k (so_far L) r.0.0 r.0.1 path law).1 r.1 in
        let t = (replays P k (closing (L ++ [])) r.0.0 r.0.1 path law).0 (persists P k L [] r.0.0 r.0.1 path s).2 in
        let e : r.0 ≡ (p, x.0) = some_same t ((replays P k (closing (L ++ [])) p x.0 path law).0 x.2) in
        (x.0, x.1, subst (λ (y : ℕ × Configuration). Reach P k (so_far L) y.0 y.1 path) e s)

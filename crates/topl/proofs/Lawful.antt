-- What a lawful table gives, and its test.
use Rattle.std.proofs.Common.{◌≡◌, ℕ, suc, ◌+◌, ◌/◌, ◌%◌, ◌≤◌, Bool, true, false, cond, not, eqb, ltb, leb, ◌⊎◌, ◌↔◌, List, [], ◌∷◌, map, length, sym, refl, ap, ◌∙◌, subst, inl, inr, ⊎_elim, true≢false, arith, ltb-true, lt-ltb, eq-eqb, ne_eqb, eqb-true, le-leb, leb-true}
use mathlib.Core.Bool.{false≢true}
use mathlib.Core.List.Memᴰ
use borrow.Author.Tests.{eqb_apart, not-true}
use Rattle.std.proofs.lemmas.Bool.{and_parts, and_from, not_from_false}
use Rattle.topl.specs.Lists.{Distinct, ◌∈◌, apart, each, every, holds}
use Rattle.topl.specs.Table.{Any, Differs, Lawful, LawfulMatcher, LawfulStatement, Matcher, Pattern, Same, Shaped, Statement, Table, Write, any_event, any_shaped, call_id, call_shaped, calls, count_from, error, event_of, fits_call, fits_return, implied, is_lawful, is_lawful_matcher, is_lawful_method, is_lawful_statement, is_shaped, matchers, names, numbered, overwrites, patterns, register_count, return_id, return_shaped, same_method, span}
use Rattle.topl.specs.Runs.{Configuration, Move, Reach, Registers, World, at_start, onward, pass, skip}
use Rattle.topl.specs.Theorems.{FewSteps, LabelsJoin, Tested}
use Rattle.topl.proofs.Basics.{Tests, eqb_tests, holds-∈, ∈-holds, apart_distinct}

-- every statement spans at most four events; none leaves `error`
abbrev pub Short : Table → Type 0
Short P = (t : ℕ × Statement) → t ∈ numbered P → span t.1 ≤ 4

abbrev pub Final : Table → Type 0
Final P = (t : ℕ × Statement) → t ∈ numbered P → ¬ (t.1.source ≡ error)

-- a numbered statement is a written one or the implied one
pub written_or_implied : {t : ℕ × Statement} (n : ℕ) (ts : List Statement) → t ∈ count_from n ts → (t.1 ∈ ts) ⊎ (t ≡ (65, implied))
written_or_implied n [] m = inr (Memᴰ.eq_of_singleton m)
written_or_implied {t} n (u ∷ ts) m = go (written_or_implied (suc n) ts) (Memᴰ.cases_cons m)
  where
    go : (t ∈ count_from (suc n) ts → (t.1 ∈ ts) ⊎ (t ≡ (65, implied))) → (t ≡ (n, u)) ⊎ (t ∈ count_from (suc n) ts) → (t.1 ∈ (u ∷ ts)) ⊎ (t ≡ (65, implied))
    go below (inl e) = inl (Memᴰ.head (λ j. (e j).1))
    go below (inr h) = ⊎_elim (λ x. inl (Memᴰ.tail x)) (λ e. inr e) (below h)

module _ (P : Table) (law : Lawful P) where
  pub lawful_short : Short P
  lawful_short t m =
      ⊎_elim (λ (h : t.1 ∈ P.statements). (law.statements_lawful t.1 h).short) (λ (e : t ≡ (65, implied)). let k : span t.1 ≡ 1 = (λ j. span (e j).1) in omega arith)
      (written_or_implied 1 P.statements m)

  pub lawful_final : Final P
  lawful_final t m q =
      ⊎_elim (λ (h : t.1 ∈ P.statements). (law.statements_lawful t.1 h).not_from_error q) (λ (e : t ≡ (65, implied)). let k : t.1.source ≡ 0 = (λ j. (e j).1.source) in omega arith)
      (written_or_implied 1 P.statements m)

  -- no matcher writes a register twice
  pub lawful_once : (t : ℕ × Statement) (m : Matcher) → t ∈ numbered P → m ∈ matchers t.1 → Distinct (each overwrites (patterns m))
  lawful_once t m i j =
      ⊎_elim (λ (h : t.1 ∈ P.statements). ((law.statements_lawful t.1 h).matched m j).once_written)
      (λ (e : t ≡ (65, implied)). subst (λ (m : Matcher). Distinct (each overwrites (patterns m))) (sym (Memᴰ.eq_of_singleton (subst (λ (u : ℕ × Statement). m ∈ matchers u.1) e j))) tt)
      (written_or_implied 1 P.statements i)

-- THE TEST
module _ {X : Type 0} (test : X → Bool) where
  pub every_sound : {x : X} {xs : List X} → x ∈ xs → every test xs ≡ true → test x ≡ true
  every_sound (Memᴰ.head {x = y} {xs = ys} e) h = subst (λ (z : X). test z ≡ true) (sym e) (and_parts (test y) (every test ys) h).0
  every_sound (Memᴰ.tail {x = y} {xs = ys} m) h = every_sound m (and_parts (test y) (every test ys) h).1

  pub every_complete : (xs : List X) → ((x : X) → x ∈ xs → test x ≡ true) → every test xs ≡ true
  every_complete [] f = refl
  every_complete (x ∷ xs) f = and_from (test x) (every test xs) (f x (Memᴰ.head refl)) (every_complete xs (λ y m. f y (Memᴰ.tail m)))

false_not : (b : Bool) → ¬ (b ≡ true) → b ≡ false
false_not true f = absurd (f refl)
false_not false f = refl

pub distinct_apart : {X : Type 0} {test : X → X → Bool} → Tests test → (xs : List X) → Distinct xs → apart test xs ≡ true
distinct_apart E [] d = refl
distinct_apart {test = test} E (x ∷ xs) d =
    and_from (not (holds test xs x)) (apart test xs) (not_from_false (holds test xs x) (false_not (holds test xs x) (λ h. d.0 (holds-∈ E xs x h)))) (distinct_apart E xs d.1)

method_tests : Tests same_method
method_tests = record {
  sound = λ a b e. let h = and_parts (eqb a.0 b.0) (eqb a.1 b.1) e in λ j. (eqb-true a.0 b.0 h.0 j, eqb-true a.1 b.1 h.1 j);
  complete = λ a. and_from (eqb a.0 a.0) (eqb a.1 a.1) (eq-eqb a.0 a.0 refl) (eq-eqb a.1 a.1 refl);
}

-- the ids of a method
pub call_half : (m : ℕ) → call_id m / 2 ≡ m
call_half m = omega arith

return_half : (m : ℕ) → return_id m / 2 ≡ m
return_half m = omega arith

pub is_call_id : (m : ℕ) → calls (call_id m) ≡ true
is_call_id m = let z : call_id m % 2 ≡ 0 = omega arith in eq-eqb (call_id m % 2) 0 z

pub is_return_id : (m : ℕ) → calls (return_id m) ≡ false
is_return_id m = let z : return_id m % 2 ≡ 1 = omega arith in ne_eqb (return_id m % 2) 0 (λ e. omega arith)

module _ (P : Table) where
  call_sound : (i : ℕ) (ps : List Pattern) → i ≡ call_id (i / 2) → fits_call P (i / 2) ps ≡ true → Shaped P (event_of i ps)
  call_sound i [] e h = absurd (false≢true h)
  call_sound i (Any ∷ ps) e h = subst (λ (j : ℕ). Shaped P (event_of j (Any ∷ ps))) (sym e) (call_shaped (i / 2, length ps) ps (holds-∈ method_tests P.methods (i / 2, length ps) h) refl)
  call_sound i (Write r ∷ ps) e h = absurd (false≢true h)
  call_sound i (Same r ∷ ps) e h = absurd (false≢true h)
  call_sound i (Differs r ∷ ps) e h = absurd (false≢true h)

  return_sound : (i : ℕ) (ps : List Pattern) → i ≡ return_id (i / 2) → fits_return P (i / 2) ps ≡ true → Shaped P (event_of i ps)
  return_sound i [] e h = absurd (false≢true h)
  return_sound i (p ∷ []) e h =
      let x = Memᴰ.of_map (λ (d : ℕ × ℕ). d.0) P.methods (holds-∈ eqb_tests (map (λ d. d.0) P.methods) (i / 2) h) in
      subst (λ (j : ℕ). Shaped P (event_of j (p ∷ []))) (ap return_id x.2 ∙ sym e) (return_shaped x.0 p x.1)
  return_sound i (p ∷ q ∷ ps) e h = absurd (false≢true h)

  shaped_sound : (m : Matcher) → is_shaped P m ≡ true → Shaped P m
  shaped_sound any_event h = any_shaped
  shaped_sound (event_of i ps) h = go (calls i) refl h
    where
      go : (b : Bool) → calls i ≡ b → cond b (fits_call P (i / 2) ps) (fits_return P (i / 2) ps) ≡ true → Shaped P (event_of i ps)
      go true e k = let z : i % 2 ≡ 0 = eqb-true (i % 2) 0 e in call_sound i ps (omega arith) k
      go false e k = let z : ¬ (i % 2 ≡ 0) = eqb_apart (i % 2) 0 e in return_sound i ps (omega arith) k

  shaped_complete : {m : Matcher} → Shaped P m → is_shaped P m ≡ true
  shaped_complete any_shaped = refl
  shaped_complete (call_shaped m ps i e) =
      rw (is_call_id m.0, call_half m.0) (∈-holds method_tests (subst (λ (d : ℕ × ℕ). d ∈ P.methods) (λ j. (m.0, sym e j)) i))
  shaped_complete (return_shaped m p i) = rw (is_return_id m.0, return_half m.0) (∈-holds eqb_tests (Memᴰ.map (λ (d : ℕ × ℕ). d.0) i))

  matcher_test : (m : Matcher) → (is_lawful_matcher P m ≡ true) ↔ LawfulMatcher P m
  matcher_test m = (there, back)
    where
      there : is_lawful_matcher P m ≡ true → LawfulMatcher P m
      there h =
          let a = and_parts (is_shaped P m) _ h in
          let b = and_parts (every (λ r. ltb r register_count) (each names (patterns m))) _ a.1 in
          let c = and_parts (apart eqb (each overwrites (patterns m))) _ b.1 in
          record {
            shaped = shaped_sound m a.0;
            in_range = λ r i. ltb-true r register_count (every_sound (λ r. ltb r register_count) i b.0);
            once_written = apart_distinct eqb_tests (each overwrites (patterns m)) c.0;
            constants_stay = λ r i k.
                true≢false (sym (∈-holds eqb_tests k) ∙ not-true (holds eqb P.constants r) (every_sound (λ r. not (holds eqb P.constants r)) i c.1));
          }

      back : LawfulMatcher P m → is_lawful_matcher P m ≡ true
      back l =
          and_from (is_shaped P m) _ (shaped_complete l.shaped)
          (and_from (every (λ r. ltb r register_count) (each names (patterns m))) _ (every_complete (λ r. ltb r register_count) (each names (patterns m)) (λ r i. lt-ltb r register_count (l.in_range r i)))
          (and_from (apart eqb (each overwrites (patterns m))) _ (distinct_apart eqb_tests (each overwrites (patterns m)) l.once_written)
          (every_complete (λ r. not (holds eqb P.constants r)) (each overwrites (patterns m))
          (λ r i. not_from_false (holds eqb P.constants r) (false_not (holds eqb P.constants r) (λ h. l.constants_stay r i (holds-∈ eqb_tests P.constants r h)))))))

  statement_test : (t : Statement) → (is_lawful_statement P t ≡ true) ↔ LawfulStatement P t
  statement_test t = (there, back)
    where
      there : is_lawful_statement P t ≡ true → LawfulStatement P t
      there h =
          let a = and_parts (leb (span t) 4) _ h in
          let b = and_parts (ltb t.source 16) _ a.1 in
          let c = and_parts (ltb t.target 16) _ b.1 in
          let d = and_parts (not (eqb t.source error)) _ c.1 in
          record {
            short = leb-true (span t) 4 a.0;
            from = ltb-true t.source 16 b.0;
            to = ltb-true t.target 16 c.0;
            not_from_error = eqb_apart t.source error (not-true (eqb t.source error) d.0);
            matched = λ m i. (matcher_test m).0 (every_sound (is_lawful_matcher P) i d.1);
          }

      back : LawfulStatement P t → is_lawful_statement P t ≡ true
      back l =
          and_from (leb (span t) 4) _ (le-leb (span t) 4 l.short)
          (and_from (ltb t.source 16) _ (lt-ltb t.source 16 l.from)
          (and_from (ltb t.target 16) _ (lt-ltb t.target 16 l.to)
          (and_from (not (eqb t.source error)) _ (not_from_false (eqb t.source error) (ne_eqb t.source error l.not_from_error))
          (every_complete (is_lawful_matcher P) (matchers t) (λ m i. (matcher_test m).1 (l.matched m i))))))

  method_test : (m : ℕ × ℕ) → (is_lawful_method m ≡ true) ↔ ((m.0 ≤ 65535) × (m.1 ≤ 5))
  method_test m = (
    λ h. let a = and_parts (leb m.0 65535) (leb m.1 5) h in (leb-true m.0 65535 a.0, leb-true m.1 5 a.1),
    λ l. and_from (leb m.0 65535) (leb m.1 5) (le-leb m.0 65535 l.0) (le-leb m.1 5 l.1),
  )

pub tested : Tested
tested P = (there, back)
  where
    there : is_lawful P ≡ true → Lawful P
    there h =
        let a = and_parts (leb (length P.methods) 32) _ h in
        let b = and_parts (every is_lawful_method P.methods) _ a.1 in
        let c = and_parts (apart eqb (map (λ m. m.0) P.methods)) _ b.1 in
        let d = and_parts (every (λ r. ltb r register_count) P.constants) _ c.1 in
        let e = and_parts (apart eqb P.constants) _ d.1 in
        let f = and_parts (leb (length P.statements) 64) _ e.1 in
        record {
          few_methods = leb-true (length P.methods) 32 a.0;
          numbers = λ m i. (method_test P m).0 (every_sound is_lawful_method i b.0);
          numbers_distinct = apart_distinct eqb_tests (map (λ m. m.0) P.methods) c.0;
          constants_held = λ r i. ltb-true r register_count (every_sound (λ r. ltb r register_count) i d.0);
          constants_distinct = apart_distinct eqb_tests P.constants e.0;
          few_statements = leb-true (length P.statements) 64 f.0;
          statements_lawful = λ t i. (statement_test P t).0 (every_sound (is_lawful_statement P) i f.1);
        }

    back : Lawful P → is_lawful P ≡ true
    back l =
        and_from (leb (length P.methods) 32) _ (le-leb (length P.methods) 32 l.few_methods)
        (and_from (every is_lawful_method P.methods) _ (every_complete is_lawful_method P.methods (λ m i. (method_test P m).1 (l.numbers m i)))
        (and_from (apart eqb (map (λ m. m.0) P.methods)) _ (distinct_apart eqb_tests (map (λ m. m.0) P.methods) l.numbers_distinct)
        (and_from (every (λ r. ltb r register_count) P.constants) _ (every_complete (λ r. ltb r register_count) P.constants (λ r i. lt-ltb r register_count (l.constants_held r i)))
        (and_from (apart eqb P.constants) _ (distinct_apart eqb_tests P.constants l.constants_distinct)
        (and_from (leb (length P.statements) 64) _ (le-leb (length P.statements) 64 l.few_statements)
        (every_complete (is_lawful_statement P) P.statements (λ t i. (statement_test P t).1 (l.statements_lawful t i))))))))

-- the number of a statement is at most 65
pub number_bound : {t : ℕ × Statement} (n : ℕ) (ts : List Statement) → n + length ts ≤ 65 → t ∈ count_from n ts → t.0 ≤ 65
number_bound {t} n [] l m = let e : t ≡ (65, implied) = Memᴰ.eq_of_singleton m in let k : t.0 ≡ 65 = (λ j. (e j).0) in omega arith
number_bound {t} n (u ∷ ts) l m = go (number_bound (suc n) ts (omega arith)) (Memᴰ.cases_cons m)
  where
    go : (t ∈ count_from (suc n) ts → t.0 ≤ 65) → (t ≡ (n, u)) ⊎ (t ∈ count_from (suc n) ts) → t.0 ≤ 65
    go below (inl e) = let k : t.0 ≡ n = (λ j. (e j).0) in omega arith
    go below (inr h) = below h

step_bound : {P : Table} {w : World} {p q n : ℕ} {c d : Configuration} → Lawful P → Move P w p c n q d → n ≤ 65
step_bound {P} law (pass t s l e) = let k : length P.statements ≤ 64 = law.few_statements in number_bound 1 P.statements (omega arith) l.0
step_bound law (skip l f) = omega arith

steps_few : {P : Table} {k : Registers} {w : World} {p : ℕ} {c : Configuration} {path : List ℕ} (n : ℕ) → Lawful P → Reach P k w p c path → n ∈ path → n ≤ 65
steps_few n law at_start m = absurd (Memᴰ.not-nil m)
steps_few n law (onward {n = x} {path = path} r v) m =
    ⊎_elim (λ (h : n ∈ path). steps_few n law r h) (λ (h : n ∈ (x ∷ [])). let e : n ≡ x = Memᴰ.eq_of_singleton h in let b : x ≤ 65 = step_bound law v in omega arith) (Memᴰ.append_cases path m)

pub few_steps : FewSteps
few_steps P k w p n c path law r m = steps_few n law r m

pub joined : LabelsJoin
joined source target l ls = refl

-- How rows fill, one configuration after the other: the laws of the loops that fill them.
use Rattle.std.proofs.Common.{◌≡◌, ℕ, ◌+◌, ◌<◌, Bool, true, false, cond, not, ◌||◌, eqb, ◌⊎◌, List, [], ◌∷◌, ◌++◌, length, get_or, take, sym, refl, ap, ◌∙◌, subst, inl, inr, ⊎_elim, true≢false, append_assoc, arith}
use mathlib.Core.Bool.{false≢true}
use Rattle.std.proofs.lemmas.List.{append-nil, length_push, take_more}
use Rattle.std.proofs.lemmas.Bool.{and_parts, and_from, or_cases, or_left, or_right, or_from, cases_Bool, not-true, not_from_false}
use Rattle.topl.specs.Lists.{apart, each, holds}
use Rattle.topl.specs.Runs.{Configuration, alikeᶜ}
use Rattle.topl.specs.Rows.{Filled, Over}
use Rattle.topl.specs.Deciding.{any_error}
use Rattle.topl.proofs.Basics.{Tests, alikeᶜ_tests, holds-∈, ∈-holds, bool_same}
use Rattle.topl.proofs.Deciding.{any_error_sound, any_error_complete}

cond_or : (b d : Bool) → cond b true d ≡ (b || d)
cond_or true d = refl
cond_or false d = refl

or_assoc : (a b d : Bool) → (a || (b || d)) ≡ ((a || b) || d)
or_assoc true b d = refl
or_assoc false b d = refl

or_false : (a : Bool) → (a || false) ≡ a
or_false true = refl
or_false false = refl

module _ {X : Type 0} (test : X → X → Bool) where
  pub holds_append : (xs ys : List X) (x : X) → holds test (xs ++ ys) x ≡ (holds test xs x || holds test ys x)
  holds_append [] ys x = refl
  holds_append (y ∷ xs) ys x =
      cond_or (test x y) (holds test (xs ++ ys) x) ∙ (ap (λ b. test x y || b) (holds_append xs ys x)
      ∙ (or_assoc (test x y) (holds test xs x) (holds test ys x) ∙ ap (λ b. b || holds test ys x) (sym (cond_or (test x y) (holds test xs x)))))

  pub holds_one : (x y : X) → holds test (y ∷ []) x ≡ test x y
  holds_one x y = cond_or (test x y) false ∙ or_false (test x y)

  module _ (E : Tests test) where
    pub apart_push : (xs : List X) (y : X) → apart test xs ≡ true → holds test xs y ≡ false → apart test (xs ++ y ∷ []) ≡ true
    apart_push [] y a h = refl
    apart_push (x ∷ xs) y a h =
        let p = and_parts (not (holds test xs x)) (apart test xs) a in
        let q : (test y x || holds test xs y) ≡ false = sym (cond_or (test y x) (holds test xs y)) ∙ h in
        and_from (not (holds test (xs ++ y ∷ []) x)) (apart test (xs ++ y ∷ []))
        (not_from_false (holds test (xs ++ y ∷ []) x)
        (holds_append xs (y ∷ []) x ∙ or_from (holds test xs x) (holds test (y ∷ []) x) (not-true (holds test xs x) p.0) (holds_one x y ∙ differ (cases_Bool (test x y)) (left (test y x) (holds test xs y) q))))
        (apart_push xs y p.1 (right (test y x) (holds test xs y) q))
      where
        left : (a b : Bool) → (a || b) ≡ false → a ≡ false
        left true b e = e
        left false b e = refl

        right : (a b : Bool) → (a || b) ≡ false → b ≡ false
        right true b e = absurd (true≢false e)
        right false b e = e

        differ : (test x y ≡ true) ⊎ (test x y ≡ false) → test y x ≡ false → test x y ≡ false
        differ (inr f) n = f
        differ (inl t) n = absurd (true≢false (sym (E.complete y) ∙ (ap (test y) (sym (E.sound x y t)) ∙ n)))

over_more : (cap : ℕ) (truth more : List Configuration) → Over cap truth → Over cap (truth ++ more)
over_more cap truth more (xs, a, l, f) = (xs, a, l, λ c h. holds_append alikeᶜ truth more c ∙ or_left (holds alikeᶜ truth c) (holds alikeᶜ more c) (f c h))

module _ (cap : ℕ) (row truth : List Configuration) (spilled : Bool) (F : Filled cap row truth spilled) (c : Configuration) where
  -- what is held of truth and c
  split : (d : Configuration) → holds alikeᶜ (truth ++ c ∷ []) d ≡ (holds alikeᶜ truth d || alikeᶜ d c)
  split d = holds_append alikeᶜ truth (c ∷ []) d ∙ ap (λ b. holds alikeᶜ truth d || b) (holds_one alikeᶜ d c)

  pub filled_held : holds alikeᶜ row c ≡ true → Filled cap row (truth ++ c ∷ []) spilled
  filled_held h = record {
    same = λ s d. bool_same (holds alikeᶜ row d) (holds alikeᶜ (truth ++ c ∷ []) d) (up d)
        (λ g. ⊎_elim (λ t. F.same s d ∙ t) (λ t. subst (λ z. holds alikeᶜ row z ≡ true) (sym (alikeᶜ_tests.sound d c t)) h) (or_cases (holds alikeᶜ truth d) (alikeᶜ d c) (sym (split d) ∙ g)));
    within = up;
    distinct = F.distinct;
    over = λ s. over_more cap truth (c ∷ []) (F.over s);
  }
    where
      up : (d : Configuration) → holds alikeᶜ row d ≡ true → holds alikeᶜ (truth ++ c ∷ []) d ≡ true
      up d g = split d ∙ or_left (holds alikeᶜ truth d) (alikeᶜ d c) (F.within d g)

  rows : (d : Configuration) → holds alikeᶜ (row ++ c ∷ []) d ≡ (holds alikeᶜ row d || alikeᶜ d c)
  rows d = holds_append alikeᶜ row (c ∷ []) d ∙ ap (λ b. holds alikeᶜ row d || b) (holds_one alikeᶜ d c)

  both : (d : Configuration) → holds alikeᶜ (row ++ c ∷ []) d ≡ true → holds alikeᶜ (truth ++ c ∷ []) d ≡ true
  both d g = split d ∙ ⊎_elim (λ t. or_left (holds alikeᶜ truth d) (alikeᶜ d c) (F.within d t)) (λ t. or_right (holds alikeᶜ truth d) (alikeᶜ d c) t) (or_cases (holds alikeᶜ row d) (alikeᶜ d c) (sym (rows d) ∙ g))

  pub filled_added : holds alikeᶜ row c ≡ false → Filled cap (row ++ c ∷ []) (truth ++ c ∷ []) spilled
  filled_added h = record {
    same = λ s d. rows d ∙ (ap (λ b. b || alikeᶜ d c) (F.same s d) ∙ sym (split d));
    within = both;
    distinct = apart_push alikeᶜ alikeᶜ_tests row c F.distinct h;
    over = λ s. over_more cap truth (c ∷ []) (F.over s);
  }

  pub filled_spilled : holds alikeᶜ row c ≡ false → length row ≡ cap → Filled cap row (truth ++ c ∷ []) true
  filled_spilled h n = record {
    same = λ s. absurd (true≢false s);
    within = λ d g. split d ∙ or_left (holds alikeᶜ truth d) (alikeᶜ d c) (F.within d g);
    distinct = F.distinct;
    over = λ s. (row ++ c ∷ [], apart_push alikeᶜ alikeᶜ_tests row c F.distinct h, (let l = length_push row c in omega arith), both);
  }

pub error_append : (xs ys : List Configuration) → any_error (xs ++ ys) ≡ (any_error xs || any_error ys)
error_append [] ys = refl
error_append (x ∷ xs) ys = ap (λ b. eqb x.state 1 || b) (error_append xs ys) ∙ or_assoc (eqb x.state 1) (any_error xs) (any_error ys)

pub error_early : (xs ys : List Configuration) → any_error xs ≡ true → any_error (xs ++ ys) ≡ true
error_early xs ys h = error_append xs ys ∙ or_left (any_error xs) (any_error ys) h

module _ {X : Type 0} (f : X → List Configuration) where
  pub each_append : (xs ys : List X) → each f (xs ++ ys) ≡ each f xs ++ each f ys
  each_append [] ys = refl
  each_append (x ∷ xs) ys = ap (λ z. f x ++ z) (each_append xs ys) ∙ sym (append_assoc (f x) (each f xs) (each f ys))

  pub each_more : (xs : List X) (i : ℕ) (d : X) → i < length xs → each f (take (i + 1) xs) ≡ each f (take i xs) ++ f (get_or xs i d)
  each_more xs i d l = ap (each f) (take_more xs i d l) ∙ (each_append (take i xs) (get_or xs i d ∷ []) ∙ ap (λ z. each f (take i xs) ++ z) (append-nil (f (get_or xs i d))))

error_moves : (xs ys : List Configuration) → ((c : Configuration) → holds alikeᶜ xs c ≡ true → holds alikeᶜ ys c ≡ true) → any_error xs ≡ true → any_error ys ≡ true
error_moves xs ys f h = let r = any_error_sound xs h in any_error_complete ys (holds-∈ alikeᶜ_tests ys r.0 (f r.0 (∈-holds alikeᶜ_tests r.1))) r.2

-- it depends on what is held
pub error_same : (xs ys : List Configuration) → ((c : Configuration) → holds alikeᶜ xs c ≡ holds alikeᶜ ys c) → any_error xs ≡ any_error ys
error_same xs ys f = bool_same (any_error xs) (any_error ys) (error_moves xs ys (λ c h. sym (f c) ∙ h)) (error_moves ys xs (λ c h. f c ∙ h))

pub filled_first : (cap : ℕ) (row : List Configuration) → apart alikeᶜ row ≡ true → Filled cap row row false
filled_first cap row a = record { same = λ s c. refl; within = λ c h. h; distinct = a; over = λ s. absurd (false≢true s) }

-- Laws of the words of specs/Lists.
use Rattle.std.proofs.Common.{◌≡◌, suc, ◌≤◌, Bool, true, false, cond, not, eqb, ◌⊎◌, List, [], ◌∷◌, length, sym, refl, ap, ◌∙◌, subst, inl, inr, ⊎_elim, true≢false, arith, eq-eqb, eqb-true}
use mathlib.Core.Bool.{false≢true}
use mathlib.Core.List.Memᴰ
use borrow.Author.Tests.{not-true}
use Rattle.std.proofs.lemmas.Bool.{and_parts, and_from, cond-true}
use Rattle.topl.specs.Lists.{Distinct, ◌∈◌, alike, apart, each, holds, once, same_class}
use Rattle.topl.specs.Runs.{Configuration, alikeᶜ}

module _ {X Y : Type 0} where
  pub ∈-each : (f : X → List Y) {x : X} {y : Y} {xs : List X} → x ∈ xs → y ∈ f x → y ∈ each f xs
  ∈-each f {y = y} (Memᴰ.head {xs = xs} e) h = Memᴰ.append_left (each f xs) (subst (λ z. y ∈ f z) e h)
  ∈-each f (Memᴰ.tail {x = a} m) h = Memᴰ.append_right (f a) (∈-each f m h)

  pub each-∈ : (f : X → List Y) {y : Y} (xs : List X) → y ∈ each f xs → (x : X) × (x ∈ xs) × (y ∈ f x)
  each-∈ f [] h = absurd (Memᴰ.not-nil h)
  each-∈ f {y} (a ∷ xs) h = go (each-∈ f xs) (Memᴰ.append_cases (f a) h)
    where
      go : (y ∈ each f xs → (x : X) × (x ∈ xs) × (y ∈ f x)) → (y ∈ f a) ⊎ (y ∈ each f xs) → (x : X) × (x ∈ (a ∷ xs)) × (y ∈ f x)
      go below (inl m) = (a, Memᴰ.head refl, m)
      go below (inr m) = let r = below m in (r.0, Memᴰ.tail r.1, r.2)

-- a test of equality
pub record Tests {X : Type 0} (test : X → X → Bool) : Type 0 where
  pub sound : (x y : X) → test x y ≡ true → x ≡ y
  pub complete : (x : X) → test x x ≡ true

pub eqb_tests : Tests eqb
eqb_tests = record { sound = eqb-true; complete = λ x. eq-eqb x x refl }

module _ {X : Type 0} {test : X → X → Bool} (E : Tests test) where
  alike_sound : (xs ys : List X) → alike test xs ys ≡ true → xs ≡ ys
  alike_sound [] [] e = refl
  alike_sound [] (y ∷ ys) e = absurd (false≢true e)
  alike_sound (x ∷ xs) [] e = absurd (false≢true e)
  alike_sound (x ∷ xs) (y ∷ ys) e =
      let h = and_parts (test x y) (alike test xs ys) e in
      let a : x ≡ y = E.sound x y h.0 in
      let b : xs ≡ ys = alike_sound xs ys h.1 in
      cc

  alike_complete : (xs : List X) → alike test xs xs ≡ true
  alike_complete [] = refl
  alike_complete (x ∷ xs) = and_from (test x x) (alike test xs xs) (E.complete x) (alike_complete xs)

  pub alike_tests : Tests (alike test)
  alike_tests = record { sound = alike_sound; complete = alike_complete }

  pub holds-∈ : (xs : List X) (x : X) → holds test xs x ≡ true → x ∈ xs
  holds-∈ [] x e = absurd (false≢true e)
  holds-∈ (y ∷ ys) x e = go (holds-∈ ys x) (test x y) refl e
    where
      go : (holds test ys x ≡ true → x ∈ ys) → (b : Bool) → test x y ≡ b → cond b true (holds test ys x) ≡ true → x ∈ (y ∷ ys)
      go below true t e' = Memᴰ.head (E.sound x y t)
      go below false t e' = Memᴰ.tail (below e')

  pub ∈-holds : {x : X} {xs : List X} → x ∈ xs → holds test xs x ≡ true
  ∈-holds {x} (Memᴰ.head {x = y} {xs = ys} e) = cond-true (test x y) true (holds test ys x) (subst (λ z. test x z ≡ true) e (E.complete x))
  ∈-holds {x} (Memᴰ.tail {x = y} {xs = ys} m) = go (test x y) (∈-holds m)
    where
      go : (b : Bool) → holds test ys x ≡ true → cond b true (holds test ys x) ≡ true
      go true e = refl
      go false e = e

  pub once-∈ : {z : X} (xs : List X) → z ∈ once test xs → z ∈ xs
  once-∈ [] h = h
  once-∈ {z} (x ∷ xs) h = go (holds test xs x) (once-∈ xs) h
    where
      step : (z ∈ once test xs → z ∈ xs) → (z ≡ x) ⊎ (z ∈ once test xs) → z ∈ (x ∷ xs)
      step f (inl e) = Memᴰ.head e
      step f (inr m) = Memᴰ.tail (f m)

      go : (b : Bool) → (z ∈ once test xs → z ∈ xs) → z ∈ cond b (once test xs) (x ∷ once test xs) → z ∈ (x ∷ xs)
      go true f m = Memᴰ.tail (f m)
      go false f m = step f (Memᴰ.cases_cons m)

  pub ∈-once : {z : X} (xs : List X) → z ∈ xs → z ∈ once test xs
  ∈-once [] h = h
  ∈-once {z} (x ∷ xs) h = go (holds test xs x) refl (∈-once xs) (Memᴰ.cases_cons h)
    where
      go : (b : Bool) → holds test xs x ≡ b → (z ∈ xs → z ∈ once test xs) → (z ≡ x) ⊎ (z ∈ xs) → z ∈ cond b (once test xs) (x ∷ once test xs)
      go true t f (inl e) = f (Memᴰ.cast e (holds-∈ xs x t))
      go true t f (inr m) = f m
      go false t f (inl e) = Memᴰ.head e
      go false t f (inr m) = Memᴰ.tail (f m)

  pub once_distinct : (xs : List X) → Distinct (once test xs)
  once_distinct [] = tt
  once_distinct (x ∷ xs) = go (holds test xs x) refl (once_distinct xs)
    where
      go : (b : Bool) → holds test xs x ≡ b → Distinct (once test xs) → Distinct (cond b (once test xs) (x ∷ once test xs))
      go true t d = d
      go false t d = (λ m. true≢false (sym (∈-holds (once-∈ xs m)) ∙ t), d)

module _ {X : Type 0} {test : X → X → Bool} (E : Tests test) where
  pub apart_distinct : (xs : List X) → apart test xs ≡ true → Distinct xs
  apart_distinct [] e = tt
  apart_distinct (x ∷ xs) e =
      let h = and_parts (not (holds test xs x)) (apart test xs) e in
      (λ m. true≢false (sym (∈-holds E m) ∙ not-true (holds test xs x) h.0), apart_distinct xs h.1)

pub bool_same : (a b : Bool) → (a ≡ true → b ≡ true) → (b ≡ true → a ≡ true) → a ≡ b
bool_same true b f g = sym (f refl)
bool_same false true f g = g refl
bool_same false false f g = refl

-- a list with each element once is no longer than a list that holds its elements
module _ {X : Type 0} where
  cut : {x : X} {ys : List X} → x ∈ ys → (zs : List X) × (length ys ≡ suc (length zs)) × ((z : X) → ¬ (z ≡ x) → z ∈ ys → z ∈ zs)
  cut {x} (Memᴰ.head {x = y} {xs = ys} e) = (ys, refl, λ z n m. ⊎_elim (λ e'. absurd (n (e' ∙ sym e))) (λ h. h) (Memᴰ.cases_cons m))
  cut {x} (Memᴰ.tail {x = y} {xs = ys} m) =
      let r = cut m in
      (y ∷ r.0, ap suc r.1, λ z n h. ⊎_elim (λ e. Memᴰ.head e) (λ h'. Memᴰ.tail (r.2 z n h')) (Memᴰ.cases_cons h))

  pub no_longer : (xs ys : List X) → Distinct xs → ((x : X) → x ∈ xs → x ∈ ys) → length xs ≤ length ys
  no_longer [] ys d f = omega arith
  no_longer (x ∷ xs) ys d f =
      let r = cut (f x (Memᴰ.head refl)) in
      let h : length xs ≤ length r.0 = no_longer xs r.0 d.1 (λ z m. r.2 z (λ e. d.0 (Memᴰ.cast (sym e) m)) (f z (Memᴰ.tail m))) in
      let e : length ys ≡ suc (length r.0) = r.1 in
      omega arith

  pub as_long : (xs ys : List X) → Distinct xs → Distinct ys → ((x : X) → x ∈ xs → x ∈ ys) → ((x : X) → x ∈ ys → x ∈ xs) → length xs ≡ length ys
  as_long xs ys d e f g = let a = no_longer xs ys d f in let b = no_longer ys xs e g in omega arith

pub same_tests : Tests same_class
same_tests = alike_tests eqb_tests

pub alikeᶜ_tests : Tests alikeᶜ
alikeᶜ_tests = record { sound = sound; complete = λ c. and_from (eqb c.state c.state) (alike same_class c.registers c.registers) (eq-eqb c.state c.state refl) ((alike_tests same_tests).complete c.registers) }
  where
    sound : (c d : Configuration) → alikeᶜ c d ≡ true → c ≡ d
    sound c d e =
        let h = and_parts (eqb c.state d.state) (alike same_class c.registers d.registers) e in
        let a : c.state ≡ d.state = eqb-true c.state d.state h.0 in
        let b : c.registers ≡ d.registers = (alike_tests same_tests).sound c.registers d.registers h.1 in
        λ i. record { state = a i; registers = b i }

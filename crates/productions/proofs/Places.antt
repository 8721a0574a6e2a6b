-- Lists that grow by what is new, and the places in them.
use Rattle.std.proofs.Common.{◌≡◌, ℕ, ◌+◌, ◌≤◌, Bool, true, false, cond, eqb, not, ◌&&◌, ◌==◌, List, [], ◌∷◌, ◌++◌, length, sym, refl, ap, ◌∙◌, subst, inl, inr, append_assoc, append-nil, arith, eqb-true, length-append}
use Rattle.std.proofs.lemmas.Bool.{cases_Bool}
use Rattle.std.proofs.lemmas.Bool.Decides.{nat_tests}
use Rattle.std.proofs.lemmas.Slice.Eq.{bytes_eq-Decides}
use Rattle.std.proofs.lemmas.List.Folds.{prefix_len-append}
use Rattle.std.proofs.lemmas.List.Sums.{prefix_len-le-length}
use Rattle.std.specs.List.{position_or_len}
use Rattle.topl.specs.Lists.{holds}
use Rattle.forms.proofs.Laws.{apart}
use Rattle.property.specs.States.{same_key}
use Rattle.property.specs.Words.{same}
use Rattle.productions.specs.Meaning.{firsts, firsts_after}

-- A test that says yes of equals alone, and of each of them.
pub record Tells {X : Type 0} (test : X → X → Bool) : Type 0 where
  pub equal : (x y : X) → test x y ≡ true → x ≡ y
  pub self : (x : X) → test x x ≡ true

-- Words are told apart.
pub words_tell : Tells same
words_tell = record {
  equal = λ x y e. (bytes_eq-Decides x y).0 e;
  self = λ x. (bytes_eq-Decides x x).1 refl;
}

-- Keys that the test calls the same are equal.
keys_equal : (c d : Bool) (x y : List ℕ) → cond c (d && same x y) (not d && same x y) ≡ true → (c ≡ d) × (x ≡ y)
keys_equal true true x y e = (refl, (bytes_eq-Decides x y).0 e)
keys_equal true false x y e = apart false e refl
keys_equal false true x y e = apart false e refl
keys_equal false false x y e = (refl, (bytes_eq-Decides x y).0 e)

-- A key is the same as itself.
keys_self : (c : Bool) (x : List ℕ) → cond c (c && same x x) (not c && same x x) ≡ true
keys_self true x = (bytes_eq-Decides x x).1 refl
keys_self false x = (bytes_eq-Decides x x).1 refl

-- Keys are told apart.
pub keys_tell : Tells same_key
keys_tell = record {
  equal = λ x y e. let h = keys_equal x.constant y.constant x.name y.name e in λ i. record { constant = h.0 i; name = h.1 i };
  self = λ x. keys_self x.constant x.name;
}

-- A list with each of some elements that was not in it yet.
abbrev pub grow : {X : Type 0} → (X → X → Bool) → List X → List X → List X
grow test [] acc = acc
grow test (x ∷ xs) acc = grow test xs (cond (position_or_len (test x) acc == length acc) (acc ++ x ∷ []) acc)

-- Some elements and then others.
pub grow_append : {X : Type 0} (test : X → X → Bool) (xs ys acc : List X) → grow test (xs ++ ys) acc ≡ grow test ys (grow test xs acc)
grow_append test [] ys acc = refl
grow_append test (x ∷ xs) ys acc = grow_append test xs ys (cond (position_or_len (test x) acc == length acc) (acc ++ x ∷ []) acc)

-- The list ys goes on where xs ends.
abbrev pub Goes : {X : Type 0} → List X → List X → Type 0
Goes {X} xs ys = (zs : List X) × (ys ≡ xs ++ zs)

-- A list goes on to itself.
pub goes_self : {X : Type 0} (xs : List X) → Goes xs xs
goes_self xs = ([], sym (append-nil xs))

-- What goes on goes on further.
pub goes_along : {X : Type 0} (xs ys zs : List X) → Goes xs ys → Goes ys zs → Goes xs zs
goes_along {X} xs ys zs (a, e) (b, f) = (a ++ b, f ∙ (ap (λ (u : List X). u ++ b) e ∙ append_assoc xs a b))

-- With one more element or none.
one_more : {X : Type 0} (t : Bool) (x : X) (acc : List X) → Goes acc (cond t (acc ++ x ∷ []) acc)
one_more true x acc = (x ∷ [], refl)
one_more false x acc = goes_self acc

-- A list that grows goes on.
pub goes_grow : {X : Type 0} (test : X → X → Bool) (xs acc : List X) → Goes acc (grow test xs acc)
goes_grow test [] acc = goes_self acc
goes_grow test (x ∷ xs) acc =
    let acc' = cond (position_or_len (test x) acc == length acc) (acc ++ x ∷ []) acc in
    goes_along acc acc' (grow test xs acc') (one_more (position_or_len (test x) acc == length acc) x acc) (goes_grow test xs acc')

-- PLACES
-- The place of an element that a list has by now stays its place where the list goes on.
place_by : {X : Type 0} (test : X → X → Bool) → Tells test → (x : X) (acc zs : List X) (t : Bool) → eqb (position_or_len (test x) acc) (length acc) ≡ t
    → position_or_len (test x) acc ≡ position_or_len (test x) (cond t (acc ++ x ∷ []) acc ++ zs)
place_by {X} test h x acc zs true e =
    let a : position_or_len (test x) ((acc ++ x ∷ []) ++ zs) ≡ position_or_len (test x) (acc ++ (x ∷ zs)) = ap (position_or_len (test x)) (append_assoc acc (x ∷ []) zs) in
    let b = prefix_len-append (λ y. not (test x y)) acc (x ∷ zs) in
    let c : position_or_len (test x) (x ∷ zs) ≡ 0 = ap (λ (v : Bool). cond (not v) (1 + position_or_len (test x) zs) 0) (h.self x) in
    let d : position_or_len (test x) (acc ++ (x ∷ zs)) ≡ length acc + position_or_len (test x) (x ∷ zs) = b ∙ ap (λ (v : Bool). cond v (length acc + position_or_len (test x) (x ∷ zs)) (position_or_len (test x) acc)) e in
    let f = eqb-true (position_or_len (test x) acc) (length acc) e in
    omega (arith, a, c, d, f)
place_by {X} test h x acc zs false e =
    sym (prefix_len-append (λ y. not (test x y)) acc zs ∙ ap (λ (v : Bool). cond v (length acc + position_or_len (test x) zs) (position_or_len (test x) acc)) e)

-- The place of an element is its place in every list that goes on from the one with it.
pub place_stays : {X : Type 0} (test : X → X → Bool) → Tells test → (x : X) (acc g : List X) → Goes (grow test (x ∷ []) acc) g
    → position_or_len (test x) acc ≡ position_or_len (test x) g
place_stays {X} test h x acc g (zs, e) =
    place_by test h x acc zs (eqb (position_or_len (test x) acc) (length acc)) refl ∙ ap (position_or_len (test x)) (sym e)

-- FIRST APPEARANCES
-- An element is in the list exactly if it stands before.
abbrev Agrees : {X : Type 0} → (X → X → Bool) → List X → List X → Type 0
Agrees {X} test before acc = (y : X) → holds test before y ≡ not (eqb (position_or_len (test y) acc) (length acc))

-- The test for an element behind one that is new, in numbers.
known_new : (n l : ℕ) (t : Bool) → n ≤ l → cond t true (not (eqb n l)) ≡ not (eqb (cond (eqb n l) (l + cond (not t) 1 0) n) (l + 1))
known_new n l true h = elim (cases_Bool (eqb n l)) [
  | inl e ↦ rw e (grind (arith, nat_tests))
  | inr e ↦ rw e (grind (arith, nat_tests))
]
known_new n l false h = elim (cases_Bool (eqb n l)) [
  | inl e ↦ rw e (grind (arith, nat_tests))
  | inr e ↦ rw e (grind (arith, nat_tests))
]

-- With an element that is new.
agrees_new : {X : Type 0} (test : X → X → Bool) (x : X) (before acc : List X) → Agrees test before acc → Agrees test (x ∷ before) (acc ++ x ∷ [])
agrees_new test x before acc h y =
    let a = prefix_len-append (λ z. not (test y z)) acc (x ∷ []) in
    let b = length-append acc (x ∷ []) in
    let c = prefix_len-le-length (λ z. not (test y z)) acc in
    let d : cond (test y x) true (holds test before y) ≡ cond (test y x) true (not (eqb (position_or_len (test y) acc) (length acc))) =
    ap (λ (v : Bool). cond (test y x) true v) (h y) in
    d ∙ (known_new (position_or_len (test y) acc) (length acc) (test y x) c
    ∙ sym (ap (λ (n : ℕ). not (eqb n (length (acc ++ x ∷ [])))) a ∙ ap (λ (n : ℕ). not (eqb (cond (eqb (position_or_len (test y) acc) (length acc)) (length acc + cond (not (test y x)) 1 0) (position_or_len (test y) acc)) n)) b))

-- With an element that stands before.
agrees_old : {X : Type 0} (test : X → X → Bool) → Tells test → (x : X) (before acc : List X) → eqb (position_or_len (test x) acc) (length acc) ≡ false → Agrees test before acc
    → Agrees test (x ∷ before) acc
agrees_old {X} test t x before acc e h y = by (test y x) refl
  where
    by : (v : Bool) → test y x ≡ v → cond v true (holds test before y) ≡ not (eqb (position_or_len (test y) acc) (length acc))
    by true f = sym (ap not (subst (λ (z : X). eqb (position_or_len (test z) acc) (length acc) ≡ false) (sym (t.equal y x f)) e))
    by false f = h y

-- A list grows by the elements that stand nowhere before.
grown : {X : Type 0} (test : X → X → Bool) → Tells test → (xs before acc : List X) → Agrees test before acc → grow test xs acc ≡ acc ++ firsts_after test before xs
grown test t [] before acc h = sym (append-nil acc)
grown {X} test t (x ∷ xs) before acc h = by (λ b a k. grown test t xs b a k) (eqb (position_or_len (test x) acc) (length acc)) refl
  where
    by : ((b a : List X) → Agrees test b a → grow test xs a ≡ a ++ firsts_after test b xs) → (v : Bool) → eqb (position_or_len (test x) acc) (length acc) ≡ v
        → grow test xs (cond v (acc ++ x ∷ []) acc) ≡ acc ++ cond (holds test before x) (firsts_after test (x ∷ before) xs) (x ∷ firsts_after test (x ∷ before) xs)
    by on true e =
        on (x ∷ before) (acc ++ x ∷ []) (agrees_new test x before acc h)
        ∙ (append_assoc acc (x ∷ []) (firsts_after test (x ∷ before) xs)
        ∙ sym (ap (λ (v : Bool). acc ++ cond v (firsts_after test (x ∷ before) xs) (x ∷ firsts_after test (x ∷ before) xs)) (h x ∙ ap not e)))
    by on false e =
        on (x ∷ before) acc (agrees_old test t x before acc e h)
        ∙ sym (ap (λ (v : Bool). acc ++ cond v (firsts_after test (x ∷ before) xs) (x ∷ firsts_after test (x ∷ before) xs)) (h x ∙ ap not e))

-- From nothing a list grows to the elements in the order of first appearance.
pub grown_firsts : {X : Type 0} (test : X → X → Bool) → Tells test → (xs : List X) → grow test xs [] ≡ firsts test xs
grown_firsts test t xs = grown test t xs [] [] (λ y. refl)

-- Searches in lists.
use Rattle.std.proofs.Common.{◌≡◌, ℕ, suc, ◌+◌, ◌≤◌, Bool, true, false, cond, ◌||◌, not, eqb, ltb, List, [], ◌∷◌, map, length, get_or, Some, None, Option, is_some, unwrap_or, sym, refl, ap, ◌∙◌, inl, inr, arith}
use Rattle.std.specs.List.{list_any, position, position_or_len, find as first}
use Rattle.std.specs.Option.{option_map}
use Rattle.std.proofs.lemmas.List.{length-map}
use Rattle.std.proofs.lemmas.List.Recursion.{is_position_or_len}
use Rattle.std.proofs.lemmas.Bool.{cases_Bool}
use Rattle.std.proofs.lemmas.Bool.Decides.{nat_tests}

module _ {A B : Type 0} (g : A → B) (f : B → Bool) where
  abbrev over : A → Bool
  over x = f (g x)

  -- The place in the list of what the elements stand for.
  abbrev place : List A → ℕ
  place xs = position_or_len f (map g xs)

  turned : (b : Bool) (n : ℕ) → cond (not b) (1 + n) 0 ≡ cond b 0 (1 + n)
  turned true n = refl
  turned false n = refl

  found_at : (xs : List A) → place xs ≡ position_or_len over xs
  found_at xs = is_position_or_len place over refl (λ x ys. turned (f (g x)) (place ys)) xs

  within : (b : Bool) (n m : ℕ) → n ≤ m → cond (not b) (1 + n) 0 ≤ suc m
  within true n m h = omega arith
  within false n m h = omega arith

  found_least : (xs : List A) → place xs ≤ length xs
  found_least [] = omega arith
  found_least (x ∷ xs) = within (f (g x)) (place xs) (length xs) (found_least xs)

  position_is : (xs : List A) → position over xs ≡ cond (ltb (place xs) (length xs)) (Some (place xs)) None
  position_is xs = ap (λ (n : ℕ). cond (ltb n (length xs)) (Some n) None) (sym (found_at xs))

  or_length : (n m : ℕ) → n ≤ m → unwrap_or (cond (ltb n m) (Some n) None) m ≡ n
  or_length n m h = elim (cases_Bool (ltb n m)) [
    | inl e ↦ ap (λ (b : Bool). unwrap_or (cond b (Some n) None) m) e
    | inr e ↦ (let k : m ≡ n = grind (arith, nat_tests) in ap (λ (b : Bool). unwrap_or (cond b (Some n) None) m) e ∙ k)
  ]

  some_within : (n m : ℕ) → n ≤ m → is_some (cond (ltb n m) (Some n) None) ≡ not (eqb n m)
  some_within n m h = elim (cases_Bool (ltb n m)) [
    | inl e ↦ ap (λ (b : Bool). is_some (cond b (Some n) None)) e ∙ grind (arith, nat_tests)
    | inr e ↦ ap (λ (b : Bool). is_some (cond b (Some n) None)) e ∙ grind (arith, nat_tests)
  ]

  -- The place, or the length where there is none.
  pub next_number : (xs : List A) (r : Option ℕ) (m n : ℕ) → r ≡ position over xs → m ≡ length xs → n ≡ unwrap_or r m → n ≡ place xs
  next_number xs r m n e h k =
      k ∙ (ap (λ (o : Option ℕ). unwrap_or o m) (e ∙ position_is xs) ∙ (ap (unwrap_or (cond (ltb (place xs) (length xs)) (Some (place xs)) None)) h ∙ or_length (place xs) (length xs) (found_least xs)))

  -- Whether there is none.
  pub not_held : (xs : List A) (r : Option ℕ) (b : Bool) → r ≡ position over xs → is_some r ≡ not b → b ≡ eqb (place xs) (length (map g xs))
  not_held xs r b e h =
      same_not b _ (sym h ∙ (ap is_some (e ∙ position_is xs) ∙ (some_within (place xs) (length xs) (found_least xs) ∙ ap (λ (n : ℕ). not (eqb (place xs) n)) (sym (length-map xs g)))))
    where
      same_not : (x y : Bool) → not x ≡ not y → x ≡ y
      same_not true true h = refl
      same_not false false h = refl
      same_not true false h = sym h
      same_not false true h = sym h

  -- The first element that passes, by its place.
  pub known_by : (xs : List A) → is_some (first over xs) ≡ ltb (place xs) (length (map g xs))
  known_by [] = refl
  known_by (x ∷ xs) = step (f (g x)) (known_by xs)
    where
      step : (b : Bool) → is_some (first over xs) ≡ ltb (place xs) (length (map g xs))
          → is_some (cond b (Some x) (first over xs)) ≡ ltb (cond (not b) (1 + place xs) 0) (suc (length (map g xs)))
      step true h = grind (arith, nat_tests)
      step false h = h ∙ grind (arith, nat_tests)

  named_by : (xs : List A) (d : B) → unwrap_or (option_map g (first over xs)) d ≡ get_or (map g xs) (place xs) d
  named_by [] d = refl
  named_by (x ∷ xs) d = step (f (g x)) (named_by xs d)
    where
      step : (b : Bool) → unwrap_or (option_map g (first over xs)) d ≡ get_or (map g xs) (place xs) d
          → unwrap_or (option_map g (cond b (Some x) (first over xs))) d ≡ get_or (g x ∷ map g xs) (cond (not b) (1 + place xs) 0) d
      step true h = refl
      step false h = let e : suc (place xs) ≡ 1 + place xs = omega arith in h ∙ ap (λ (k : ℕ). get_or (g x ∷ map g xs) k d) e

  pub named_some : (xs : List A) (x : A) (d : B) → first over xs ≡ Some x → get_or (map g xs) (place xs) d ≡ g x
  named_some xs x d e = sym (named_by xs d) ∙ ap (λ (o : Option A). unwrap_or (option_map g o) d) e

  pub named_none : (xs : List A) (d : B) → first over xs ≡ None → get_or (map g xs) (place xs) d ≡ d
  named_none xs d e = sym (named_by xs d) ∙ ap (λ (o : Option A). unwrap_or (option_map g o) d) e

  -- Whether one passes.
  pub any_map : (xs : List A) → list_any over xs ≡ list_any f (map g xs)
  any_map [] = refl
  any_map (x ∷ xs) = ap (λ (b : Bool). f (g x) || b) (any_map xs)

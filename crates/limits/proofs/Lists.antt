-- Lists without repeats, searches in lists, and runs of a class of bytes.
use Rattle.std.proofs.Common.{◌≡◌, ℕ, zero, suc, ◌+◌, ◌≤◌, Bool, true, false, cond, not, ◌⊎◌, List, [], ◌∷◌, ◌++◌, length, set, take, refl, ap, ◌∙◌, subst, inl, inr, ⊎_elim, arith}
use mathlib.Core.List.Memᴰ
use Rattle.std.specs.List.{list_any, position_or_len}
use Rattle.std.proofs.lemmas.Bool.{or_parts}
use Rattle.topl.specs.Lists.{◌∈◌, each, Distinct}
use Rattle.forms.specs.Bytes.{Every, Stops}
use Rattle.property.specs.Words.{front, past}

module _ {X : Type 0} where
  -- What joined lists without repeats are made of.
  pub distinct_parts : (xs ys : List X) → Distinct (xs ++ ys) → Distinct xs × Distinct ys × ((x : X) → x ∈ xs → ¬ (x ∈ ys))
  distinct_parts [] ys d = (tt, d, λ x m. absurd (Memᴰ.not-nil m))
  distinct_parts (y ∷ xs) ys d =
      let r = distinct_parts xs ys d.1 in (
        (λ m. d.0 (Memᴰ.append_left ys m), r.0),
        r.1,
        λ x m n. ⊎_elim (λ (e : x ≡ y). d.0 (Memᴰ.append_right xs (subst (λ (z : X). z ∈ ys) e n))) (λ (h : x ∈ xs). r.2 x h n) (Memᴰ.cases_cons m),
      )

  -- Lists without repeats that share nothing make one.
  pub distinct_join : (xs ys : List X) → Distinct xs → Distinct ys → ((x : X) → x ∈ xs → ¬ (x ∈ ys)) → Distinct (xs ++ ys)
  distinct_join [] ys d e f = e
  distinct_join (x ∷ xs) ys d e f =
      (λ m. ⊎_elim (λ h. d.0 h) (λ h. f x (Memᴰ.head refl) h) (Memᴰ.append_cases xs m), distinct_join xs ys d.1 e (λ z h. f z (Memᴰ.tail h)))

  -- One element more, which is none of them.
  pub distinct_more : (xs : List X) (x : X) → Distinct xs → ¬ (x ∈ xs) → Distinct (xs ++ x ∷ [])
  distinct_more xs x d n =
      distinct_join xs (x ∷ []) d ((λ m. Memᴰ.not-nil m), tt) (λ z m h. n (subst (λ (y : X). y ∈ xs) (Memᴰ.eq_of_singleton h) m))

module _ {X Y : Type 0} (f : X → List Y) where
  take_each : (n : ℕ) (xs : List X) (y : Y) → y ∈ each f (take n xs) → y ∈ each f xs
  take_each zero xs y m = absurd (Memᴰ.not-nil m)
  take_each (suc n) [] y m = m
  take_each (suc n) (x ∷ xs) y m =
      ⊎_elim (λ h. Memᴰ.append_left (each f xs) h) (λ h. Memᴰ.append_right (f x) (take_each n xs y h)) (Memᴰ.append_cases (f x) m)

  -- Fewer elements give no repeats either.
  pub distinct_take : (n : ℕ) (xs : List X) → Distinct (each f xs) → Distinct (each f (take n xs))
  distinct_take zero xs d = tt
  distinct_take (suc n) [] d = tt
  distinct_take (suc n) (x ∷ xs) d =
      let r = distinct_parts (f x) (each f xs) d in
      distinct_join (f x) (each f (take n xs)) r.0 (distinct_take n xs r.1) (λ y h m. r.2 y h (take_each n xs y m))

  -- What a list with one element set gives.
  pub set_each : (xs : List X) (i : ℕ) (x : X) (y : Y) → y ∈ each f (set xs i x) → (y ∈ f x) ⊎ (y ∈ each f xs)
  set_each [] i x y m = inr m
  set_each (z ∷ xs) zero x y m = ⊎_elim (λ h. inl h) (λ h. inr (Memᴰ.append_right (f z) h)) (Memᴰ.append_cases (f x) m)
  set_each (z ∷ xs) (suc i) x y m =
      ⊎_elim (λ h. inr (Memᴰ.append_left (each f xs) h)) (λ h. ⊎_elim (λ k. inl k) (λ k. inr (Memᴰ.append_right (f z) k)) (set_each xs i x y h))
      (Memᴰ.append_cases (f z) m)

  -- Setting an element whose own are new makes no repeats.
  pub distinct_set : (xs : List X) (i : ℕ) (x : X) → Distinct (each f xs) → Distinct (f x) → ((y : Y) → y ∈ f x → ¬ (y ∈ each f xs)) → Distinct (each f (set xs i x))
  distinct_set [] i x d e n = tt
  distinct_set (z ∷ xs) zero x d e n =
      distinct_join (f x) (each f xs) e (distinct_parts (f z) (each f xs) d).1 (λ y h m. n y h (Memᴰ.append_right (f z) m))
  distinct_set (z ∷ xs) (suc i) x d e n =
      let r = distinct_parts (f z) (each f xs) d in
      distinct_join (f z) (each f (set xs i x)) r.0 (distinct_set xs i x r.1 e (λ y h m. n y h (Memᴰ.append_right (f z) m)))
      (λ y h m. ⊎_elim (λ k. n y k (Memᴰ.append_left (each f xs) h)) (λ k. r.2 y h k) (set_each xs i x y m))

module _ {X : Type 0} (test : X → Bool) where
  -- A place found is in the list, or just past it.
  pub position_least : (xs : List X) → position_or_len test xs ≤ length xs
  position_least [] = omega arith
  position_least (x ∷ xs) = go (test x) (position_least xs)
    where
      go : (b : Bool) → position_or_len test xs ≤ length xs → cond (not b) (1 + position_or_len test xs) 0 ≤ suc (length xs)
      go true h = omega arith
      go false h = omega arith

  -- Where no place is found, no element passes.
  pub none_passes : (xs : List X) → length xs ≤ position_or_len test xs → (x : X) → x ∈ xs → test x ≡ false
  none_passes [] h x m = absurd (Memᴰ.not-nil m)
  none_passes (y ∷ xs) h x m = go (none_passes xs) (test y) refl h
    where
      go : (length xs ≤ position_or_len test xs → (x : X) → x ∈ xs → test x ≡ false) → (b : Bool) → test y ≡ b
          → suc (length xs) ≤ cond (not b) (1 + position_or_len test xs) 0 → test x ≡ false
      go below true e l = absurd (omega arith)
      go below false e l = ⊎_elim (λ (q : x ≡ y). ap test q ∙ e) (λ (q : x ∈ xs). below (omega arith) x q) (Memᴰ.cases_cons m)

  -- Where not any passes, none does.
  pub not_any : (xs : List X) → list_any test xs ≡ false → (x : X) → x ∈ xs → test x ≡ false
  not_any [] h x m = absurd (Memᴰ.not-nil m)
  not_any (y ∷ xs) h x m =
      let r = or_parts (test y) (list_any test xs) h in
      ⊎_elim (λ (q : x ≡ y). ap test q ∙ r.0) (λ (q : x ∈ xs). not_any xs r.1 x q) (Memᴰ.cases_cons m)

-- The bytes of a class that come first, and those after them.
pub front_run : (c : ℕ → Bool) (w r : List ℕ) → Every c w → Stops c r → front c (w ++ r) ≡ w
front_run c [] [] h s = refl
front_run c [] (b ∷ r) h s = ap (λ (x : Bool). cond x (b ∷ front c r) []) s
front_run c (b ∷ w) r h s = ap (λ (x : Bool). cond x (b ∷ front c (w ++ r)) []) h.0 ∙ ap (λ (x : List ℕ). b ∷ x) (front_run c w r h.1 s)

pub past_run : (c : ℕ → Bool) (w r : List ℕ) → Every c w → Stops c r → past c (w ++ r) ≡ r
past_run c [] [] h s = refl
past_run c [] (b ∷ r) h s = ap (λ (x : Bool). cond x (past c r) (b ∷ r)) s
past_run c (b ∷ w) r h s = ap (λ (x : Bool). cond x (past c (w ++ r)) (b ∷ (w ++ r))) h.0 ∙ past_run c w r h.1 s

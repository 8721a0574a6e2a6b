-- Parts of a text, by place.
use Rattle.std.proofs.Common.{◌≡◌, ℕ, zero, suc, ◌+◌, ◌-◌, ◌<◌, ◌≤◌, min, Bool, true, false, cond, not, ◌&&◌, eqb, ltb, leb, Some, None, Option, List, [], ◌∷◌, ◌++◌, length, get_or, take, drop, sym, refl, ap, ◌∙◌, subst, inl, inr, append_assoc, arith}
use Rattle.std.proofs.lemmas.List.{append_cancel_right, length-append, take-append-drop, drop-drop, length-take-le, length-drop, get_or-drop, drop_more, drop_all, get_or_past, take_all}
use Rattle.std.specs.List.{position, starts_with}
use Rattle.std.proofs.lemmas.List.Quantifiers.{position-Some}
use Rattle.std.proofs.lemmas.List.Sums.{fails_before_first}
use Rattle.std.proofs.lemmas.Bool.{cases_lt, not-false, not-true}
use Rattle.std.proofs.lemmas.Bool.Decides.{nat_tests, Decides-eqb}
use Rattle.std.proofs.lemmas.Slice.Eq.{starts_is}
use Rattle.forms.specs.Bytes.{Every, Stops}
use Rattle.property.specs.Reading.{Passed}
use Rattle.property.specs.Views.{slice, spelled}
use Rattle.property.specs.Words.{front, past, first_byte}

pub split : (t : List ℕ) (p q : ℕ) → p ≤ q → drop p t ≡ slice t p q ++ drop q t
split t p q h =
    let e : p + (q - p) ≡ q = omega arith in
    sym (take-append-drop (q - p) (drop p t)) ∙ ap (λ (x : List ℕ). slice t p q ++ x) (drop-drop (q - p) p t ∙ ap (λ (x : ℕ). drop x t) e)

pub length_slice : (t : List ℕ) (p q : ℕ) → p ≤ q → q ≤ length t → length (slice t p q) ≡ q - p
length_slice t p q h l = length-take-le (q - p) (drop p t) (omega (arith, length-drop p t))

pub slices : (t : List ℕ) (p q r : ℕ) → p ≤ q → q ≤ r → slice t p q ++ slice t q r ≡ slice t p r
slices t p q r h l =
    append_cancel_right (slice t p q ++ slice t q r) (slice t p r) (drop r t)
    (append_assoc (slice t p q) (slice t q r) (drop r t)
    ∙ (ap (λ (x : List ℕ). slice t p q ++ x) (sym (split t q r l)) ∙ (sym (split t p q h) ∙ split t p r (omega arith))))

every_take : (c : ℕ → Bool) (s : List ℕ) (n : ℕ) → n ≤ length s → ((k : ℕ) → k < n → c (get_or s k 0) ≡ true) → Every c (take n s)
every_take c s zero h f = tt
every_take c [] (suc n) h f = tt
every_take c (b ∷ s) (suc n) h f = (f 0 (omega arith), every_take c s n (omega arith) (λ k l. f (suc k) (omega arith)))

stops_at : (c : ℕ → Bool) (s : List ℕ) → (0 < length s → c (get_or s 0 0) ≡ false) → Stops c s
stops_at c [] f = tt
stops_at c (b ∷ s) f = f (omega arith)

pub stops_drop : (c : ℕ → Bool) (t : List ℕ) (q : ℕ) → (q < length t → c (get_or t q 0) ≡ false) → Stops c (drop q t)
stops_drop c t q f =
    stops_at c (drop q t) (λ h.
    let e : q + 0 ≡ q = omega arith in
    let g : get_or (drop q t) 0 0 ≡ get_or t q 0 = get_or-drop q t 0 0 ∙ ap (λ (x : ℕ). get_or t x 0) e in
    ap c g ∙ f (omega (arith, h, length-drop q t)))

pub every_slice : (c : ℕ → Bool) (t : List ℕ) (p q : ℕ) → Passed c t p q → Every c (slice t p q)
every_slice c t p q x =
    every_take c (drop p t) (q - p) (omega (arith, x.low, x.high, length-drop p t)) (λ k l.
    ap c (get_or-drop p t k 0) ∙ x.every (p + k) (omega arith) (omega arith))

pub slice_cons : (t : List ℕ) (p q : ℕ) → p < q → q ≤ length t → slice t p q ≡ get_or t p 0 ∷ slice t (p + 1) q
slice_cons t p q h l =
    let e : q - p ≡ suc (q - (p + 1)) = omega arith in
    ap (λ (x : ℕ). take x (drop p t)) e ∙ ap (take (suc (q - (p + 1)))) (drop_more t p 0 (omega arith))

front_run : (c : ℕ → Bool) (w r : List ℕ) → Every c w → Stops c r → (front c (w ++ r) ≡ w) × (past c (w ++ r) ≡ r)
front_run c [] [] h s = (refl, refl)
front_run c [] (b ∷ r) h s = (ap (λ (x : Bool). cond x (b ∷ front c r) []) s, ap (λ (x : Bool). cond x (past c r) (b ∷ r)) s)
front_run c (b ∷ w) r h s =
    let y = front_run c w r h.1 s in (
      ap (λ (x : Bool). cond x (b ∷ front c (w ++ r)) []) h.0 ∙ ap (λ (x : List ℕ). b ∷ x) y.0,
      ap (λ (x : Bool). cond x (past c (w ++ r)) (b ∷ (w ++ r))) h.0 ∙ y.1,
    )

-- What a skip has passed, and what is left.
pub front_passed : (c : ℕ → Bool) (t : List ℕ) (p q : ℕ) → Passed c t p q → front c (drop p t) ≡ slice t p q
front_passed c t p q x =
    ap (front c) (split t p q x.low) ∙ (front_run c (slice t p q) (drop q t) (every_slice c t p q x) (stops_drop c t q x.stops)).0

drop_min : (t : List ℕ) (a : ℕ) → drop a t ≡ drop (min a (length t)) t
drop_min t a = elim (cases_lt a (length t)) [
  | inl l ↦ (let e : a ≡ min a (length t) = omega arith in ap (λ (k : ℕ). drop k t) e)
  | inr l ↦ (let e : length t ≡ min a (length t) = omega arith in drop_all a t l ∙ (sym (drop_all (length t) t (omega arith)) ∙ ap (λ (k : ℕ). drop k t) e))
]

pub past_passed : (c : ℕ → Bool) (t : List ℕ) (p q : ℕ) → Passed c t (min p (length t)) q → past c (drop p t) ≡ drop q t
past_passed c t p q x =
    let m = min p (length t) in
    ap (past c) (drop_min t p ∙ split t m q x.low) ∙ (front_run c (slice t m q) (drop q t) (every_slice c t m q x) (stops_drop c t q x.stops)).1

-- A place within the text.
pub passed_in : (c : ℕ → Bool) (t : List ℕ) (p q : ℕ) → p ≤ length t → Passed c t (min p (length t)) q → Passed c t p q
passed_in c t p q h x = let e : min p (length t) ≡ p = omega arith in subst (λ (k : ℕ). Passed c t k q) e x

pub first_drop : (t : List ℕ) (q : ℕ) → first_byte (drop q t) ≡ get_or t q 0
first_drop t q = elim (cases_lt q (length t)) [
  | inl h ↦ ap first_byte (drop_more t q 0 h)
  | inr h ↦ ap first_byte (drop_all q t h) ∙ sym (get_or_past t q 0 h)
]

inside : (f q n : ℕ) → f ≤ q → q ≤ n → leb f q && leb q n ≡ true
inside f q n h k = grind (arith, nat_tests)

-- A name inside the text.
pub spelled_slice : (t : List ℕ) (f q : ℕ) → f ≤ q → q ≤ length t → spelled t (record { from = f; to = q }) ≡ slice t f q
spelled_slice t f q h k = ap (λ (b : Bool). cond b (slice t f q) []) (inside f q (length t) h k)

whole : (t : List ℕ) (a : ℕ) → take (length t - a) (drop a t) ≡ drop a t
whole t a = take_all (length t - a) (drop a t) (omega (arith, length-drop a t))

every_get : (c : ℕ → Bool) (s r : List ℕ) (k : ℕ) → Every c s → k < length s → c (get_or (s ++ r) k 0) ≡ true
every_get c [] r k e h = absurd (omega (arith, h))
every_get c (b ∷ s) r zero e h = e.0
every_get c (b ∷ s) r (suc k) e h = every_get c s r k e.1 (omega arith)

-- Where bytes of the class stand, which the text is found to go on with at a place.
pub goes_on : (c : ℕ → Bool) (t p : List ℕ) (a : ℕ) (b : Bool) → a ≤ length t → Every c p → b ≡ starts_with eqb (take (length t - a) (drop a t)) p → b ≡ true
    → (a + length p ≤ length t) × ((k : ℕ) → a ≤ k → k < a + length p → c (get_or t k 0) ≡ true)
goes_on c t p a b h e s y =
    let v : drop a t ≡ p ++ drop (length p) (drop a t) = (starts_is Decides-eqb (drop a t) p b (s ∙ ap (λ (u : List ℕ). starts_with eqb u p) (whole t a))).0 y in (
      omega (arith, ap length v, length-append p (drop (length p) (drop a t)), length-drop a t),
      λ k i j.
          let x : a + (k - a) ≡ k = omega arith in
          sym (ap (λ (n : ℕ). c (get_or t n 0)) x)
          ∙ (sym (ap c (get_or-drop a t (k - a) 0))
          ∙ (ap (λ (u : List ℕ). c (get_or u (k - a) 0)) v ∙ every_get c p (drop (length p) (drop a t)) (k - a) e (omega arith))),
    )

-- Where the class is left first after a place.
pub passed_to : (c : ℕ → Bool) (t : List ℕ) (a n : ℕ) (r : Option ℕ) → a ≤ length t → r ≡ position (λ b. not (c b)) (take (length t - a) (drop a t)) → r ≡ Some n
    → Passed c t a (a + n)
passed_to c t a n r h f g =
    let e : position (λ b. not (c b)) (drop a t) ≡ Some n = ap (position (λ b. not (c b))) (sym (whole t a)) ∙ (sym f ∙ g) in
    let p = position-Some (λ b. not (c b)) (drop a t) n 0 e in
    let l = p.0 in
    let m : a + n < length t = omega (arith, l, length-drop a t) in
    let low : a ≤ a + n = omega arith in
    let high : a + n ≤ length t = omega arith in
    record {
      low = low;
      high = high;
      every = λ k i j.
          let x : a + (k - a) ≡ k = omega arith in
          sym (ap (λ (y : ℕ). c (get_or t y 0)) x) ∙ (sym (ap c (get_or-drop a t (k - a) 0)) ∙ not-false _ (p.2 (k - a) (omega arith)));
      stops = λ _. sym (ap c (get_or-drop a t n 0)) ∙ not-true _ p.1;
    }

pub passed_all : (c : ℕ → Bool) (t : List ℕ) (a : ℕ) (r : Option ℕ) → a ≤ length t → r ≡ position (λ b. not (c b)) (take (length t - a) (drop a t)) → r ≡ None
    → Passed c t a (length t)
passed_all c t a r h f g =
    let e : position (λ b. not (c b)) (drop a t) ≡ None = ap (position (λ b. not (c b))) (sym (whole t a)) ∙ (sym f ∙ g) in
    let low : length t ≤ length t = omega arith in
    record {
      low = h;
      high = low;
      every = λ k i j.
          let x : a + (k - a) ≡ k = omega arith in
          sym (ap (λ (y : ℕ). c (get_or t y 0)) x)
          ∙ (sym (ap c (get_or-drop a t (k - a) 0))
          ∙ not-false _ (fails_before_first (λ b. not (c b)) (drop a t) (k - a) 0 (omega (arith, nowhere_left _ _ e, length-drop a t))));
      stops = λ l. absurd (omega arith);
    }
  where
    nowhere_left : (n m : ℕ) → cond (ltb n m) (Some n) None ≡ None → m ≤ n
    nowhere_left n m e = elim (cases_lt n m) [
      | inl l ↦ absurd (let x : ltb n m ≡ true = grind (arith, nat_tests) in let y : ◌≡◌ {A = Option ℕ} (Some n) None = sym (ap (λ (b : Bool). cond b (Some n) None) x) ∙ e in let z : ◌≡◌ {A = ℕ} 0 1 = cc in omega arith)
      | inr l ↦ l
    ]

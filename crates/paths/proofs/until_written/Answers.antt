use Rattle.std.proofs.Common.{◌≡◌, ℕ, zero, suc, ◌<◌, Bool, true, false, cond, List, [], ◌∷◌, length, take, MatchOption, Option, sym, refl, ap, ◌∙◌, subst, add-one, arith, rules, tests}
use Rattle.std.proofs.lemmas.Iterator.{IsFirst-from_position, YieldsList-from_slice}
use Rattle.std.specs.List.{AllWithin, HoldsAt}
use Rattle.paths.specs.Paths.{event_writes, through}
use Rattle.paths.proofs.until_written.Goals as goal

module _ {A : Type 0} (f : A → Bool) where
  ends : (xs : List A) (i : ℕ) → (i < length xs) × HoldsAt (λ x. f x ≡ true) xs i × AllWithin (λ x. f x ≡ false) xs 0 i → take (suc i) xs ≡ through f xs
  ends [] i h = absurd (let l = h.0 in omega arith)
  ends (x ∷ xs) zero h = ap (λ (b : Bool). x ∷ cond b [] (through f xs)) (sym (h.1 x))
  ends (x ∷ xs) (suc i) h =
      let l = h.0 in
      let m : i < length xs = omega arith in
      let g : AllWithin (λ x. f x ≡ false) xs 0 i = λ k d a b. h.2 (suc k) d (omega arith) (omega arith) in
      ap (λ (ys : List A). x ∷ ys) (ends xs i (m, h.1, g)) ∙ ap (λ (b : Bool). x ∷ cond b [] (through f xs)) (sym (h.2 0 x (omega arith) (omega arith)))

  never : (xs : List A) → AllWithin (λ x. f x ≡ false) xs 0 (length xs) → xs ≡ through f xs
  never [] h = refl
  never (x ∷ xs) h =
      let g : AllWithin (λ x. f x ≡ false) xs 0 (length xs) = λ k d a b. h (suc k) d (omega arith) (omega arith) in
      ap (λ (ys : List A). x ∷ ys) (never xs g) ∙ ap (λ (b : Bool). x ∷ cond b [] (through f xs)) (sym (h 0 x (omega arith) (omega arith)))

-- What a search by place tells: no element passes the test, or the first that does is at the place.
abbrev FirstPass : {A : Type 0} → (A → Bool) → List A → Option ℕ → Type 0
FirstPass f xs o =
    MatchOption o (AllWithin (λ x. f x ≡ false) xs 0 (length xs)) (λ i. (i < length xs) × HoldsAt (λ x. f x ≡ true) xs i × AllWithin (λ x. f x ≡ false) xs 0 i)

pub returns-in-Some : goal.returns-in-Some
returns-in-Some c =
    let es = c.args.events.now in
    let f = event_writes c.args.x in
    let found : FirstPass f es c.position.result =
    IsFirst-from_position _ _ c.position.result (λ e. f e ≡ true) (λ e. f e ≡ false) c.position.ensures.ran (YieldsList-from_slice es cc) (λ x q k. search (rules, tests)) (λ x q k. search (rules, tests)) in
    ap (λ (n : ℕ). take n es) (add-one c.in-Some.i) ∙ ends f es c.in-Some.i (subst (FirstPass f es) c.in-Some.is found)

pub returns-in-None : goal.returns-in-None
returns-in-None c =
    let es = c.args.events.now in
    let f = event_writes c.args.x in
    let found : FirstPass f es c.position.result =
    IsFirst-from_position _ _ c.position.result (λ e. f e ≡ true) (λ e. f e ≡ false) c.position.ensures.ran (YieldsList-from_slice es cc) (λ x q k. search (rules, tests)) (λ x q k. search (rules, tests)) in
    never f es (subst (FirstPass f es) c.in-None.is found)

-- The window of events: what a shift and a write leave.
use Rattle.std.proofs.Common.{◌≡◌, ℕ, zero, suc, ◌+◌, ◌-◌, ◌<◌, ◌≤◌, List, [], ◌∷◌, ◌++◌, length, get_or, take, drop, set, sym, ap, ◌∙◌, subst, arith, length-drop}
use lib.Seq.{take-paste, paste}
use Rattle.std.proofs.lemmas.List.{drop-drop, drop_more, take_all, take_more_set}
use Rattle.std.proofs.lemmas.Slice.Zip.{AllZip-long, all_zipped_more}
use Rattle.topl.specs.Lists.{Class}
use Rattle.topl.specs.Table as T
use Rattle.engine.specs.declared.window.Witnessed.{Witnessed}
use Rattle.engine.specs.Views.{Shown, Seen}

-- all but the first are copied to the front
pub shifted : {X : Type 0} (xs ys : List X) (by n : ℕ) → n + by ≡ length xs → ys ≡ paste xs 0 (drop by xs) n → take n ys ≡ drop by xs
shifted xs ys by n e h =
    let d = length-drop by xs in
    ap (take n) h ∙ (ap (λ (z : ℕ). take z (paste xs 0 (drop by xs) n)) (let z : n ≡ 0 + n = omega arith in z) ∙ (take-paste xs 0 (drop by xs) n (omega arith) (omega arith) ∙ take_all n (drop by xs) (omega arith)))

module _ {V : Type 0} (class : V → Class) where
  pub seen_long : (xs : List (Witnessed V)) (es : List T.Event) → Seen class xs es → length es ≡ length xs
  seen_long xs es S = AllZip-long (Shown class) xs es S

  shown_at : (xs : List (Witnessed V)) (es : List T.Event) → Seen class xs es → (i : ℕ) (x : Witnessed V) (none : T.Event) → i < length xs → x ≡ get_or xs i x → Shown class x (get_or es i none)
  shown_at [] es S i x none l e = absurd (omega arith)
  shown_at (y ∷ ys) [] S i x none l e = absurd S
  shown_at (y ∷ ys) (f ∷ fs) S zero x none l e = subst (λ (z : Witnessed V). Shown class z f) (sym e) S.0
  shown_at (y ∷ ys) (f ∷ fs) S (suc i) x none l e = shown_at ys fs S.1 i x none (omega arith) e

  -- one that was read
  pub seen_at : (xs : List (Witnessed V)) (es : List T.Event) → Seen class xs es → (i : ℕ) (x : Witnessed V) → i < length xs → x ≡ get_or xs i x → (e : T.Event) × Shown class x e × (drop i es ≡ e ∷ drop (i + 1) es)
  seen_at xs es S i x l is =
      let n = seen_long xs es S in
      let none : T.Event = record { id = 0; values = [] } in
      (get_or es i none, shown_at xs es S i x none l is, drop_more es i none (omega arith))

  -- the events without the first ones
  pub seen_drop : (n : ℕ) (xs : List (Witnessed V)) (es : List T.Event) → Seen class xs es → Seen class (drop n xs) (drop n es)
  seen_drop zero xs es S = S
  seen_drop (suc n) [] [] S = S
  seen_drop (suc n) [] (e ∷ es) S = absurd S
  seen_drop (suc n) (x ∷ xs) [] S = absurd S
  seen_drop (suc n) (x ∷ xs) (e ∷ es) S = seen_drop n xs es S.1

  -- and with one more
  pub witnessed : (xs : List (Witnessed V)) (at : ℕ) (x : Witnessed V) (es : List T.Event) (e : T.Event) → at < length xs → Shown class x e → Seen class (take at xs) es → Seen class (take (at + 1) (set xs at x)) (es ++ e ∷ [])
  witnessed xs at x es e l s S =
      subst (λ z. Seen class z (es ++ e ∷ [])) (sym (take_more_set xs at x l)) (all_zipped_more (Shown class) (take at xs) es x e S s)

  module _ (L : List T.Event) where
    -- four events, and the last three of them
    pub forget_first : (xs ys : List (Witnessed V)) → length xs ≡ 4 → take 3 ys ≡ drop 1 xs → Seen class (take 4 xs) (drop (length L - 4) L) → Seen class (take 3 ys) (drop (length L - 3) L)
    forget_first xs ys four e S =
        let a : take 4 xs ≡ xs = take_all 4 xs (omega arith) in
        let n = seen_long (take 4 xs) (drop (length L - 4) L) S in
        let m = length-drop (length L - 4) L in
        let k = ap length a in
        let d : drop (length L - 3) L ≡ drop 1 (drop (length L - 4) L) = ap (λ (z : ℕ). drop z L) (let z : length L - 3 ≡ length L - 4 + 1 = omega arith in z) ∙ sym (drop-drop 1 (length L - 4) L) in
        subst (λ z. Seen class z (drop (length L - 3) L)) (ap (drop 1) a ∙ sym e) (subst (Seen class (drop 1 (take 4 xs))) (sym d) (seen_drop 1 (take 4 xs) (drop (length L - 4) L) S))

    -- fewer are all
    pub forget_none : (xs : List (Witnessed V)) → length xs ≤ 3 → Seen class xs (drop (length L - 4) L) → Seen class xs (drop (length L - 3) L)
    forget_none xs l S =
        let n = seen_long xs (drop (length L - 4) L) S in
        let m = length-drop (length L - 4) L in
        subst (λ (z : ℕ). Seen class xs (drop z L)) (let z : length L - 4 ≡ length L - 3 = omega arith in z) S

-- What `filter_map` and then `min` give, where a relation is known of the closure's results.
use Rattle.std.proofs.Common.{◌≡◌, ℕ, true, List, [], ◌∷◌, min, Some, None, Option, MatchOption, is_some, sym, refl, ap, ◌∙◌, subst, arith}
use Rattle.std.proofs.lemmas.Bool.{true≢false}
use Rattle.std.proofs.lemmas.Cmp.{ranked}
use Rattle.std.proofs.lemmas.Iterator.{YieldsList}
use Rattle.std.specs.Fn.{Called}
use Rattle.std.specs.Iterator.{AlwaysYields, Yields, YieldsThen, Drains, PicksByCmp}
use Rattle.std.specs.List.{FoldsTo, fold, reduce}
use Rattle.std.specs.Ordering.{nat_cmp, min_by_ordering}
use Rattle.std.specs.declared.cmp.Ordering.{Ordering}
use Rattle.std.specs.declared.cmp.Ordering.TheVariants.{Less, Equal, Greater}
use denote.Param.Members.{Mut}

-- Each element is related to nothing or to the next of the values.
pub data Gives {B C : Type 0} (R : B → Option C → Type 0) : List B → List C → Type 0 where
  none : Gives R [] []
  skips : {y : B} {ys : List B} {zs : List C} → R y None → Gives R ys zs → Gives R (y ∷ ys) zs
  takes : {y : B} {ys : List B} {z : C} {zs : List C} → R y (Some z) → Gives R ys zs → Gives R (y ∷ ys) (z ∷ zs)

-- A call of a chain that keeps the results of a closure, whose states have a source and the closure.
abbrev pub Calls : {S A C F T : Type 0} → (S → Option A → S → Type 0) → Mut F (A × Unit {0}) (Option C) → (T → S) → (T → F) → T → Option C → T → Type 0
Calls {S} {A} {C} {F} steps g source callee s r t = (xs : List A) × (o : Option A) × (q : F) × YieldsThen steps (source s) xs o (source t) × FoldsTo (λ w x u. Called g w (x, tt) None u) (callee s) xs q
    × MatchOption o ((r ≡ None) × (callee t ≡ q)) (λ x. Called g q (x, tt) r (callee t) × (is_some r ≡ true))

module _ {S A B C F : Type 0} (steps : S → Option A → S → Type 0) (v : A → B) (g : Mut F (A × Unit {0}) (Option C)) (R : B → Option C → Type 0) (f : F)
    (k : (x : A) (r : Option C) (q : F) → Called g f (x, tt) r q → (q ≡ f) × R (v x) r) where
  passed : (xs : List A) (ys : List B) (s t : S) (p q : F) → p ≡ f → AlwaysYields steps v s ys → Yields steps s xs t → FoldsTo (λ w x u. Called g w (x, tt) None u) p xs q
      → (more : List B) × (q ≡ f) × ((zs : List C) → Gives R more zs → Gives R ys zs) × AlwaysYields steps v t more
  passed [] ys s t p q a e y c = (ys, sym c ∙ a, (λ zs h. h), subst (λ u. AlwaysYields steps v u ys) y e)
  passed (x ∷ xs) [] s t p q a e y c = absurd (e x y.0 y.1)
  passed (x ∷ xs) (z ∷ ys) s t p q a e y c =
      let n = e.1 x y.0 y.1 in
      let d = k x None c.0 (subst (λ w. Called g w (x, tt) None c.0) a c.1) in
      let m = passed xs ys y.0 t c.0 q d.0 n.1 y.2 c.2 in
      (m.0, m.1, (λ zs h. skips (subst (λ w. R w None) n.0 d.1) (m.2 zs h)), m.3)

  -- The closure at the item that it was stopped by.
  stopped : (more : List B) (t u : S) (w q : F) (r : Option C) (o : Option A) → w ≡ f → AlwaysYields steps v t more → steps t o u → MatchOption o ((r ≡ None) × (q ≡ w)) (λ x. Called g w (x, tt) r q × (is_some r ≡ true))
      → MatchOption r (more ≡ []) (λ z. (q ≡ f) × (rest : List B) × AlwaysYields steps v u rest × ((zs : List C) → Gives R rest zs → Gives R more (z ∷ zs)))
  stopped [] t u w q None None a e p c = refl
  stopped (y ∷ ys) t u w q None None a e p c = absurd (e.0 u p)
  stopped more t u w q (Some z) None a e p c = absurd (true≢false (ap is_some c.0))
  stopped more t u w q None (Some x) a e p c = absurd (true≢false (sym c.1))
  stopped [] t u w q (Some z) (Some x) a e p c = absurd (e x u p)
  stopped (y ∷ ys) t u w q (Some z) (Some x) a e p c =
      let n = e.1 x u p in
      let d = k x (Some z) q (subst (λ b. Called g b (x, tt) (Some z) q) a c.0) in
      (d.0, ys, n.1, λ zs h. takes (subst (λ b. R b (Some z)) n.0 d.1) h)

  gave : {T : Type 0} (source : T → S) (callee : T → F) (zs : List C) (ys : List B) (s t u : T) → callee s ≡ f → AlwaysYields steps v (source s) ys → Yields (Calls steps g source callee) s zs t
      → Calls steps g source callee t None u → Gives R ys zs
  gave source callee [] ys s t u a e y p =
      let m = passed p.0 ys (source t) p.3.0 (callee t) p.2 (subst (λ w. callee w ≡ f) y a) (subst (λ w. AlwaysYields steps v (source w) ys) y e) p.3.1 p.4 in
      let c = stopped m.0 p.3.0 (source u) p.2 (callee u) None p.1 m.1 m.3 p.3.2 p.5 in
      m.2 [] (subst (λ l. Gives R l []) (sym c) none)
  gave source callee (z ∷ zs) ys s t u a e y p =
      let h = y.1 in
      let m = passed h.0 ys (source s) h.3.0 (callee s) h.2 a e h.3.1 h.4 in
      let c = stopped m.0 h.3.0 (source y.0) h.2 (callee y.0) (Some z) h.1 m.1 m.3 h.3.2 h.5 in
      m.2 (z ∷ zs) (c.3 zs (gave source callee zs c.1 y.0 t u c.0 c.2 y.2 p))

lesser_of : (a b : ℕ) (o : Ordering) → nat_cmp a b ≡ o → min_by_ordering o a b ≡ min a b
lesser_of a b Less e = omega (arith, ranked a b Less (sym e))
lesser_of a b Equal e = omega (arith, ranked a b Equal (sym e))
lesser_of a b Greater e = omega (arith, ranked a b Greater (sym e))

folds : (x : ℕ) (xs : List ℕ) (y : ℕ) → FoldsTo (λ a b c. c ≡ min_by_ordering (nat_cmp a b) a b) x xs y → y ≡ fold min x xs
folds x [] y h = sym h
folds x (z ∷ xs) y h = folds h.0 xs y h.2 ∙ ap (λ w. fold min w xs) (h.1 ∙ lesser_of x z (nat_cmp x z) refl)

picks : {S : Type 0} (steps : S → Option ℕ → S → Type 0) (s : S) (r : Option ℕ) → PicksByCmp steps min_by_ordering nat_cmp s r → (zs : List ℕ) × Drains steps s zs × (r ≡ reduce min zs)
picks steps s None h = ([], h, refl)
picks steps s (Some y) h = (h.0 ∷ h.1, h.2, ap Some (folds h.0 h.1 y h.3))

-- The least of the values is that of a list which the elements give.
pub least_given : {S A B F T : Type 0} {steps : S → Option A → S → Type 0} {v : A → B} {ys : List B} {f : F} (source : T → S) (callee : T → F) (g : Mut F (A × Unit {0}) (Option ℕ)) (R : B → Option ℕ → Type 0)
    (s : T) (r : Option ℕ) → PicksByCmp (Calls steps g source callee) min_by_ordering nat_cmp s r → YieldsList steps v (source s) ys → callee s ≡ f
    → ((x : A) (o : Option ℕ) (q : F) → Called g f (x, tt) o q → (q ≡ f) × R (v x) o) → (zs : List ℕ) × Gives R ys zs × (r ≡ reduce min zs)
least_given {S} {A} {B} {F} {T} {steps} {v} {ys} {f} source callee g R s r p e a k =
    let m = picks (Calls steps g source callee) s r p in
    let d = m.1 in
    (m.0, gave steps v g R f k source callee m.0 ys s d.1.0 d.0 a e.runs d.1.1 d.1.2, m.2)

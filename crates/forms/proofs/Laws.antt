-- The laws of forms and steps.
use Rattle.std.proofs.Common.{◌≡◌, ℕ, ◌+◌, ◌<◌, ◌≤◌, Bool, true, false, ◌⊎◌, List, [], ◌∷◌, ◌++◌, length, drop, sym, refl, ap, ◌∙◌, subst, inl, inr, append_assoc, append-nil, arith, length-append}
use Rattle.std.proofs.lemmas.Bool.{cases_lt}
use Rattle.forms.specs.Bytes.{Every, Stops}
use Rattle.forms.specs.Forms.{Form, Viable, Dead, Misfit, Flawed, Refused, Accepted, Before, bounded}
use Rattle.forms.specs.Steps.{SameHead, Step, Carries}

-- A test has one answer.
pub apart : {A : Type 0} (b : Bool) → b ≡ true → b ≡ false → A
apart b p q = let z : ◌≡◌ {A = Bool} true false = cc in absurd (let e : ◌≡◌ {A = ℕ} 0 1 = cc in omega arith)

pub nil_cons : {A : Type 0} (b : ℕ) (r : List ℕ) → [] ≡ b ∷ r → A
nil_cons b r e = absurd (let z : ◌≡◌ {A = ℕ} 0 1 = cc in omega arith)

pub head_eq : (b d : ℕ) (r s : List ℕ) → b ∷ r ≡ d ∷ s → b ≡ d
head_eq b d r s e = cc

pub tail_eq : (b d : ℕ) (r s : List ℕ) → b ∷ r ≡ d ∷ s → r ≡ s
tail_eq b d r s e = cc

-- All the bytes of a class that come next are one list.
pub run_unique : (c : ℕ → Bool) (w w' r r' : List ℕ) → Every c w → Every c w' → Stops c r → Stops c r' → w ++ r ≡ w' ++ r' → (w ≡ w') × (r ≡ r')
run_unique c [] [] r r' h h' s s' e = (refl, e)
run_unique c [] (b ∷ w') [] r' h h' s s' e = nil_cons b (w' ++ r') e
run_unique c [] (b ∷ w') (d ∷ r) r' h h' s s' e = let q : d ≡ b = cc in apart (c b) h'.0 (subst (λ (x : ℕ). c x ≡ false) q s)
run_unique c (b ∷ w) [] r [] h h' s s' e = nil_cons b (w ++ r) (sym e)
run_unique c (b ∷ w) [] r (d ∷ r') h h' s s' e = let q : d ≡ b = cc in apart (c b) h.0 (subst (λ (x : ℕ). c x ≡ false) q s')
run_unique c (b ∷ w) (b' ∷ w') r r' h h' s s' e =
    let q : b ≡ b' = cc in
    let t : w ++ r ≡ w' ++ r' = cc in
    let x = run_unique c w w' r r' h.1 h'.1 s s' t in
    let x0 = x.0 in
    let y : b ∷ w ≡ b' ∷ w' = cc in (y, x.1)

pub stops_head : (c : ℕ → Bool) (r u : List ℕ) → SameHead r u → Stops c r → Stops c u
stops_head c [] u e s = subst (Stops c) (sym e) tt
stops_head c (b ∷ r) u (u', e) s = subst (Stops c) (sym e) s

pub head_self : (r : List ℕ) → SameHead r r
head_self [] = refl
head_self (b ∷ r) = (r, refl)

-- What begins as r does, put after h, begins as h ++ r does.
pub head_append : (h r u : List ℕ) → SameHead r u → SameHead (h ++ r) (h ++ u)
head_append [] r u s = s
head_append (b ∷ h) r u s = (h ++ u, refl)

-- Two ways to cut one text: one front goes on past the other.
cut : (g r a q : List ℕ) → g ++ r ≡ a ++ q
    → ((b : ℕ) × (h : List ℕ) × (g ≡ a ++ b ∷ h) × (q ≡ b ∷ (h ++ r))) ⊎ ((h : List ℕ) × (a ≡ g ++ h) × (r ≡ h ++ q))
cut [] r a q e = inr (a, refl, e)
cut (b ∷ g) r [] q e = inl (b, g, refl, sym e)
cut (b ∷ g) r (d ∷ a) q e =
    let e0 : b ≡ d = cc in
    let e1 : g ++ r ≡ a ++ q = cc in
    elim (cut g r a q e1) [
      | inl (x, h, p, s) ↦ (let y : b ∷ g ≡ (d ∷ a) ++ x ∷ h = cc in inl (x, h, y, s))
      | inr (h, p, s) ↦ (let y : d ∷ a ≡ (b ∷ g) ++ h = cc in inr (h, y, s))
    ]

module _ {V : Type 0} where
  -- A text that has the form fits it at every byte.
  pub no_misfit : (F : Form V) (s : List ℕ) (v : V) (k : ℕ) → F.takes v s → Misfit F s k → ⊥
  no_misfit F s v k t (a, [], e, l, x, d) = d v (subst (F.takes v) (e ∙ append-nil a) t)
  no_misfit F s v k t (a, b ∷ q, e, l, x, d) = d v q (subst (F.takes v) e t)

  -- Where some text goes on after g, no byte of g is a misfit.
  pub past_viable : (F : Form V) (g r : List ℕ) (k : ℕ) → Viable F g → Misfit F (g ++ r) k → length g ≤ k
  past_viable F g r k (v, u, t) (a, q, e, l, x, d) =
      elim (cut g r a q e) [
        | inl (b, h, p, s) ↦ absurd (
            let d' : Dead F a (b ∷ (h ++ r)) = subst (Dead F a) s d in
            d' v (h ++ u) (subst (F.takes v) (ap (λ (y : List ℕ). y ++ u) p ∙ append_assoc a (b ∷ h) u) t))
        | inr (h, p, s) ↦ (let y = ap length p in omega (arith, y, l, length-append g h))
      ]

module _ {V : Type 0} (F K : Form V) (g r : List ℕ) (step : Step F K g r) where
  dead_down : (a q : List ℕ) → r ≡ a ++ q → Dead K a q → Dead F (g ++ a) q
  dead_down a [] e d = λ v t.
      let h : SameHead r a = subst (λ (x : List ℕ). SameHead x a) (sym (e ∙ append-nil a)) (head_self a) in
      d v (step.back v a h t)
  dead_down a (b ∷ q) e d = λ v u t.
      let h : SameHead r (a ++ b ∷ u) = subst (λ (x : List ℕ). SameHead x (a ++ b ∷ u)) (sym e) (head_append a (b ∷ q) (b ∷ u) (u, refl)) in
      d v u (step.back v (a ++ b ∷ u) h (subst (F.takes v) (append_assoc g a (b ∷ u)) t))

  viable_down : (a q : List ℕ) → r ≡ a ++ q → Viable K a → Viable F (g ++ a)
  viable_down [] q e x = (step.live.0, step.live.1, subst (λ (y : List ℕ). F.takes step.live.0 (y ++ step.live.1)) (sym (append-nil g)) step.live.2)
  viable_down (b ∷ a) q e (v, u, t) =
      let h : SameHead r ((b ∷ a) ++ u) = subst (λ (x : List ℕ). SameHead x ((b ∷ a) ++ u)) (sym e) (a ++ u, refl) in
      (v, u, subst (F.takes v) (sym (append_assoc g (b ∷ a) u)) (step.ahead v ((b ∷ a) ++ u) h t))

  pub misfit_down : (k : ℕ) → Misfit K r k → Misfit F (g ++ r) (length g + k)
  misfit_down k (a, q, e, l, x, d) =
      let e' : g ++ r ≡ (g ++ a) ++ q = ap (λ (x : List ℕ). g ++ x) e ∙ sym (append_assoc g a q) in
      let l' : length g + k ≡ length (g ++ a) = omega (arith, length-append g a) in
      (g ++ a, q, e', l', viable_down a q e x, dead_down a q e d)

  viable_up : (a q : List ℕ) → r ≡ a ++ q → Viable F (g ++ a) → Viable K a
  viable_up [] q e x = (step.live.0, step.live.1, step.live.3)
  viable_up (b ∷ a) q e (v, u, t) =
      let h : SameHead r ((b ∷ a) ++ u) = subst (λ (x : List ℕ). SameHead x ((b ∷ a) ++ u)) (sym e) (a ++ u, refl) in
      (v, u, step.back v ((b ∷ a) ++ u) h (subst (F.takes v) (append_assoc g (b ∷ a) u) t))

  dead_up : (a q : List ℕ) → r ≡ a ++ q → Dead F (g ++ a) q → Dead K a q
  dead_up a [] e d = λ v t.
      let h : SameHead r a = subst (λ (x : List ℕ). SameHead x a) (sym (e ∙ append-nil a)) (head_self a) in
      d v (step.ahead v a h t)
  dead_up a (b ∷ q) e d = λ v u t.
      let h : SameHead r (a ++ b ∷ u) = subst (λ (x : List ℕ). SameHead x (a ++ b ∷ u)) (sym e) (head_append a (b ∷ q) (b ∷ u) (u, refl)) in
      d v u (subst (F.takes v) (sym (append_assoc g a (b ∷ u))) (step.ahead v (a ++ b ∷ u) h t))

  pub misfit_up : (k : ℕ) → Misfit F (g ++ r) k → (j : ℕ) × (k ≡ length g + j) × Misfit K r j
  misfit_up k (a, q, e, l, x, d) =
      elim (cut g r a q e) [
        | inl (b, h, p, s) ↦
            absurd (let y = past_viable F g r k (step.live.0, step.live.1, step.live.2) (a, q, e, l, x, d) in
            let z = ap length p in omega (arith, y, l, z, length-append a (b ∷ h)))
        | inr (h, p, s) ↦
            (let l' : k ≡ length g + length h = l ∙ (ap length p ∙ length-append g h) in
            (length h, l', (h, q, s, refl, viable_up h q s (subst (Viable F) p x), dead_up h q s (subst (λ (y : List ℕ). Dead F y q) p d))))
      ]

  flawed_up : (n k : ℕ) → Flawed F (g ++ r) n k → (j : ℕ) × (k ≡ length g + j) × Flawed K r n j
  flawed_up n k (inl (e, m)) = let x = misfit_up k m in (x.0, x.1, inl (e, x.2))
  flawed_up n k (inr f) = let x = step.up n k f in (x.0, x.1, inr x.2)

  flawed_down : (n k : ℕ) → Flawed K r n k → Flawed F (g ++ r) n (length g + k)
  flawed_down n k (inl (e, m)) = inl (e, misfit_down k m)
  flawed_down n k (inr f) = inr (step.down n k f)

  -- What refuses the rest refuses the whole, that much later.
  pub refused_step : (n k : ℕ) → Refused K r n k → Refused F (g ++ r) n (length g + k)
  refused_step n k x = record {
    flawed = flawed_down n k x.flawed;
    first = λ m j f.
        let y = flawed_up m j f in
        let y1 = y.1 in
        elim (x.first m y.0 y.2) [ inl h ↦ inl (omega arith) | inr h ↦ (let h0 = h.0 in let z : length g + k ≡ j = omega arith in inr (z, h.1)) ];
  }

  -- What accepts the rest accepts the whole.
  pub accepted_step : (v : V) → Accepted K r v → Accepted F (g ++ r) v
  accepted_step v x = record {
    writes = step.ahead v r (head_self r) x.writes;
    only = λ w t. x.only w (step.back w r (head_self r) t);
    sound = λ m j f. let y = flawed_up m j f in x.sound m y.0 y.2;
  }

-- Reading on by a step, after what was read.
pub carries_step : {V : Type 0} (F K L : Form V) (t : List ℕ) (p : ℕ) (g : List ℕ) (q : ℕ) → Carries F K t p → drop p t ≡ g ++ drop q t → q ≡ p + length g
    → Step K L g (drop q t) → Carries F L t q
carries_step F K L t p g q a e l s = record {
  refused = λ n k x.
      let y = refused_step K L g (drop q t) s n k x in
      let z = a.refused n (length g + k) (subst (λ (u : List ℕ). Refused K u n (length g + k)) (sym e) y) in
      let i : p + (length g + k) ≡ q + k = omega arith in
      subst (λ (j : ℕ). Refused F t n j) i z;
  accepted = λ v x. a.accepted v (subst (λ (u : List ℕ). Accepted K u v) (sym e) (accepted_step K L g (drop q t) s v x));
}

-- The limit on a text's length.
module _ {V : Type 0} (most : ℕ) (F : Form V) (s : List ℕ) where
  -- A flaw under the limit is one without it, or the limit's own.
  own : (m j : ℕ) → Flawed (bounded most F) s m j → Flawed F s m j ⊎ ((m ≡ 11) × (j ≡ most) × (most < length s))
  own m j (inl x) = inl (inl x)
  own m j (inr (inl x)) = inr x
  own m j (inr (inr x)) = inl (inr x)

  within : (m j : ℕ) → Flawed F s m j → Flawed (bounded most F) s m j
  within m j (inl x) = inl x
  within m j (inr x) = inr (inr x)

  pub short_accepted : (v : V) → length s ≤ most → Accepted F s v → Accepted (bounded most F) s v
  short_accepted v h x = record {
    writes = x.writes;
    only = x.only;
    sound = λ m j f. elim (own m j f) [ inl y ↦ x.sound m j y | inr y ↦ (let l = y.2 in omega arith) ];
  }

  -- What comes before the limit stays.
  pub early : (n k : ℕ) → (most < length s → Before n k 11 most) → Refused F s n k → Refused (bounded most F) s n k
  early n k h x = record {
    flawed = within n k x.flawed;
    first = λ m j f. elim (own m j f) [
      | inl y ↦ x.first m j y
      | inr y ↦
          (let y0 = y.0 in
          let y1 = y.1 in
          elim (h y.2) [ inl z ↦ inl (omega arith) | inr z ↦ (let a : k ≡ j = (let b = z.0 in omega arith) in let d = z.1 in inr (a, omega arith)) ])
    ];
  }

  -- What does not come before it gives way.
  pub late : (n k : ℕ) → most < length s → (Before n k 11 most → ⊥) → Refused F s n k → Refused (bounded most F) s 11 most
  late n k l h x = record {
    flawed = inr (inl (refl, refl, l));
    first = λ m j f. elim (own m j f) [
      | inl y ↦ after m j (x.first m j y)
      | inr y ↦ (let y0 = y.0 in let y1 = y.1 in let a : most ≡ j = omega arith in inr (a, omega arith))
    ];
  }
    where
      past : Before 11 most n k
      past = elim (cases_lt most k) [
        | inl a ↦ inl a
        | inr a ↦ elim (cases_lt k most) [
          | inl b ↦ absurd (h (inl b))
          | inr b ↦ (let e : most ≡ k = omega arith in inr (e, elim (cases_lt 11 n) [ inl c ↦ omega arith | inr c ↦ absurd (h (inr (sym e, c))) ]))
        ]
      ]

      after : (m j : ℕ) → Before n k m j → Before 11 most m j
      after m j (inl a) = inl (elim past [ inl b ↦ omega arith | inr b ↦ (let e = b.0 in omega arith) ])
      after m j (inr (e, a)) = elim past [ inl b ↦ inl (omega arith) | inr b ↦ (let g = b.0 in let d = b.1 in let q : most ≡ j = omega arith in inr (q, omega arith)) ]

  pub long_refused : (v : V) → most < length s → Accepted F s v → Refused (bounded most F) s 11 most
  long_refused v l x = record {
    flawed = inr (inl (refl, refl, l));
    first = λ m j f. elim (own m j f) [
      | inl y ↦ absurd (x.sound m j y)
      | inr y ↦ (let y0 = y.0 in let y1 = y.1 in let a : most ≡ j = omega arith in inr (a, omega arith))
    ];
  }

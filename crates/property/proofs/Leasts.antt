-- The first fault of a piece is the least.
use Rattle.std.proofs.Common.{◌≡◌, ℕ, ◌≤◌, Bool, true, false, cond, ◌||◌, eqb, leb, List, [], ◌∷◌, Some, None, codes, sym, refl, ap, ◌∙◌, inl, inr, arith}
use Rattle.std.proofs.lemmas.Bool.{cases_Bool}
use Rattle.forms.specs.Bytes.{letter}
use Rattle.forms.proofs.Laws.{apart}
use Rattle.forms.proofs.Driver.{some_none, some_same}
use Rattle.property.specs.Grammar.{Marked, worst, wants, flaws_at, pattern_flaws, variable_flaws, begun_flaws, fresh_flaws, closing_flaws}
use Rattle.property.specs.States.{State, declares}
use Rattle.property.specs.Words.{same}
use Rattle.property.specs.declared.spot.Head.TheVariants as heads
use Rattle.property.specs.declared.spot.Inner.TheVariants as inners
use Rattle.property.specs.declared.spot.Label.TheVariants as labels
use Rattle.property.specs.declared.spot.Line.TheVariants as lines
use Rattle.property.specs.declared.spot.Route.TheVariants as routes
use Rattle.property.specs.declared.spot.Spot.{Spot}
use Rattle.property.specs.declared.spot.Spot.TheVariants as spots

-- The numbers rise.
abbrev Above : ℕ → List (Bool × ℕ) → Type 0
Above n [] = Unit {0}
Above n (f ∷ fs) = (n ≤ f.1) × Above n fs

abbrev Ups : List (Bool × ℕ) → Type 0
Ups [] = Unit {0}
Ups (f ∷ fs) = Above f.1 fs × Ups fs

pub record Rising (fs : List (Bool × ℕ)) : Type 0 where
  pub up : Ups fs

above_marked : (n m : ℕ) (fs : List (Bool × ℕ)) → Above n fs → Marked fs m → n ≤ m
above_marked n m [] h x = absurd x
above_marked n m (f ∷ fs) h (inl (e, z)) = let a = h.0 in omega arith
above_marked n m (f ∷ fs) h (inr x) = above_marked n m fs h.1 x

worst_true : (f : Bool × ℕ) (fs : List (Bool × ℕ)) → f.0 ≡ true → worst (f ∷ fs) ≡ Some f.1
worst_true f fs e = ap (λ (b : Bool). cond b (Some f.1) (worst fs)) e

worst_false : (f : Bool × ℕ) (fs : List (Bool × ℕ)) → f.0 ≡ false → worst (f ∷ fs) ≡ worst fs
worst_false f fs e = ap (λ (b : Bool). cond b (Some f.1) (worst fs)) e

least_up : (n : ℕ) (fs : List (Bool × ℕ)) → Ups fs → worst fs ≡ Some n → Marked fs n × ((m : ℕ) → Marked fs m → n ≤ m)
least_up n [] u e = some_none None n e refl
least_up n (f ∷ fs) u e = elim (cases_Bool f.0) [
  | inl t ↦
      (let z : f.1 ≡ n = some_same (worst (f ∷ fs)) f.1 n (worst_true f fs t) e in
      (inl (t, sym z), λ m x. elim x [ inl y ↦ (let y1 = y.1 in omega arith) | inr y ↦ (let k = above_marked f.1 m fs u.0 y in omega arith) ]))
  | inr t ↦
      (let y = least_up n fs u.1 (sym (worst_false f fs t) ∙ e) in
      (inr y.0, λ m x. elim x [ inl z ↦ apart f.0 z.0 t | inr z ↦ y.1 m z ]))
]

pub least_marked : (n : ℕ) (fs : List (Bool × ℕ)) → Rising fs → worst fs ≡ Some n → Marked fs n × ((m : ℕ) → Marked fs m → n ≤ m)
least_marked n fs u e = least_up n fs u.up e

pub none_marked : (fs : List (Bool × ℕ)) → worst fs ≡ None → (m : ℕ) → Marked fs m → ⊥
none_marked [] e m x = x
none_marked (f ∷ fs) e m (inl (t, z)) = some_none (worst (f ∷ fs)) f.1 (worst_true f fs t) e
none_marked (f ∷ fs) e m (inr x) = elim (cases_Bool f.0) [
  | inl t ↦ some_none (worst (f ∷ fs)) f.1 (worst_true f fs t) e
  | inr t ↦ none_marked fs (sym (worst_false f fs t) ∙ e) m x
]

rising_0 : Rising []
rising_0 = record { up = tt }

rising_1 : (f : Bool × ℕ) → Rising (f ∷ [])
rising_1 f = record { up = (tt, tt) }

rising_2 : (f g : Bool × ℕ) → f.1 ≤ g.1 → Rising (f ∷ g ∷ [])
rising_2 f g h = record { up = ((h, tt), (tt, tt)) }

rising_3 : (f g h : Bool × ℕ) → f.1 ≤ g.1 → g.1 ≤ h.1 → Rising (f ∷ g ∷ h ∷ [])
rising_3 f g h a b = let c : f.1 ≤ h.1 = omega arith in record { up = ((a, (c, tt)), ((b, tt), (tt, tt))) }

rising_cond : (b : Bool) (xs ys : List (Bool × ℕ)) → Rising xs → Rising ys → Rising (cond b xs ys)
rising_cond true xs ys h k = h
rising_cond false xs ys h k = k

rising_variable : (late : Bool) (p : State) (w : List ℕ) (c : ℕ) → Rising (variable_flaws late p w c)
rising_variable late p w c = rising_3 _ _ _ (omega arith) (omega arith)

rising_pattern : (late : Bool) (p : State) (w : List ℕ) (c : ℕ) (r : List ℕ) → Rising (pattern_flaws late p w c r)
rising_pattern late p w c r =
    let x : List (Bool × ℕ) = (late || wants p.sofar false r, 11) ∷ [] in
    let y : List (Bool × ℕ) = (late || wants p.sofar true r, 11) ∷ [] in
    let z = variable_flaws late p w c in
    rising_cond (eqb c 42) [] (cond (eqb c 33) x (cond (eqb c 60) y z)) rising_0
    (rising_cond (eqb c 33) x (cond (eqb c 60) y z) (rising_1 (late || wants p.sofar false r, 11))
    (rising_cond (eqb c 60) y z (rising_1 (late || wants p.sofar true r, 11)) (rising_variable late p w c)))

rising_begun : (late : Bool) (p : State) (w : List ℕ) (c : ℕ) (r : List ℕ) → Rising (begun_flaws late p w c r)
rising_begun late p w c r = rising_cond (letter c) (fresh_flaws late p w) (pattern_flaws late p w c r) (rising_2 _ _ (omega arith)) (rising_pattern late p w c r)

pub rising_flaws : (s : Spot) (p : State) (w : List ℕ) (c : ℕ) (r : List ℕ) → Rising (flaws_at s p w c r)
rising_flaws (spots.Head heads.Margin) p w c r = rising_0
rising_flaws (spots.Head (heads.Keyword n)) p w c r = rising_0
rising_flaws (spots.Head heads.Gap) p w c r = rising_0
rising_flaws (spots.Head heads.Title) p w c r = rising_2 _ _ (omega arith)
rising_flaws (spots.Line lines.Ending) p w c r = rising_0
rising_flaws (spots.Line lines.Fresh) p w c r = rising_cond (declares p w) _ _ (rising_1 _) (rising_3 _ _ _ (omega arith) (omega arith))
rising_flaws (spots.Line lines.MethodName) p w c r = rising_3 _ _ _ (omega arith) (omega arith)
rising_flaws (spots.Line lines.MethodNumber) p w c r = rising_2 _ _ (omega arith)
rising_flaws (spots.Line (lines.MethodArity n)) p w c r = rising_1 _
rising_flaws (spots.Route routes.Minus) p w c r = rising_0
rising_flaws (spots.Route routes.Greater) p w c r = rising_0
rising_flaws (spots.Route routes.Target) p w c r = rising_2 _ _ (omega arith)
rising_flaws (spots.Route routes.Colon) p w c r = rising_0
rising_flaws (spots.Label labels.Begin) p w c r =
    rising_cond (eqb c 42) _ _ (rising_1 _)
    (rising_cond (same w (codes "call") || same w (codes "ret")) _ _ (rising_1 _) (rising_begun (leb 3 p.cursor.statement.span) p w c r))
rising_flaws (spots.Label labels.Star) p w c r = rising_0
rising_flaws (spots.Label labels.Becomes) p w c r = rising_0
rising_flaws (spots.Label labels.Equals) p w c r = rising_0
rising_flaws (spots.Label labels.Callee) p w c r = rising_3 _ _ _ (omega arith) (omega arith)
rising_flaws (spots.Label labels.Open) p w c r = rising_0
rising_flaws (spots.Label labels.Comma) p w c r = rising_cond (eqb c 41) (closing_flaws p.cursor) [] (rising_1 _) rising_0
rising_flaws (spots.Label labels.End) p w c r = rising_0
rising_flaws (spots.Inner inners.Returned) p w c r = rising_pattern false p w c r
rising_flaws (spots.Inner inners.First) p w c r = rising_cond (eqb c 41) (closing_flaws p.cursor) (pattern_flaws false p w c r) (rising_1 _) (rising_pattern false p w c r)
rising_flaws (spots.Inner inners.Param) p w c r = rising_pattern false p w c r
rising_flaws (spots.Inner (inners.Negated n)) p w c r = rising_2 _ _ (omega arith)
rising_flaws (spots.Inner (inners.Quoted n)) p w c r = rising_2 _ _ (omega arith)
rising_flaws (spots.Inner inners.Unquote) p w c r = rising_0

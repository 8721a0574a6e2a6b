-- Over registers: one more, which holds a constant or a variable.
use Rattle.std.proofs.Common.{◌≡◌, ℕ, ◌+◌, ◌<◌, ◌≤◌, true, false, ◌⊎◌, List, [], ◌∷◌, length, get_or, drop, min, Some, None, Option, refl, sym, ap, ◌∙◌, subst, inl, inr, arith}
use Rattle.std.proofs.lemmas.List.{get_or_default, drop_more}
use Rattle.std.specs.List.{enumerate_from}
use Rattle.std.proofs.lemmas.Bool.{cases_lt, true≢false}
use Rattle.paths.proofs.Chains.{Gives, none, skips, takes}
use Rattle.paths.proofs.Minima.{lesser, lesser_assoc, least_more}
use Rattle.paths.specs.Reads.{least, OpenRead, FirstOpen, FirstHere, Variable, FirstOf}
use Rattle.property.specs.Views.{is_constant}
use Rattle.property.specs.declared.table.Register.{Register}
use Rattle.property.specs.declared.table.Register.TheVariants as registers
use Rattle.property.specs.declared.table.Statement.{Statement}

-- Of the first i registers, the answer is the least place at which a variable is read unwritten, or that there is none.
abbrev pub Below : List Statement → List Register → ℕ → Option ℕ → Type 0
Below ss gs i None = (x n : ℕ) → x < i → Variable gs x → OpenRead ss x n → ⊥
Below ss gs i (Some n) =
    ((x : ℕ) × (x < i) × Variable gs x × OpenRead ss x n) × ((x m : ℕ) → x < i → Variable gs x → OpenRead ss x m → n ≤ m)

-- Below their count, it is the answer for all.
pub all_below : (ss : List Statement) (gs : List Register) (o : Option ℕ) → Below ss gs (length gs) o → FirstOf ss gs o
all_below ss gs None f = λ x n v r. f x n v.0 v r
all_below ss gs (Some n) (a, f) = ((a.0, a.2, a.3), λ x m v r. f x m v.0 v r)

module _ (ss : List Statement) (gs : List Register) (i : ℕ) where
  -- A register below i + 1 is below i, or i.
  below : (x : ℕ) → x < i + 1 → (x < i) ⊎ (x ≡ i)
  below x h = elim (cases_lt x i) [ inl l ↦ inl l | inr l ↦ (let e : x ≡ i = omega arith in inr e) ]

  step : (x : ℕ) → x < i → x < i + 1
  step x h = omega arith

  pub first_none : Below ss gs 0 None
  first_none x n h v r = absurd (omega arith)

  pub constant_more : (o : Option ℕ) (d : Register) → i < length gs → is_constant (get_or gs i d) ≡ true → Below ss gs i o → Below ss gs (i + 1) o
  constant_more None d h e f = λ x n l v r. elim (below x l) [
    | inl k ↦ f x n k v r
    | inr k ↦ true≢false (sym e ∙ subst (λ (y : ℕ). is_constant (get_or gs y d) ≡ false) k (v.1 d))
  ]
  constant_more (Some n) d h e (a, f) = (
    (a.0, step a.0 a.1, a.2, a.3),
    λ x m l v r. elim (below x l) [
      | inl k ↦ f x m k v r
      | inr k ↦ absurd (true≢false (sym e ∙ subst (λ (y : ℕ). is_constant (get_or gs y d) ≡ false) k (v.1 d)))
    ],
  )

  pub held : (d : Register) → i < length gs → is_constant (get_or gs i d) ≡ false → Variable gs i
  held d h e = (h, λ c. ap is_constant (get_or_default gs i c d h) ∙ e)

  here : i < i + 1
  here = omega arith

  moved : (x n : ℕ) → x ≡ i → OpenRead ss x n → OpenRead ss i n
  moved x n e r = subst (λ (y : ℕ). OpenRead ss y n) e r

  pub variable_more : (o p : Option ℕ) → Variable gs i → Below ss gs i o → FirstOpen ss i p → Below ss gs (i + 1) (lesser o p)
  variable_more None None v f g = λ x n l w r. elim (below x l) [ inl k ↦ f x n k w r | inr k ↦ g n (moved x n k r) ]
  variable_more None (Some m) v f g = (
    (i, here, v, g.0),
    λ x n l w r. elim (below x l) [ inl k ↦ absurd (f x n k w r) | inr k ↦ g.1 n (moved x n k r) ],
  )
  variable_more (Some n) None v (a, f) g = (
    (a.0, step a.0 a.1, a.2, a.3),
    λ x m l w r. elim (below x l) [ inl k ↦ f x m k w r | inr k ↦ absurd (g m (moved x m k r)) ],
  )
  variable_more (Some n) (Some m) v (a, f) g = (
    elim (cases_lt m n) [
      | inl k ↦ (let e : min n m ≡ m = omega arith in (i, here, v, subst (OpenRead ss i) (sym e) g.0))
      | inr k ↦ (let e : min n m ≡ n = omega arith in (a.0, step a.0 a.1, a.2, subst (OpenRead ss a.0) (sym e) a.3))
    ],
    λ x k l w r. elim (below x l) [
      | inl y ↦ (let z = f x k y w r in omega arith)
      | inr y ↦ (let z = g.1 k (moved x k y r) in omega arith)
    ],
  )

module _ (ss : List Statement) (gs : List Register) where
  -- What a register gives.
  abbrev pub Here : ℕ × Register → Option ℕ → Type 0
  Here p o = FirstHere ss p.0 p.1 o

  lesser_none : (o : Option ℕ) → lesser o None ≡ o
  lesser_none None = refl
  lesser_none (Some n) = refl

  -- One register more, which gives o.
  one_more : (n : ℕ) (h : Register) (best o : Option ℕ) → n < length gs → get_or gs n h ≡ h → FirstHere ss n h o → Below ss gs n best → Below ss gs (n + 1) (lesser best o)
  one_more n (registers.Constant w) best o l e r f =
      subst (λ (p : Option ℕ). Below ss gs (n + 1) (lesser best p)) (sym r)
      (subst (Below ss gs (n + 1)) (sym (lesser_none best)) (constant_more ss gs n best (registers.Constant w) l (ap is_constant e) f))
  one_more n (registers.Variable w) best o l e r f = variable_more ss gs n best o (held ss gs n (registers.Variable w) l (ap is_constant e)) f r

  -- The first of the registers from n on.
  at_head : (n : ℕ) (h : Register) (hs : List Register) → n < length gs → drop n gs ≡ h ∷ hs → (get_or gs n h ≡ h) × (drop (n + 1) gs ≡ hs)
  at_head n h hs l e = let k : get_or gs n h ∷ drop (n + 1) gs ≡ h ∷ hs = sym (drop_more gs n h l) ∙ e in (cc, cc)

  pub over : (n : ℕ) (hs : List Register) (zs : List ℕ) (best : Option ℕ) → n + length hs ≡ length gs → drop n gs ≡ hs → Gives Here (enumerate_from n hs) zs → Below ss gs n best
      → Below ss gs (length gs) (lesser best (least zs))
  over n [] _ best e d none f =
      let k : n ≡ length gs = omega arith in subst (λ (m : ℕ). Below ss gs m (lesser best None)) k (subst (Below ss gs n) (sym (lesser_none best)) f)
  over n (h ∷ hs) zs best e d (skips r g) f =
      let l : n < length gs = omega arith in
      let m : (n + 1) + length hs ≡ length gs = omega arith in
      let y = at_head n h hs l d in
      over (n + 1) hs zs best m y.1 g (subst (Below ss gs (n + 1)) (lesser_none best) (one_more n h best None l y.0 r f))
  over n (h ∷ hs) (z ∷ zs) best e d (takes r g) f =
      let l : n < length gs = omega arith in
      let m : (n + 1) + length hs ≡ length gs = omega arith in
      let y = at_head n h hs l d in
      subst (Below ss gs (length gs)) (lesser_assoc best (Some z) (least zs) ∙ ap (lesser best) (sym (least_more z zs)))
      (over (n + 1) hs zs (lesser best (Some z)) m y.1 g (one_more n h best (Some z) l y.0 r f))

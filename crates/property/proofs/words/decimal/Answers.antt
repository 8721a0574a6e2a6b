use Rattle.std.proofs.Common.{◌≡◌, ℕ, ◌+◌, ◌-◌, ◌*◌, ◌≤◌, cond, leb, List, [], ◌∷◌, length, Some, None, Option, MatchOption, Bor, Iter, refl, sym, ap, ◌∙◌, subst, inl, inr, arith, rules, tests}
use Rattle.std.specs.Iterator.{Yields}
use Rattle.std.specs.List.{FoldsTo}
use Rattle.std.proofs.lemmas.Bool.{cases_Bool}
use Rattle.std.proofs.lemmas.Bool.Decides.{nat_tests}
use Rattle.forms.specs.Bytes.{value_from}
use Rattle.property.proofs.words.decimal.Goals as goal

-- A number that is not too large.
abbrev fits : ℕ → Option ℕ
fits n = cond (leb n 65535) (Some n) None

-- Digits that follow make no number smaller.
grows : (a : ℕ) (s : List ℕ) → a ≤ value_from a s
grows a [] = omega arith
grows a (b ∷ s) = omega (arith, grows (a * 10 + (b - 48)) s)

kept : (n m : ℕ) → Some n ≡ fits m → (n ≡ m) × (n ≤ 65535)
kept n m e = elim (cases_Bool (leb m 65535)) [
  | inl h ↦ grind (arith, nat_tests)
  | inr h ↦ grind (arith, nat_tests)
]

lost : (n m : ℕ) → None ≡ fits n → n ≤ m → None ≡ fits m
lost n m e h = grind (arith, nat_tests)

small : (n : ℕ) → n ≤ 65535 → Some n ≡ fits n
small n h = grind (arith, nat_tests)

none_left : (a : ℕ) (s : List ℕ) → length s ≡ 0 → value_from a s ≡ a
none_left a [] e = refl
none_left a (b ∷ s) e = absurd (omega arith)

-- How the items of a slice come.
abbrev Front : Iter ℕ → Option (Bor ℕ) → Iter ℕ → Type 0
Front s o t = MatchOption o ((length s.rest.now ≡ 0) × (t ≡ s)) (λ x. s.rest.now ≡ x.now ∷ t.rest.now)

-- Each turn that goes on adds a digit, and one that breaks off has a number too large.
module _ (T : Unit {0} × ℕ → Bor ℕ → Unit {0} × ℕ → Type 0) (goes : (a : ℕ) (x : Bor ℕ) (q : Unit {0} × ℕ) → T (tt, a) x q → Some q.1 ≡ fits (a * 10 + (x.now - 48)))
    (b : ℕ) (r : Option ℕ) (Q : Bor ℕ → Type 0) (breaks : (x : Bor ℕ) → Q x → (None ≡ fits (b * 10 + (x.now - 48))) × (r ≡ None)) where
  stops : (o : Option (Bor ℕ)) (t u : Iter ℕ) → Front t o u → MatchOption o (r ≡ Some b) Q → b ≤ 65535 → r ≡ fits (value_from b t.rest.now)
  stops None t u p m h = m ∙ (small b h ∙ ap fits (sym (none_left b t.rest.now p.0)))
  stops (Some x) t u p m h =
      let z = breaks x m in
      z.1 ∙ (lost _ _ z.0 (grows (b * 10 + (x.now - 48)) u.rest.now) ∙ ap (λ (s : List ℕ). fits (value_from b s)) (sym p))

  total : (xs : List (Bor ℕ)) (o : Option (Bor ℕ)) (s t u : Iter ℕ) (a : ℕ) → Yields Front s xs t → Front t o u → FoldsTo {P = Unit {0} × ℕ} T (tt, a) xs (tt, b) → MatchOption o (r ≡ Some b) Q
      → a ≤ 65535 → r ≡ fits (value_from a s.rest.now)
  total [] o s t u a y p c m h =
      let e : a ≡ b = ap (λ (q : Unit {0} × ℕ). q.1) c in
      stops o t u p m (subst (λ (n : ℕ). n ≤ 65535) e h)
      ∙ (ap (λ (n : ℕ). fits (value_from n t.rest.now)) (sym e) ∙ ap (λ (i : Iter ℕ). fits (value_from a i.rest.now)) (sym y))
  total (x ∷ xs) o s t u a y p c m h =
      let k = kept c.0.1 (a * 10 + (x.now - 48)) (goes a x c.0 c.1) in
      total xs o y.0 t u c.0.1 y.2 p c.2 m k.1
      ∙ (ap (λ (n : ℕ). fits (value_from n y.0.rest.now)) k.0 ∙ ap (λ (l : List ℕ). fits (value_from a l)) (sym y.1))

pub returns : goal.returns
returns c =
    let ran = c.try_fold.ensures.ran in
    let e : c.iter.result.rest.now ≡ c.args.digits.now = cc in
    total _ (λ a x q k. sym k.2 ∙ search (rules, tests)) ran.3 c.try_fold.result _ (λ x k. (sym k.4 ∙ search (rules, tests), k.5))
    ran.0 ran.1 c.iter.result ran.4.0 c.try_fold.new.self 0 ran.4.1 ran.4.2 ran.5 ran.6 (omega arith)
    ∙ ap (λ (s : List ℕ). fits (value_from 0 s)) e

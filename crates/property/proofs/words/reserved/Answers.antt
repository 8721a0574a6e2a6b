use Rattle.std.proofs.Common.{◌≡◌, Bool, true, false, ◌||◌, List, ℕ, bytes_eq, codes, refl, sym, ap, ◌∙◌}
use Rattle.std.specs.Cmp.{both_ways}
use Rattle.std.proofs.lemmas.Slice.Eq.{bytes_eq-Decides}
use Rattle.property.proofs.words.reserved.Goals as goal

or_false : (b : Bool) → b || false ≡ b
or_false true = refl
or_false false = refl

-- Which of two words comes first does not matter.
turned : (a b : List ℕ) → bytes_eq a b ≡ bytes_eq b a
turned a b = both_ways _ _ (λ e. (bytes_eq-Decides b a).1 (sym ((bytes_eq-Decides a b).0 e))) (λ e. (bytes_eq-Decides a b).1 (sym ((bytes_eq-Decides b a).0 e)))

-- The same of the first of several.
or_turned : (a r w : List ℕ) {p q : Bool} → a ≡ r → p ≡ q → bytes_eq a w || p ≡ bytes_eq w r || q
or_turned a r w {p = p} e g =
    ap (λ (x : List ℕ). bytes_eq x w || p) e ∙ (ap (λ (b : Bool). b || p) (turned r w) ∙ ap (λ (b : Bool). bytes_eq w r || b) g)

pub returns : goal.returns
returns c =
    let w = c.args.w.now in
    let last : bytes_eq (codes "ret") w || false ≡ bytes_eq w (codes "ret") = or_false _ ∙ turned (codes "ret") w in
    c.contains.ensures.value
    ∙ or_turned _ (codes "property") w c.as_slice.ensures (or_turned _ (codes "method") w refl (or_turned _ (codes "call") w refl last))

use Rattle.std.proofs.Common.{◌≡◌, ℕ, eqb, ltb, List, length, get_or, is_some, Some, None, Option, Bor, refl, sym, ap, ◌∙◌}
use Rattle.std.specs.Option.{IfSome, option_eq}
use Rattle.std.proofs.lemmas.Bool.{ltb-true, ltb-false}
use Rattle.std.proofs.lemmas.List.{get_or_past, get_or_default}
use Rattle.forms.specs.Bytes.{space}
use Rattle.property.specs.Words.{first_byte}
use Rattle.property.proofs.Texts.{past_passed, first_drop}
use Rattle.property.proofs.words.colon_next.Goals as goal

-- Whether the byte at a place is the one sought.
by_place : (t : List ℕ) (q : ℕ) (o : Option (Bor ℕ)) (b : Bor ℕ) → is_some o ≡ ltb q (length t) → IfSome o (λ x. x.now ≡ get_or t q x.now) → (b.now ≡ 58)
    → option_eq (λ (x y : Bor ℕ). eqb x.now y.now) o (Some b) ≡ eqb (get_or t q 0) 58
by_place t q None b h e z = ap (λ (n : ℕ). eqb n 58) (sym (get_or_past t q 0 (ltb-false q (length t) (sym h))))
by_place t q (Some x) b h e z = ap (λ (n : ℕ). eqb n b.now) (e ∙ get_or_default t q x.now 0 (ltb-true q (length t) (sym h))) ∙ ap (eqb (get_or t q 0)) z

pub returns : goal.returns
returns c =
    let t = c.args.text.now in
    let q = c.skip_spaces-end.result in
    c.eq.ensures
    ∙ (by_place t q c.get.result _ c.get.ensures.lookup.0 c.get.ensures.lookup.1 refl
    ∙ sym (ap (λ (n : ℕ). eqb n 58) (ap first_byte (past_passed space t c.args.at q c.skip_spaces-end.ensures) ∙ first_drop t q)))

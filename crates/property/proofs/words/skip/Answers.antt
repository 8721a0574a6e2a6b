use Rattle.std.proofs.Common.{ℕ, ◌+◌, ◌≤◌, length, subst, arith}
use Rattle.property.specs.Marks.{in_class}
use Rattle.property.specs.Reading.{Passed}
use Rattle.property.proofs.Texts.{passed_to, passed_all}
use Rattle.property.proofs.words.skip.Goals as goal

pub returns-in-Some : goal.returns-in-Some
returns-in-Some c =
    let t = c.args.text.now in
    let f = c.min-from.result in
    let e = c.min-from.ensures in
    let h : f ≤ length t = omega (arith, e) in
    subst (λ (a : ℕ). Passed (in_class c.args.class) t a (f + c.in-Some.n)) e (passed_to (in_class c.args.class) t f c.in-Some.n _ h c.outside.ensures c.in-Some.is)

pub returns-in-None : goal.returns-in-None
returns-in-None c =
    let t = c.args.text.now in
    let f = c.min-from.result in
    let e = c.min-from.ensures in
    let h : f ≤ length t = omega (arith, e) in
    subst (λ (a : ℕ). Passed (in_class c.args.class) t a (length t)) e (passed_all (in_class c.args.class) t f _ h c.outside.ensures c.in-None.is)

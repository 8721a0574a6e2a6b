use Rattle.std.proofs.Common.{sym, subst, arith}
use Rattle.std.proofs.lemmas.Bool.{both_ways}
use Rattle.forms.proofs.Laws.{early, late}
use Rattle.kinds.specs.Refusals.{text_number}
use Rattle.property.specs.Grammar.{any_text}
use Rattle.property.specs.Outcomes.{Explains, ExplainsBounded}
use Rattle.property.proofs.text.read_draft.Goals as goal

pub returns-in-Err-At : goal.returns-in-Err-At
returns-in-Err-At c =
    subst (ExplainsBounded c.args.text.now) (sym c.into-in-Err-At.ensures)
    (late 8192 any_text c.args.text.now (text_number c.in-Err-At.f.reason) c.in-Err-At.f.place c.if-text-gt-LIMIT-2.true
    (λ b. both_ways _ c.if-not-before_limit.true (c.before_limit.ensures.1 b)) (subst (Explains c.args.text.now) c.in-Err-At.field-0-is c.in-Err-At.ensures))

pub returns-in_default-2 : goal.returns-in_default-2
returns-in_default-2 c =
    early 8192 any_text c.args.text.now (text_number c.in-Err-At.f.reason) c.in-Err-At.f.place (λ l. c.before_limit.ensures.0 c.if-not-before_limit.false)
    (subst (Explains c.args.text.now) c.in-Err-At.field-0-is c.in-Err-At.ensures)

pub returns-in_default-3 : goal.returns-in_default-3
returns-in_default-3 c =
    early 8192 any_text c.args.text.now (text_number c.in-Err-At.f.reason) c.in-Err-At.f.place (λ l. absurd (omega (arith, l, c.if-text-gt-LIMIT-2.false)))
    (subst (Explains c.args.text.now) c.in-Err-At.field-0-is c.in-Err-At.ensures)

use Rattle.std.proofs.Common.{true, drop, sym, ap, ◌∙◌}
use Rattle.std.proofs.lemmas.Bool.{le-leb}
use Rattle.property.specs.Grammar.{worst, begun_flaws}
use Rattle.property.specs.Views.{view, spelled}
use Rattle.property.proofs.draft.Reading.begun_flaw.Goals as goal

pub returns-then-self-ge3 : goal.returns-then-self-ge3
returns-then-self-ge3 c =
    let t = c.args.self.now.text.now in
    let p = view t c.args.self.now.draft.now in
    let r = drop c.args.found.name.to t in
    c.late_flaw.ensures p r
    ∙ (ap (λ w. worst (begun_flaws true p w c.args.found.byte r)) c.spelled.ensures
    ∙ ap (λ b. worst (begun_flaws b p (spelled t c.args.found.name) c.args.found.byte r)) (sym (le-leb 3 p.cursor.statement.span c.if-self-ge3.true)))

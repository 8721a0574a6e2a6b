use Rattle.std.proofs.Common.{sym, ◌∙◌}
use Rattle.kinds.specs.declared.text_reason.TextReason.TheVariants as reasons
use Rattle.property.specs.Views.{view}
use Rattle.property.proofs.Exits.{broken, at_flaw}
use Rattle.property.proofs.reader.Reader.next.Goals as goal

pub returns-then-from-self : goal.returns-then-from-self
returns-then-from-self c =
    let t = c.args.self.now.text.now in
    let a = c.args.self.now.place in
    let f = c.start-from.result in
    let p = view t c.args.draft.now in
    at_flaw p t a c.no_form.result reasons.NoForm f c.no_form.ensures.reason c.no_form.ensures.place
    (broken t p a f c.start-from.ensures c.if-from-self.true (sym c.ends.ensures ∙ c.if-ends.false))

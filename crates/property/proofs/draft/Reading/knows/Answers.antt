use Rattle.std.proofs.Common.{is_some, ap, ◌∙◌}
use Rattle.property.specs.Views.{declared}
use Rattle.property.specs.Words.{same}
use Rattle.property.proofs.Searching.{known_by}
use Rattle.property.proofs.draft.Reading.knows.Goals as goal

pub returns : goal.returns
returns c =
    c.is_some.ensures ∙ (ap is_some c.method.ensures ∙ known_by (declared c.args.self.now.text.now) (λ m. same c.args.w.now m.name) c.args.self.now.draft.now.methods.items)

use Rattle.std.proofs.Common.{◌∙◌, rules, tests}
use Rattle.std.proofs.lemmas.Iterator.{YieldsList-from_slice}
use Rattle.std.proofs.lemmas.Iterator.Search.{find_from_yields_List}
use Rattle.property.specs.Views.{spelled}
use Rattle.property.specs.Words.{same}
use Rattle.property.proofs.draft.Reading.method.Goals as goal

pub returns : goal.returns
returns c =
    c.copied.ensures
    ∙ find_from_yields_List (λ m. same c.args.w.now (spelled c.args.self.now.text.now m.name)) _ _ _ c.find.ensures.ran (YieldsList-from_slice c.args.self.now.draft.now.methods.items cc) (λ x b q k. search (rules, tests))

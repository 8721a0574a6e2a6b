use Rattle.std.proofs.Common.{◌∙◌, rules, tests}
use Rattle.std.proofs.lemmas.Iterator.{YieldsList-from_slice}
use Rattle.std.proofs.lemmas.Iterator.Search.{any_from_yields_List}
use Rattle.watch.proofs.Arities.{differs, some_differs}
use Rattle.watch.proofs.watch.reasons.other_arity.Goals as goal

pub returns : goal.returns
returns c =
    let ms = c.args.methods.now in
    any_from_yields_List (differs c.args.id c.args.count) _ _ c.any.result c.any.ensures.ran (YieldsList-from_slice ms cc) (λ x b q k. search (rules, tests))
    ∙ some_differs c.args.id c.args.count ms

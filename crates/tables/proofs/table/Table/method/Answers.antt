use Rattle.std.proofs.Common.{◌==◌, ◌∙◌, rules, tests}
use Rattle.std.proofs.lemmas.Iterator.{YieldsList-from_slice}
use Rattle.std.proofs.lemmas.Iterator.Search.{find_from_yields_List}
use Rattle.tables.proofs.Calling.{name_of_found}
use Rattle.tables.proofs.table.Table.method.Goals as goal

pub returns : goal.returns
returns c =
    name_of_found c.args.self.now c.args.number c.copied.result
    (c.copied.ensures
    ∙ find_from_yields_List (λ m. m.number == c.args.number) _ _ _ c.find.ensures.ran (YieldsList-from_slice c.args.self.now.methods.items cc) (λ x b q k. search (rules, tests)))

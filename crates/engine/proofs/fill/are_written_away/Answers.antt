use Rattle.std.proofs.Common.{rules}
use Rattle.std.proofs.lemmas.Iterator.{YieldsList-from_slice}
use Rattle.std.proofs.lemmas.Iterator.Search.{all_from_yields_List}
use Rattle.engine.proofs.fill.are_written_away.Goals as goal

pub returns : goal.returns
returns g c = all_from_yields_List _ _ _ c.all.result c.all.ensures.ran (YieldsList-from_slice c.args.position.now.scene.now.statements.now cc) (λ x b q k. search (rules, k.met.1))

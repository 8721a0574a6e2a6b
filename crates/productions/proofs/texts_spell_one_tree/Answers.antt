use Rattle.productions.proofs.texts_spell_one_tree.Goals as goal
use Rattle.productions.proofs.Unique.{one_tree}

pub returns : goal.returns
returns c = one_tree

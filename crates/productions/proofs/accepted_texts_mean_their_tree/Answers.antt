use Rattle.productions.proofs.accepted_texts_mean_their_tree.Goals as goal
use Rattle.productions.proofs.Agreement.{trees_mean}

pub returns : goal.returns
returns c = trees_mean

use Rattle.topl.proofs.the_first_ruling_decides.Goals as goal
use Rattle.topl.proofs.Deciding.{finding}

pub returns : goal.returns
returns c = finding

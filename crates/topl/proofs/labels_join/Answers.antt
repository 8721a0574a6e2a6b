use Rattle.topl.proofs.labels_join.Goals as goal
use Rattle.topl.proofs.Lawful.{joined}

pub returns : goal.returns
returns c = joined

use Rattle.topl.proofs.histories_are_true.Goals as goal
use Rattle.topl.proofs.Telling.{telling}

pub returns : goal.returns
returns c = telling

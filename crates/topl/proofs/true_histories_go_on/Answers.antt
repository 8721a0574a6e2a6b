use Rattle.topl.proofs.true_histories_go_on.Goals as goal
use Rattle.topl.proofs.Telling.{telling_on}

pub returns : goal.returns
returns c = telling_on

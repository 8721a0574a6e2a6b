use Rattle.topl.proofs.paths_show_one_run.Goals as goal
use Rattle.topl.proofs.Telling.{one_run}

pub returns : goal.returns
returns c = one_run

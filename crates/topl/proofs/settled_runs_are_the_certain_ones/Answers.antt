use Rattle.topl.proofs.settled_runs_are_the_certain_ones.Goals as goal
use Rattle.topl.proofs.Settled.{settled_runs}

pub returns : goal.returns
returns c = settled_runs

use Rattle.topl.proofs.steps_are_runs.Goals as goal
use Rattle.topl.proofs.Replays.{replays}

pub returns : goal.returns
returns c = replays

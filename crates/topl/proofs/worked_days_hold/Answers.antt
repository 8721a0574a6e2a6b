use Rattle.topl.proofs.worked_days_hold.Goals as goal
use Rattle.topl.proofs.Days.{worked}

pub returns : goal.returns
returns c = worked

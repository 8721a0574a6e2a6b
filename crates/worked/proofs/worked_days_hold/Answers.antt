use Rattle.worked.proofs.worked_days_hold.Goals as goal
use Rattle.worked.proofs.Days.{worked_days}

pub returns : goal.returns
returns c = worked_days

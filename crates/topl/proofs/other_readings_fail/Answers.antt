use Rattle.topl.proofs.other_readings_fail.Goals as goal
use Rattle.topl.proofs.Examples.{excluded}

pub returns : goal.returns
returns c = excluded

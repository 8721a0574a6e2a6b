use Rattle.topl.proofs.phases_come_by_the_rule.Goals as goal
use Rattle.topl.proofs.Ruled.{ruled}

pub returns : goal.returns
returns c = ruled

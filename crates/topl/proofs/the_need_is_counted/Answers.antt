use Rattle.topl.proofs.the_need_is_counted.Goals as goal
use Rattle.topl.proofs.Needs.{needs_are_counted}

pub returns : goal.returns
returns c = needs_are_counted

use Rattle.topl.proofs.draws_take_one_event.Goals as goal
use Rattle.topl.proofs.Ruled.{draws_take_one}

pub returns : goal.returns
returns c = draws_take_one

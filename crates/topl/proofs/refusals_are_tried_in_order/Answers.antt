use Rattle.topl.proofs.refusals_are_tried_in_order.Goals as goal
use Rattle.topl.proofs.Refusing.{refusing}

pub returns : goal.returns
returns c = refusing

use Rattle.topl.proofs.worked_examples_hold.Goals as goal
use Rattle.topl.proofs.Examples.{examples}

pub returns : goal.returns
returns c = examples

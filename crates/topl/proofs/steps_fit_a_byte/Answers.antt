use Rattle.topl.proofs.steps_fit_a_byte.Goals as goal
use Rattle.topl.proofs.Lawful.{few_steps}

pub returns : goal.returns
returns c = few_steps

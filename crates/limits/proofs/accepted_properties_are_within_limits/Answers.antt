use Rattle.limits.proofs.accepted_properties_are_within_limits.Goals as goal
use Rattle.limits.proofs.Accepted.{accepted_within}

pub returns : goal.returns
returns c = accepted_within

use Rattle.limits.proofs.tables_within_limits_are_lawful.Goals as goal
use Rattle.limits.proofs.Lawful.{within_lawful}

pub returns : goal.returns
returns c = within_lawful

use Rattle.topl.proofs.lawful_tables_are_tested.Goals as goal
use Rattle.topl.proofs.Lawful.{tested}

pub returns : goal.returns
returns c = tested

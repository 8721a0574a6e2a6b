use Rattle.topl.proofs.a_larger_book_rules_alike.Goals as goal
use Rattle.topl.proofs.Verdicts.{larger_rules_alike}

pub returns : goal.returns
returns c = larger_rules_alike

use Rattle.productions.proofs.texts_are_nested_productions.Goals as goal
use Rattle.productions.proofs.Agreement.{nested_productions}

pub returns : goal.returns
returns c = nested_productions

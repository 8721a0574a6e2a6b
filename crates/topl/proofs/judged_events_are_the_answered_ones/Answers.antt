use Rattle.topl.proofs.judged_events_are_the_answered_ones.Goals as goal
use Rattle.topl.proofs.Telling.{judges_each_once}

pub returns : goal.returns
returns c = judges_each_once

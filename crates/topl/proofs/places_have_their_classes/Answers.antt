use Rattle.topl.proofs.places_have_their_classes.Goals as goal
use Rattle.topl.proofs.Placed.{placed}

pub returns : goal.returns
returns g c = placed _ _ g.met.K.Kind.empty g.met.K.Kind.lone

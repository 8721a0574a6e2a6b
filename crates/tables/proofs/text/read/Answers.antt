use Rattle.limits.proofs.Accepted.{accepted_within}
use Rattle.property.specs.Views.{sofar}
use Rattle.tables.proofs.text.read.Goals as goal

pub of-requires : goal.of-requires
of-requires c = accepted_within c.args.text.now (sofar c.args.text.now c.read.new.draft) c.in_ok-read.ensures.0

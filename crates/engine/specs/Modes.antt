-- The theory's mode.
use Rattle.topl.specs.Runs as R
use Rattle.engine.specs.declared.mode.Mode.{Mode}
use Rattle.engine.specs.declared.mode.Mode.TheVariants.{Settled, Closed}

abbrev pub mode_of : Mode → R.Mode
mode_of Settled = R.settled
mode_of Closed = R.closed

-- What a stage tells.
use Rattle.std.specs.Prelude.{ℕ, Some, None, Option}
use Rattle.kinds.specs.declared.phase.Phase.{Phase}
use Rattle.kinds.specs.declared.phase.Phase.TheVariants as phases
use Rattle.watch.specs.declared.held.Stage.{Stage}
use Rattle.watch.specs.declared.held.Stage.TheVariants.{Blank, Running, Broken, Spilled, Full, Kept}

-- the phase
abbrev pub phase_of : Stage → Phase
phase_of Blank = phases.Blank
phase_of (Running x) = phases.Running
phase_of (Broken b) = phases.Broken
phase_of Spilled = phases.Spilled
phase_of Full = phases.Full
phase_of Kept = phases.Kept

-- the position, if it is broken
abbrev pub position_of : Stage → Option ℕ
position_of Blank = None
position_of (Running x) = None
position_of (Broken b) = Some b.position
position_of Spilled = None
position_of Full = None
position_of Kept = None

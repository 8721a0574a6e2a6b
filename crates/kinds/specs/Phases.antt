-- What each phase of a watch is called and means.
use Rattle.std.specs.Prelude.{ℕ, List, codes}
use Rattle.kinds.specs.declared.phase.Phase.{Phase}
use Rattle.kinds.specs.declared.phase.Phase.TheVariants.{Blank, Running, Broken, Spilled, Full, Kept}

-- The name of each phase.
abbrev pub phase_name : Phase → List ℕ
phase_name Blank = codes "blank"  -- made, and not begun
phase_name Running = codes "running"  -- begun, and nothing is decided yet
phase_name Broken = codes "broken"  -- a run that reaches `error` is found and shown
phase_name Spilled = codes "spilled"  -- some position had more configurations than the cap
phase_name Full = codes "full"  -- the book had too few entries
phase_name Kept = codes "kept"  -- the list of events has ended and no run reaches `error`

use Rattle.std.proofs.Common.{◌≡◌, ℕ, List, ◌++◌, map, drop, vec_items}
use Rattle.property.specs.Views.{key_of}
use Rattle.limits.specs.Tables.{constants_from}
use Rattle.tables.specs.Views.{number}
use Rattle.tables.proofs.lower.constants.Given as goal

-- The constants so far, and those among the registers that are left.
abbrev pub invariant-loop-place : goal.invariant-loop-place
invariant-loop-place l =
    (t : List ℕ) → map number (vec_items l.constants) ++ constants_from l.place (map (key_of t) (drop l.place l.registers))
    ≡ constants_from 0 (map (key_of t) l.registers)

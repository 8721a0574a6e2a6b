use Rattle.std.proofs.Common.{◌≡◌, ◌+◌, ◌∷◌, map, length, take}
use Rattle.topl.specs.Table as T
use Rattle.limits.specs.Tables as by
use Rattle.tables.specs.Few.{few_items}
use Rattle.tables.specs.Views as views
use Rattle.tables.proofs.lower.called.Given as goal

-- Any returned value, and the patterns of the slots so far.
abbrev pub invariant-loop-slot : goal.invariant-loop-slot
invariant-loop-slot l =
    (map views.pattern (few_items l.patterns) ≡ T.Any ∷ map by.placed (take l.slot-index l.slots))
    × (length (few_items l.patterns) ≡ l.slot-index + 1)

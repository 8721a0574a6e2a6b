use Rattle.std.proofs.Common.{◌≡◌, ◌++◌, map, take}
use Rattle.std.specs.List.{flat_map}
use Rattle.day.specs.Lines.{field, written}
use Rattle.day.proofs.listing.print_values.Given as goal

-- the values so far are written, each after a space
abbrev pub invariant-loop-value : goal.invariant-loop-value
invariant-loop-value g l =
    written l.page ≡ written l.initial.page ++ flat_map field (map g.K.Shown.shown (take l.value-index l.values))

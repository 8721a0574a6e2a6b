use Rattle.std.proofs.Common.{◌≡◌, ◌++◌, map, take, decimal}
use Rattle.std.specs.List.{flat_map}
use Rattle.day.specs.Lines.{field, written}
use Rattle.day.proofs.report.print_further.Given as goal

-- the steps so far are written, each after a space
abbrev pub invariant-loop-step : goal.invariant-loop-step
invariant-loop-step l = written l.page ≡ written l.initial.page ++ flat_map field (map decimal (take l.step-index l.steps))

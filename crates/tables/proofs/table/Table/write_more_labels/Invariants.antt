use Rattle.std.proofs.Common.{map, take, codes}
use Rattle.std.specs.Fmt.{HasWritten, IsPlainFormatter}
use Rattle.tables.specs.Meant.{names}
use Rattle.tables.specs.Views as views
use Rattle.tables.specs.Written as by
use Rattle.tables.proofs.table.Table.write_more_labels.Given as goal

-- The labels so far.
abbrev pub invariant-loop-event : goal.invariant-loop-event
invariant-loop-event g l =
    IsPlainFormatter l.fn.f
    → HasWritten g.W.Write.write_str_gives l.fn.f (by.each_after (codes "; ") (map (by.label (names l.self)) (map views.matcher (take l.event-index l.events)))) l.f

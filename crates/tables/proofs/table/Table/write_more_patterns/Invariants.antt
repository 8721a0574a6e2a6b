use Rattle.std.proofs.Common.{map, take, codes}
use Rattle.std.specs.Fmt.{HasWritten, IsPlainFormatter}
use Rattle.tables.specs.Meant.{names}
use Rattle.tables.specs.Views as views
use Rattle.tables.specs.Written as by
use Rattle.tables.proofs.table.Table.write_more_patterns.Given as goal

-- The patterns so far.
abbrev pub invariant-loop-pattern : goal.invariant-loop-pattern
invariant-loop-pattern g l =
    IsPlainFormatter l.fn.f
    → HasWritten g.W.Write.write_str_gives l.fn.f (by.each_after (codes ", ") (map (by.pattern (names l.self)) (map views.pattern (take l.pattern-index l.patterns)))) l.f

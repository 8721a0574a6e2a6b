use Rattle.std.proofs.Common.{map, take, flat_map, vec_items}
use Rattle.std.specs.Fmt.{HasWritten, IsPlainFormatter}
use Rattle.tables.specs.Meant.{names}
use Rattle.tables.specs.Views as views
use Rattle.tables.specs.Written as by
use Rattle.tables.proofs.table.Table.write_statements.Given as goal

-- The statements so far.
abbrev pub invariant-loop-statement : goal.invariant-loop-statement
invariant-loop-statement g l =
    IsPlainFormatter l.fn.f
    → HasWritten g.W.Write.write_str_gives l.fn.f
    (flat_map (by.statement_line (names l.self)) (map views.statement (take l.statement-index (vec_items l.self.statements)))) l.f

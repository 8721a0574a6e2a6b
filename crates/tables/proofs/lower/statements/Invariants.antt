use Rattle.std.proofs.Common.{◌≡◌, map, take, vec_items}
use Rattle.limits.specs.Tables as by
use Rattle.tables.specs.Views as views
use Rattle.tables.proofs.lower.statements.Given as goal

-- The statements so far.
abbrev pub invariant-loop-written : goal.invariant-loop-written
invariant-loop-written l = map views.statement (vec_items l.statements) ≡ map by.statement (take l.written-index l.all)

use Rattle.std.proofs.Common.{◌≡◌, map, length, take}
use Rattle.limits.specs.Tables as by
use Rattle.tables.specs.Few.{few_items}
use Rattle.tables.specs.Views as views
use Rattle.tables.proofs.lower.statement.Given as goal

-- The guards of the events so far.
abbrev pub invariant-loop-event : goal.invariant-loop-event
invariant-loop-event l =
    (map views.matcher (few_items l.events) ≡ map by.matcher (take l.event-index l.spanned))
    × (length (few_items l.events) ≡ l.event-index)

use Rattle.std.proofs.Common.{◌-◌, ◌≤◌, length, vec_items}
use Rattle.sources.specs.Records.{Values}
use Rattle.judging.proofs.constants.read_constants.Given as goal

-- the values so far stand one after the other up to the place
abbrev pub invariant-loop-values : goal.invariant-loop-values
invariant-loop-values g l = Values g.K.Kind.reads l.bytes 0 (vec_items l.values) l.place × (l.place ≤ length l.bytes) × (length (vec_items l.values) ≤ 9)

abbrev pub decreases-loop-values : goal.decreases-loop-values
decreases-loop-values g l = length l.bytes - l.place

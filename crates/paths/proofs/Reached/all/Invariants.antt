use Rattle.std.proofs.Common.{◌≡◌, true, false, get_or}
use Rattle.paths.proofs.Unset.{unset}
use Rattle.paths.specs.Search.{Searches, AllReached}
use Rattle.paths.proofs.Reached.all.Given as goal

abbrev pub invariant-loop-q : goal.invariant-loop-q
invariant-loop-q l = record {
  searched : Searches l.statements l.register l.reached;
  sound : AllReached l.reached;
  begun : get_or l.reached.seen 0 false ≡ true;
}

abbrev pub decreases-loop-q : goal.decreases-loop-q
decreases-loop-q l = unset l.reached.seen

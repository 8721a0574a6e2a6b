use Rattle.std.proofs.Common.{[], List, length}
use Rattle.topl.specs.Lists.{Class}
use Rattle.topl.specs.Table.{Table as Property}
use Rattle.watch.specs.Shows.{Shows}
use Rattle.judging.specs.Ways.{events, running_on}
use Rattle.judging.proofs.Draws.{Stands}
use Rattle.judging.proofs.turns.draw_all.Given as goal

-- some of the events are judged quietly, and the others wait
abbrev pub invariant-loop-standing : goal.invariant-loop-standing
invariant-loop-standing g l =
    let class = g.K.Kind.class in
    let waits = g.S.Source.waiting in
    let ends = g.S.Source.ending in
    (P : Property) (ks : List Class) → Shows l.fn.watch (running_on P ks []) →
    Stands P ks (events class (waits l.fn.source)) (ends l.fn.source) (Shows l.watch) (events class (waits l.source)) (ends l.source)

abbrev pub decreases-loop-standing : goal.decreases-loop-standing
decreases-loop-standing g l = length (g.S.Source.waiting l.source)

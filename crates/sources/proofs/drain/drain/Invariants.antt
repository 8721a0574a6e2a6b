use Rattle.std.proofs.Common.{◌≡◌, ◌++◌, map, length, vec_items}
use Rattle.sources.specs.Sayings.{says}
use Rattle.sources.proofs.drain.drain.Given as goal

-- what was taken and what waits is what waited
abbrev pub invariant-loop-event : goal.invariant-loop-event
invariant-loop-event g l =
    let s = g.S.Source in
    (map says (vec_items l.events) ++ s.waiting l.source ≡ s.waiting l.initial.source) × (s.ending l.source ≡ s.ending l.initial.source)

abbrev pub decreases-loop-event : goal.decreases-loop-event
decreases-loop-event g l = length (g.S.Source.waiting l.source)

use Rattle.std.proofs.Common.{◌≡◌, length}
use Rattle.narrow.specs.Narrowing.{listed, only}
use Rattle.narrow.proofs.filter.NarrowSource.next.Given as goal

-- what was passed over is of other methods
abbrev pub invariant-loop-event : goal.invariant-loop-event
invariant-loop-event g l =
    let s = g.S.Source in
    (l.self.methods ≡ l.initial.self.methods)
    × (only (listed l.self.methods) (s.waiting l.self.below) ≡ only (listed l.initial.self.methods) (s.waiting l.initial.self.below))
    × (s.ending l.self.below ≡ s.ending l.initial.self.below)

abbrev pub decreases-loop-event : goal.decreases-loop-event
decreases-loop-event g l = length (g.S.Source.waiting l.self.below)

use Rattle.std.proofs.Common.{◌≡◌, ◌+◌, ◌<◌, length, vec_items}
use Rattle.engine.specs.Trails.{steps_to}
use Rattle.engine.proofs.book.Book.depth.Given as goal

abbrev pub invariant-loop-at : goal.invariant-loop-at
invariant-loop-at l = (0 < l.at → l.at < l.self.used) × (l.count + length (steps_to (vec_items l.self.entries) l.at) ≡ length (steps_to (vec_items l.self.entries) l.initial.at))

abbrev pub decreases-loop-at : goal.decreases-loop-at
decreases-loop-at l = l.at

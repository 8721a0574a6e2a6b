use Rattle.std.proofs.Common.{◌≡◌, ℕ, ◌<◌, List, ◌++◌, length, take, drop, vec_items}
use Rattle.engine.specs.Trails.{steps_to}
use Rattle.engine.proofs.book.Book.write.Given as goal

abbrev pub invariant-loop-at : goal.invariant-loop-at
invariant-loop-at l =
    (0 < l.at → l.at < l.self.used) × (l.left ≡ length (steps_to (vec_items l.self.entries) l.at))
    × ((done : List ℕ) × (steps_to (vec_items l.self.entries) l.initial.at ≡ steps_to (vec_items l.self.entries) l.at ++ done)
    × (l.page ≡ take l.left l.initial.page ++ (done ++ drop (length (steps_to (vec_items l.self.entries) l.initial.at)) l.initial.page)))

abbrev pub decreases-loop-at : goal.decreases-loop-at
decreases-loop-at l = l.at

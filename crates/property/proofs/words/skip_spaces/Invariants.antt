use Rattle.std.proofs.Common.{◌≡◌, ℕ, ◌-◌, ◌<◌, ◌≤◌, true, length, get_or}
use Rattle.forms.specs.Bytes.{space}
use Rattle.property.proofs.words.skip_spaces.Given as goal

abbrev pub invariant-loop-from : goal.invariant-loop-from
invariant-loop-from l =
    (l.initial.from ≤ l.from) × (l.from ≤ length l.text)
    × ((k : ℕ) → l.initial.from ≤ k → k < l.from → space (get_or l.text k 0) ≡ true)

abbrev pub decreases-loop-from : goal.decreases-loop-from
decreases-loop-from l = length l.text - l.from

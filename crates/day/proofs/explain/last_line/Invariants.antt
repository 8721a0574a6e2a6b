use Rattle.std.proofs.Common.{◌≡◌, ◌≤◌, drop, take}
use Rattle.day.specs.Explaining.{since_end}
use Rattle.day.proofs.explain.last_line.Given as goal

-- what stands behind the last line's end so far begins there
abbrev pub invariant-loop-i : goal.invariant-loop-i
invariant-loop-i l = (l.begin ≤ l.i) × (drop l.begin (take l.i l.bytes) ≡ since_end (take l.i l.bytes))

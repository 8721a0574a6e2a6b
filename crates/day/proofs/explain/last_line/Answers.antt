use Rattle.std.proofs.Common.{arith, subst, sym, ◌≡◌, ◌≤◌, ◌+◌, ℕ, drop, take}
use Rattle.day.specs.Explaining.{since_end}
use Rattle.day.proofs.Places.{begins_behind, begins_before}
use Rattle.day.proofs.explain.last_line.Goals as goal
use Rattle.day.proofs.explain.last_line.Goals.{then-byte-eq10, else-byte-eq10}

pub loop-i-preserved : goal.loop-i-preserved
loop-i-preserved c =
    let Begins : ℕ → Type 0 = λ b. (b ≤ c.loop-i.i + 1) × (drop b (take (c.loop-i.i + 1) c.args.bytes.now) ≡ since_end (take (c.loop-i.i + 1) c.args.bytes.now)) in
    elim c.if-byte-eq10.branch [
      | then-byte-eq10 w ↦ subst Begins (sym w.begin-is) (omega arith, begins_behind c.args.bytes.now c.loop-i.i c.loop-i-test.true w.if-byte-eq10.true)
      | else-byte-eq10 w ↦ subst Begins (sym w.begin-is) (omega arith, begins_before c.args.bytes.now c.loop-i.begin c.loop-i.i c.loop-i-test.true c.loop-i.invariant.0 c.loop-i.invariant.1 w.if-byte-eq10.false)
    ]

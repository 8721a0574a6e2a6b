use Rattle.engine.specs.Modes.{mode_of}
use Rattle.engine.specs.Fronts.{stands_for}
use Rattle.engine.proofs.Tables.{quiet_not, quiet_away, quiet_here}
use Rattle.engine.proofs.fill.is_quiet.Goals as goal

pub returns-then-c-ne-START : goal.returns-then-c-ne-START
returns-then-c-ne-START g c P w W =
    let s = c.args.scene.now in
    quiet_away w s.base (stands_for g.K.Kind.class c.args.c.now) P s.statements.now W.statements c.are_written_calm.result (c.are_written_calm.ensures P w W)
    c.if-are_written_calm.true c.if-c-ne-START.true

pub returns-else-c-ne-START : goal.returns-else-c-ne-START
returns-else-c-ne-START g c P w W =
    let s = c.args.scene.now in
    quiet_here w s.base (stands_for g.K.Kind.class c.args.c.now) P s.statements.now W.statements c.are_written_calm.result (c.are_written_calm.ensures P w W)
    c.if-are_written_calm.true c.if-c-ne-START.false (mode_of s.mode) W.mode c.is_calm.result (c.is_calm.ensures _ W.events)

pub returns-else-are_written_calm : goal.returns-else-are_written_calm
returns-else-are_written_calm g c P w W =
    let s = c.args.scene.now in
    quiet_not w s.base (stands_for g.K.Kind.class c.args.c.now) P s.statements.now W.statements c.are_written_calm.result (c.are_written_calm.ensures P w W) c.if-are_written_calm.false

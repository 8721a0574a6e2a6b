use Rattle.std.proofs.Common.{◌≡◌, ◌+◌, ◌%◌, length, Ok, Err, refl, arith}
use Rattle.std.proofs.lemmas.Result.{err_from_is_err_and}
use Rattle.engine.specs.Views.{stated}
use Rattle.engine.specs.Fronts.{stands_for}
use Rattle.engine.proofs.Tables.{written_is, implied_is}
use Rattle.engine.proofs.Fills.{safe_on}
use Rattle.engine.proofs.Steps.{steps_had, steps_more, steps_end, steps_error}
use Rattle.engine.proofs.fill.step_configuration.Goals as goal

pub returns-in_err-step_statement-clause-brings : goal.returns-in_err-step_statement-clause-brings
returns-in_err-step_statement-clause-brings g c P k w W r _ =
    let told = err_from_is_err_and c.from_residual-in_err-step_statement.result c.from_residual-in_err-step_statement.ensures.1 in
    let class = g.K.Kind.class in
    let s = c.args.grid.now in
    let t = c.written_at.result in
    let at = c.args.at.now in
    let d = stands_for class at.configuration in
    let scene = c.args.position.now.scene.now in
    let ts = scene.statements.now in
    let base = scene.base in
    let p = c.args.position.now.number in
    let slot = p % 5 in
    let i = c.loop-i.i in
    let x = c.in_err-step_statement.field-0.0 in
    let is = written_is P ts W.statements i t.number c.t-item.result (stated t) c.loop-i-test.true c.t-item.is c.written_at.ensures.number c.written_at.ensures.stands in
    rw (told.1, told.2)
    (steps_error P w base d p class slot k s c.step_statement.new.grid (i + 1) x
    (steps_more P w base d p class slot k s c.loop-i.grid c.step_statement.new.grid c.loop-i.invariant.safe.cap i (t.number, stated t) (Err x) at.entry is.0 is.1 c.requires r (c.loop-i.invariant.brings P k w W r) (c.in_err-step_statement.ensures.brings P k w W)))

pub returns-then-is_decided-clause-brings : goal.returns-then-is_decided-clause-brings
returns-then-is_decided-clause-brings g c P k w W r had =
    let class = g.K.Kind.class in
    let at = c.args.at.now in
    let p = c.args.position.now.number in
    let t = c.step_skip.new.grid in
    steps_had P w c.args.position.now.scene.now.base (stands_for class at.configuration) p class (p % 5) k c.args.grid.now t c.in_ok-step_skip.ensures.safe.cap (omega arith) (had c.if-is_decided.true).1
    (c.in_ok-step_skip.ensures.brings P k w W r)

pub loop-i-preserved : goal.loop-i-preserved
loop-i-preserved g c =
    let class = g.K.Kind.class in
    let s = c.args.grid.now in
    let t = c.written_at.result in
    let at = c.args.at.now in
    let d = stands_for class at.configuration in
    let scene = c.args.position.now.scene.now in
    let ts = scene.statements.now in
    let base = scene.base in
    let p = c.args.position.now.number in
    let slot = p % 5 in
    let i = c.loop-i.i in
    record {
      safe = safe_on slot s c.loop-i.grid c.step_statement.new.grid (Ok tt) c.loop-i.invariant.safe c.in_ok-step_statement.ensures.safe;
      brings = λ P k w W r.
          let is = written_is P ts W.statements i t.number c.t-item.result (stated t) c.loop-i-test.true c.t-item.is c.written_at.ensures.number c.written_at.ensures.stands in
          steps_more P w base d p class slot k s c.loop-i.grid c.step_statement.new.grid c.loop-i.invariant.safe.cap i (t.number, stated t) (Ok tt) at.entry is.0 is.1 c.requires r (c.loop-i.invariant.brings P k w W r) (c.in_ok-step_statement.ensures.brings P k w W);
    }

pub returns-clause-brings : goal.returns-clause-brings
returns-clause-brings g c P k w W r _ =
    let class = g.K.Kind.class in
    let s = c.args.grid.now in
    let t = c.implied_by.result in
    let at = c.args.at.now in
    let d = stands_for class at.configuration in
    let scene = c.args.position.now.scene.now in
    let ts = scene.statements.now in
    let base = scene.base in
    let p = c.args.position.now.number in
    let slot = p % 5 in
    let i = c.loop-i.i in
    let o = c.step_statement-2.result in
    let e : i ≡ length ts = omega (arith, c.loop-i-test.false) in
    let is = implied_is P ts W.statements i t.number (stated t) e c.implied_by.ensures.number (c.implied_by.ensures.stands refl) in
    steps_end P w base d p class slot k s c.step_statement-2.new.grid (i + 1) o is.2
    (steps_more P w base d p class slot k s c.loop-i.grid c.step_statement-2.new.grid c.loop-i.invariant.safe.cap i (t.number, stated t) o at.entry is.0 is.1 c.requires r (c.loop-i.invariant.brings P k w W r) (c.step_statement-2.ensures.brings P k w W))

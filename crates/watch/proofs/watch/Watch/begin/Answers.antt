use Rattle.std.proofs.Common.{◌≡◌, ℕ, length, Ok, Err, sym, ap, ◌∙◌, subst, arith}
use Rattle.std.specs.Result.{result_or}
use Rattle.tables.specs.Meant.{meant}
use Rattle.engine.specs.Opening.{Opens}
use Rattle.engine.proofs.Properties.{lawful}
use Rattle.watch.proofs.Beginning.{begin_free, begin_runs, opened}
use Rattle.watch.proofs.watch.Watch.begin.Goals as goal

pub returns-in_err-or : goal.returns-in_err-or
returns-in_err-or g c l sh =
    let w = c.args.self.now in
    let x = c.args.table in
    let values = c.args.constants.now in
    let class = g.K.Kind.class in
    let free = begin_free class w.rows.state w.held l sh x values c.args.cap (length c.constants.result.now) (ap length c.constants.ensures) c.in_ok-may_begin.ensures in
    let ok = opened class w.rows.state w.held l sh x values c.args.cap free c.open.new.self.state c.open.result c.open.ensures in
    let not : Err c.in_err-or.field-0.0 ≡ Ok tt = sym c.in_err-or.was ∙ (c.or.ensures ∙ ap (λ r. result_or r (Err c.refuse-small.result)) ok) in
    let z : ◌≡◌ {A = ℕ} 0 1 = cc in
    absurd (omega arith)

pub returns : goal.returns
returns g c l sh =
    let w = c.args.self.now in
    let x = c.args.table in
    let t = x.now in
    let values = c.args.constants.now in
    let class = g.K.Kind.class in
    let free = begin_free class w.rows.state w.held l sh x values c.args.cap (length c.constants.result.now) (ap length c.constants.ensures) c.in_ok-may_begin.ensures in
    let ok = opened class w.rows.state w.held l sh x values c.args.cap free c.open.new.self.state c.open.result c.open.ensures in
    begin_runs class w.rows.state w.held l sh x values c.args.cap free c.open.new.self.state (lawful t)
    (subst (Opens class w.rows.state c.open.new.self.state (meant t) values c.args.cap) ok c.open.ensures)

use Rattle.std.proofs.Common.{sym, subst}
use Rattle.watch.specs.Shows.{Agrees}
use Rattle.watch.proofs.Deciding.{close_ruled}
use Rattle.watch.proofs.watch.Watch.close.Goals as goal

pub returns : goal.returns
returns g c l sh =
    let w = c.args.self.now in
    let d = c.end_list-ruling in
    let z = close_ruled g.K.Kind.class w.rows.state w.held l sh d.new.self.state c.turn.new.self.held c.in_ok-table.table d.result c.turn.result
    c.in_ok-table.ensures d.ensures.stays d.ensures.rules c.turn.ensures.0 in
    (z.0, subst (λ r. Agrees g.K.Kind.class r.state c.turn.new.self.held z.0) (sym c.turn.ensures.1) z.1, z.2)

use Rattle.std.proofs.Common.{Ok, Err, sym, ap, ◌∙◌, subst}
use Rattle.std.proofs.lemmas.Result.{err_from_is_err_and}
use Rattle.topl.specs.Ledger.{refused, Draws}
use Rattle.watch.specs.Answers.{drew, stands_for}
use Rattle.watch.specs.Shows.{meaning}
use Rattle.watch.proofs.Drawing.{draw_fed}
use Rattle.watch.proofs.watch.Watch.draw.Goals as goal

pub returns-in_err-standing : goal.returns-in_err-standing
returns-in_err-standing g c l sh =
    let w = c.args.self.now in
    let hs = g.S.Source.waiting c.args.source.now in
    let n = g.S.Source.ending c.args.source.now in
    let ks = g.S.Source.waiting c.next.new.self in
    let n' = g.S.Source.ending c.next.new.self in
    let f = c.in_err-standing.field-0.0 in
    let d = c.in_err-standing.ensures l sh in
    let p = err_from_is_err_and c.from_residual-in_err-standing.result c.from_residual-in_err-standing.ensures.1 in
    let drawn = draw_fed g.K.Kind.class w.rows.state w.held l sh c.in_ok-running.field-0 c.in_ok-running.ensures hs ks n n' c.next.result c.in-Some.event c.id.result c.values.result.now d.0 (refused f) c.next.ensures (c.in_ok-event.was ∙ ap Ok c.in-Some.is) c.id.ensures c.values.ensures d.2 in
    (d.0, d.1, subst (λ r. Draws l (meaning g.K.Kind.class hs n) (d.0, drew r) (meaning g.K.Kind.class ks n')) (sym (p.1 ∙ ap Err p.2)) drawn)

pub returns : goal.returns
returns g c l sh =
    let w = c.args.self.now in
    let hs = g.S.Source.waiting c.args.source.now in
    let n = g.S.Source.ending c.args.source.now in
    let ks = g.S.Source.waiting c.next.new.self in
    let n' = g.S.Source.ending c.next.new.self in
    let d = c.in_ok-standing.ensures l sh in
    (d.0, d.1, draw_fed g.K.Kind.class w.rows.state w.held l sh c.in_ok-running.field-0 c.in_ok-running.ensures hs ks n n' c.next.result c.in-Some.event c.id.result c.values.result.now d.0 (stands_for c.in_ok-standing.standing) c.next.ensures (c.in_ok-event.was ∙ ap Ok c.in-Some.is) c.id.ensures c.values.ensures d.2)

use Rattle.std.proofs.Common.{map, ◌≡◌, None, sym, ap, ◌∙◌, subst}
use Rattle.std.proofs.lemmas.List.{length-map}
use Rattle.topl.specs.Theorems.{seen}
use Rattle.topl.specs.Ledger.{event_reason, count_reason}
use Rattle.tables.specs.Meant.{meant}
use Rattle.tables.specs.Properties.{method}
use Rattle.watch.specs.Shows.{Agrees}
use Rattle.watch.proofs.Deciding.{feed_ruled}
use Rattle.watch.proofs.watch.Watch.feed.Goals as goal

pub returns : goal.returns
returns g c l sh =
    let w = c.args.self.now in
    let x = c.in_ok-table.table in
    let e = seen g.K.Kind.class c.args.id c.args.values.now in
    let k : event_reason (meant x.now) e ≡ None =
    ap (count_reason (meant x.now) c.args.id) (length-map c.args.values.now g.K.Kind.class) ∙ c.in_ok-may_take.ensures (meant x.now) (ap (map method) (sym c.methods.ensures)) in
    let d = c.take_event-ruling in
    let z = feed_ruled g.K.Kind.class w.rows.state w.held l sh d.new.self.state c.turn.new.self.held e x d.result c.turn.result
    c.in_ok-table.ensures k d.ensures.stays d.ensures.rules c.turn.ensures.0 in
    (z.0, subst (λ r. Agrees g.K.Kind.class r.state c.turn.new.self.held z.0) (sym c.turn.ensures.1) z.1, z.2)

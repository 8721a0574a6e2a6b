use Rattle.std.proofs.Common.{◌≡◌, [], length, map, Err, sym, ap, ◌∙◌, subst}
use Rattle.std.proofs.lemmas.List.{length-map}
use Rattle.std.proofs.lemmas.Result.{err_from_is_err_and}
use Rattle.topl.specs.Ledger.{begun, refused, fresh}
use Rattle.kinds.specs.declared.refusal.Reason.TheVariants.{Watch as of_watch}
use Rattle.kinds.specs.declared.watch_reason.WatchReason.TheVariants.{OtherConstants}
use Rattle.tables.specs.Meant.{meant}
use Rattle.watch.specs.Shows.{Shows}
use Rattle.judging.specs.Outcomes as O
use Rattle.judging.specs.Outcomes.{watch_refuses}
use Rattle.judging.specs.Ways.{Gives, running_on}
use Rattle.judging.proofs.Begins.{starts}
use Rattle.judging.proofs.turns.begin.Goals as goal

pub returns : goal.returns
returns g c =
    let P = meant c.args.table.now in
    let ks = map g.K.Kind.class c.args.constants.now in
    let d = c.in_ok-begin.ensures (fresh 2624 16384) c.in_ok-watch.ensures in
    let s = starts P ks (d.0, begun) d.2 in
    (sym (length-map c.args.constants.now g.K.Kind.class) ∙ s.0, subst (Shows c.begin.new.self) s.1 d.1)

pub returns-in_err-begin : goal.returns-in_err-begin
returns-in_err-begin g c =
    let P = meant c.args.table.now in
    let ks = map g.K.Kind.class c.args.constants.now in
    let d = c.in_err-begin.ensures (fresh 2624 16384) c.in_ok-watch.ensures in
    let s = starts P ks (d.0, refused c.in_err-begin.field-0.0) d.2 in
    let p = err_from_is_err_and c.from_residual-in_err-begin.result c.from_residual-in_err-begin.ensures.1 in
    let other : ¬ (length c.args.constants.now ≡ length P.constants) = λ e. s.0 (length-map c.args.constants.now g.K.Kind.class ∙ e) in
    subst (λ r. Gives
    (λ w. (length c.args.constants.now ≡ length P.constants) × Shows w (running_on P ks []))
    (λ f. ¬ (length c.args.constants.now ≡ length P.constants) × (O.refused f ≡ watch_refuses (of_watch OtherConstants) 0)) r) (sym (p.1 ∙ ap Err p.2)) (other, s.1)

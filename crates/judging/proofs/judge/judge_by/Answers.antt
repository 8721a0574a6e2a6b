use Rattle.std.proofs.Common.{◌≡◌, length, map, Ok, Err, sym, ap, ◌∙◌, subst}
use Rattle.std.proofs.lemmas.Result.{err_from_is_err_and}
use Rattle.kinds.specs.declared.refusal.Reason.TheVariants.{Watch as of_watch}
use Rattle.kinds.specs.declared.watch_reason.WatchReason.TheVariants.{OtherConstants}
use Rattle.tables.specs.Meant.{meant}
use Rattle.judging.specs.Outcomes.{ComesBy, ConstantsRead, refused, watch_refuses, head_refused, constants_refused}
use Rattle.judging.specs.Ways.{ComesOut}
use Rattle.judging.proofs.Days.{stops_so, begins_not, ends_so}
use Rattle.judging.proofs.judge.judge_by.Goals as goal

pub returns-in_err-events : goal.returns-in_err-events
returns-in_err-events g c text P written is =
    let comes = ComesBy g.K.Kind.reads g.K.Kind.NUMBER g.K.Kind.class text c.args.journal.now c.args.constants.now in
    let p = err_from_is_err_and c.from_residual.result c.from_residual.ensures.1 in
    subst (ComesOut comes) (sym (p.1 ∙ ap Err p.2)) (head_refused P c.in_err-events.field-0.0 written c.in_err-events.ensures)

pub returns-in_err-values : goal.returns-in_err-values
returns-in_err-values g c text P written is =
    let comes = ComesBy g.K.Kind.reads g.K.Kind.NUMBER g.K.Kind.class text c.args.journal.now c.args.constants.now in
    let p = err_from_is_err_and c.from_residual-in_err-values.result c.from_residual-in_err-values.ensures.1 in
    subst (ComesOut comes) (sym (p.1 ∙ ap Err p.2))
    (stops_so (λ f. ConstantsRead g.K.Kind.reads c.args.constants.now (Err f)) (λ f. comes (refused f)) c.in_err-values.field-0.0 c.in_err-values.ensures
    (λ f d. constants_refused P f written c.in_ok-events.ensures.head d))

pub returns-in_err-watch : goal.returns-in_err-watch
returns-in_err-watch g c text P written is =
    let comes = ComesBy g.K.Kind.reads g.K.Kind.NUMBER g.K.Kind.class text c.args.journal.now c.args.constants.now in
    let vs = c.deref.result.now in
    let t = meant c.args.table.now in
    let read = subst (λ z. ConstantsRead g.K.Kind.reads c.args.constants.now (Ok z)) (sym c.deref.ensures.value) c.in_ok-values.ensures in
    let p = err_from_is_err_and c.from_residual-in_err-watch.result c.from_residual-in_err-watch.ensures.1 in
    subst (ComesOut comes) (sym (p.1 ∙ ap Err p.2))
    (stops_so (λ f. ¬ (length vs ≡ length t.constants) × (refused f ≡ watch_refuses (of_watch OtherConstants) 0)) (λ f. comes (refused f)) c.in_err-watch.field-0.0 c.in_err-watch.ensures
    (λ f d. begins_not g.K.Kind.reads g.K.Kind.LONGEST g.K.Kind.NUMBER g.K.Kind.class text c.args.journal.now c.args.constants.now P written t is c.in_ok-events.events c.in_ok-events.ensures vs read f d.0 d.1))

pub returns : goal.returns
returns g c text P written is =
    let vs = c.deref.result.now in
    let t = meant c.args.table.now in
    let read = subst (λ z. ConstantsRead g.K.Kind.reads c.args.constants.now (Ok z)) (sym c.deref.ensures.value) c.in_ok-values.ensures in
    let b = c.in_ok-watch.ensures in
    ends_so g.K.Kind.reads g.K.Kind.LONGEST g.K.Kind.NUMBER g.K.Kind.class text c.args.journal.now c.args.constants.now P written t is c.in_ok-events.events c.in_ok-events.ensures vs read b.0 c.run.result
    (c.run.ensures t (map g.K.Kind.class vs) b.1)

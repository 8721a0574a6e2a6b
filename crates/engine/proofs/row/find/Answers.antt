use Rattle.std.proofs.Common.{true, false, get_or, ap, arith}
use Rattle.engine.proofs.Searches.{alike_step, search_state, search_register}
use Rattle.engine.proofs.row.find.Goals as goal

pub configurations-preserved-then-s-c : goal.configurations-preserved-then-s-c
configurations-preserved-then-s-c g c =
    search_state g.K.Kind.class c.args.states.now c.args.values.now c.args.c.now c.configurations.i c.configurations-test.true c.requires c.configurations.invariant c.if-s-c.true

pub configurations-preserved : goal.configurations-preserved
configurations-preserved g c =
    let d = c.args.c.now in
    let eight = d.eight in
    let x = get_or d.registers c.loop-r.r c.value-item.result in
    search_register g.K.Kind.class c.args.states.now c.args.values.now d c.configurations.i c.configurations-test.true c.requires c.configurations.invariant
    (alike_step g.K.Kind.class c.args.states.now c.args.values.now d c.configurations.i c.configurations-test.true c.requires
    c.loop-r.r x c.index-values-i.result c.same.result false (omega (arith, c.loop-r-test.true)) (ap (λ z. get_or d.registers c.loop-r.r z) c.value-item.is) c.index-values-i.is c.same.ensures c.if-not-same.true c.loop-r.invariant)

pub loop-r-preserved : goal.loop-r-preserved
loop-r-preserved g c =
    let d = c.args.c.now in
    let eight = d.eight in
    let x = get_or d.registers c.loop-r.r c.value-item.result in
    alike_step g.K.Kind.class c.args.states.now c.args.values.now d c.configurations.i c.configurations-test.true c.requires
    c.loop-r.r x c.index-values-i.result c.same.result true (omega (arith, c.loop-r-test.true)) (ap (λ z. get_or d.registers c.loop-r.r z) c.value-item.is) c.index-values-i.is c.same.ensures c.if-not-same.false c.loop-r.invariant

use Rattle.std.proofs.Common.{sym, ◌∙◌}
use Rattle.engine.specs.Fronts.{stands_for}
use Rattle.engine.specs.Grids.{grid_of}
use Rattle.engine.proofs.Fronts.{room_for}
use Rattle.engine.proofs.Fills.{brought_in, brought_over}
use Rattle.engine.proofs.fill.land.Goals as goal

pub returns-then-is_err-clause-brings : goal.returns-then-is_err-clause-brings
returns-then-is_err-clause-brings g c P k w p r =
    let class = g.K.Kind.class in
    let s = c.args.grid.now in
    let d = c.args.c.now in
    brought_over class s.cap P k w p c.args.slot.at c.args.slot.five (grid_of s) (room_for s) (grid_of c.arrive.new.grid) c.args.from (stands_for class d) c.if-c-eq-ERROR.false
    c.arrive.result (sym c.is_err.ensures.value ∙ c.if-is_err.true) c.arrive.ensures.arrives _ _ _

pub returns-else-is_err-clause-brings : goal.returns-else-is_err-clause-brings
returns-else-is_err-clause-brings g c P k w p r =
    let class = g.K.Kind.class in
    let s = c.args.grid.now in
    let d = c.args.c.now in
    brought_in class s.cap P k w p c.args.slot.at c.args.slot.five (grid_of s) (room_for s) (grid_of c.arrive.new.grid) c.args.from (stands_for class d) c.if-c-eq-ERROR.false
    c.arrive.result (sym c.is_err.ensures.value ∙ c.if-is_err.false) c.arrive.ensures.arrives r

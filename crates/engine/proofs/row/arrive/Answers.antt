use Rattle.std.proofs.Common.{refl, ◌∙◌, inl, inr, arith}
use Rattle.engine.proofs.Fronts.{length_row_at, searched, arrived, arrived_room}
use Rattle.engine.specs.Grids.{grid_of}
use Rattle.engine.proofs.row.arrive.Goals as goal

pub returns-then-find-clause-arrives : goal.returns-then-find-clause-arrives
returns-then-find-clause-arrives g c =
    inl (searched g.K.Kind.class c.args.grid.now c.args.slot.at c.args.c.now c.args.slot.five c.states_of.result.now c.part_of.result.now c.find.result c.states_of.ensures.are c.part_of.ensures.is c.find.ensures ∙ c.if-find.true, refl)

pub returns-then-count-grid-clause-arrives : goal.returns-then-count-grid-clause-arrives
returns-then-count-grid-clause-arrives g c =
    let s = c.args.grid.now in
    let n = length_row_at g.K.Kind.class s.cap c.args.slot.at (grid_of s) c.args.slot.five in
    let m = s.held c.args.slot.at in
    let e = c.count_at-count.ensures.is in (
      searched g.K.Kind.class s c.args.slot.at c.args.c.now c.args.slot.five c.states_of.result.now c.part_of.result.now c.find.result c.states_of.ensures.are c.part_of.ensures.is c.find.ensures ∙ c.if-find.false,
      omega (arith, c.if-count-grid.true),
      refl,
    )

pub returns-clause-arrives : goal.returns-clause-arrives
returns-clause-arrives g c =
    let class = g.K.Kind.class in
    let s = c.args.grid.now in
    let slot = c.args.slot in
    let x = c.args.c.now in
    inr (arrived class s slot.at x slot.five c.put_configuration.new.grid c.enter-entry.result c.count_at-count.result c.add.new.self c.enter-entry.new.self c.args.from
    c.count_at-count.ensures.is c.if-count-grid.false c.put_configuration.ensures.written c.put_configuration.ensures.others c.add.ensures c.enter-entry.ensures
    (searched class s slot.at x slot.five c.states_of.result.now c.part_of.result.now c.find.result c.states_of.ensures.are c.part_of.ensures.is c.find.ensures ∙ c.if-find.false))

pub invariant_of-grid : goal.invariant_of-grid
invariant_of-grid g c =
    let s = c.args.grid.now in
    let slot = c.args.slot in
    let t = c.put_configuration.new.grid in
    let R = arrived_room g.K.Kind.class s slot.at c.args.c.now slot.five t c.enter-entry.result c.count_at-count.result c.add.new.self c.enter-entry.new.self c.args.from
    c.count_at-count.ensures.is c.if-count-grid.false c.put_configuration.ensures.written c.put_configuration.ensures.others c.add.ensures c.enter-entry.ensures in
    record { few = t.few; wide = t.wide; held = R.held; known = R.known }

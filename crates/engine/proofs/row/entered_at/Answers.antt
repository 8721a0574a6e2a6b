use Rattle.std.proofs.Common.{[], ap, ap₂, ◌∙◌, arith}
use Rattle.topl.specs.Runs.{first_configuration}
use Rattle.engine.specs.declared.front.Mark.{Mark}
use Rattle.engine.specs.Fronts.{configuration}
use Rattle.engine.specs.Grids.{grid_of}
use Rattle.engine.proofs.Fronts.{room_for, row_read, entry_known}
use Rattle.engine.proofs.row.entered_at.Goals as goal

pub returns-clause-stands : goal.returns-clause-stands
returns-clause-stands g c =
    let s = c.args.grid.now in
    let held = c.registers_at-registers.result in
    ap₂ (configuration g.K.Kind.class) c.new.ensures.state c.new.ensures.registers
    ∙ ap (λ (m : Mark). configuration g.K.Kind.class m.state held) c.mark_at-mark.ensures
    ∙ row_read g.K.Kind.class s.cap c.args.slot.at c.args.i (grid_of s) held (first_configuration []) c.args.slot.five c.requires c.registers_at-registers.ensures.are

pub returns-clause-known : goal.returns-clause-known
returns-clause-known g c =
    let s = c.args.grid.now in
    let e = ap (λ (m : Mark). m.entry) c.mark_at-mark.ensures in
    let k = entry_known s.cap c.args.slot.at c.args.i (grid_of s) c.args.slot.five (room_for s) c.requires in
    omega arith

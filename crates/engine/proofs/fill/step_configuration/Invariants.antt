use Rattle.std.proofs.Common.{◌%◌, Ok, vec_items}
use Rattle.topl.specs.Table.{Table}
use Rattle.topl.specs.Runs.{Registers, World, Reach}
use Rattle.engine.specs.Trails.{steps_to}
use Rattle.engine.specs.Fronts.{stands_for}
use Rattle.engine.specs.Fills.{Watched, Safe, Brings}
use Rattle.engine.proofs.Steps.{brought_by}
use Rattle.engine.proofs.fill.step_configuration.Given as goal

abbrev pub invariant-loop-i : goal.invariant-loop-i
invariant-loop-i g l =
    let scene = l.position.scene.now in
    let p = l.position.number in
    let d = stands_for g.K.Kind.class l.at.configuration in record {
      safe : Safe (p % 5) l.fn.grid l.grid (Ok tt);
      brings : (P : Table) (k : Registers) (w : World) → Watched g.K.Kind.class scene P w → Reach P k w scene.base d (steps_to (vec_items l.fn.grid.book.entries) l.at.entry) →
          Brings g.K.Kind.class (p % 5) P k w p l.fn.grid l.grid (brought_by P w scene.base d p l.i) (Ok tt);
    }

use Rattle.std.proofs.Common.{◌%◌, Ok}
use Rattle.topl.specs.Table.{Table}
use Rattle.topl.specs.Runs.{Registers, World}
use Rattle.engine.specs.Fills.{Known, Watched, Safe, Tracks, Brings}
use Rattle.engine.proofs.Steps.{brought_from}
use Rattle.engine.proofs.fill.step_row.Given as goal

abbrev pub invariant-loop-i : goal.invariant-loop-i
invariant-loop-i g l =
    let scene = l.position.scene.now in
    let p = l.position.number in record {
      safe : Safe (p % 5) l.fn.grid l.grid (Ok tt);
      brings : (P : Table) (k : Registers) (w : World) → Watched g.K.Kind.class scene P w → Tracks g.K.Kind.class P k w scene.base l.fn.grid (scene.base % 5) → Known g.K.Kind.class l.position P w scene.base l.fn.grid →
          Brings g.K.Kind.class (p % 5) P k w p l.fn.grid l.grid (brought_from P w scene.base p g.K.Kind.class l.fn.grid l.i) (Ok tt);
    }

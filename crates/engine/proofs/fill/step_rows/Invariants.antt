use Rattle.std.proofs.Common.{ℕ, ◌%◌, ◌<◌, ◌≤◌, Ok}
use Rattle.topl.specs.Table.{Table}
use Rattle.topl.specs.Runs.{Registers, World}
use Rattle.engine.specs.Fills.{Known, Watched, Safe, Tracks, Brings}
use Rattle.engine.proofs.Steps.{brought_to}
use Rattle.engine.proofs.fill.step_rows.Given as goal

abbrev pub invariant-loop-q : goal.invariant-loop-q
invariant-loop-q g l = record {
  safe : Safe (l.position.number % 5) l.fn.grid l.grid (Ok tt);
  brings : (P : Table) (k : Registers) (w : World) → Watched g.K.Kind.class l.position.scene.now P w →
      ((q : ℕ) → l.position.scene.now.base ≤ q → q < l.position.number → Tracks g.K.Kind.class P k w q l.fn.grid (q % 5)) →
      ((q : ℕ) → l.position.scene.now.base ≤ q → q < l.position.number → Known g.K.Kind.class l.position P w q l.fn.grid) →
      Brings g.K.Kind.class (l.position.number % 5) P k w l.position.number l.fn.grid l.grid (brought_to P w l.position.scene.now.base l.position.number g.K.Kind.class l.fn.grid l.q) (Ok tt);
}

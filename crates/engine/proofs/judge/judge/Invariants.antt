use Rattle.std.proofs.Common.{◌≡◌, ◌+◌, List, length, vec_items, vec_len}
use Rattle.topl.specs.Table.{Event, Table}
use Rattle.topl.specs.Runs.{Registers, World}
use Rattle.engine.specs.Trails.{room_of}
use Rattle.engine.specs.Grids.{grid_of}
use Rattle.engine.specs.Fills.{Since, Watched}
use Rattle.engine.specs.Judging.{Start}
use Rattle.engine.proofs.Judging.{Along}
use Rattle.engine.proofs.judge.judge.Given as goal

abbrev pub invariant-loop-number : goal.invariant-loop-number
invariant-loop-number g l = record {
  cap : l.grid.cap ≡ l.fn.grid.cap;
  board : vec_len l.grid.board ≡ vec_len l.fn.grid.board;
  long : length (vec_items l.grid.book.entries) ≡ length (vec_items l.fn.grid.book.entries);
  since : (P : Table) (k : Registers) (L : List Event) (w : World) →
      Since g.K.Kind.class l.fn.grid.cap l.scene.before.now l.scene.judged (grid_of l.fn.grid) l.scene.base (l.scene.base + length l.scene.events.now) P k L w →
      Watched g.K.Kind.class l.scene P w →
      Start g.K.Kind.class l.fn.grid.cap (grid_of l.fn.grid) l.scene.base (l.scene.base + length l.scene.events.now) P k L w →
      Since g.K.Kind.class l.fn.grid.cap l.scene.before.now l.scene.judged (grid_of l.grid) l.scene.base (l.scene.base + length l.scene.events.now) P k L w;
  along : (P : Table) (k : Registers) (L : List Event) (w : World) → Watched g.K.Kind.class l.scene P w →
      Since g.K.Kind.class l.fn.grid.cap l.scene.before.now l.scene.judged (grid_of l.fn.grid) l.scene.base (l.scene.base + length l.scene.events.now) P k L w →
      Start g.K.Kind.class l.fn.grid.cap (grid_of l.fn.grid) l.scene.base (l.scene.base + length l.scene.events.now) P k L w →
      Along g.K.Kind.class l.fn.grid.cap (room_of (vec_items l.fn.grid.book.entries)) (grid_of l.grid) l.scene.base (l.scene.base + length l.scene.events.now) l.number P k L w;
}

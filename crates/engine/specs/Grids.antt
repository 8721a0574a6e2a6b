-- What a grid of the code has.
use Rattle.std.specs.Prelude.{ℕ, List, Result, vec_items}
use Rattle.engine.specs.declared.grid.Grid as G
use Rattle.topl.specs.Lists.{Class}
use Rattle.topl.specs.Runs.{Configuration}
use Rattle.engine.specs.declared.entry.Entry.{Entry}
use Rattle.engine.specs.declared.row.Crowded.{Crowded}
use Rattle.engine.specs.Fronts.{Grid, grid, row_at, Arrives}

abbrev pub grid_of : {V : Type 0} → G.Grid V → Grid V
grid_of g = grid g.front (vec_items g.board) (vec_items g.book.entries) g.book.used

-- the configurations at position k of the five
abbrev pub row_of : {V : Type 0} → (V → Class) → G.Grid V → ℕ → List Configuration
row_of class g k = row_at class g.cap (grid_of g) k

-- what becomes of a configuration that comes to a position
abbrev pub ArrivesAt : {V : Type 0} → (V → Class) → ℕ → Entry → Configuration → G.Grid V → G.Grid V → Result (Unit {0}) Crowded → Type 0
ArrivesAt class slot from c g h r = Arrives class g.cap (grid_of g) (grid_of h) slot from c r

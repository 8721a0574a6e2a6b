-- What a watch holds, and what it shows of a list of events.
use Rattle.std.specs.Prelude.{◌≡◌, ℕ, suc, ◌-◌, ◌%◌, ◌<◌, ◌≤◌, List, length, drop, Err, Result, vec_items, vec_len}
use Rattle.topl.specs.Lists.{Class}
use Rattle.topl.specs.Table as T
use Rattle.topl.specs.Runs.{Registers, World, so_far}
use Rattle.topl.specs.Deciding as D
use Rattle.engine.specs.declared.front.Breach.{Breach}
use Rattle.engine.specs.declared.front.Decision.{Decision}
use Rattle.engine.specs.declared.front.Decision.TheVariants.{Breaks}
use Rattle.engine.specs.declared.state.State.{State}
use Rattle.engine.specs.Trails.{room_of}
use Rattle.engine.specs.Grids.{grid_of}
use Rattle.engine.specs.Fills.{Tracks}
use Rattle.engine.specs.Judging.{Held, ruled, ShowsRun}
use Rattle.engine.specs.Windows.{Remembers}

-- whatever the events are: cap, board and book are as large; a run that is shown has its entry
pub record Stays {V : Type 0} (s t : State V) (r : Result (Unit {0}) Decision) : Type 0 where
  pub cap : t.grid.cap ≡ s.grid.cap
  pub board : vec_len t.grid.board ≡ vec_len s.grid.board
  pub book : length (vec_items t.grid.book.entries) ≡ length (vec_items s.grid.book.entries)
  pub known : (b : Breach) → r ≡ Err (Breaks b) → b.last.parent < t.grid.book.used

-- What a watch shows while it runs: the rows of the last four positions stand, and each configuration has its entry, by whose steps it is reached; the
-- window has the last four events.
pub record Follows {V : Type 0} (class : V → Class) (s : State V) (P : T.Table) (k : Registers) (L : List T.Event) : Type 0 where
  pub held : (q : ℕ) → length L - 3 ≤ q → q ≤ length L → Held class s.grid.cap (grid_of s.grid) P k (so_far L) q
  pub tracked : (q : ℕ) → length L - 3 ≤ q → q ≤ length L → Tracks class P k (so_far L) q s.grid (q % 5)
  pub total : s.grid.book.used ≡ D.sum (suc (length L)) (D.count P k (so_far L))
  pub window : Remembers class s.window (drop (length L - 4) L)

-- What an event or the end of the list comes to: the deciding rule's word, with a run to show where it breaks.
pub record ComesTo {V : Type 0} (s t : State V) (P : T.Table) (k : Registers) (L : List T.Event) (w : World) (r : Result (Unit {0}) Decision) : Type 0 where
  pub rules : ruled r ≡ D.decides P k s.grid.cap (room_of (vec_items s.grid.book.entries)) (so_far L) w
  pub shown : ShowsRun P k w (vec_items t.grid.book.entries) r

-- When a watch shows a ledger.
use Rattle.std.specs.Prelude.{◌≡◌, ◌<◌, List, map, length, vec_items, vec_len}
use Rattle.std.specs.Borrow.{Bor}
use Rattle.kinds.specs.declared.kind.Kind.{Ghosts}
use Rattle.kinds.specs.declared.phase.Phase.TheVariants as phases
use Rattle.kinds.specs.Refusals.{Ending}
use Rattle.topl.specs.Lists.{Class}
use Rattle.topl.specs.Table as T
use Rattle.topl.specs.Theorems.{seen}
use Rattle.topl.specs.Ledger.{Ledger, Answer, registers_of, Source}
use Rattle.topl.specs.History.{Sound}
use Rattle.sources.specs.Events.{Happening}
use Rattle.tables.specs.declared.table.Table.{Table}
use Rattle.tables.specs.Meant.{meant}
use Rattle.engine.specs.declared.state.State.{State}
use Rattle.engine.specs.States.{Follows}
use Rattle.engine.specs.Trails.{steps_by}
use Rattle.engine.specs.declared.front.Breach.{Breach}
use Rattle.watch.specs.declared.held.Held.{Held}
use Rattle.watch.specs.declared.held.Stage.TheVariants.{Running, Broken}
use Rattle.watch.specs.declared.watch.Watch.{Watch}
use Rattle.watch.specs.Stages.{phase_of, position_of}

-- What a watch holds agrees with the ledger: in phase, judged count, position and the lengths of board and book, and the ledger is sound; while it runs the
-- ledger's table is the lent one and the rows follow the judged events; once it is broken the book has the steps of the shown run.
pub record Agrees {V : Type 0} (class : V → Class) (s : State V) (h : Held) (l : Ledger) : Type 0 where
  pub phase : phase_of h.stage ≡ l.phase
  pub count : h.judged ≡ length l.judged
  pub position : position_of h.stage ≡ l.position
  pub board : vec_len s.grid.board ≡ l.board
  pub book : length (vec_items s.grid.book.entries) ≡ l.book
  pub sound : Sound l
  pub lawful : T.Lawful l.table
  pub lent : (x : Bor Table) → h.stage ≡ Running x → l.table ≡ meant x.now
  pub cap : l.phase ≡ phases.Running → s.grid.cap ≡ l.cap
  pub follows : l.phase ≡ phases.Running → Follows class s l.table (registers_of l) l.judged
  pub known : (b : Breach) → h.stage ≡ Broken b → b.last.parent < s.grid.book.used
  pub shown : (b : Breach) → h.stage ≡ Broken b → l.shown ≡ steps_by (vec_items s.grid.book.entries) b.last

-- The watch shows the ledger.
abbrev pub Shows : {K V : Type 0} {kind : Ghosts K V} → Watch K V kind → Ledger → Type 0
Shows {kind} w l = Agrees kind.class w.rows.state w.held l

-- What a call does with any ledger that the watch shows: it answers so, and the watch shows a ledger that the call may leave.
abbrev pub Turns : {K V : Type 0} {kind : Ghosts K V} → Watch K V kind → (Ledger → Ledger × Answer → Type 0) → Answer → Watch K V kind → Type 0
Turns w does a v = (l : Ledger) → Shows w l → (m : Ledger) × Shows v m × does l (m, a)

-- a source as the ledger sees it, by the events that wait and the ending
abbrev pub meaning : {V : Type 0} → (V → Class) → List (Happening V) → Ending → Source
meaning class hs end = record { waiting = map (λ h. seen class h.id h.values) hs; ending = end }

-- What moves bring to a position, and what the code then holds of it.
use Rattle.std.specs.Prelude.{◌≡◌, ℕ, ◌+◌, ◌-◌, ◌%◌, ◌<◌, ◌≤◌, Bool, true, false, not, ◌||◌, ◌==◌, nat_le, ◌≢◌, List, [], ◌∷◌, ◌++◌, map, length, drop, Ok, Err, Result, vec_items, vec_len, slice_index, slice_index_or}
use Rattle.topl.specs.Lists.{Class, ◌∈◌, apart, holds}
use Rattle.topl.specs.Table as T
use Rattle.topl.specs.Runs.{Configuration, World, so_far, Registers, Reach, Reaches, first_configuration, outcome_of, passing, skips, reached, alikeᶜ}
use Rattle.topl.specs.Rows.{Stands, Filled, landed}
use Rattle.topl.specs.Deciding.{any_error, count}
use Rattle.topl.specs.Theorems.{StepsTo, ErrsBy}
use Rattle.engine.specs.declared.entry.Entry.{Entry}
use Rattle.engine.specs.declared.scene.Scene.{Scene}
use Rattle.engine.specs.declared.scene.Position.{Position}
use Rattle.engine.specs.declared.configuration.Entered.{Entered}
use Rattle.engine.specs.declared.grid.Grid as G
use Rattle.engine.specs.declared.front.Decision.{Decision}
use Rattle.engine.specs.declared.front.Decision.TheVariants.{Breaks, Spills, Overfills}
use Rattle.engine.specs.Modes.{mode_of}
use Rattle.tables.specs.declared.parts.Statement.{Statement}
use Rattle.tables.specs.Few.{few_items}
use Rattle.tables.specs.Views.{statement}
use Rattle.engine.specs.Views.{Seen}
use Rattle.engine.specs.Trails.{steps_to, steps_by, room_of}
use Rattle.engine.specs.Fronts.{row_at, count_at, entries_at, stands_for, Grid, Others, Spares}
use Rattle.engine.specs.Grids.{grid_of, row_of}

-- the statements of a table, and the events of a world from the scene's base on, as a scene has them
pub record Watched {V : Type 0} (class : V → Class) (s : Scene V) (P : T.Table) (w : World) : Type 0 where
  pub statements : P.statements ≡ map statement s.statements.now
  pub mode : w.mode ≡ mode_of s.mode
  pub events : Seen class s.events.now (drop s.base w.events)

-- each configuration at place `slot` is reached at p by the steps of its entry
abbrev pub Tracked : {V : Type 0} → (V → Class) → ℕ → T.Table → Registers → World → ℕ → Grid V → ℕ → Type 0
Tracked class cap P k w p g slot =
    (i : ℕ) → i < count_at g.front slot → Reach P k w p (slice_index_or (row_at class cap g slot) i (first_configuration [])) (steps_to g.book (slice_index (entries_at g.front slot) i))

-- the book has room for all that came to a position
abbrev pub Fits : {V : Type 0} → ℕ → Grid V → Grid V → Type 0
Fits slot g h = g.used + count_at h.front slot ≤ room_of g.book + count_at g.front slot

-- the row at place `slot` has the configurations that it had, and then more
abbrev pub Onto : {V : Type 0} → (V → Class) → ℕ → ℕ → Grid V → Grid V → Type 0
Onto class cap slot g h = (more : List Configuration) × (row_at class cap h slot ≡ row_at class cap g slot ++ more)

-- a row holds each of these, and none is in `error`
abbrev pub Had : List Configuration → List Configuration → Type 0
Had row [] = Unit {0}
Had row (c ∷ cs) = (c.state ≢ T.error) × (holds alikeᶜ row c ≡ true) × Had row cs

-- These came to place `slot`, reached at p, none of them in `error`. The row has them, once each, or has spilled; each that was added has its entry, while
-- the book has room; no other position and no other entry is touched.
pub record Grows {V : Type 0} (class : V → Class) (cap slot : ℕ) (P : T.Table) (k : Registers) (w : World) (p : ℕ) (g h : Grid V) (added : List Configuration) : Type 0 where
  pub other : Others class cap slot g h
  pub onto : Onto class cap slot g h
  pub fill : (truth : List Configuration) → Filled cap (row_at class cap g slot) truth g.front.spilled → Filled cap (row_at class cap h slot) (truth ++ added) h.front.spilled
  pub kept : (n : ℕ) → n < g.used → steps_to h.book n ≡ steps_to g.book n
  pub more : g.used ≤ h.used
  pub long : length h.book ≡ length g.book
  pub larger : count_at g.front slot ≤ count_at h.front slot
  pub counted : Fits slot g h → h.used + count_at g.front slot ≡ g.used + count_at h.front slot
  pub tracked : Fits slot g h → Tracked class cap P k w p g slot → Tracked class cap P k w p h slot

-- One of these is in `error`, and a run reaches it by a step from an entry; or they came.
abbrev pub Brought : {V : Type 0} → (V → Class) → ℕ → ℕ → T.Table → Registers → World → ℕ → Grid V → Grid V → List Configuration → Result (Unit {0}) Entry → Type 0
Brought class cap slot P k w p g h added (Err x) = (any_error added ≡ true) × ErrsBy P k w p (steps_by h.book x)
Brought class cap slot P k w p g h added (Ok _) = (any_error added ≡ false) × Grows class cap slot P k w p g h added

-- the same of the grids of the code
abbrev pub Tracks : {V : Type 0} → (V → Class) → T.Table → Registers → World → ℕ → G.Grid V → ℕ → Type 0
Tracks class P k w p g slot = Tracked class g.cap P k w p (grid_of g) slot

abbrev pub Brings : {V : Type 0} → (V → Class) → ℕ → T.Table → Registers → World → ℕ → G.Grid V → G.Grid V → List Configuration → Result (Unit {0}) Entry → Type 0
Brings class slot P k w p g h added r = Brought class g.cap slot P k w p (grid_of g) (grid_of h) added r

-- whatever the events are: cap, board and book are as large, entries only come, other positions keep theirs, and what is told has an entry that counts
pub record Safe {V : Type 0} (slot : ℕ) (g h : G.Grid V) (r : Result (Unit {0}) Entry) : Type 0 where
  pub cap : h.cap ≡ g.cap
  pub board : vec_len h.board ≡ vec_len g.board
  pub more : g.book.used ≤ h.book.used
  pub spares : Spares slot g.front h.front
  pub long : length (vec_items h.book.entries) ≡ length (vec_items g.book.entries)
  pub known : (x : Entry) → r ≡ Err x → x.parent < h.book.used

-- the entry by which a run is shown, where it breaks
abbrev pub shown_entry : Result (Unit {0}) Decision → Result (Unit {0}) Entry
shown_entry (Ok _) = Ok tt
shown_entry (Err (Breaks b)) = Err b.last
shown_entry (Err Spills) = Ok tt
shown_entry (Err Overfills) = Ok tt

-- what fills a position keeps, whatever the events are
abbrev pub Keeps : {V : Type 0} → Position V → G.Grid V → G.Grid V → Result (Unit {0}) Entry → Type 0
Keeps x g h r = Safe (x.number % 5) g h r

-- these come to a position
abbrev pub ComesBy : {V : Type 0} → (V → Class) → Position V → T.Table → Registers → World → G.Grid V → G.Grid V → List Configuration → Result (Unit {0}) Entry → Type 0
ComesBy class x P k w g h added r = Brings class (x.number % 5) P k w x.number g h added r

-- a configuration is reached at the first position of the scene by the steps of its entry
abbrev pub ReachedBy : {V : Type 0} → (V → Class) → Position V → T.Table → Registers → World → G.Grid V → Entered V → Type 0
ReachedBy class x P k w g at = Reach P k w x.scene.now.base (stands_for class at.configuration) (steps_to (vec_items g.book.entries) at.entry)

-- does a statement of the code leave another state, or span more or fewer events
abbrev pub is_away : ℕ → ℕ → Statement → Bool
is_away state span t = not (t.source == state) || not (length (few_items t.events) == span)

-- does it leave another state, or span no more than so many events
abbrev pub is_near : ℕ → ℕ → Statement → Bool
is_near state most t = not (t.source == state) || nat_le (length (few_items t.events)) most

-- Of a configuration that stood at q when so many events were judged, an earlier call decided what its statements bring to p, and its skip if none of them
-- goes past those events: it is held.
abbrev pub Told : List Configuration → T.Table → World → ℕ → ℕ → ℕ → Configuration → Type 0
Told row P w q p judged c =
    (p ≤ judged) × Had row (landed p (passing w q c (T.numbered P))) × (((t : ℕ × T.Statement) → t ∈ T.numbered P → t.1.source ≡ c.state → q + T.span t.1 ≤ judged) → Had row (landed p (skips P w q c)))

-- it is so of each configuration that stood at q before this call
abbrev pub Known : {V : Type 0} → (V → Class) → Position V → T.Table → World → ℕ → G.Grid V → Type 0
Known class x P w q g =
    x.number ≤ x.scene.now.judged → (i : ℕ) → i < slice_index x.scene.now.before.now (q % 5) →
    Told (row_of class g (x.number % 5)) P w q x.number x.scene.now.judged (slice_index_or (row_of class g (q % 5)) i (first_configuration []))

-- Since the events L were judged: where all that a statement spans had come, it fares as it did; and the configurations that each position had then, as many
-- as `before` says, come first in its row, and were reached.
pub record Since {V : Type 0} (class : V → Class) (cap : ℕ) (before : List ℕ) (judged : ℕ) (g : Grid V) (base last : ℕ) (P : T.Table) (k : Registers) (L : List T.Event) (w : World) : Type 0 where
  pub all : judged ≡ length L
  pub same : (q : ℕ) (c : Configuration) (t : ℕ × T.Statement) → q + T.span t.1 ≤ length L → outcome_of w q c t ≡ outcome_of (so_far L) q c t
  pub first : (q : ℕ) → base ≤ q → q ≤ last → (i : ℕ) → i < slice_index before (q % 5) →
      (i < length (row_at class cap g (q % 5))) × Reaches P k (so_far L) q (slice_index_or (row_at class cap g (q % 5)) i (first_configuration []))

-- Position p can be filled: the positions before it stand as they are now, and p as it was before, with no `error`; all of them are reached by their
-- entries.
pub record Ready {V : Type 0} (class : V → Class) (cap : ℕ) (g : Grid V) (base p : ℕ) (P : T.Table) (k : Registers) (L : List T.Event) (w : World) : Type 0 where
  pub steps : StepsTo P k L w
  pub from : length L - 3 ≡ base
  pub earlier : (q : ℕ) → length L < q + 4 → q < p → Stands P k w q (row_at class cap g (q % 5))
  pub before : Stands P k (so_far L) p (row_at class cap g (p % 5))
  pub once : apart alikeᶜ (row_at class cap g (p % 5)) ≡ true
  pub safe : any_error (row_at class cap g (p % 5)) ≡ false
  pub tracked : (q : ℕ) → base ≤ q → q ≤ p → Tracked class cap P k w q g (q % 5)

-- position p stands as it is now
pub record Stood {V : Type 0} (class : V → Class) (cap : ℕ) (g h : Grid V) (p : ℕ) (P : T.Table) (k : Registers) (w : World) : Type 0 where
  pub no_error : any_error (reached P k w p) ≡ false
  pub stands : Stands P k w p (row_at class cap h (p % 5))
  pub once : apart alikeᶜ (row_at class cap h (p % 5)) ≡ true
  pub other : Others class cap (p % 5) g h
  pub onto : Onto class cap (p % 5) g h
  pub kept : (n : ℕ) → n < g.used → steps_to h.book n ≡ steps_to g.book n
  pub long : length h.book ≡ length g.book
  pub counted : Fits (p % 5) g h → h.used + count_at g.front (p % 5) ≡ g.used + count_at h.front (p % 5)
  pub tracked : Fits (p % 5) g h → Tracked class cap P k w p h (p % 5)

-- what position p is then: the book's room is not asked yet
abbrev pub Fills : {V : Type 0} → (V → Class) → ℕ → Grid V → Grid V → ℕ → T.Table → Registers → World → Result (Unit {0}) Decision → Type 0
Fills class cap g h p P k w (Ok _) = Stood class cap g h p P k w
Fills class cap g h p P k w (Err (Breaks b)) = (b.position ≡ p) × (any_error (reached P k w p) ≡ true) × ErrsBy P k w p (steps_by h.book b.last)
Fills class cap g h p P k w (Err Spills) = (any_error (reached P k w p) ≡ false) × (cap < count P k w p)
Fills class cap g h p P k w (Err Overfills) = ⊥

-- the same of the grids of the code, and a position of a scene
abbrev pub ReadyFor : {V : Type 0} → (V → Class) → Position V → T.Table → Registers → List T.Event → World → G.Grid V → Type 0
ReadyFor class x P k L w g = Ready class g.cap (grid_of g) x.scene.now.base x.number P k L w

abbrev pub SinceAt : {V : Type 0} → (V → Class) → Position V → T.Table → Registers → List T.Event → World → G.Grid V → Type 0
SinceAt class x P k L w g = Since class g.cap x.scene.now.before.now x.scene.now.judged (grid_of g) x.scene.now.base x.number P k L w

abbrev pub FilledBy : {V : Type 0} → (V → Class) → Position V → T.Table → Registers → World → G.Grid V → G.Grid V → Result (Unit {0}) Decision → Type 0
FilledBy class x P k w g h r = Fills class g.cap (grid_of g) (grid_of h) x.number P k w r

-- The deciding rule as the code comes to it.
use Rattle.std.specs.Prelude.{◌≡◌, ℕ, suc, ◌+◌, ◌-◌, ◌%◌, ◌<◌, ◌≤◌, true, false, List, length, Ok, Err, Result}
use Rattle.topl.specs.Lists.{Class, apart}
use Rattle.topl.specs.Table as T
use Rattle.topl.specs.Runs.{Registers, World, so_far, alikeᶜ}
use Rattle.topl.specs.Rows.{Stands}
use Rattle.topl.specs.Deciding as D
use Rattle.topl.specs.Theorems.{StepsTo, Resumes, ErrsBy}
use Rattle.engine.specs.declared.entry.Entry.{Entry}
use Rattle.engine.specs.declared.grid.Grid as G
use Rattle.engine.specs.declared.scene.Position.{Position}
use Rattle.engine.specs.declared.front.Decision.{Decision}
use Rattle.engine.specs.declared.front.Decision.TheVariants.{Breaks, Spills, Overfills}
use Rattle.engine.specs.Trails.{steps_to, steps_by, room_of}
use Rattle.engine.specs.Fronts.{row_at, Grid, Others}
use Rattle.engine.specs.Grids.{grid_of}
use Rattle.engine.specs.Fills.{Onto, Tracked}

-- the theory's ruling
abbrev pub ruled : Result (Unit {0}) Decision → D.Ruling
ruled (Ok _) = D.goes_on
ruled (Err (Breaks b)) = D.breaks b.position
ruled (Err Spills) = D.spills
ruled (Err Overfills) = D.overfills

-- where it breaks, the entry shows a run that reaches `error` at the position
abbrev pub ShowsRun : T.Table → Registers → World → List Entry → Result (Unit {0}) Decision → Type 0
ShowsRun P k w book (Ok _) = Unit {0}
ShowsRun P k w book (Err (Breaks b)) = ErrsBy P k w b.position (steps_by book b.last)
ShowsRun P k w book (Err Spills) = Unit {0}
ShowsRun P k w book (Err Overfills) = Unit {0}

-- the entries before position p is filled, against the need once it is
abbrev pub Balance : ℕ → ℕ → T.Table → Registers → List T.Event → World → Type 0
Balance used p P k L w = D.need P k (so_far L) w p + D.count P k (so_far L) p ≡ used + D.count P k w p

-- the row of position q stands, each configuration once
pub record Held {V : Type 0} (class : V → Class) (cap : ℕ) (g : Grid V) (P : T.Table) (k : Registers) (w : World) (q : ℕ) : Type 0 where
  pub stands : Stands P k w q (row_at class cap g (q % 5))
  pub once : apart alikeᶜ (row_at class cap g (q % 5)) ≡ true

-- position p was filled, and ruled on
pub record Judged {V : Type 0} (class : V → Class) (cap : ℕ) (g h : Grid V) (p : ℕ) (P : T.Table) (k : Registers) (L : List T.Event) (w : World) (r : Result (Unit {0}) Decision) : Type 0 where
  pub rules : ruled r ≡ D.ruling_at P k cap (room_of g.book) (so_far L) w p
  pub shown : ShowsRun P k w h.book r
  pub held : r ≡ Ok tt → Held class cap h P k w p
  pub onto : r ≡ Ok tt → Onto class cap (p % 5) g h
  pub other : r ≡ Ok tt → Others class cap (p % 5) g h
  pub kept : r ≡ Ok tt → (n : ℕ) → n < g.used → steps_to h.book n ≡ steps_to g.book n
  pub needs : r ≡ Ok tt → h.used ≡ D.need P k (so_far L) w p
  pub tracked : r ≡ Ok tt → Tracked class cap P k w p h (p % 5)

-- Before a feed or a close: the rows stand as they were, none has `error`, all are reached by their entries, and each has one entry of the book.
pub record Start {V : Type 0} (class : V → Class) (cap : ℕ) (g : Grid V) (base last : ℕ) (P : T.Table) (k : Registers) (L : List T.Event) (w : World) : Type 0 where
  pub steps : StepsTo P k L w
  pub resumes : Resumes P k cap (room_of g.book) L w
  pub from : length L - 3 ≡ base
  pub to : length w.events ≡ last
  pub held : (q : ℕ) → base ≤ q → q ≤ last → Held class cap g P k (so_far L) q
  pub safe : (q : ℕ) → base ≤ q → q ≤ last → D.any_error (row_at class cap g (q % 5)) ≡ false
  pub total : g.used ≡ D.sum (suc (length L)) (D.count P k (so_far L))
  pub tracked : (q : ℕ) → base ≤ q → q ≤ last → Tracked class cap P k w q g (q % 5)

-- after it
pub record Decided {V : Type 0} (class : V → Class) (cap : ℕ) (g h : Grid V) (base last : ℕ) (P : T.Table) (k : Registers) (L : List T.Event) (w : World) (r : Result (Unit {0}) Decision) : Type 0 where
  pub decides : ruled r ≡ D.decides P k cap (room_of g.book) (so_far L) w
  pub shown : ShowsRun P k w h.book r
  pub held : r ≡ Ok tt → (q : ℕ) → base ≤ q → q ≤ last → Held class cap h P k w q
  pub total : r ≡ Ok tt → h.used ≡ D.sum (suc last) (D.count P k w)
  pub tracked : r ≡ Ok tt → (q : ℕ) → base ≤ q → q ≤ last → Tracked class cap P k w q h (q % 5)

-- the same of the grids of the code
abbrev pub JudgedAt : {V : Type 0} → (V → Class) → Position V → T.Table → Registers → List T.Event → World → G.Grid V → G.Grid V → Result (Unit {0}) Decision → Type 0
JudgedAt class x P k L w g h r = Judged class g.cap (grid_of g) (grid_of h) x.number P k L w r

abbrev pub StartsAt : {V : Type 0} → (V → Class) → ℕ → ℕ → T.Table → Registers → List T.Event → World → G.Grid V → Type 0
StartsAt class base last P k L w g = Start class g.cap (grid_of g) base last P k L w

abbrev pub DecidedBy : {V : Type 0} → (V → Class) → ℕ → ℕ → T.Table → Registers → List T.Event → World → G.Grid V → G.Grid V → Result (Unit {0}) Decision → Type 0
DecidedBy class base last P k L w g h r = Decided class g.cap (grid_of g) (grid_of h) base last P k L w r

-- Rows of configurations as the code holds them.
use Rattle.std.specs.Prelude.{◌≡◌, ℕ, ◌+◌, ◌*◌, ◌<◌, ◌⊎◌, true, false, List, [], ◌∷◌, ◌++◌, map, length, take, drop, Ok, Err, Result, ◌≢◌, slice_index}
use Rattle.std.proofs.Math.Seq.{paste}
use Rattle.topl.specs.Lists.{Class, holds}
use Rattle.topl.specs.Runs.{Configuration, alikeᶜ}
use Rattle.engine.specs.declared.entry.Entry.{Entry}
use Rattle.engine.specs.declared.front.Front.{Front}
use Rattle.engine.specs.declared.configuration.Configuration as C
use Rattle.engine.specs.declared.row.Crowded.{Crowded}
use Rattle.engine.specs.Trails.{Enters}

abbrev pub count_at : Front → ℕ → ℕ
count_at F k = slice_index F.counts k

-- the states of the configurations at position k of the five, and their entries
abbrev pub states_at : Front → ℕ → List ℕ
states_at F k = take (count_at F k) (drop (64 * k) F.states)

abbrev pub entries_at : Front → ℕ → List ℕ
entries_at F k = take (count_at F k) (drop (64 * k) F.entries)

-- no position has a configuration
abbrev pub Bare : Front → Type 0
Bare F = (k : ℕ) → count_at F k ≡ 0

-- G is F with none at a position
pub record Cleared (F G : Front) (slot : ℕ) : Type 0 where
  pub states : G.states ≡ F.states
  pub entries : G.entries ≡ F.entries
  pub count_here : count_at G slot ≡ 0
  pub count_other : (k : ℕ) → (k ≢ slot) → count_at G k ≡ count_at F k

-- G is F with one configuration more at a position
pub record Added (F G : Front) (slot state entry : ℕ) : Type 0 where
  pub count_here : count_at G slot ≡ count_at F slot + 1
  pub count_other : (k : ℕ) → (k ≢ slot) → count_at G k ≡ count_at F k
  pub states_here : states_at G slot ≡ states_at F slot ++ state ∷ []
  pub states_other : (k : ℕ) → (k ≢ slot) → states_at G k ≡ states_at F k
  pub entries_here : entries_at G slot ≡ entries_at F slot ++ entry ∷ []
  pub entries_other : (k : ℕ) → (k ≢ slot) → entries_at G k ≡ entries_at F k
  pub spilled : G.spilled ≡ F.spilled

-- a board with some values written from a place on
abbrev pub stored : {X : Type 0} → List X → ℕ → List X → List X
stored board at rs = paste board at rs (length rs)

-- The front, the registers on the board, and the entries of the book, of which the first `used` count.
pub record Grid (V : Type 0) : Type 0 where
  pub front : Front
  pub rows : List V
  pub book : List Entry
  pub used : ℕ

abbrev pub grid : {V : Type 0} → Front → List V → List Entry → ℕ → Grid V
grid F rows es used = record { front = F; rows = rows; book = es; used = used }

module _ {V : Type 0} (class : V → Class) where
  abbrev pub configuration : ℕ → List V → Configuration
  configuration state registers = record { state = state; registers = map class registers }

  -- the theory's configuration that one of the code stands for
  abbrev pub stands_for : C.Configuration V → Configuration
  stands_for c = configuration c.state c.registers

  -- states, and eight registers for each
  abbrev pub row : List ℕ → List V → List Configuration
  row [] vs = []
  row (s ∷ ss) vs = configuration s (take 8 vs) ∷ row ss (drop 8 vs)

  -- the configurations at position k of the five
  abbrev pub row_at : ℕ → Grid V → ℕ → List Configuration
  row_at cap g k = row (states_at g.front k) (drop (k * (8 * cap)) g.rows)

-- all of these are below a number
abbrev pub Below : ℕ → List ℕ → Type 0
Below used ns = (i : ℕ) → i < length ns → slice_index ns i < used

-- the other positions have the same configurations
abbrev pub Others : {V : Type 0} → (V → Class) → ℕ → ℕ → Grid V → Grid V → Type 0
Others class cap slot g h = (k : ℕ) → k < 5 → (k ≢ slot) → row_at class cap h k ≡ row_at class cap g k

-- and as many, with the same entries
abbrev pub Spares : ℕ → Front → Front → Type 0
Spares slot F G = (k : ℕ) → (k ≢ slot) → (count_at G k ≡ count_at F k) × (entries_at G k ≡ entries_at F k)

-- a configuration c was added to a position, and entered by a step from an entry
pub record Comes {V : Type 0} (class : V → Class) (cap : ℕ) (g h : Grid V) (slot : ℕ) (from : Entry) (c : Configuration) : Type 0 where
  pub unheld : holds alikeᶜ (row_at class cap g slot) c ≡ false
  pub row_here : row_at class cap h slot ≡ row_at class cap g slot ++ c ∷ []
  pub entry : ℕ
  pub entries_here : entries_at h.front slot ≡ entries_at g.front slot ++ entry ∷ []
  pub count_here : count_at h.front slot ≡ count_at g.front slot + 1
  pub other : Others class cap slot g h
  pub spares : Spares slot g.front h.front
  pub enters : Enters g.book g.used from h.book h.used entry
  pub spilled : h.front.spilled ≡ g.front.spilled

-- A configuration c came to a position: the position held it, or c was added; or it has as many as it may have, and nothing changed.
abbrev pub Arrives : {V : Type 0} → (V → Class) → ℕ → Grid V → Grid V → ℕ → Entry → Configuration → Result (Unit {0}) Crowded → Type 0
Arrives class cap g h slot from c (Ok _) = ((holds alikeᶜ (row_at class cap g slot) c ≡ true) × (h ≡ g)) ⊎ Comes class cap g h slot from c
Arrives class cap g h slot from c (Err _) = (holds alikeᶜ (row_at class cap g slot) c ≡ false) × (length (row_at class cap g slot) ≡ cap) × (h ≡ g)

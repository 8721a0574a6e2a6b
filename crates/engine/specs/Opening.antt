-- What a begin needs of its arguments, and what it leaves.
use Rattle.std.specs.Prelude.{◌≡◌, ℕ, ◌*◌, ◌≤◌, List, [], map, length, Ok, Err, Result, vec_items, vec_len}
use Rattle.topl.specs.Lists.{Class}
use Rattle.topl.specs.Table as T
use Rattle.topl.specs.Ledger.{initial}
use Rattle.engine.specs.declared.state.State.{State}
use Rattle.engine.specs.declared.rows.Unsuited.{Unsuited}
use Rattle.engine.specs.Trails.{room_of}
use Rattle.engine.specs.States.{Follows}

-- the cap is 1 to 64, there are as many values as constants, the board has a place for each configuration, and the book has an entry
abbrev pub Suits : {V : Type 0} → State V → T.Table → List V → ℕ → Type 0
Suits s P values cap = (1 ≤ cap) × (cap ≤ 64) × (length P.constants ≡ length values) × (40 * cap ≤ vec_len s.grid.board) × (1 ≤ room_of (vec_items s.grid.book.entries))

-- where they suit, the rows show the empty list; else nothing changes
abbrev pub Opens : {V : Type 0} → (V → Class) → State V → State V → T.Table → List V → ℕ → Result (Unit {0}) Unsuited → Type 0
Opens class s t P values cap (Ok _) =
    (t.grid.cap ≡ cap) × (vec_len t.grid.board ≡ vec_len s.grid.board) × (vec_items t.grid.book.entries ≡ vec_items s.grid.book.entries) × Follows class t P (initial P (map class values)) []
Opens class s t P values cap (Err _) = (t ≡ s) × (Suits s P values cap → ⊥)

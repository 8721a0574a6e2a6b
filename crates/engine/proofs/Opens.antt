-- What is held before the first event.
use Rattle.std.proofs.Common.{◌≡◌, ℕ, ◌+◌, ◌*◌, ◌%◌, ◌<◌, ◌≤◌, min, List, [], ◌∷◌, ◌++◌, map, length, get_or, take, drop, set, sym, refl, ap, ◌∙◌, subst, ap₂, arith, vec_items, vec_len}
use lib.Seq.{paste}
use Rattle.std.proofs.lemmas.List.{get_or-map, drop_more, length-map, map-set}
use Rattle.topl.specs.Lists.{Class, holds, apart}
use Rattle.topl.specs.Table as T
use Rattle.topl.specs.Runs.{Registers, Reach, at_start, first_configuration, so_far, runs, reached, alikeᶜ}
use Rattle.topl.specs.Deciding.{sum, count}
use Rattle.topl.specs.Ledger.{sets}
use Rattle.engine.specs.declared.entry.Entry.{Entry}
use Rattle.engine.specs.declared.front.Front.{Front}
use Rattle.engine.specs.declared.book.Book.{Book}
use Rattle.engine.specs.declared.grid.Grid as TheGrid
use Rattle.tables.specs.declared.parts.Register.{Register}
use Rattle.tables.specs.Views.{number}
use Rattle.engine.specs.Trails.{steps_to, room_of}
use Rattle.engine.specs.Fronts.{configuration, row, row_at, count_at, entries_at, stored, Added, Bare, Below, Grid, grid}
use Rattle.engine.specs.Fills.{Tracked}
use Rattle.engine.specs.Judging.{Held}
use Rattle.engine.proofs.Fits.{class_read}
use Rattle.engine.proofs.Trails.{steps_none}
use Rattle.engine.proofs.Fronts.{Room, added_here, added_room}

-- one constant more, in its register n
pub sets_more : {V : Type 0} (class : V → Class) (cs : List Register) (vs registers : List V) (j n : ℕ) (r : Register) (x : V) → j < length cs → length cs ≡ length vs → n ≡ number r → r ≡ get_or cs j r → x ≡ get_or vs j x →
    sets (map class registers) (drop j (map number cs)) (drop j (map class vs)) ≡ sets (map class (set registers n x)) (drop (j + 1) (map number cs)) (drop (j + 1) (map class vs))
sets_more class cs vs registers j n r x l e o at is =
    let k : j < length (map number cs) = let z = length-map cs number in omega arith in
    let m : j < length (map class vs) = let z = length-map vs class in omega arith in
    let here : get_or (map number cs) j 0 ≡ n = get_or-map number cs j r 0 l ∙ (ap number (sym at) ∙ sym o) in
    ap₂ (sets (map class registers)) (drop_more (map number cs) j 0 k) (drop_more (map class vs) j [] m)
    ∙ (ap₂ (λ (k : ℕ) z. sets (set (map class registers) k z) (drop (j + 1) (map number cs)) (drop (j + 1) (map class vs))) here (sym (class_read class vs j x (omega arith) is))
    ∙ ap (λ z. sets z (drop (j + 1) (map number cs)) (drop (j + 1) (map class vs))) (sym (map-set class registers n x)))

-- what is reached before the first event
alone : (P : T.Table) (k : Registers) → reached P k (so_far []) 0 ≡ first_configuration k ∷ []
unfolding runs reached
alone P k = refl

-- no entry is in use at a bare front
pub bare_below : (F : Front) → Bare F → (used k : ℕ) → Below used (entries_at F k)
bare_below F B used k i l = let z : length (entries_at F k) ≡ 0 = ap (λ (n : ℕ). length (take n (drop (64 * k) F.entries))) (B k) in absurd (omega arith)

module _ {V : Type 0} (class : V → Class) (cap : ℕ) (F G : Front) (rows registers : List V) (es : List Entry) (used : ℕ) (B : Bare F) (A : Added F G 0 0 0) (few : cap ≤ 64) (some : 1 ≤ cap) (long : 40 * cap ≤ length rows)
    (eight : length registers ≡ 8) (one : 1 ≤ used) where
  abbrev on : List V → Grid V
  on board = grid G board es used

  bare_room : Room cap (grid F rows es used)
  bare_room = record { few = few; wide = long; held = λ k. let z = B k in omega arith; known = bare_below F B used }

  first_at : paste rows (0 * (8 * cap) + 8 * count_at F 0) registers 8 ≡ paste rows (0 * (8 * cap) + 8 * 0) registers 8
  first_at = ap (λ (z : ℕ). paste rows (0 * (8 * cap) + 8 * z) registers 8) (B 0)

  module _ (board : List V) (put : board ≡ paste rows (0 * (8 * cap) + 8 * 0) registers 8) where
    first_room : Room cap (on board)
    first_room = subst (λ z. Room cap (on z)) (first_at ∙ sym put) (added_room class cap 0 0 0 (grid F rows es used) G registers es used (omega arith) bare_room (let z = B 0 in omega arith) eight A (omega arith) (omega arith))

    first_row : row_at class cap (on board) 0 ≡ configuration class 0 registers ∷ []
    first_row =
        ap (λ z. row_at class cap (on z) 0) (put ∙ sym first_at)
        ∙ (added_here class cap 0 0 0 (grid F rows es used) G registers es used (omega arith) bare_room (let z = B 0 in omega arith) eight A
        ∙ ap (λ (z : ℕ). row class (take z (drop (64 * 0) F.states)) (drop (0 * (8 * cap)) rows) ++ configuration class 0 registers ∷ []) (B 0))

    first_entries : entries_at G 0 ≡ 0 ∷ []
    first_entries = A.entries_here ∙ ap (λ (z : ℕ). take z (drop (64 * 0) F.entries) ++ 0 ∷ []) (B 0)

    module _ (P : T.Table) (k : Registers) (e : map class registers ≡ k) where
      row_is : row_at class cap (on board) 0 ≡ first_configuration k ∷ []
      row_is = first_row ∙ ap (λ (z : Registers). first_configuration z ∷ []) e

      first_held : Held class cap (on board) P k (so_far []) 0
      first_held = record {
        stands = λ c. ap (λ z. holds alikeᶜ z c) (row_is ∙ sym (alone P k));
        once = ap (apart alikeᶜ) row_is;
      }

      first_tracked : Tracked class cap P k (so_far []) 0 (on board) 0
      first_tracked i l =
          let n : i ≡ 0 = let a = A.count_here in let b = B 0 in omega arith in
          let s : steps_to es (get_or (entries_at G 0) i 0) ≡ [] = ap (λ x. steps_to es (get_or x i 0)) first_entries ∙ (ap (λ (x : ℕ). steps_to es (get_or (0 ∷ []) x 0)) n ∙ steps_none es) in
          let d : get_or (row_at class cap (on board) 0) i (first_configuration []) ≡ first_configuration k = ap (λ x. get_or x i (first_configuration [])) row_is ∙ ap (λ (x : ℕ). get_or (first_configuration k ∷ []) x (first_configuration [])) n in
          subst (λ x. Reach P k (so_far []) 0 x (steps_to es (get_or (entries_at G 0) i 0))) (sym d) (subst (Reach P k (so_far []) 0 (first_configuration k)) (sym s) at_start)

-- over a bare front a configuration in `start` had its registers written to the board, and was added at position 0; the book was begun
module _ {V : Type 0} (class : V → Class) (s t : TheGrid.Grid V) (cap : ℕ) (F G : Front) (at : ℕ) (registers : List V) (b : Book) (zero_at : at ≡ 0) (B : Bare F)
    (put : vec_items t.board ≡ stored (vec_items s.board) (at * (8 * cap) + 8 * 0) registers) (same : (t.front ≡ F) × (t.book ≡ s.book) × (t.cap ≡ cap)) (A : Added t.front G at 0 0) (begun : b.used ≡ min 1 (room_of (vec_items t.book.entries)))
    (some : 1 ≤ cap) (wide : 40 * cap ≤ vec_len s.board) (book : 1 ≤ room_of (vec_items s.book.entries)) (eight : length registers ≡ 8) where
  abbrev pub opened : Grid V
  opened = grid G (vec_items t.board) (vec_items b.entries) b.used

  bare : Bare t.front
  bare = subst Bare (sym same.0) B

  first : Added t.front G 0 0 0
  first = subst (λ (k : ℕ). Added t.front G k 0 0) zero_at A

  few : cap ≤ 64
  few = let a = t.few in omega (arith, same.2)

  long : 40 * cap ≤ length (vec_items s.board)
  long = let a = s.board.ok.0 in omega arith

  board : vec_items t.board ≡ paste (vec_items s.board) (0 * (8 * cap) + 8 * 0) registers 8
  board = put ∙ ap₂ (λ (x y : ℕ). paste (vec_items s.board) (x * (8 * cap) + 8 * 0) registers y) zero_at eight

  one : b.used ≡ 1
  one = let a : b.used ≡ min 1 (room_of (vec_items s.book.entries)) = begun ∙ ap (λ (z : Book). min 1 (room_of (vec_items z.entries))) same.1 in omega (arith, a, book)

  pub opened_room : Room t.cap opened
  opened_room =
      subst (λ (y : ℕ). Room y opened) (sym same.2) (first_room class cap t.front G (vec_items s.board) registers (vec_items b.entries) b.used bare first few some long eight (omega (arith, one)) _ board)

  -- position 0 is the only one
  module _ (P : T.Table) (k : Registers) (e : map class registers ≡ k) where
    only_held : (q : ℕ) → q ≤ 0 → Held class cap opened P k (so_far []) q
    only_held q l =
        let z : 0 ≡ q = omega arith in
        subst (λ (x : ℕ). Held class cap opened P k (so_far []) x) z (first_held class cap t.front G (vec_items s.board) registers (vec_items b.entries) b.used bare first few some long eight (omega (arith, one)) _ board P k e)

    only_tracked : (q : ℕ) → q ≤ 0 → Tracked class cap P k (so_far []) q opened (q % 5)
    only_tracked q l =
        let z : 0 ≡ q = omega arith in
        subst (λ (x : ℕ). Tracked class cap P k (so_far []) x opened (x % 5)) z (first_tracked class cap t.front G (vec_items s.board) registers (vec_items b.entries) b.used bare first few some long eight (omega (arith, one)) _ board P k e)

    pub opened_follows : ((q : ℕ) → q ≤ 0 → Held class t.cap opened P k (so_far []) q) × ((q : ℕ) → q ≤ 0 → Tracked class t.cap P k (so_far []) q opened (q % 5)) × (b.used ≡ sum 1 (count P k (so_far [])))
    opened_follows = (
      λ q l. subst (λ (y : ℕ). Held class y opened P k (so_far []) q) (sym same.2) (only_held q l),
      λ q l. subst (λ (y : ℕ). Tracked class y P k (so_far []) q opened (q % 5)) (sym same.2) (only_tracked q l),
      let a : count P k (so_far []) 0 ≡ 1 = ap length (alone P k) in omega (arith, one),
    )

-- Laws of rows.
use Rattle.std.proofs.Common.{◌≡◌, ℕ, zero, suc, ◌+◌, ◌-◌, ◌*◌, ◌<◌, ◌≤◌, Bool, false, List, [], ◌∷◌, ◌++◌, length, get_or, take, drop, sym, refl, ap, ◌∙◌, subst, ap₂, ⊎_elim, append_assoc, add_assoc, mul-le-mul_right, add-mul, arith, length-drop, length-take, take-add, vec_items, Vec}
use lib.Seq.{paste, take-paste, drop-paste, length-paste}
use borrow.Rule.Slice.PartMut.{put_mid}
use Rattle.std.proofs.lemmas.List.{take-take, drop-take, drop-drop, take-append-drop, drop-append-le, take-append-le, length-take-le, drop_at, take_all, get_or-take, get_or-drop, with_items_is}
use Rattle.std.proofs.lemmas.Bool.{cases_lt, cases_eq}
use Rattle.std.specs.Vec.{with_items}
use Rattle.topl.specs.Lists.{Class, holds}
use Rattle.topl.specs.Runs.{Configuration, alikeᶜ}
use Rattle.engine.specs.declared.front.Front.{Front}
use Rattle.engine.specs.declared.entry.Entry.{Entry}
use Rattle.engine.specs.declared.book.Book.{Book}
use Rattle.engine.specs.declared.configuration.Configuration as C
use Rattle.engine.specs.declared.grid.Grid as TheGrid
use Rattle.engine.specs.Trails.{Enters}
use Rattle.engine.specs.Fronts.{Added, Cleared, count_at, states_at, entries_at, configuration, stands_for, stored, row, row_at, Grid, grid, Below, Comes}
use Rattle.engine.specs.Grids.{grid_of}

-- At most 64 are allowed for, the board has a place for each, no position has more, and the entries of all of them count.
pub record Room {V : Type 0} (cap : ℕ) (g : Grid V) : Type 0 where
  pub few : cap ≤ 64
  pub wide : 40 * cap ≤ length g.rows
  pub held : (k : ℕ) → count_at g.front k ≤ cap
  pub known : (k : ℕ) → Below g.used (entries_at g.front k)

-- a grid has room
pub room_for : {V : Type 0} (g : TheGrid.Grid V) → Room g.cap (grid_of g)
room_for g = record { few = g.few; wide = (let a = g.board.ok.0 in let b = g.wide in omega arith); held = g.held; known = g.known }

-- the states and the entries at a position are as many as its configurations
pub length_states : (F : Front) (k : ℕ) → k < 5 → length (states_at F k) ≡ count_at F k
length_states F k l = length-take-le (count_at F k) (drop (64 * k) F.states) (let z = length-drop (64 * k) F.states in let a = F.long in let b = F.few k in omega arith)

pub length_entries : (F : Front) (k : ℕ) → k < 5 → length (entries_at F k) ≡ count_at F k
length_entries F k l = length-take-le (count_at F k) (drop (64 * k) F.entries) (let z = length-drop (64 * k) F.entries in let a = F.as_long in let b = F.few k in omega arith)

-- a grid whose front was cleared at a position has room
pub cleared_room : {V : Type 0} (g : TheGrid.Grid V) (G : Front) (slot : ℕ) → Cleared g.front G slot → Room g.cap (grid G (vec_items g.board) (vec_items g.book.entries) g.book.used)
cleared_room g G slot C =
    let R = room_for g in record {
      few = R.few;
      wide = R.wide;
      held = λ k. ⊎_elim (λ (q : k ≡ slot). let a = none k q in omega arith) (λ ne. let a = C.count_other k ne in let b = R.held k in omega arith) (cases_eq k slot);
      known = λ k i l. ⊎_elim
          (λ (q : k ≡ slot). let a : length (entries_at G k) ≡ 0 = ap (λ (n : ℕ). length (take n (drop (64 * k) G.entries))) (none k q) in absurd (omega arith))
          (λ ne. subst (Below g.book.used) (ap₂ (λ (n : ℕ) z. take n (drop (64 * k) z)) (sym (C.count_other k ne)) (sym C.entries)) (R.known k) i l)
          (cases_eq k slot);
    }
  where
    none : (k : ℕ) → k ≡ slot → count_at G k ≡ 0
    none k q = ap (count_at G) q ∙ C.count_here

-- entry i of a position, as it is read
entry_read : (F : Front) (k i : ℕ) → i < count_at F k → get_or F.entries (64 * k + i) 0 ≡ get_or (entries_at F k) i 0
entry_read F k i l = sym (get_or-take (count_at F k) (drop (64 * k) F.entries) i 0 l ∙ get_or-drop (64 * k) F.entries i 0)

-- and it counts
pub entry_known : {V : Type 0} (cap slot i : ℕ) (g : Grid V) → slot < 5 → Room cap g → i < count_at g.front slot → get_or g.front.entries (64 * slot + i) 0 < g.used
entry_known cap slot i g five R l =
    let n = length_entries g.front slot five in
    let e = entry_read g.front slot i l in
    let b = R.known slot i (omega arith) in
    omega arith

-- one number more, below a bound that may have grown
pub below_push : (used used' n : ℕ) (ns : List ℕ) → used ≤ used' → n < used' → Below used ns → Below used' (ns ++ n ∷ [])
below_push used used' n [] m l b zero i = l
below_push used used' n [] m l b (suc j) i = absurd (omega arith)
below_push used used' n (x ∷ ns) m l b zero i = let z = b 0 (omega arith) in omega arith
below_push used used' n (x ∷ ns) m l b (suc j) i = below_push used used' n ns m l (λ q k. b (suc q) (omega arith)) j (omega arith)

-- a part of a board that was written, in its board
module _ {X : Type 0} (xs rs : List X) (at n i k : ℕ) (a : at + n ≤ length xs) (b : i + k ≤ n) where
  put_part : put_mid at n xs (paste (take n (drop at xs)) i rs k) ≡ paste xs (at + i) rs k
  put_part =
      let ik : i ≤ n = omega arith in
      let lt : i + k ≤ length (take n (drop at xs)) = simp (length-take, length-drop) (omega arith) in
      let x1 : take i (take n (drop at xs)) ≡ take i (drop at xs) = take-take i n (drop at xs) ik in
      let x2 : drop (i + k) (take n (drop at xs)) ++ drop n (drop at xs) ≡ drop (at + (i + k)) xs =
      sym (drop-append-le (i + k) (take n (drop at xs)) (drop n (drop at xs)) lt) ∙ (ap (drop (i + k)) (take-append-drop n (drop at xs)) ∙ drop-drop (i + k) at xs) in
      simp (append_assoc, x1, x2, take-add, add_assoc)

-- a board whose part was lent, and written in it
pub board_put : {X Z : Type 0} (v : Vec X Z) (lent part rs : List X) (at n i : ℕ) → lent ≡ vec_items v → part ≡ stored (take n (drop at lent)) i rs → at + n ≤ length (vec_items v) → i + length rs ≤ n →
    vec_items (with_items v (put_mid at n lent part)) ≡ stored (vec_items v) (at + i) rs
board_put v lent part rs at n i e f l m =
    let g : put_mid at n lent part ≡ stored (vec_items v) (at + i) rs = ap (put_mid at n lent) f ∙ (ap (λ z. put_mid at n z (stored (take n (drop at z)) i rs)) e ∙ put_part (vec_items v) rs at n i (length rs) l m) in
    with_items_is v (put_mid at n lent part) (ap length g ∙ (length-paste (vec_items v) (at + i) rs (length rs) (omega arith) (omega arith) ∙ sym v.ok.0)) ∙ g

-- what a write of k values at a place leaves, and where
module _ {X : Type 0} (xs rs : List X) (at k : ℕ) (h : at + k ≤ length xs) (e : length rs ≡ k) where
  pub paste_below : (a n : ℕ) → a + n ≤ at → take n (drop a (paste xs at rs k)) ≡ take n (drop a xs)
  paste_below a n l =
      let t : take (a + n) (paste xs at rs k) ≡ take (a + n) xs =
      sym (take-take (a + n) (at + k) (paste xs at rs k) (omega arith)) ∙ (ap (take (a + n)) (take-paste xs at rs k (omega arith) (omega arith))
      ∙ (take-append-le (a + n) (take at xs) (take k rs) (let z = length-take-le at xs (omega arith) in omega arith) ∙ take-take (a + n) at xs l)) in
      sym (drop-take a n (paste xs at rs k)) ∙ (ap (drop a) t ∙ drop-take a n xs)

  pub paste_above : (a n : ℕ) → at + k ≤ a → take n (drop a (paste xs at rs k)) ≡ take n (drop a xs)
  paste_above a n l =
      let d : ℕ = a - (at + k) in
      let s : at + k + d ≡ a = omega arith in
      let u : drop a (paste xs at rs k) ≡ drop a xs =
      ap (λ (z : ℕ). drop z (paste xs at rs k)) (sym s) ∙ (sym (drop-drop d (at + k) (paste xs at rs k)) ∙ (ap (drop d) (drop-paste xs at rs k (omega arith) (omega arith)) ∙ (drop-drop d (at + k) xs ∙ ap (λ (z : ℕ). drop z xs) s))) in
      ap (take n) u

  pub paste_here : take k (drop at (paste xs at rs k)) ≡ rs
  paste_here =
      sym (drop-take at k (paste xs at rs k)) ∙ (ap (drop at) (take-paste xs at rs k (omega arith) (omega arith))
      ∙ (drop_at (take at xs) (take k rs) at (length-take-le at xs (omega arith)) ∙ take_all k rs (omega arith)))

module _ {V : Type 0} (class : V → Class) where
  -- a row sees its part only
  pub row_front : (ss : List ℕ) (vs : List V) (n : ℕ) → 8 * length ss ≤ n → row class ss (take n vs) ≡ row class ss vs
  row_front [] vs n l = refl
  row_front (s ∷ ss) vs n l =
      let m : ℕ = n - 8 in
      let a : take 8 (take n vs) ≡ take 8 vs = take-take 8 n vs (omega arith) in
      let b : 8 + m ≡ n = omega arith in
      let d : drop 8 (take n vs) ≡ take m (drop 8 vs) = ap (λ (z : ℕ). drop 8 (take z vs)) (sym b) ∙ drop-take 8 m vs in
      ap₂ ◌∷◌ (ap (λ z. configuration class s z) a) (ap (row class ss) d ∙ row_front ss (drop 8 vs) m (omega arith))

  pub row_same : (ss : List ℕ) (vs ws : List V) → take (8 * length ss) vs ≡ take (8 * length ss) ws → row class ss vs ≡ row class ss ws
  row_same ss vs ws e = sym (row_front ss vs (8 * length ss) (omega arith)) ∙ (ap (row class ss) e ∙ row_front ss ws (8 * length ss) (omega arith))

  pub row_push : (ss : List ℕ) (s : ℕ) (vs : List V) → row class (ss ++ s ∷ []) vs ≡ row class ss vs ++ configuration class s (take 8 (drop (8 * length ss) vs)) ∷ []
  row_push [] s vs = refl
  row_push (t ∷ ss) s vs =
      let a : 8 + 8 * length ss ≡ 8 * suc (length ss) = omega arith in
      ap (λ z. configuration class t (take 8 vs) ∷ z)
      (row_push ss s (drop 8 vs) ∙ ap (λ z. row class ss (drop 8 vs) ++ configuration class s (take 8 z) ∷ []) (drop-drop (8 * length ss) 8 vs ∙ ap (λ (z : ℕ). drop z vs) a))

  pub length_row : (ss : List ℕ) (vs : List V) → length (row class ss vs) ≡ length ss
  length_row [] vs = refl
  length_row (s ∷ ss) vs = ap suc (length_row ss (drop 8 vs))

  module _ (cap slot state entry : ℕ) (g : Grid V) (G : Front) (registers : List V) (fs : List Entry) (used' : ℕ) (five : slot < 5) (R : Room cap g) (l : count_at g.front slot < cap) (e : length registers ≡ 8) (A : Added g.front G slot state entry) where
    abbrev pub news : List V
    news = paste g.rows (slot * (8 * cap) + 8 * count_at g.front slot) registers 8

    inner : slot * (8 * cap) + 8 * cap ≤ 40 * cap
    inner = let h : slot + 1 ≤ 5 = omega arith in omega (arith, mul-le-mul_right (8 * cap) h, add-mul slot 1 (8 * cap))

    pub fits_in : slot * (8 * cap) + 8 * count_at g.front slot + 8 ≤ length g.rows
    fits_in = let a = inner in let b = R.wide in omega arith

    pub added_here : row_at class cap (grid G news fs used') slot ≡ row_at class cap g slot ++ configuration class state registers ∷ []
    added_here =
        let n : length (states_at g.front slot) ≡ count_at g.front slot = length_states g.front slot five in
        let f = fits_in in
        let at : ℕ = slot * (8 * cap) in
        let low : take (8 * length (states_at g.front slot)) (drop at news) ≡ take (8 * length (states_at g.front slot)) (drop at g.rows) =
        paste_below g.rows registers (at + 8 * count_at g.front slot) 8 f e at (8 * length (states_at g.front slot)) (omega arith) in
        let high : take 8 (drop (8 * length (states_at g.front slot)) (drop at news)) ≡ registers =
        ap (take 8) (drop-drop (8 * length (states_at g.front slot)) at news ∙ ap (λ (z : ℕ). drop (at + 8 * z) news) n) ∙ paste_here g.rows registers (at + 8 * count_at g.front slot) 8 f e in
        ap (λ z. row class z (drop at news)) A.states_here ∙ (row_push (states_at g.front slot) state (drop at news)
        ∙ ap₂ (λ a b. a ++ configuration class state b ∷ []) (row_same (states_at g.front slot) (drop at news) (drop at g.rows) low) high)

    added_other : (k : ℕ) → k < 5 → (k ≡ slot → ⊥) → row_at class cap (grid G news fs used') k ≡ row_at class cap g k
    added_other k five' ne =
        let n : length (states_at g.front k) ≡ count_at g.front k = length_states g.front k five' in
        let f = fits_in in
        let m = R.held k in
        let at : ℕ = slot * (8 * cap) in
        let to : ℕ = k * (8 * cap) in
        let same : take (8 * length (states_at g.front k)) (drop to news) ≡ take (8 * length (states_at g.front k)) (drop to g.rows) =
        ⊎_elim
        (λ (lt : k < slot). let h : k + 1 ≤ slot = omega arith in let a : (k + 1) * (8 * cap) ≤ slot * (8 * cap) = mul-le-mul_right (8 * cap) h in let b = add-mul k 1 (8 * cap) in
        paste_below g.rows registers (at + 8 * count_at g.front slot) 8 f e to (8 * length (states_at g.front k)) (omega arith))
        (λ (ge : slot ≤ k). let h : slot + 1 ≤ k = omega (arith, λ (z : k ≡ slot). ne z) in let a : (slot + 1) * (8 * cap) ≤ k * (8 * cap) = mul-le-mul_right (8 * cap) h in let b = add-mul slot 1 (8 * cap) in
        paste_above g.rows registers (at + 8 * count_at g.front slot) 8 f e to (8 * length (states_at g.front k)) (omega arith))
        (cases_lt k slot) in
        ap (λ z. row class z (drop to news)) (A.states_other k ne) ∙ row_same (states_at g.front k) (drop to news) (drop to g.rows) same

    pub added_room : g.used ≤ used' → entry < used' → Room cap (grid G news fs used')
    added_room m b =
        let f = fits_in in record {
          few = R.few;
          wide = (let n = length-paste g.rows (slot * (8 * cap) + 8 * count_at g.front slot) registers 8 f (omega arith) in let m = R.wide in omega arith);
          held = λ k. ⊎_elim (λ (q : k ≡ slot). subst (λ (z : ℕ). count_at G z ≤ cap) (sym q) (let a = A.count_here in omega arith)) (λ ne. let a = A.count_other k ne in let b = R.held k in omega arith) (cases_eq k slot);
          known = λ k. ⊎_elim (λ (q : k ≡ slot). subst (λ (z : ℕ). Below used' (entries_at G z)) (sym q) (subst (Below used') (sym A.entries_here) (below_push g.used used' entry (entries_at g.front slot) m b (R.known slot))))
              (λ ne. subst (Below used') (sym (A.entries_other k ne)) (λ i h. let z = R.known k i h in omega arith)) (cases_eq k slot);
        }

    pub comes : (from : Entry) → Enters g.book g.used from fs used' entry → holds alikeᶜ (row_at class cap g slot) (configuration class state registers) ≡ false →
        Comes class cap g (grid G news fs used') slot from (configuration class state registers)
    comes from E u = record {
      unheld = u;
      row_here = added_here;
      entry = entry;
      entries_here = A.entries_here;
      count_here = A.count_here;
      other = added_other;
      spares = λ k ne. (A.count_other k ne, A.entries_other k ne);
      enters = E;
      spilled = A.spilled;
    }

  pub length_row_at : (cap slot : ℕ) (g : Grid V) → slot < 5 → length (row_at class cap g slot) ≡ count_at g.front slot
  length_row_at cap slot g five = length_row (states_at g.front slot) (drop (slot * (8 * cap)) g.rows) ∙ length_states g.front slot five

  row_get : (ss : List ℕ) (vs : List V) (i : ℕ) (d : Configuration) → i < length ss → configuration class (get_or ss i 0) (take 8 (drop (8 * i) vs)) ≡ get_or (row class ss vs) i d
  row_get [] vs i d l = absurd (omega arith)
  row_get (s ∷ ss) vs zero d l = refl
  row_get (s ∷ ss) vs (suc i) d l =
      let a : 8 + 8 * i ≡ 8 * suc i = omega arith in
      ap (λ z. configuration class (get_or ss i 0) (take 8 z)) (ap (λ (z : ℕ). drop z vs) (sym a) ∙ sym (drop-drop (8 * i) 8 vs)) ∙ row_get ss (drop 8 vs) i d (omega arith)

  -- configuration i of a position, as it is read
  pub row_read : (cap slot i : ℕ) (g : Grid V) (held : List V) (d : Configuration) → slot < 5 → i < count_at g.front slot → held ≡ take 8 (drop (8 * i) (drop (slot * (8 * cap)) g.rows)) →
      configuration class (get_or g.front.states (64 * slot + i) 0) held ≡ get_or (row_at class cap g slot) i d
  row_read cap slot i g held d five l e =
      let n = length_states g.front slot five in
      let s : get_or g.front.states (64 * slot + i) 0 ≡ get_or (states_at g.front slot) i 0 = sym (get_or-take (count_at g.front slot) (drop (64 * slot) g.front.states) i 0 l ∙ get_or-drop (64 * slot) g.front.states i 0) in
      ap₂ (configuration class) s e ∙ row_get (states_at g.front slot) (drop (slot * (8 * cap)) g.rows) i d (omega arith)

  module _ (s : TheGrid.Grid V) (slot : ℕ) (c : C.Configuration V) (five : slot < 5) where
    -- what the search in a position's part finds is what its row holds
    pub searched : (states : List ℕ) (part : List V) (found : Bool) → states ≡ states_at s.front slot → part ≡ take (8 * s.cap) (drop (slot * (8 * s.cap)) (vec_items s.board)) →
        found ≡ holds alikeᶜ (row class states part) (stands_for class c) → holds alikeᶜ (row_at class s.cap (grid_of s) slot) (stands_for class c) ≡ found
    searched states part found es ep e =
        let b = s.held slot in
        let n = length_states s.front slot five in
        sym (e ∙ ap (λ z. holds alikeᶜ z (stands_for class c)) (ap₂ (row class) es ep ∙ row_front (states_at s.front slot) (drop (slot * (8 * s.cap)) (vec_items s.board)) (8 * s.cap) (omega arith)))

    -- a configuration whose registers were written to the board, and that was entered and added to the front
    module _ (t : TheGrid.Grid V) (entry count : ℕ) (F : Front) (b : Book) (from : Entry) (n : count ≡ count_at s.front slot) (l : count < s.cap)
        (put : vec_items t.board ≡ stored (vec_items s.board) (slot * (8 * s.cap) + 8 * count) c.registers) (same : (t.front ≡ s.front) × (t.book ≡ s.book) × (t.cap ≡ s.cap))
        (A : Added t.front F slot c.state entry) (E : Enters (vec_items t.book.entries) t.book.used from (vec_items b.entries) b.used entry) where
      abbrev pub after : Grid V
      after = grid F (vec_items t.board) (vec_items b.entries) b.used

      here : count_at s.front slot < s.cap
      here = omega arith

      adds : Added s.front F slot c.state entry
      adds = subst (λ z. Added z F slot c.state entry) same.0 A

      enters : Enters (vec_items s.book.entries) s.book.used from (vec_items b.entries) b.used entry
      enters = subst (λ (z : Book). Enters (vec_items z.entries) z.used from (vec_items b.entries) b.used entry) same.1 E

      news_put : news s.cap slot c.state entry (grid_of s) F c.registers (vec_items b.entries) b.used five (room_for s) here c.eight adds ≡ vec_items t.board
      news_put = sym (put ∙ ap₂ (λ (x y : ℕ). paste (vec_items s.board) (slot * (8 * s.cap) + 8 * x) c.registers y) n c.eight)

      pub arrived_room : Room t.cap after
      arrived_room = subst (λ (y : ℕ). Room y after) (sym same.2) (subst (λ z. Room s.cap (grid F z (vec_items b.entries) b.used)) news_put
          (added_room s.cap slot c.state entry (grid_of s) F c.registers (vec_items b.entries) b.used five (room_for s) here c.eight adds enters.more enters.known))

      pub arrived : holds alikeᶜ (row_at class s.cap (grid_of s) slot) (stands_for class c) ≡ false → Comes class s.cap (grid_of s) after slot from (stands_for class c)
      arrived u = subst (λ z. Comes class s.cap (grid_of s) (grid F z (vec_items b.entries) b.used) slot from (stands_for class c)) news_put
          (comes s.cap slot c.state entry (grid_of s) F c.registers (vec_items b.entries) b.used five (room_for s) here c.eight adds from enters u)

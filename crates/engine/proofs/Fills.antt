-- How a row fills, and its entries with it.
use Rattle.std.proofs.Common.{◌≡◌, ℕ, ◌<◌, ◌≤◌, true, false, ◌||◌, List, [], ◌∷◌, ◌++◌, length, get_or, Ok, Err, Result, vec_items, sym, refl, ap, ◌∙◌, subst, inl, inr, ⊎_elim, true≢false, append_assoc, arith}
use Rattle.std.proofs.lemmas.List.{append-nil, get_or_append_left, get_or_push}
use Rattle.std.proofs.lemmas.Bool.{or_right, or_from, cases_lt, ne_eqb}
use Rattle.std.specs.Result.{is_err}
use Rattle.topl.specs.Lists.{Class, holds}
use Rattle.topl.specs.Table as T
use Rattle.topl.specs.Runs.{Configuration, Registers, World, Reach, first_configuration, alikeᶜ}
use Rattle.topl.specs.Rows.{Filled}
use Rattle.topl.specs.Deciding.{any_error}
use Rattle.topl.proofs.Loops.{filled_added, filled_held, filled_spilled, error_append}
use Rattle.engine.specs.declared.entry.Entry.{Entry}
use Rattle.engine.specs.declared.grid.Grid as G
use Rattle.engine.specs.declared.row.Crowded.{Crowded}
use Rattle.engine.specs.Trails.{steps_to, steps_by, room_of}
use Rattle.engine.specs.Fronts.{row_at, count_at, entries_at, Grid, grid, Comes, Arrives}
use Rattle.engine.specs.Grids.{grid_of, row_of}
use Rattle.engine.specs.Fills.{Onto, Had, Tracked, Tracks, Fits, Grows, Brought, Brings, Safe}
use Rattle.engine.proofs.Fronts.{Room, room_for, length_row_at, length_entries}

-- a grid whose row has spilled
abbrev pub spill : {V : Type 0} (g : Grid V) → length g.front.states ≡ 320 → length g.front.entries ≡ 320 → ((k : ℕ) → count_at g.front k ≤ 64) → Grid V
spill g long as_long few =
    grid (record { states = g.front.states; entries = g.front.entries; counts = g.front.counts; spilled = true; long = long; as_long = as_long; few = few }) g.rows g.book g.used

module _ {V : Type 0} (class : V → Class) (cap : ℕ) (P : T.Table) (k : Registers) (w : World) (p : ℕ) where
  -- a position that is as it was is tracked as it was
  pub tracked_kept : (g h : Grid V) (slot : ℕ) → slot < 5 → Room cap g → row_at class cap h slot ≡ row_at class cap g slot → (count_at h.front slot ≡ count_at g.front slot) × (entries_at h.front slot ≡ entries_at g.front slot) →
      ((n : ℕ) → n < g.used → steps_to h.book n ≡ steps_to g.book n) → Tracked class cap P k w p g slot → Tracked class cap P k w p h slot
  tracked_kept g h slot five R er (ec, ee) kept t i l =
      let l' : i < count_at g.front slot = omega arith in
      let n = length_entries g.front slot five in
      let b : get_or (entries_at g.front slot) i 0 < g.used = R.known slot i (omega arith) in
      let s : steps_to h.book (get_or (entries_at h.front slot) i 0) ≡ steps_to g.book (get_or (entries_at g.front slot) i 0) =
      ap (λ z. steps_to h.book (get_or z i 0)) ee ∙ kept (get_or (entries_at g.front slot) i 0) b in
      subst (λ z. Reach P k w p (get_or z i (first_configuration [])) (steps_to h.book (get_or (entries_at h.front slot) i 0))) (sym er)
      (subst (Reach P k w p (get_or (row_at class cap g slot) i (first_configuration []))) (sym s) (t i l'))

  module _ (slot : ℕ) (five : slot < 5) (g : Grid V) (R : Room cap g) where
    as_it_was : Onto class cap slot g g
    as_it_was = ([], sym (append-nil (row_at class cap g slot)))

    pub grows_none : Grows class cap slot P k w p g g []
    grows_none = record {
      other = λ j l n. refl;
      onto = as_it_was;
      fill = λ truth f. subst (λ z. Filled cap (row_at class cap g slot) z g.front.spilled) (sym (append-nil truth)) f;
      kept = λ n l. refl;
      more = omega arith;
      long = refl;
      larger = omega arith;
      counted = λ _. refl;
      tracked = λ _ t. t;
    }

    module _ (h : Grid V) (c : Configuration) (from : Entry) (C : Comes class cap g h slot from c) (r : Reach P k w p c (steps_by g.book from)) where
      some_room : Fits slot g h → g.used < room_of g.book
      some_room f = let a = C.count_here in omega (arith, f)

      tracked_more : Fits slot g h → Tracked class cap P k w p g slot → Tracked class cap P k w p h slot
      tracked_more f t i l =
          let new = C.enters.new (some_room f) in
          let a = C.count_here in
          let n = length_row_at class cap slot g five in
          let m = length_entries g.front slot five in
          subst (λ z. Reach P k w p (get_or z i (first_configuration [])) (steps_to h.book (get_or (entries_at h.front slot) i 0))) (sym C.row_here)
          (subst (λ z. Reach P k w p (get_or (row_at class cap g slot ++ c ∷ []) i (first_configuration [])) (steps_to h.book (get_or z i 0))) (sym C.entries_here)
          (⊎_elim
          (λ (low : i < count_at g.front slot).
          let b : get_or (entries_at g.front slot) i 0 < g.used = R.known slot i (omega arith) in
          let s : steps_to h.book (get_or (entries_at g.front slot ++ C.entry ∷ []) i 0) ≡ steps_to g.book (get_or (entries_at g.front slot) i 0) =
          ap (steps_to h.book) (get_or_append_left (entries_at g.front slot) (C.entry ∷ []) 0 i (omega arith)) ∙ C.enters.old (get_or (entries_at g.front slot) i 0) b in
          subst (λ z. Reach P k w p z (steps_to h.book (get_or (entries_at g.front slot ++ C.entry ∷ []) i 0))) (sym (get_or_append_left (row_at class cap g slot) (c ∷ []) (first_configuration []) i (omega arith)))
          (subst (Reach P k w p (get_or (row_at class cap g slot) i (first_configuration []))) (sym s) (t i low)))
          (λ (high : count_at g.front slot ≤ i).
          let s : steps_to h.book (get_or (entries_at g.front slot ++ C.entry ∷ []) i 0) ≡ steps_by g.book from =
          ap (steps_to h.book) (get_or_push (entries_at g.front slot) C.entry 0 i (omega arith)) ∙ new.1 in
          subst (λ z. Reach P k w p z (steps_to h.book (get_or (entries_at g.front slot ++ C.entry ∷ []) i 0))) (sym (get_or_push (row_at class cap g slot) c (first_configuration []) i (omega arith)))
          (subst (Reach P k w p c) (sym s) r))
          (cases_lt i (count_at g.front slot))))

      pub grows_added : Grows class cap slot P k w p g h (c ∷ [])
      grows_added = record {
        other = C.other;
        onto = (c ∷ [], C.row_here);
        fill = λ truth f. subst (λ z. Filled cap z (truth ++ c ∷ []) h.front.spilled) (sym C.row_here)
            (subst (Filled cap (row_at class cap g slot ++ c ∷ []) (truth ++ c ∷ [])) (sym C.spilled) (filled_added cap (row_at class cap g slot) truth g.front.spilled f c C.unheld));
        kept = C.enters.old;
        more = C.enters.more;
        long = C.enters.long;
        larger = let a = C.count_here in omega arith;
        counted = λ f. let a = C.count_here in let b = (C.enters.new (some_room f)).0 in omega arith;
        tracked = tracked_more;
      }

    pub grows_held : (c : Configuration) → holds alikeᶜ (row_at class cap g slot) c ≡ true → Grows class cap slot P k w p g g (c ∷ [])
    grows_held c e = record {
      other = λ j l n. refl;
      onto = as_it_was;
      fill = λ truth f. filled_held cap (row_at class cap g slot) truth g.front.spilled f c e;
      kept = λ n l. refl;
      more = omega arith;
      long = refl;
      larger = omega arith;
      counted = λ _. refl;
      tracked = λ _ t. t;
    }

    pub grows_spilled : (c : Configuration) → holds alikeᶜ (row_at class cap g slot) c ≡ false → length (row_at class cap g slot) ≡ cap → (l : length g.front.states ≡ 320) (m : length g.front.entries ≡ 320) (few : (j : ℕ) → count_at g.front j ≤ 64) →
        Grows class cap slot P k w p g (spill g l m few) (c ∷ [])
    grows_spilled c e n l m few = record {
      other = λ j l n. refl;
      onto = as_it_was;
      fill = λ truth f. filled_spilled cap (row_at class cap g slot) truth g.front.spilled f c e n;
      kept = λ n l. refl;
      more = omega arith;
      long = refl;
      larger = omega arith;
      counted = λ _. refl;
      tracked = λ _ t. t;
    }

    -- what comes to a position that has room for it, or holds it; and to one that has not
    module _ (h : Grid V) (from : Entry) (c : Configuration) (n : c.state ≡ T.error → ⊥) where
      safe : any_error (c ∷ []) ≡ false
      safe = ap (λ z. z || false) (ne_eqb c.state T.error n)

      pub brought_in : (r : Result (Unit {0}) Crowded) → is_err r ≡ false → Arrives class cap g h slot from c r → Reach P k w p c (steps_by g.book from) → Brought class cap slot P k w p g h (c ∷ []) (Ok tt)
      brought_in (Ok _) i (inl a) m = subst (λ z. Brought class cap slot P k w p g z (c ∷ []) (Ok tt)) (sym a.1) (safe, grows_held c a.0)
      brought_in (Ok _) i (inr a) m = (safe, grows_added h c from a m)
      brought_in (Err _) i a m = absurd (true≢false i)

      pub brought_over : (r : Result (Unit {0}) Crowded) → is_err r ≡ true → Arrives class cap g h slot from c r → (l : length h.front.states ≡ 320) (m : length h.front.entries ≡ 320) (few : (j : ℕ) → count_at h.front j ≤ 64) →
          Brought class cap slot P k w p g (spill h l m few) (c ∷ []) (Ok tt)
      brought_over (Err _) i a =
          subst (λ z. (l : length z.front.states ≡ 320) (m : length z.front.entries ≡ 320) (few : (j : ℕ) → count_at z.front j ≤ 64) → Brought class cap slot P k w p g (spill z l m few) (c ∷ []) (Ok tt)) (sym a.2)
          (λ l m few. (safe, grows_spilled c a.0 a.1 l m few))
      brought_over (Ok _) i a = absurd (true≢false (sym i))

    pub brought_none : (added : List Configuration) → added ≡ [] → Brought class cap slot P k w p g g added (Ok tt)
    brought_none added e = subst (λ z. Brought class cap slot P k w p g g z (Ok tt)) (sym e) (refl, grows_none)

  -- one after the other
  module _ (slot : ℕ) (g h j : Grid V) (xs ys : List Configuration) where
    grows_on : Grows class cap slot P k w p g h xs → Grows class cap slot P k w p h j ys → Grows class cap slot P k w p g j (xs ++ ys)
    grows_on A B = record {
      other = λ i l n. B.other i l n ∙ A.other i l n;
      onto = (A.onto.0 ++ B.onto.0, B.onto.1 ∙ (ap (λ z. z ++ B.onto.0) A.onto.1 ∙ append_assoc (row_at class cap g slot) A.onto.0 B.onto.0));
      fill = λ truth f. subst (λ z. Filled cap (row_at class cap j slot) z j.front.spilled) (append_assoc truth xs ys) (B.fill (truth ++ xs) (A.fill truth f));
      kept = λ n l. let m = A.more in B.kept n (omega arith) ∙ A.kept n l;
      more = let m = A.more in let n = B.more in omega arith;
      long = B.long ∙ A.long;
      larger = let m = A.larger in let n = B.larger in omega arith;
      counted = λ f. let a = A.counted (first f) in let b = B.counted (second f) in omega arith;
      tracked = λ f t. B.tracked (second f) (A.tracked (first f) t);
    }
      where
        first : Fits slot g j → Fits slot g h
        first f = let n = B.larger in omega (arith, f)

        second : Fits slot g j → Fits slot h j
        second f = let a = A.counted (first f) in let l = A.long in omega (arith, f)

    pub brought_on : (r : Result (Unit {0}) Entry) → Brought class cap slot P k w p g h xs (Ok tt) → Brought class cap slot P k w p h j ys r → Brought class cap slot P k w p g j (xs ++ ys) r
    brought_on (Err x) a b = (error_append xs ys ∙ or_right (any_error xs) (any_error ys) b.0, b.1)
    brought_on (Ok _) a b = (error_append xs ys ∙ or_from (any_error xs) (any_error ys) a.0 b.0, grows_on a.1 b.1)

  -- what is held already adds nothing
  pub brought_had : (slot : ℕ) → slot < 5 → (g : Grid V) → Room cap g → (added : List Configuration) → Had (row_at class cap g slot) added → Brought class cap slot P k w p g g added (Ok tt)
  brought_had slot five g R [] h = brought_none slot five g R [] refl
  brought_had slot five g R (c ∷ cs) h =
      brought_on slot g g g (c ∷ []) cs (Ok tt) (ap (λ z. z || false) (ne_eqb c.state T.error h.0), grows_held slot five g R c h.1) (brought_had slot five g R cs h.2)

-- whatever the events are
pub safe_on : {V : Type 0} (slot : ℕ) (g h j : G.Grid V) (r : Result (Unit {0}) Entry) → Safe slot g h (Ok tt) → Safe slot h j r → Safe slot g j r
safe_on slot g h j r A B = record {
  cap = B.cap ∙ A.cap;
  board = B.board ∙ A.board;
  more = let m = A.more in let n = B.more in omega arith;
  spares = λ k n. ((B.spares k n).0 ∙ (A.spares k n).0, (B.spares k n).1 ∙ (A.spares k n).1);
  long = B.long ∙ A.long;
  known = B.known;
}

-- a grid with the cap of another has room by it
pub room_by : {V : Type 0} (cap : ℕ) (h : G.Grid V) → h.cap ≡ cap → Room cap (grid_of h)
room_by cap h e = subst (λ (z : ℕ). Room z (grid_of h)) e (room_for h)

module _ {V : Type 0} (class : V → Class) (slot : ℕ) (P : T.Table) (k : Registers) (w : World) (p : ℕ) where
  pub brings_none : slot < 5 → (g : G.Grid V) (added : List Configuration) → added ≡ [] → Brings class slot P k w p g g added (Ok tt)
  brings_none five g added e = brought_none class g.cap P k w p slot five (grid_of g) (room_for g) added e

  pub brings_had : slot < 5 → (g : G.Grid V) (added : List Configuration) → Had (row_of class g slot) added → Brings class slot P k w p g g added (Ok tt)
  brings_had five g added h = brought_had class g.cap P k w p slot five (grid_of g) (room_for g) added h

  pub brings_on : (g h j : G.Grid V) → h.cap ≡ g.cap → (xs ys : List Configuration) (r : Result (Unit {0}) Entry) → Brings class slot P k w p g h xs (Ok tt) → Brings class slot P k w p h j ys r → Brings class slot P k w p g j (xs ++ ys) r
  brings_on g h j e xs ys r A B =
      brought_on class g.cap P k w p slot (grid_of g) (grid_of h) (grid_of j) xs ys r A (subst (λ (z : ℕ). Brought class z slot P k w p (grid_of h) (grid_of j) ys r) e B)

-- a position that is as it was is tracked as it was
pub tracks_kept : {V : Type 0} (class : V → Class) (P : T.Table) (k : Registers) (w : World) (p : ℕ) (g h : G.Grid V) (slot : ℕ) → slot < 5 → h.cap ≡ g.cap →
    row_at class g.cap (grid_of h) slot ≡ row_at class g.cap (grid_of g) slot → (count_at h.front slot ≡ count_at g.front slot) × (entries_at h.front slot ≡ entries_at g.front slot) →
    ((n : ℕ) → n < g.book.used → steps_to (vec_items h.book.entries) n ≡ steps_to (vec_items g.book.entries) n) → Tracks class P k w p g slot → Tracks class P k w p h slot
tracks_kept class P k w p g h slot five e er ec kept t =
    subst (λ (z : ℕ). Tracked class z P k w p (grid_of h) slot) (sym e) (tracked_kept class g.cap P k w p (grid_of g) (grid_of h) slot five (room_for g) er ec kept t)

-- a configuration that was read at a tracked position is reached by the steps of its entry
pub entered_reach : {V : Type 0} (class : V → Class) (P : T.Table) (k : Registers) (w : World) (p : ℕ) (g : G.Grid V) (slot i : ℕ) (c : Configuration) (n : ℕ) → i < count_at g.front slot →
    c ≡ get_or (row_at class g.cap (grid_of g) slot) i (first_configuration []) → n ≡ get_or (entries_at g.front slot) i 0 → Tracks class P k w p g slot → Reach P k w p c (steps_to (vec_items g.book.entries) n)
entered_reach class P k w p g slot i c n l ec en t =
    subst (λ d. Reach P k w p d (steps_to (vec_items g.book.entries) n)) (sym ec)
    (subst (λ (z : ℕ). Reach P k w p (get_or (row_at class g.cap (grid_of g) slot) i (first_configuration [])) (steps_to (vec_items g.book.entries) z)) (sym en) (t i l))

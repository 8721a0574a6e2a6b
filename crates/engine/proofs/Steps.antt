-- What the moves from a configuration bring, statement by statement.
use Rattle.std.proofs.Common.{◌≡◌, ℕ, ◌+◌, ◌-◌, ◌%◌, ◌<◌, ◌≤◌, List, [], ◌++◌, map, length, get_or, take, drop, true, ltb, ltb-true, Ok, Err, Result, vec_items, sym, ap, ◌∙◌, subst, append_assoc, arith}
use Rattle.std.proofs.lemmas.List.{drop-drop, take_all, take-append-drop}
use Rattle.topl.specs.Lists.{Class, ◌∈◌, each}
use Rattle.topl.specs.Table as T
use Rattle.topl.specs.Runs.{Configuration, Reach, Registers, World, first_configuration, lands, moves, passing, skips}
use Rattle.topl.specs.Rows.{incoming, landed}
use Rattle.topl.specs.Deciding.{any_error}
use Rattle.topl.proofs.Loops.{each_append, each_more, error_early}
use Rattle.topl.proofs.Moves.{each_same, incoming_front, incoming_more, landed_append, passing_more, passing_split}
use Rattle.engine.specs.declared.entry.Entry.{Entry}
use Rattle.engine.specs.declared.grid.Grid as G
use Rattle.engine.specs.declared.scene.Scene.{Scene}
use Rattle.engine.specs.declared.scene.Position.{Position}
use Rattle.engine.specs.Modes.{mode_of}
use Rattle.tables.specs.Views.{statement}
use Rattle.engine.specs.Views.{Seen}
use Rattle.engine.specs.Trails.{steps_to}
use Rattle.engine.specs.Fronts.{row_at, count_at, entries_at}
use Rattle.engine.specs.Grids.{grid_of, row_of}
use Rattle.engine.specs.Fills.{Had, Told, Known, Watched, Safe, Tracks, Brings}
use Rattle.engine.proofs.Windows.{seen_drop}
use Rattle.engine.proofs.Tables.{get_or-∈}
use Rattle.engine.proofs.Fronts.{length_row_at}
use Rattle.engine.proofs.Fills.{brings_had, brings_on, tracks_kept, entered_reach}
use Rattle.engine.proofs.Since.{had_each, had_moves, had_onto}

-- what a row held it holds once more came
pub had_later : {V : Type 0} (class : V → Class) (slot : ℕ) (P : T.Table) (k : Registers) (w : World) (p : ℕ) (g h : G.Grid V) → h.cap ≡ g.cap → (added : List Configuration) → Brings class slot P k w p g h added (Ok tt) →
    (xs : List Configuration) → Had (row_of class g slot) xs → Had (row_of class h slot) xs
had_later class slot P k w p g h c added A xs had =
    let row = row_at class g.cap (grid_of g) slot in
    subst (λ (z : ℕ). Had (row_at class z (grid_of h) slot) xs) (sym c) (subst (λ z. Had z xs) (sym A.1.onto.1) (had_onto row A.1.onto.0 xs had))

module _ (P : T.Table) (w : World) (q : ℕ) (d : Configuration) (p : ℕ) where
  -- what the skip and the first statements bring to p
  abbrev pub brought_by : ℕ → List Configuration
  brought_by i = landed p (skips P w q d) ++ landed p (passing w q d (take i (T.numbered P)))

  -- all moves are the skip, the first statements and the rest
  rest : (i : ℕ) → landed p (moves P w q d) ≡ brought_by i ++ landed p (passing w q d (drop i (T.numbered P)))
  rest i =
      landed_append w q d p (skips P w q d) (passing w q d (T.numbered P))
      ∙ (ap (λ z. landed p (skips P w q d) ++ z) (passing_split w q d p i (T.numbered P))
      ∙ sym (append_assoc (landed p (skips P w q d)) (landed p (passing w q d (take i (T.numbered P)))) (landed p (passing w q d (drop i (T.numbered P))))))

  module _ {V : Type 0} (class : V → Class) (slot : ℕ) (k : Registers) (g : G.Grid V) where
    -- the skip, where what the statements bring was held before
    pub steps_had : (h : G.Grid V) → h.cap ≡ g.cap → slot < 5 → Had (row_of class g slot) (landed p (passing w q d (T.numbered P))) → Brings class slot P k w p g h (landed p (skips P w q d)) (Ok tt) → Brings class slot P k w p g h (landed p (moves P w q d)) (Ok tt)
    steps_had h c five had A =
        let passed = landed p (passing w q d (T.numbered P)) in
        subst (λ z. Brings class slot P k w p g h z (Ok tt)) (sym (landed_append w q d p (skips P w q d) (passing w q d (T.numbered P))))
        (brings_on class slot P k w p g h h c (landed p (skips P w q d)) passed (Ok tt) A (brings_had class slot P k w p five h passed (had_later class slot P k w p g h c (landed p (skips P w q d)) A passed had)))

    -- one statement more, from a configuration that is reached by the steps of an entry
    pub steps_more : (h j : G.Grid V) → h.cap ≡ g.cap → (i : ℕ) (t : ℕ × T.Statement) (r : Result (Unit {0}) Entry) (n : ℕ) → i < length (T.numbered P) → get_or (T.numbered P) i (65, T.implied) ≡ t → n < g.book.used →
        Reach P k w q d (steps_to (vec_items g.book.entries) n) → Brings class slot P k w p g h (brought_by i) (Ok tt) →
        (t ∈ T.numbered P → Reach P k w q d (steps_to (vec_items h.book.entries) n) → Brings class slot P k w p h j (landed p (lands w q d t)) r) → Brings class slot P k w p g j (brought_by (i + 1)) r
    steps_more h j c i t r n l e m R A step =
        let first = landed p (passing w q d (take i (T.numbered P))) in
        let f : brought_by (i + 1) ≡ brought_by i ++ landed p (lands w q d t) =
        ap (λ z. landed p (skips P w q d) ++ z) (passing_more w q d p (T.numbered P) i l ∙ ap (λ z. first ++ landed p (lands w q d z)) e) ∙ sym (append_assoc (landed p (skips P w q d)) first (landed p (lands w q d t))) in
        let B = step (subst (λ z. z ∈ T.numbered P) e (get_or-∈ (T.numbered P) i (65, T.implied) l)) (subst (Reach P k w q d) (sym (A.1.kept n m)) R) in
        subst (λ z. Brings class slot P k w p g j z r) (sym f) (brings_on class slot P k w p g h j c (brought_by i) (landed p (lands w q d t)) r A B)

    -- all of them
    pub steps_end : (j : G.Grid V) (i : ℕ) (r : Result (Unit {0}) Entry) → length (T.numbered P) ≤ i → Brings class slot P k w p g j (brought_by i) r → Brings class slot P k w p g j (landed p (moves P w q d)) r
    steps_end j i r l A =
        subst (λ z. Brings class slot P k w p g j z r)
        (ap (λ z. landed p (skips P w q d) ++ landed p (passing w q d z)) (take_all i (T.numbered P) l) ∙ sym (landed_append w q d p (skips P w q d) (passing w q d (T.numbered P)))) A

    -- an error among the first is one among all
    pub steps_error : (j : G.Grid V) (i : ℕ) (x : Entry) → Brings class slot P k w p g j (brought_by i) (Err x) → Brings class slot P k w p g j (landed p (moves P w q d)) (Err x)
    steps_error j i x A = (ap any_error (rest i) ∙ error_early (brought_by i) (landed p (passing w q d (drop i (T.numbered P)))) A.0, A.1)

-- positions fewer than five apart have places of their own
pub rows_apart : (q p : ℕ) → q < p → p ≤ q + 4 → q % 5 ≡ p % 5 → ⊥
rows_apart q p l near e = omega arith

pub told_later : {V : Type 0} (class : V → Class) (slot : ℕ) (P : T.Table) (k : Registers) (w : World) (p : ℕ) (g h : G.Grid V) → h.cap ≡ g.cap → (added : List Configuration) → Brings class slot P k w p g h added (Ok tt) →
    (q judged : ℕ) (c : Configuration) → Told (row_of class g slot) P w q p judged c → Told (row_of class h slot) P w q p judged c
told_later class slot P k w p g h e added A q judged c U =
    (U.0, had_later class slot P k w p g h e added A (landed p (passing w q c (T.numbered P))) U.1, λ near. had_later class slot P k w p g h e added A (landed p (skips P w q c)) (U.2 near))

-- what an earlier call decided at q is known on the way
pub known_later : {V : Type 0} (class : V → Class) (x : Position V) (P : T.Table) (k : Registers) (w : World) (q : ℕ) (g h : G.Grid V) → Safe (x.number % 5) g h (Ok tt) → q < x.number → x.number ≤ q + 4 → (added : List Configuration) →
    Brings class (x.number % 5) P k w x.number g h added (Ok tt) → Known class x P w q g → Known class x P w q h
known_later class x P k w q g h S later near added A K l i m =
    let p = x.number in
    let same : row_of class h (q % 5) ≡ row_of class g (q % 5) = ap (λ (z : ℕ). row_at class z (grid_of h) (q % 5)) S.cap ∙ A.1.other (q % 5) (omega arith) (rows_apart q p later near) in
    told_later class (p % 5) P k w p g h S.cap added A q x.scene.now.judged _
    (subst (λ z. Told (row_of class g (p % 5)) P w q p x.scene.now.judged (get_or z i (first_configuration []))) (sym same) (K l i m))

-- and of the configuration that is read there
pub had_row : {V : Type 0} (class : V → Class) (x : Position V) (P : T.Table) (k : Registers) (w : World) (g h : G.Grid V) → Safe (x.number % 5) g h (Ok tt) → x.scene.now.base < x.number → x.number ≤ x.scene.now.base + 4 → (added : List Configuration) →
    Brings class (x.number % 5) P k w x.number g h added (Ok tt) → Known class x P w x.scene.now.base g → (i at : ℕ) → at ≡ x.scene.now.base % 5 → (d : Configuration) (decided : ℕ) → d ≡ get_or (row_at class h.cap (grid_of h) at) i (first_configuration []) →
    ((j : ℕ) → j < decided → (x.number ≤ x.scene.now.judged) × (j < get_or x.scene.now.before.now (x.scene.now.base % 5) 0)) → ltb i decided ≡ true → Told (row_of class h (x.number % 5)) P w x.scene.now.base x.number x.scene.now.judged d
had_row class x P k w g h S later near added A K i at e d decided is few t =
    let base = x.scene.now.base in
    let f = few i (ltb-true i decided t) in
    let is' : d ≡ get_or (row_of class h (base % 5)) i (first_configuration []) = is ∙ ap (λ (z : ℕ). get_or (row_at class h.cap (grid_of h) z) i (first_configuration [])) e in
    subst (Told (row_of class h (x.number % 5)) P w base x.number x.scene.now.judged) (sym is') (known_later class x P k w base g h S later near added A K f.0 i f.1)

-- what the moves from the configurations at q bring to p, one by one
module _ (P : T.Table) (w : World) (q p : ℕ) {V : Type 0} (class : V → Class) (g : G.Grid V) where
  -- what the first of them bring to p
  abbrev pub brought_from : ℕ → List Configuration
  brought_from i = each (λ c. landed p (moves P w q c)) (take i (row_at class g.cap (grid_of g) (q % 5)))

  module _ (k : Registers) where
    -- none yet, where what the moves from the first of them bring is held
    pub row_first : (n : ℕ) → ((i : ℕ) → i < n → (q + 1 ≡ p → ⊥) × Had (row_of class g (p % 5)) (landed p (passing w q (get_or (row_at class g.cap (grid_of g) (q % 5)) i (first_configuration [])) (T.numbered P)))) →
        Brings class (p % 5) P k w p g g (brought_from n) (Ok tt)
    row_first n f =
        let row = row_at class g.cap (grid_of g) (q % 5) in
        let to = row_of class g (p % 5) in
        brings_had class (p % 5) P k w p (omega arith) g (brought_from n)
        (had_each to (λ c. landed p (moves P w q c)) row (first_configuration []) n (λ i l. let h = f i l in had_moves to P w q (get_or row i (first_configuration [])) p h.0 h.1))

    -- one configuration more, as it is read with its entry
    pub row_more : (h j : G.Grid V) → Safe (p % 5) g h (Ok tt) → q < p → p ≤ q + 4 → (i at : ℕ) → at ≡ q % 5 → (d : Configuration) (n : ℕ) (r : Result (Unit {0}) Entry) → i < count_at g.front at →
        d ≡ get_or (row_at class h.cap (grid_of h) at) i (first_configuration []) → n ≡ get_or (entries_at h.front at) i 0 → Tracks class P k w q g (q % 5) →
        Brings class (p % 5) P k w p g h (brought_from i) (Ok tt) → (Reach P k w q d (steps_to (vec_items h.book.entries) n) → Brings class (p % 5) P k w p h j (landed p (moves P w q d)) r) → Brings class (p % 5) P k w p g j (brought_from (i + 1)) r
    row_more h j S later near i at e d n r l ed en T A step =
        let five : q % 5 < 5 = omega arith in
        let ne = rows_apart q p later near in
        let F : Configuration → List Configuration = λ c. landed p (moves P w q c) in
        let row = row_at class g.cap (grid_of g) (q % 5) in
        let l' : i < count_at g.front (q % 5) = subst (λ (z : ℕ). i < count_at g.front z) e l in
        let ed' = ed ∙ ap (λ (z : ℕ). get_or (row_at class h.cap (grid_of h) z) i (first_configuration [])) e in
        let en' = en ∙ ap (λ (z : ℕ). get_or (entries_at h.front z) i 0) e in
        let same = A.1.other (q % 5) five ne in
        let spared = S.spares (q % 5) ne in
        let t = tracks_kept class P k w q g h (q % 5) five S.cap same spared A.1.kept T in
        let R = entered_reach class P k w q h (q % 5) i d n (let z = spared.0 in omega arith) ed' en' t in
        let x : d ≡ get_or row i (first_configuration []) = ed' ∙ (ap (λ (z : ℕ). get_or (row_at class z (grid_of h) (q % 5)) i (first_configuration [])) S.cap ∙ ap (λ z. get_or z i (first_configuration [])) same) in
        let m = length_row_at class g.cap (q % 5) (grid_of g) five in
        let f : brought_from (i + 1) ≡ brought_from i ++ F d = each_more F row i (first_configuration []) (omega arith) ∙ ap (λ z. brought_from i ++ F z) (sym x) in
        subst (λ z. Brings class (p % 5) P k w p g j z r) (sym f) (brings_on class (p % 5) P k w p g h j S.cap (brought_from i) (F d) r A (step R))

    -- all of them
    pub row_end : (j : G.Grid V) (i : ℕ) → count_at g.front (q % 5) ≤ i → Brings class (p % 5) P k w p g j (brought_from i) (Ok tt) → Brings class (p % 5) P k w p g j (each (λ c. landed p (moves P w q c)) (row_at class g.cap (grid_of g) (q % 5))) (Ok tt)
    row_end j i l A =
        let five : q % 5 < 5 = omega arith in
        let m = length_row_at class g.cap (q % 5) (grid_of g) five in
        subst (λ z. Brings class (p % 5) P k w p g j (each (λ c. landed p (moves P w q c)) z) (Ok tt)) (take_all i (row_at class g.cap (grid_of g) (q % 5)) (omega arith)) A

    -- an error among what the first bring is one among all
    pub row_error : (j : G.Grid V) (i : ℕ) (x : Entry) → Brings class (p % 5) P k w p g j (brought_from i) (Err x) → Brings class (p % 5) P k w p g j (each (λ c. landed p (moves P w q c)) (row_at class g.cap (grid_of g) (q % 5))) (Err x)
    row_error j i x A =
        let F : Configuration → List Configuration = λ c. landed p (moves P w q c) in
        let row = row_at class g.cap (grid_of g) (q % 5) in
        (ap (λ z. any_error (each F z)) (sym (take-append-drop i row)) ∙ (ap any_error (each_append F (take i row) (drop i row)) ∙ error_early (each F (take i row)) (each F (drop i row)) A.0), A.1)

-- a scene from a later position on
pub watched_past : {V : Type 0} (class : V → Class) (s t : Scene V) (P : T.Table) (w : World) (n : ℕ) → t.statements.now ≡ s.statements.now → t.base ≡ s.base + n → t.events.now ≡ drop n s.events.now → t.mode ≡ s.mode →
    Watched class s P w → Watched class t P w
watched_past class s t P w n es eb ev em W = record {
  statements = W.statements ∙ ap (map statement) (sym es);
  mode = W.mode ∙ ap mode_of (sym em);
  events = subst (λ z. Seen class z (drop t.base w.events)) (sym ev)
      (subst (Seen class (drop n s.events.now)) (drop-drop n s.base w.events ∙ ap (λ (z : ℕ). drop z w.events) (sym eb)) (seen_drop class n s.events.now (drop s.base w.events) W.events));
}

-- and of what an earlier call decided
pub known_past : {V : Type 0} (class : V → Class) (x : Position V) (t : Scene V) (P : T.Table) (w : World) (q : ℕ) (g : G.Grid V) → t.base ≡ q → t.judged ≡ x.scene.now.judged → t.before.now ≡ x.scene.now.before.now → Known class x P w q g →
    x.number ≤ t.judged → (i : ℕ) → i < get_or t.before.now (t.base % 5) 0 → Told (row_of class g (x.number % 5)) P w t.base x.number t.judged (get_or (row_of class g (t.base % 5)) i (first_configuration []))
known_past class x t P w q g eb ej ef K l i m =
    let m' : i < get_or x.scene.now.before.now (q % 5) 0 = subst (λ (z : ℕ). i < get_or x.scene.now.before.now (z % 5) 0) eb (subst (λ z. i < get_or z (t.base % 5) 0) ef m) in
    subst (λ (z : ℕ). Told (row_of class g (x.number % 5)) P w z x.number t.judged (get_or (row_of class g (z % 5)) i (first_configuration []))) (sym eb)
    (subst (λ (z : ℕ). Told (row_of class g (x.number % 5)) P w q x.number z (get_or (row_of class g (q % 5)) i (first_configuration []))) (sym ej) (K (omega arith) i m'))

-- what the moves from earlier positions bring to p, position by position
module _ (P : T.Table) (w : World) (base p : ℕ) {V : Type 0} (class : V → Class) (g : G.Grid V) where
  -- what comes from the positions before q
  abbrev pub brought_to : ℕ → List Configuration
  brought_to q = incoming P w (λ q. row_at class g.cap (grid_of g) (q % 5)) p base (q - base)

  module _ (k : Registers) where
    -- one position more
    pub rows_more : (h j : G.Grid V) → Safe (p % 5) g h (Ok tt) → (q : ℕ) → base ≤ q → q < p → p ≤ base + 4 → (b : ℕ) → b ≡ q → (r : Result (Unit {0}) Entry) → Tracks class P k w q g (q % 5) →
        Brings class (p % 5) P k w p g h (brought_to q) (Ok tt) →
        (Tracks class P k w b h (b % 5) → Brings class (p % 5) P k w p h j (each (λ c. landed p (moves P w b c)) (row_at class h.cap (grid_of h) (b % 5))) r) → Brings class (p % 5) P k w p g j (brought_to (q + 1)) r
    rows_more h j S q low l near b eb r T A step =
        let row : ℕ → List Configuration = λ q. row_at class g.cap (grid_of g) (q % 5) in
        let five : q % 5 < 5 = omega arith in
        let ne = rows_apart q p l (omega arith) in
        let same = A.1.other (q % 5) five ne in
        let t = tracks_kept class P k w q g h (q % 5) five S.cap same (S.spares (q % 5) ne) A.1.kept T in
        let B = step (subst (λ (z : ℕ). Tracks class P k w z h (z % 5)) (sym eb) t) in
        let now : row_at class h.cap (grid_of h) (b % 5) ≡ row q = ap (λ (z : ℕ). row_at class h.cap (grid_of h) (z % 5)) eb ∙ (ap (λ (z : ℕ). row_at class z (grid_of h) (q % 5)) S.cap ∙ same) in
        let B₁ = subst (λ z. Brings class (p % 5) P k w p h j z r) (each_same P w p eb now) B in
        subst (λ z. Brings class (p % 5) P k w p g j z r) (sym (incoming_more P w row p base (q - base) q (q + 1 - base) (omega arith) (omega arith)))
        (brings_on class (p % 5) P k w p g h j S.cap (brought_to q) (each (λ c. landed p (moves P w q c)) (row q)) r A B₁)

    -- an error from the first is one from all
    pub rows_error : (j : G.Grid V) (q : ℕ) (x : Entry) → q ≤ p → Brings class (p % 5) P k w p g j (brought_to q) (Err x) → Brings class (p % 5) P k w p g j (brought_to p) (Err x)
    rows_error j q x l A = (incoming_front P w (λ q. row_at class g.cap (grid_of g) (q % 5)) p base (p - base) (q - base) (omega arith) A.0, A.1)

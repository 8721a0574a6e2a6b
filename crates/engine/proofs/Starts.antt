-- What a feed or a close starts from, while a watch runs.
use Rattle.std.proofs.Common.{◌≡◌, ℕ, suc, ◌-◌, ◌*◌, ◌%◌, ◌≤◌, true, false, List, [], ◌∷◌, ◌++◌, length, get_or, take, drop, sym, refl, ap, ◌∙◌, subst, ⊎_elim, arith, length-append}
use Rattle.std.proofs.lemmas.List.{nil_from_length}
use Rattle.std.proofs.lemmas.Bool.{cases_Bool, cases_eq}
use Rattle.topl.specs.Lists.{Class, holds, apart}
use Rattle.topl.specs.Table as T
use Rattle.topl.specs.Runs.{Registers, Configuration, World, so_far, closing, Reach, first_configuration, reached, alikeᶜ}
use Rattle.topl.specs.Rows.{Stands}
use Rattle.topl.specs.Deciding.{sum, count, any_error}
use Rattle.topl.specs.Theorems.{Steady}
use Rattle.topl.proofs.Basics.{alikeᶜ_tests, holds-∈, ∈-holds}
use Rattle.topl.proofs.Enumerate.{enumerates}
use Rattle.topl.proofs.Deciding.{any_error_sound}
use Rattle.topl.proofs.Persist.{persists}
use Rattle.topl.proofs.Step.{stepping}
use Rattle.topl.proofs.Resume.{watching, beyond}
use Rattle.engine.specs.declared.front.Front.{Front}
use Rattle.engine.specs.Trails.{room_of, steps_to}
use Rattle.engine.specs.Fronts.{count_at, entries_at, row_at, row, Grid, grid, Cleared}
use Rattle.engine.specs.Fills.{Tracked}
use Rattle.engine.specs.Judging.{Held, Start}

-- a position is cleared: the others are as they were
module _ {V : Type 0} (class : V → Class) (cap slot : ℕ) (g : Grid V) (G : Front) (C : Cleared g.front G slot) where
  abbrev pub cleared : Grid V
  cleared = grid G g.rows g.book g.used

  pub cleared_row : (k : ℕ) → (k ≡ slot → ⊥) → row_at class cap cleared k ≡ row_at class cap g k
  cleared_row k ne = ap (λ z. row class z (drop (k * (8 * cap)) g.rows)) (ap (λ (z : ℕ). take z (drop (64 * k) G.states)) (C.count_other k ne) ∙ ap (λ z. take (count_at g.front k) (drop (64 * k) z)) C.states)

  cleared_entries : (k : ℕ) → (k ≡ slot → ⊥) → entries_at G k ≡ entries_at g.front k
  cleared_entries k ne = ap (λ (z : ℕ). take z (drop (64 * k) G.entries)) (C.count_other k ne) ∙ ap (λ z. take (count_at g.front k) (drop (64 * k) z)) C.entries

  pub cleared_here : row_at class cap cleared slot ≡ []
  cleared_here = ap (λ (z : ℕ). row class (take z (drop (64 * slot) G.states)) (drop (slot * (8 * cap)) g.rows)) C.count_here

  pub cleared_tracked : (P : T.Table) (k : Registers) (w : World) (p q : ℕ) → (q ≡ slot → ⊥) → Tracked class cap P k w p g q → Tracked class cap P k w p cleared q
  cleared_tracked P k w p q ne t i l =
      let m = C.count_other q ne in
      subst (λ z. Reach P k w p (get_or z i (first_configuration [])) (steps_to g.book (get_or (entries_at G q) i 0))) (sym (cleared_row q ne))
      (subst (λ z. Reach P k w p (get_or (row_at class cap g q) i (first_configuration [])) (steps_to g.book (get_or z i 0))) (sym (cleared_entries q ne)) (t i (omega arith)))

module _ (P : T.Table) (k : Registers) (cap book : ℕ) (L : List T.Event) (S : Steady P k cap book L) where
  -- no `error` in a row that stands
  no_error : (q : ℕ) (row : List Configuration) → Stands P k (so_far L) q row → any_error row ≡ false
  no_error q row h = ⊎_elim
      (λ (t : any_error row ≡ true).
      let x = any_error_sound row t in
      absurd (S.0 q (x.0, x.2, ((enumerates P k (so_far L) q).2 x.0).0 (holds-∈ alikeᶜ_tests (reached P k (so_far L) q) x.0 (sym (h x.0) ∙ ∈-holds alikeᶜ_tests x.1)))))
      (λ f. f) (cases_Bool (any_error row))

  -- nothing is reached past the events
  past : Stands P k (so_far L) (suc (length L)) []
  past c = ap (λ z. holds alikeᶜ z c) (sym (nil_from_length (reached P k (so_far L) (suc (length L))) (beyond P k (so_far L) (suc (length L)) (omega arith))))

module _ {V : Type 0} (class : V → Class) (cap : ℕ) (g : Grid V) (P : T.Table) (k : Registers) (L : List T.Event) (N : T.Lawful P) (S : Steady P k cap (room_of g.book) L)
    (held : (q : ℕ) → length L - 3 ≤ q → q ≤ length L → Held class cap g P k (so_far L) q) (tracked : (q : ℕ) → length L - 3 ≤ q → q ≤ length L → Tracked class cap P k (so_far L) q g (q % 5))
    (total : g.used ≡ sum (suc (length L)) (count P k (so_far L))) where
  -- a close
  pub start_close : Start class cap g (length L - 3) (length L) P k L (closing L)
  start_close = record {
    steps = (stepping.0 P k L (record { id = 0; values = [] }) N).1;
    resumes = (watching P k cap (room_of g.book) L (record { id = 0; values = [] }) N S).1;
    from = refl;
    to = refl;
    held = held;
    safe = λ q l m. no_error P k cap (room_of g.book) L S q (row_at class cap g (q % 5)) (held q l m).stands;
    total = total;
    tracked = λ q l m i h. (persists P k L [] q _ _ (tracked q l m i h)).1;
  }

  -- a feed, where the place of the new position is cleared
  module _ (e : T.Event) (G : Front) (C : Cleared g.front G (suc (length L) % 5)) where
    now_held : (q : ℕ) → length L - 3 ≤ q → q ≤ suc (length L) → Held class cap (cleared class cap (suc (length L) % 5) g G C) P k (so_far L) q
    now_held q l m = ⊎_elim
        (λ (i : q ≡ suc (length L)). subst (λ (z : ℕ). Held class cap (cleared class cap (suc (length L) % 5) g G C) P k (so_far L) z) (sym i) (record {
          stands = subst (Stands P k (so_far L) (suc (length L))) (sym (cleared_here class cap (suc (length L) % 5) g G C)) (past P k cap (room_of g.book) L S);
          once = ap (apart alikeᶜ) (cleared_here class cap (suc (length L) % 5) g G C);
        }))
        (λ (ne : q ≡ suc (length L) → ⊥).
        let few : q ≤ length L = omega (arith, λ (z : q ≡ suc (length L)). ne z) in
        let r = cleared_row class cap (suc (length L) % 5) g G C (q % 5) (λ z. omega arith) in
        let h = held q l few in
        record { stands = subst (Stands P k (so_far L) q) (sym r) h.stands; once = subst (λ z. apart alikeᶜ z ≡ true) (sym r) h.once })
        (cases_eq q (suc (length L)))

    now_tracked : (q : ℕ) → length L - 3 ≤ q → q ≤ suc (length L) → Tracked class cap P k (so_far (L ++ (e ∷ []))) q (cleared class cap (suc (length L) % 5) g G C) (q % 5)
    now_tracked q l m = ⊎_elim
        (λ (i : q ≡ suc (length L)). subst (λ (z : ℕ). Tracked class cap P k (so_far (L ++ (e ∷ []))) z (cleared class cap (suc (length L) % 5) g G C) (z % 5)) (sym i) (λ j h. let z = C.count_here in absurd (omega arith)))
        (λ (ne : q ≡ suc (length L) → ⊥).
        let few : q ≤ length L = omega (arith, λ (z : q ≡ suc (length L)). ne z) in
        cleared_tracked class cap (suc (length L) % 5) g G C P k (so_far (L ++ (e ∷ []))) q (q % 5) (λ z. omega arith) (λ j h. (persists P k L (e ∷ []) q _ _ (tracked q l few j h)).0))
        (cases_eq q (suc (length L)))

    pub start_feed : Start class cap (cleared class cap (suc (length L) % 5) g G C) (length L - 3) (suc (length L)) P k L (so_far (L ++ (e ∷ [])))
    start_feed = record {
      steps = (stepping.0 P k L e N).0;
      resumes = (watching P k cap (room_of g.book) L e N S).0;
      from = refl;
      to = (let n = length-append L (e ∷ []) in omega arith);
      held = now_held;
      safe = λ q l m. no_error P k cap (room_of g.book) L S q (row_at class cap (cleared class cap (suc (length L) % 5) g G C) (q % 5)) (now_held q l m).stands;
      total = total;
      tracked = now_tracked;
    }

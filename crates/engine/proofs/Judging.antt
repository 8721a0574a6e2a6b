-- From position to position.
use Rattle.std.proofs.Common.{◌≡◌, ℕ, zero, suc, ◌+◌, ◌-◌, ◌%◌, ◌<◌, ◌≤◌, Bool, true, false, ◌||◌, ◌++◌, List, length, Ok, Err, Result, sym, refl, ap, ◌∙◌, subst, ⊎_elim, add-one, arith}
use Rattle.std.proofs.lemmas.Bool.{cases_eq, lt-ltb, le-ltb}
use Rattle.topl.specs.Lists.{Class, apart}
use Rattle.topl.specs.Table as T
use Rattle.topl.specs.Runs.{Registers, Configuration, World, so_far, alikeᶜ, reached}
use Rattle.topl.specs.Rows.{Stands, Filled, incoming}
use Rattle.topl.specs.Deciding as D
use Rattle.topl.specs.Theorems.{ErrsBy}
use Rattle.topl.proofs.Deciding.{no_ruling, finding}
use Rattle.topl.proofs.Loops.{filled_first}
use Rattle.topl.proofs.Positions.{errs, over_count, filled_stands}
use Rattle.topl.proofs.Step.{stepping}
use Rattle.engine.specs.declared.front.Decision.{Decision}
use Rattle.engine.specs.declared.front.Decision.TheVariants.{Breaks, Spills, Overfills}
use Rattle.engine.specs.Trails.{room_of, steps_by}
use Rattle.engine.specs.Fronts.{row_at, count_at, Grid, grid, Spares}
use Rattle.engine.specs.Fills.{Ready, Stood, Grows, Fills, Fits, Tracked}
use Rattle.engine.specs.Judging.{ruled, ShowsRun, Balance, Judged, Held, Start, Decided}
use Rattle.engine.proofs.Fronts.{Room, length_row_at}
use Rattle.engine.proofs.Cases.{never}
use Rattle.engine.proofs.Fills.{tracked_kept}

-- the entries before position p is filled
abbrev pub entries_before : T.Table → Registers → List T.Event → World → ℕ → ℕ
entries_before P k L w zero = D.sum (suc (length L)) (D.count P k (so_far L))
entries_before P k L w (suc p) = D.need P k (so_far L) w p

-- on the way, where the positions below p are done
pub record Along {V : Type 0} (class : V → Class) (cap room : ℕ) (g : Grid V) (base last p : ℕ) (P : T.Table) (k : Registers) (L : List T.Event) (w : World) : Type 0 where
  pub quiet : (q : ℕ) → q < p → D.ruling_at P k cap room (so_far L) w q ≡ D.goes_on
  pub done : (q : ℕ) → base ≤ q → q < p → Held class cap g P k w q
  pub held : (q : ℕ) → p ≤ q → q ≤ last → Held class cap g P k (so_far L) q
  pub safe : (q : ℕ) → p ≤ q → q ≤ last → D.any_error (row_at class cap g (q % 5)) ≡ false
  pub entered : g.used ≡ entries_before P k L w p
  pub tracked : (q : ℕ) → base ≤ q → q ≤ last → Tracked class cap P k w q g (q % 5)

-- Position p is filled from grid g, and h is the grid then: what came to it decides.
module _ {V : Type 0} (class : V → Class) (cap : ℕ) (g h : Grid V) (base p : ℕ) (P : T.Table) (k : Registers) (L : List T.Event) (w : World) (R : Ready class cap g base p P k L w) where
  abbrev pub row : ℕ → List Configuration
  row q = row_at class cap g (q % 5)

  abbrev pub came : List Configuration
  came = incoming P w row p base (p - base)

  -- `error` is reached where it is among what came
  pub came_errors : D.any_error (reached P k w p) ≡ D.any_error came
  came_errors = errs P k L w row base p R.steps R.from R.earlier (row p) R.before ∙ ap (λ (b : Bool). b || D.any_error came) R.safe

  module _ (long : length g.front.states ≡ 320) (as_long : length g.front.entries ≡ 320) (few : (j : ℕ) → count_at g.front j ≤ 64) where
    -- the grid as the moves begin: nothing has spilled yet
    abbrev pub begun : Grid V
    begun = grid (record { states = g.front.states; entries = g.front.entries; counts = g.front.counts; spilled = false; long = long; as_long = as_long; few = few }) g.rows g.book g.used

    filled : Grows class cap (p % 5) P k w p begun h came → Filled cap (row_at class cap h (p % 5)) (row p ++ came) h.front.spilled
    filled G = G.fill (row p) (filled_first cap (row p) R.once)

    -- where it spills, more are reached than it may have
    pub came_spills : Grows class cap (p % 5) P k w p begun h came → h.front.spilled ≡ true → cap < D.count P k w p
    came_spills G s = over_count P k L w row base p R.steps R.from R.earlier (row p) R.before cap ((filled G).over s)

    -- else it stands
    pub came_stands : base ≤ p → D.any_error came ≡ false → Grows class cap (p % 5) P k w p begun h came → h.front.spilled ≡ false → Stood class cap g h p P k w
    came_stands from e G s =
        let new = row_at class cap h (p % 5) in
        let f = subst (Filled cap new (row p ++ came)) s (filled G) in record {
          no_error = came_errors ∙ e;
          stands = filled_stands P k L w row base p R.steps R.from R.earlier (row p) R.before cap new f;
          once = f.distinct;
          other = G.other;
          onto = G.onto;
          kept = G.kept;
          long = G.long;
          counted = G.counted;
          tracked = λ z. G.tracked z (R.tracked p from (omega arith));
        }

module _ (P : T.Table) (k : Registers) (cap book : ℕ) (before now : World) (p : ℕ) where
  pub rules_broken : D.any_error (reached P k now p) ≡ true → D.breaks p ≡ D.ruling_at P k cap book before now p
  unfolding D.ruling_at
  rules_broken e = rw e

  pub rules_spilled : D.any_error (reached P k now p) ≡ false → cap < D.count P k now p → D.spills ≡ D.ruling_at P k cap book before now p
  unfolding D.ruling_at
  rules_spilled e l = rw (e, lt-ltb cap (D.count P k now p) l)

  pub rules_full : D.any_error (reached P k now p) ≡ false → D.count P k now p ≤ cap → book < D.need P k before now p → D.overfills ≡ D.ruling_at P k cap book before now p
  unfolding D.ruling_at
  rules_full e l b = rw (e, le-ltb cap (D.count P k now p) l, lt-ltb book (D.need P k before now p) b)

  pub rules_goes : D.any_error (reached P k now p) ≡ false → D.count P k now p ≤ cap → D.need P k before now p ≤ book → D.goes_on ≡ D.ruling_at P k cap book before now p
  unfolding D.ruling_at
  rules_goes e l b = rw (e, le-ltb cap (D.count P k now p) l, le-ltb book (D.need P k before now p) b)

-- what is decided is no going on
ruled_stops : (d : Decision) → ruled (Err d) ≡ D.goes_on → ⊥
ruled_stops (Breaks b) e = never cc
ruled_stops Spills e = never cc
ruled_stops Overfills e = never cc

-- and no success
decided_not : (d : Decision) → ◌≡◌ {A = Result (Unit {0}) Decision} (Err d) (Ok tt) → ⊥
decided_not d e = never cc

-- a position at which something is decided
pub judged_stops : {V : Type 0} (class : V → Class) (cap : ℕ) (g h : Grid V) (p : ℕ) (P : T.Table) (k : Registers) (L : List T.Event) (w : World) (d : Decision) →
    ruled (Err d) ≡ D.ruling_at P k cap (room_of g.book) (so_far L) w p → ShowsRun P k w h.book (Err d) → Judged class cap g h p P k L w (Err d)
judged_stops class cap g h p P k L w d e s = record {
  rules = e;
  shown = s;
  held = λ z. absurd (decided_not d z);
  onto = λ z. absurd (decided_not d z);
  other = λ z. absurd (decided_not d z);
  kept = λ z. absurd (decided_not d z);
  needs = λ z. absurd (decided_not d z);
  tracked = λ z. absurd (decided_not d z);
}

-- Position p was filled from grid g, and h is the grid then: it is ruled on.
module _ {V : Type 0} (class : V → Class) (cap : ℕ) (g h : Grid V) (p : ℕ) (P : T.Table) (k : Registers) (L : List T.Event) (w : World) where
  -- what is decided once it is filled is the rule's word
  pub judged_err : (d : Decision) → Fills class cap g h p P k w (Err d) → Judged class cap g h p P k L w (Err d)
  judged_err (Breaks b) f =
      judged_stops class cap g h p P k L w (Breaks b) (ap D.breaks f.0 ∙ rules_broken P k cap (room_of g.book) (so_far L) w p f.1) (subst (λ (q : ℕ). ErrsBy P k w q (steps_by h.book b.last)) (sym f.0) f.2)
  judged_err Spills f = judged_stops class cap g h p P k L w Spills (rules_spilled P k cap (room_of g.book) (so_far L) w p f.0 f.1) tt
  judged_err Overfills f = absurd f

  -- as many as are reached
  counted : (v : World) (j : Grid V) → Room cap j → Stands P k v p (row_at class cap j (p % 5)) → apart alikeᶜ (row_at class cap j (p % 5)) ≡ true → count_at j.front (p % 5) ≡ D.count P k v p
  counted v j R stands once = sym (length_row_at class cap (p % 5) j (omega arith)) ∙ stepping.1 P k v p (row_at class cap j (p % 5)) stands once

  module _ (base : ℕ) (R : Ready class cap g base p P k L w) (before : Room cap g) (after : Room cap h) (B : Balance g.used p P k L w) (S : Stood class cap g h p P k w)
      (need : ℕ) (is : need ≡ g.used + count_at h.front (p % 5) - count_at g.front (p % 5)) where
    -- the entries that are needed, in a book that is as long as it was
    needed : (need ≡ D.need P k (so_far L) w p) × (room_of h.book ≡ room_of g.book) × (D.count P k w p ≤ cap)
    needed =
        let m = counted (so_far L) g before R.before R.once in
        let n = counted w h after S.stands S.once in
        let top = after.held (p % 5) in
        let long = S.long in
        (omega arith, omega arith, omega arith)

    -- the book has too few entries
    pub judged_full : room_of h.book < need → Judged class cap g h p P k L w (Err Overfills)
    judged_full l =
        let a = needed.0 in
        let b = needed.1 in
        judged_stops class cap g h p P k L w Overfills (rules_full P k cap (room_of g.book) (so_far L) w p S.no_error needed.2 (omega arith)) tt

    -- it has enough
    pub judged_goes : need ≤ room_of h.book → Judged class cap g h p P k L w (Ok tt)
    judged_goes l =
        let a = needed.0 in
        let b = needed.1 in
        let fit : Fits (p % 5) g h = omega arith in
        let c = S.counted fit in record {
          rules = rules_goes P k cap (room_of g.book) (so_far L) w p S.no_error needed.2 (omega arith);
          shown = tt;
          held = λ e. record { stands = S.stands; once = S.once };
          onto = λ e. S.onto;
          other = λ e. S.other;
          kept = λ e. S.kept;
          needs = λ e. omega arith;
          tracked = λ e. S.tracked fit;
        }

module _ {V : Type 0} (class : V → Class) (cap : ℕ) (base last : ℕ) (P : T.Table) (k : Registers) (L : List T.Event) (w : World) (g : Grid V) (S : Start class cap g base last P k L w) (five : last ≤ base + 4) where
  low_entries : (p : ℕ) → p ≡ base → entries_before P k L w p ≡ D.sum (suc (length L)) (D.count P k (so_far L))
  low_entries zero e = refl
  low_entries (suc p) e = let f = S.from in S.resumes.low p (omega arith)

  pub along_start : Along class cap (room_of g.book) g base last base P k L w
  along_start = record {
    quiet = λ q l. let f = S.from in no_ruling P k cap (room_of g.book) (so_far L) w q (S.resumes.passed q (omega arith));
    done = λ q l m. absurd (omega arith);
    held = S.held;
    safe = S.safe;
    entered = S.total ∙ sym (low_entries base refl);
    tracked = S.tracked;
  }

  module _ (p : ℕ) (h : Grid V) (long : length h.book ≡ length g.book) (R : Room cap h) (A : Along class cap (room_of g.book) h base last p P k L w) (low : base ≤ p) (high : p ≤ last) where
    along_ready : Ready class cap h base p P k L w
    along_ready = record {
      steps = S.steps;
      from = S.from;
      earlier = λ q l m. let f = S.from in (A.done q (omega arith) m).stands;
      before = (A.held p (omega arith) high).stands;
      once = (A.held p (omega arith) high).once;
      safe = A.safe p (omega arith) high;
      tracked = λ q l m. A.tracked q l (omega arith);
    }

    balance : (q : ℕ) → q ≤ last → D.need P k (so_far L) w q + D.count P k (so_far L) q ≡ entries_before P k L w q + D.count P k w q
    balance zero l = let o = S.resumes.origin.0 in let c = S.resumes.origin.1 in omega arith
    balance (suc q) l = let t = S.to in S.resumes.further q (omega arith)

    along_balance : Balance h.used p P k L w
    along_balance = balance p high ∙ ap (λ (z : ℕ). z + D.count P k w p) (sym A.entered)

    module _ (j : Grid V) (r : Result (Unit {0}) Decision) (X : Spares (p % 5) h.front j.front) (c : ℕ) (same : c ≡ cap) (judged : Ready class c h base p P k L w → Balance h.used p P k L w → Judged class c h j p P k L w r) where
      pub along_judged : Judged class cap h j p P k L w r
      along_judged = subst (λ (z : ℕ). Judged class z h j p P k L w r) same (judged (subst (λ (z : ℕ). Ready class z h base p P k L w) (sym same) along_ready) along_balance)

      rules' : ruled r ≡ D.ruling_at P k cap (room_of g.book) (so_far L) w p
      rules' = along_judged.rules ∙ ap (λ (z : ℕ). D.ruling_at P k cap z (so_far L) w p) (let l = long in omega arith)

      pub along_decides : (d : Decision) → r ≡ Err d → Decided class cap g j base last P k L w r
      along_decides d x = let n : r ≡ Ok tt → ⊥ = λ e. decided_not d (sym x ∙ e) in record {
        decides = sym ((finding P k cap (room_of g.book) (so_far L) w).found p (ruled r) (let t = S.to in omega arith) A.quiet (λ e. ruled_stops d (ap ruled (sym x) ∙ e)) (sym rules'));
        shown = along_judged.shown;
        held = λ e. absurd (n e);
        total = λ e. absurd (n e);
        tracked = λ e. absurd (n e);
      }

      module _ (e : r ≡ Ok tt) where
        kept : (w' : World) (q : ℕ) → base ≤ q → q ≤ last → (q ≡ p → ⊥) → Held class cap h P k w' q → Held class cap j P k w' q
        kept w' q l m n x =
            let y : row_at class cap j (q % 5) ≡ row_at class cap h (q % 5) = along_judged.other e (q % 5) (omega arith) (λ z. n (omega arith)) in
            record { stands = subst (Stands P k w' q) (sym y) x.stands; once = subst (λ z. apart alikeᶜ z ≡ true) (sym y) x.once }

        next_quiet : (q : ℕ) → q < suc p → D.ruling_at P k cap (room_of g.book) (so_far L) w q ≡ D.goes_on
        next_quiet q l =
            ⊎_elim (λ (i : q ≡ p). ap (D.ruling_at P k cap (room_of g.book) (so_far L) w) i ∙ (sym rules' ∙ ap ruled e)) (λ n. A.quiet q (omega (arith, λ (z : q ≡ p). n z))) (cases_eq q p)

        next_done : (q : ℕ) → base ≤ q → q < suc p → Held class cap j P k w q
        next_done q l m =
            ⊎_elim (λ (i : q ≡ p). subst (λ (z : ℕ). Held class cap j P k w z) (sym i) (along_judged.held e)) (λ n. kept w q l (omega arith) n (A.done q l (omega (arith, λ (z : q ≡ p). n z)))) (cases_eq q p)

        next_tracked : (q : ℕ) → base ≤ q → q ≤ last → Tracked class cap P k w q j (q % 5)
        next_tracked q l m =
            ⊎_elim (λ (i : q ≡ p). subst (λ (z : ℕ). Tracked class cap P k w z j (z % 5)) (sym i) (along_judged.tracked e))
            (λ (n : q ≡ p → ⊥). let ne : q % 5 ≡ p % 5 → ⊥ = λ z. n (omega arith) in
            tracked_kept class cap P k w q h j (q % 5) (omega arith) R (along_judged.other e (q % 5) (omega arith) ne) (X (q % 5) ne) (along_judged.kept e) (A.tracked q l m)) (cases_eq q p)

        pub along_more : Along class cap (room_of g.book) j base last (p + 1) P k L w
        along_more = subst (λ (z : ℕ). Along class cap (room_of g.book) j base last z P k L w) (sym (add-one p)) (record {
          quiet = next_quiet;
          done = next_done;
          held = λ q l m. kept (so_far L) q (omega arith) m (λ z. omega arith) (A.held q (omega arith) m);
          safe = λ q l m. ap D.any_error (along_judged.other e (q % 5) (omega arith) (λ z. omega arith)) ∙ A.safe q (omega arith) m;
          entered = along_judged.needs e;
          tracked = next_tracked;
        })

  pub along_end : (p : ℕ) (h : Grid V) → Along class cap (room_of g.book) h base last p P k L w → p ≡ suc last → Decided class cap g h base last P k L w (Ok tt)
  along_end p h A e = record {
    decides = sym ((finding P k cap (room_of g.book) (so_far L) w).never (λ q l. A.quiet q (let t = S.to in omega arith)));
    shown = tt;
    held = λ _ q l m. A.done q l (omega arith);
    total = λ _. A.entered ∙ (ap (entries_before P k L w) e ∙ (ap (D.need P k (so_far L) w) (sym S.to) ∙ (S.resumes.last ∙ ap (λ (z : ℕ). D.sum (suc z) (D.count P k w)) S.to)));
    tracked = λ _. A.tracked;
  }

-- Draws, and the phase after a feed or a close.
use Rattle.std.proofs.Common.{◌≡◌, ℕ, min, List, [], ◌∷◌, drop, Some, None, Option, sym, refl, ap, ◌∙◌, arith}
use Rattle.kinds.specs.declared.phase.Phase.{Phase}
use Rattle.kinds.specs.declared.phase.Phase.TheVariants.{Blank, Running, Broken, Spilled, Full, Kept}
use Rattle.kinds.specs.Refusals.{Ending}
use Rattle.topl.specs.Table.{Event}
use Rattle.topl.specs.Runs.{World, closing, so_far}
use Rattle.topl.specs.Deciding.{Ruling, breaks, decides, goes_on, overfills, spills}
use Rattle.topl.specs.Ledger.{Answer, Ledger, Settles, Source, Takes, draws_by, feed_reason, phase_reason, registers_of, rule, with_event}
use Rattle.topl.specs.History.{BooksCount, DrawsTakeOne, PhaseByRule, Ruled}
use Rattle.topl.proofs.Calls.{is_none}

-- draws
takes_one : (l : Ledger) (es : List Event) (end : Ending) (r : Ledger × Answer) (s' : Source) → Takes l es end r s' → s' ≡ record { waiting = drop 1 es; ending = end }
takes_one l [] end r s' t = t.1
takes_one l (e ∷ es) end r s' t = t.1

draws_one : (l : Ledger) (s s' : Source) (r : Ledger × Answer) (q : Phase) → draws_by (phase_reason q) l s r s' →
    (q ≡ Running → s' ≡ record { waiting = drop 1 s.waiting; ending = s.ending }) × (¬ (q ≡ Running) → (s' ≡ s) × (r.0 ≡ l))
draws_one l s s' r Blank d = (λ e. let z : ◌≡◌ {A = ℕ} 0 1 = cc in absurd (omega arith), λ n. (d.1, λ j. (d.0 j).0))
draws_one l s s' r Running d = (λ e. takes_one l s.waiting s.ending r s' d, λ n. absurd (n refl))
draws_one l s s' r Broken d = (λ e. let z : ◌≡◌ {A = ℕ} 0 1 = cc in absurd (omega arith), λ n. (d.1, λ j. (d.0 j).0))
draws_one l s s' r Spilled d = (λ e. let z : ◌≡◌ {A = ℕ} 0 1 = cc in absurd (omega arith), λ n. (d.1, λ j. (d.0 j).0))
draws_one l s s' r Full d = (λ e. let z : ◌≡◌ {A = ℕ} 0 1 = cc in absurd (omega arith), λ n. (d.1, λ j. (d.0 j).0))
draws_one l s s' r Kept d = (λ e. let z : ◌≡◌ {A = ℕ} 0 1 = cc in absurd (omega arith), λ n. (d.1, λ j. (d.0 j).0))

pub draws_take_one : DrawsTakeOne
draws_take_one l s s' r d = draws_one l s s' r l.phase d

-- phases by numbers
abbrev number_of_phase : Phase → ℕ
number_of_phase Blank = 0
number_of_phase Running = 1
number_of_phase Broken = 2
number_of_phase Spilled = 3
number_of_phase Full = 4
number_of_phase Kept = 5

-- the phase and the position that a ruling gives
abbrev phase_for : Phase → Ruling → Phase
phase_for idle (breaks p) = Broken
phase_for idle spills = Spilled
phase_for idle overfills = Full
phase_for idle goes_on = idle

abbrev position_for : Ruling → Option ℕ
position_for (breaks p) = Some p
position_for spills = None
position_for overfills = None
position_for goes_on = None

settled_phase : (l : Ledger) (w : World) (idle : Phase) (x : Ruling) (r : Ledger × Answer) → Settles l w idle x r → (r.0.phase ≡ phase_for idle x) × (r.0.position ≡ position_for x)
settled_phase l w idle (breaks p) r (path, A, i) = (λ j. (i j).0.phase, λ j. (i j).0.position)
settled_phase l w idle spills r i = (λ j. (i j).0.phase, λ j. (i j).0.position)
settled_phase l w idle overfills r i = (λ j. (i j).0.phase, λ j. (i j).0.position)
settled_phase l w idle goes_on r i = (λ j. (i j).0.phase, λ j. (i j).0.position)

-- idle is neither broken nor spilled nor full
abbrev Idle : Phase → Type 0
Idle q = (¬ (q ≡ Broken)) × (¬ (q ≡ Spilled)) × (¬ (q ≡ Full))

broken_by : (idle : Phase) → Idle idle → (x : Ruling) (p : ℕ) → phase_for idle x ≡ Broken → position_for x ≡ Some p → x ≡ breaks p
broken_by idle I (breaks q) p e f = ap breaks (some_is f)
  where
    some_is : Some q ≡ Some p → q ≡ p
    some_is f = cc
broken_by idle I spills p e f = absurd (omega (arith, ap number_of_phase e))
broken_by idle I overfills p e f = absurd (omega (arith, ap number_of_phase e))
broken_by idle I goes_on p e f = absurd (I.0 e)

spilled_by : (idle : Phase) → Idle idle → (x : Ruling) → phase_for idle x ≡ Spilled → x ≡ spills
spilled_by idle I (breaks q) e = absurd (omega (arith, ap number_of_phase e))
spilled_by idle I spills e = refl
spilled_by idle I overfills e = absurd (omega (arith, ap number_of_phase e))
spilled_by idle I goes_on e = absurd (I.1 e)

full_by : (idle : Phase) → Idle idle → (x : Ruling) → phase_for idle x ≡ Full → x ≡ overfills
full_by idle I (breaks q) e = absurd (omega (arith, ap number_of_phase e))
full_by idle I spills e = absurd (omega (arith, ap number_of_phase e))
full_by idle I overfills e = refl
full_by idle I goes_on e = absurd (I.2 e)

idle_by : (idle : Phase) → Idle idle → (x : Ruling) → phase_for idle x ≡ idle → x ≡ goes_on
idle_by idle I (breaks q) e = absurd (I.0 (sym e))
idle_by idle I spills e = absurd (I.1 (sym e))
idle_by idle I overfills e = absurd (I.2 (sym e))
idle_by idle I goes_on e = refl

by_rule : (l : Ledger) (w : World) (idle : Phase) (r : Ledger × Answer) → Idle idle → Settles l w idle (rule l w) r → PhaseByRule l w idle r
by_rule l w idle r I s =
    let q = settled_phase l w idle (rule l w) r s in
    record {
      is_broken = λ p. (λ e. broken_by idle I (rule l w) p (sym q.0 ∙ e.0) (sym q.1 ∙ e.1), λ e. (q.0 ∙ ap (phase_for idle) e, q.1 ∙ ap position_for e));
      is_spilled = (λ e. spilled_by idle I (rule l w) (sym q.0 ∙ e), λ e. q.0 ∙ ap (phase_for idle) e);
      is_full = (λ e. full_by idle I (rule l w) (sym q.0 ∙ e), λ e. q.0 ∙ ap (phase_for idle) e);
      is_idle = (λ e. idle_by idle I (rule l w) (sym q.0 ∙ e), λ e. q.0 ∙ ap (phase_for idle) e);
    }

running_idle : Idle Running
running_idle = (λ e. omega (arith, ap number_of_phase e), λ e. omega (arith, ap number_of_phase e), λ e. omega (arith, ap number_of_phase e))

kept_idle : Idle Kept
kept_idle = (λ e. omega (arith, ap number_of_phase e), λ e. omega (arith, ap number_of_phase e), λ e. omega (arith, ap number_of_phase e))

pub ruled : Ruled
ruled = (
  λ l e r n f. by_rule l (with_event l e) Running r running_idle (is_none l (Settles l (with_event l e) Running (rule l (with_event l e))) (feed_reason l e) r n f),
  λ l r n f. by_rule l (closing l.judged) Kept r kept_idle (is_none l (Settles l (closing l.judged) Kept (rule l (closing l.judged))) (phase_reason l.phase) r n f),
)

pub books_count : BooksCount
unfolding rule
books_count l w = (λ h. counts l.book (omega arith), λ h. counts 16384 (omega arith))
  where
    counts : (n : ℕ) → min l.book 16384 ≡ n → rule l w ≡ decides l.table (registers_of l) l.cap n (so_far l.judged) w
    counts n e = ap (λ (n : ℕ). decides l.table (registers_of l) l.cap n (so_far l.judged) w) e

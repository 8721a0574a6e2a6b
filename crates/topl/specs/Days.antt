-- Worked days: what the definitions say of the calls of a few days, by computing.
use Rattle.std.specs.Prelude.{◌≡◌, ℕ, List, [], ◌∷◌, ◌++◌, map, length, take, Some, None, codes}
use Rattle.kinds.specs.declared.phase.Phase.TheVariants.{Running, Broken, Spilled, Full, Kept}
use Rattle.kinds.specs.declared.refusal.Layer.TheVariants.{Watch}
use Rattle.kinds.specs.declared.refusal.Reason.{Reason}
use Rattle.kinds.specs.declared.refusal.Reason.TheVariants.{Watch as of_watch}
use Rattle.kinds.specs.declared.watch_reason.WatchReason.{WatchReason}
use Rattle.kinds.specs.declared.watch_reason.WatchReason.TheVariants.{IsSpilled, IsFull}
use Rattle.kinds.specs.declared.refusal.Refusal.{Refusal}
use Rattle.kinds.specs.Numbers.{number_class}
use Rattle.kinds.specs.Labels.{label_of, label_class}
use Rattle.topl.specs.declared.Told.{Told}
use Rattle.topl.specs.Lists.{Class}
use Rattle.topl.specs.Table.{Event, call_id, return_id, Write, Same, call_label, whole_label, statement_of, Table, start, error, Lawful}
use Rattle.topl.specs.Runs.{so_far, closing}
use Rattle.topl.specs.Ledger.{Ledger, fresh, began, turned, broken_at, Answer, begun, says, verdict_is, wrote, refused}
use Rattle.topl.specs.History.{to_begin, to_feed, to_close, ask_verdict, ask_path, Moment, made, Log, calls_of, History, InLanguage}

-- This is a history of these calls, and there is no other: the answers, and what there is at the end.
abbrev pub Only : Moment → Log → Moment → Type 0
Only m h n = History m h n × ((h' : Log) (n' : Moment) → calls_of h' ≡ calls_of h → History m h' n' → (h' ≡ h) × (n' ≡ n))

-- EVENTS AND ANSWERS, in short
-- the class of a number
abbrev pub number : ℕ → Class
number n = number_class (Some n)

-- a call of the method m with these classes
abbrev pub call_of : ℕ → List Class → Event
call_of m vs = record { id = call_id m; values = vs }

-- a return of the method m with these
abbrev pub return_of : ℕ → List Class → Event
return_of m vs = record { id = return_id m; values = vs }

-- the watch runs on
abbrev pub still_running : Answer
still_running = says Running None

-- broken at p
abbrev pub found_broken : ℕ → Answer
found_broken p = says Broken (Some p)

-- a refusal of the watch, placed at the judged count
abbrev pub watch_refusal : Reason → ℕ → Refusal
watch_refusal n place = record { layer = Watch; reason = n; place = place }

-- the answer that it is
abbrev pub refused_for : WatchReason → ℕ → Answer
refused_for n place = refused (watch_refusal (of_watch n) place)

-- the same answer to a feed of each of some events
abbrev pub all_fed : List Event → Answer → Log
all_fed es a = map (λ e. (to_feed e, a)) es

-- a watch over a board of 2,624 values, as long as a cap of 64 needs
abbrev pub board : ℕ
board = 2624

-- the ledger once it is begun with a property, constants and a cap, over a book of this length
abbrev pub begun_over : ℕ → Table → List Class → ℕ → Ledger
begun_over book P ks cap = began (fresh board book) P ks cap

-- a watch with this ledger, and no source
abbrev pub alone : Ledger → Moment
alone l = record { ledger = l; sources = [] }

-- a day of calls on a watch with no sources: it is begun with a property and a cap, and then these
abbrev pub Day : ℕ → Table → ℕ → Log → Ledger → Type 0
Day book P cap h l = Only (made board book []) ((to_begin P [] cap, begun) ∷ h) (alone l)

-- PROPERTY STALE. Registers: S 0, F 1. States: held 2, stale 3.
abbrev pub stale : Table
stale = record {
  methods = (3, 1) ∷ (4, 2) ∷ (5, 0) ∷ [];
  constants = [];
  statements =
      statement_of start 2 (whole_label (Write 0) 3 (Write 1 ∷ [])) [] ∷
      statement_of 2 3 (call_label 5 []) [] ∷
      statement_of 3 error (call_label 4 (Same 1 ∷ Same 0 ∷ [])) [] ∷ [];
}

-- fetch(f) returns s, midnight, apply(f', s')
abbrev pub stale_day : Class → Class → Class → Class → List Event
stale_day f s f' s' = call_of 3 (f ∷ []) ∷ return_of 3 (s ∷ []) ∷ call_of 5 [] ∷ call_of 4 (f' ∷ s' ∷ []) ∷ []

-- fetch(12) returns 900, and these two are applied after midnight
abbrev pub applied : List Event
applied = stale_day (number 12) (number 900) (number 12) (number 900)

-- fetch(12) returns 900, and 12 and 901 are applied
abbrev pub applied_other : List Event
applied_other = stale_day (number 12) (number 900) (number 12) (number 901)

-- PROPERTY WAIT. Methods g 1, p 2, r 3, z 4. States: a 2, done 3.
abbrev pub wait : Table
wait = record {
  methods = (1, 0) ∷ (2, 0) ∷ (3, 0) ∷ (4, 0) ∷ [];
  constants = [];
  statements =
      statement_of start 2 (call_label 1 []) [] ∷
      statement_of 2 3 (call_label 2 []) (call_label 3 [] ∷ call_label 4 [] ∷ []) ∷
      statement_of 2 error (call_label 3 []) [] ∷ [];
}

-- calls of g, p and r
abbrev pub gpr : List Event
gpr = call_of 1 [] ∷ call_of 2 [] ∷ call_of 3 [] ∷ []

-- and of z
abbrev pub gprz : List Event
gprz = gpr ++ (call_of 4 [] ∷ [])

-- the class of the label that is spelt so
abbrev pub label_spelt : List ℕ → Class
label_spelt text = label_class (label_of text)

-- HW-12 and day-1 are fetched, hw-12 and DAY-1 applied
abbrev pub applied_labels : List Event
applied_labels = stale_day (label_spelt (codes "HW-12")) (label_spelt (codes "day-1")) (label_spelt (codes "hw-12")) (label_spelt (codes "DAY-1"))

-- the run that the day of Stale shows
abbrev pub first_path : List ℕ
first_path = 1 ∷ 2 ∷ 3 ∷ []

-- the ledger at the end of that day
abbrev pub stale_end : Ledger
stale_end = broken_at (begun_over 16384 stale [] 64) (so_far applied) 4 first_path

-- what code tells of a ledger: the phase, the judged count, the position and the steps of the shown run
abbrev pub TellsOf : Told → Ledger → Type 0
TellsOf t l = (t.phase ≡ l.phase) × (t.judged ≡ length l.judged) × (Some t.position ≡ l.position) × (t.path ≡ l.shown)

-- THE WORKED DAYS
pub record Worked : Type 0 where
  -- both properties are lawful
  pub stale_lawful : Lawful stale
  pub wait_lawful : Lawful wait
  -- the applied value is stale: broken at the fourth event
  pub stale_breaks : Day 16384 stale 64
      (all_fed (take 3 applied) still_running ++ ((to_feed (call_of 4 (number 12 ∷ number 900 ∷ [])), found_broken 4) ∷ (ask_verdict, verdict_is Broken 4 (Some 4)) ∷
      (ask_path (0 ∷ 0 ∷ 0 ∷ 9 ∷ []), wrote 3 (1 ∷ 2 ∷ 3 ∷ 9 ∷ [])) ∷ []))
      stale_end
  -- and so is every longer list, by the language of the property's automaton
  pub stale_in_language : (X : List Event) → InLanguage stale_end (applied ++ X)
  -- another value is applied: kept
  pub other_value_kept : Day 16384 stale 64
      (all_fed applied_other still_running ++ ((to_close, says Kept None) ∷ (ask_verdict, verdict_is Kept 4 None) ∷ []))
      (turned (begun_over 16384 stale [] 64) Kept (closing applied_other))
  pub other_value_not_in_language : ¬ InLanguage stale_end applied_other
  -- a cap of 1: the second event spills, and is not judged; the watch stays spilled
  pub cap_of_one_spills : Day 16384 stale 1
      (all_fed (take 1 applied) still_running ++ ((to_feed (return_of 3 (number 900 ∷ [])), refused_for IsSpilled 1) ∷ (ask_verdict, verdict_is Spilled 1 None) ∷
      (to_feed (call_of 5 []), refused_for IsSpilled 1) ∷ []))
      (turned (begun_over 16384 stale [] 1) Spilled (so_far (take 1 applied)))
  -- a cap of 2 and a book of 6 are enough
  pub book_of_six_breaks : Day 6 stale 2
      (all_fed (take 3 applied) still_running ++ ((to_feed (call_of 4 (number 12 ∷ number 900 ∷ [])), found_broken 4) ∷ []))
      (broken_at (begun_over 6 stale [] 2) (so_far applied) 4 first_path)
  -- a book of 5 is not: the third event fills it, and is not judged; the watch stays full
  pub book_of_five_fills : Day 5 stale 2
      (all_fed (take 2 applied) still_running ++ ((to_feed (call_of 5 []), refused_for IsFull 2) ∷ (ask_verdict, verdict_is Full 2 None) ∷ (to_close, refused_for IsFull 2) ∷ []))
      (turned (begun_over 5 stale [] 2) Full (so_far (take 2 applied)))
  -- g, p, r: only the close can tell that the three joined events do not come
  pub wait_breaks_at_close : Day 16384 wait 64
      (all_fed gpr still_running ++ ((to_close, found_broken 3) ∷ (ask_path (0 ∷ 0 ∷ 0 ∷ []), wrote 3 (1 ∷ 0 ∷ 3 ∷ [])) ∷ []))
      (broken_at (begun_over 16384 wait [] 64) (closing gpr) 3 (1 ∷ 0 ∷ 3 ∷ []))
  -- g, p, r, z: they come
  pub wait_kept : Day 16384 wait 64
      (all_fed gprz still_running ++ ((to_close, says Kept None) ∷ []))
      (turned (begun_over 16384 wait [] 64) Kept (closing gprz))
  -- labels are the same but for the case of letters
  pub labels_break : Day 16384 stale 64
      (all_fed (take 3 applied_labels) still_running ++ ((to_feed (call_of 4 (label_spelt (codes "hw-12") ∷ label_spelt (codes "DAY-1") ∷ [])), found_broken 4) ∷ []))
      (broken_at (begun_over 16384 stale [] 64) (so_far applied_labels) 4 first_path)

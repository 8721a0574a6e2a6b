-- Further worked histories, for clauses of the rules that no worked day shows, and the readings that the rules exclude.
use Rattle.std.specs.Prelude.{◌≡◌, ℕ, true, List, [], ◌∷◌, ◌++◌, take, drop, replicate, None, Ok, Err}
use Rattle.kinds.specs.declared.phase.Phase.TheVariants.{Blank, Running, Spilled, Full, Kept}
use Rattle.kinds.specs.declared.refusal.Layer.TheVariants.{Journal}
use Rattle.kinds.specs.declared.refusal.Reason.TheVariants.{Cut, WildId, TooManyValues, Watch as of_watch}
use Rattle.kinds.specs.declared.watch_reason.WatchReason.TheVariants.{NotBegun, BegunAlready, BadCap, OtherConstants, SmallBoard, OtherArity, IsBroken, IsSpilled, IsFull, IsKept, NotBroken, SmallPage}
use Rattle.kinds.specs.declared.refusal.Refusal.{Refusal}
use Rattle.topl.specs.Lists.{nothing, every}
use Rattle.topl.specs.Table.{Event, Any, Write, Same, Differs, call_label, return_label, statement_of, Table, empty_table, start, error, is_lawful}
use Rattle.topl.specs.Runs.{so_far, closing, ErrorAt}
use Rattle.topl.specs.Ledger.{Ledger, fresh, began, turned, broken_at, begun, no_event, no_source, says, verdict_is, wrote, unwritten, refused, Source, registers_of}
use Rattle.topl.specs.History.{to_begin, to_feed, to_draw, to_close, ask_verdict, ask_path, Moment, made, InLanguage}
use Rattle.topl.specs.Days.{Only, number, call_of, return_of, still_running, found_broken, watch_refusal, refused_for, all_fed, board, begun_over, alone, Day, stale, applied, wait, gpr, gprz, first_path, stale_end}

-- PROPERTIES
-- start -> error: call m(<Limit>), with m 1. The constant is register 0.
abbrev pub limited : Table
limited = record { methods = (1, 1) ∷ []; constants = 0 ∷ []; statements = statement_of start error (call_label 1 (Same 0 ∷ [])) [] ∷ [] }

-- start -> a: call m(*, *, *, *, X); a -> error: call n(x), with m 1 and n 2
abbrev pub fifth : Table
fifth = record {
  methods = (1, 5) ∷ (2, 1) ∷ [];
  constants = [];
  statements = statement_of start 2 (call_label 1 (Any ∷ Any ∷ Any ∷ Any ∷ Write 0 ∷ [])) [] ∷ statement_of 2 error (call_label 2 (Same 0 ∷ [])) [] ∷ [];
}

-- start -> a: ret S := m; a -> error: call n(s), with m 1 and n 2
abbrev pub returned_same : Table
returned_same = record { methods = (1, 0) ∷ (2, 1) ∷ []; constants = []; statements = statement_of start 2 (return_label (Write 0) 1) [] ∷ statement_of 2 error (call_label 2 (Same 0 ∷ [])) [] ∷ [] }

-- start -> a: ret S := m; a -> error: call n(!s)
abbrev pub returned_other : Table
returned_other = record { methods = (1, 0) ∷ (2, 1) ∷ []; constants = []; statements = statement_of start 2 (return_label (Write 0) 1) [] ∷ statement_of 2 error (call_label 2 (Differs 0 ∷ [])) [] ∷ [] }

-- start -> error: call m(); call n(), with m 1 and n 2
abbrev pub joined : Table
joined = record { methods = (1, 0) ∷ (2, 0) ∷ []; constants = []; statements = statement_of start error (call_label 1 []) (call_label 2 [] ∷ []) ∷ [] }

-- start -> a: call m(X); a -> error: call n(X, x), with m 1 and n 2
abbrev pub rewritten : Table
rewritten = record { methods = (1, 1) ∷ (2, 2) ∷ []; constants = []; statements = statement_of start 2 (call_label 1 (Write 0 ∷ [])) [] ∷ statement_of 2 error (call_label 2 (Write 0 ∷ Same 0 ∷ [])) [] ∷ [] }

-- start -> error: call m(), with m 1
abbrev pub at_once : Table
at_once = record { methods = (1, 0) ∷ []; constants = []; statements = statement_of start error (call_label 1 []) [] ∷ [] }

-- property Wait with one statement more, start -> b: call p()
abbrev pub wait_more : Table
wait_more = record { methods = wait.methods; constants = []; statements = wait.statements ++ (statement_of start 4 (call_label 2 []) [] ∷ []) }

-- SOURCES
-- a call of midnight
abbrev pub midnight : Event
midnight = call_of 5 []

-- a source with a fetch of no value, and then a midnight
abbrev pub odd_source : Source
odd_source = record { waiting = call_of 3 [] ∷ midnight ∷ []; ending = Ok tt }

-- a refusal of a journal
abbrev pub cut : Refusal
cut = record { layer = Journal; reason = Cut; place = 7 }

-- a source with a midnight, which ends in that refusal
abbrev pub cut_source : Source
cut_source = record { waiting = midnight ∷ []; ending = Err cut }

-- a source with the day that breaks Stale
abbrev pub day_source : Source
day_source = record { waiting = applied; ending = Ok tt }

-- a watch with this ledger, and sources
abbrev pub with_sources : Ledger → List Source → Moment
with_sources l W = record { ledger = l; sources = W }

-- THE EXAMPLES
pub record Examples : Type 0 where
  -- all these properties are lawful, and so is the table that no text has filled
  pub all_lawful : every is_lawful (limited ∷ fifth ∷ returned_same ∷ returned_other ∷ joined ∷ rewritten ∷ at_once ∷ wait_more ∷ empty_table ∷ []) ≡ true
  -- a constant stands in its register from the start: another value does not break, the constant's does
  pub constant_is_set : Only (made board 16384 [])
      ((to_begin limited (number 7 ∷ []) 64, begun) ∷ (to_feed (call_of 1 (number 8 ∷ [])), still_running) ∷ (to_feed (call_of 1 (number 7 ∷ [])), found_broken 2) ∷ [])
      (alone (broken_at (begun_over 16384 limited (number 7 ∷ []) 64) (so_far (call_of 1 (number 8 ∷ []) ∷ call_of 1 (number 7 ∷ []) ∷ [])) 2 (65 ∷ 1 ∷ [])))
  -- the fifth parameter is written and read
  pub fifth_parameter : Day 16384 fifth 64
      ((to_feed (call_of 1 (number 1 ∷ number 2 ∷ number 3 ∷ number 4 ∷ number 5 ∷ [])), still_running) ∷ (to_feed (call_of 2 (number 4 ∷ [])), still_running) ∷
      (to_feed (call_of 2 (number 5 ∷ [])), found_broken 3) ∷ [])
      (broken_at (begun_over 16384 fifth [] 64) (so_far (call_of 1 (number 1 ∷ number 2 ∷ number 3 ∷ number 4 ∷ number 5 ∷ []) ∷ call_of 2 (number 4 ∷ []) ∷ call_of 2 (number 5 ∷ []) ∷ [])) 3 (1 ∷ 0 ∷ 2 ∷ []))
  -- a return with no value leaves nothing, which is the same as no value that is given
  pub void_is_not_same : Day 16384 returned_same 64
      (all_fed (return_of 1 [] ∷ call_of 2 (number 5 ∷ []) ∷ []) still_running ++ ((to_close, says Kept None) ∷ []))
      (turned (begun_over 16384 returned_same [] 64) Kept (closing (return_of 1 [] ∷ call_of 2 (number 5 ∷ []) ∷ [])))
  pub void_differs : Day 16384 returned_other 64
      ((to_feed (return_of 1 []), still_running) ∷ (to_feed (call_of 2 (number 5 ∷ [])), found_broken 2) ∷ [])
      (broken_at (begun_over 16384 returned_other [] 64) (so_far (return_of 1 [] ∷ call_of 2 (number 5 ∷ []) ∷ [])) 2 (1 ∷ 2 ∷ []))
  -- 30 by a draw: the event is gone, the ledger is as it was; then the next one, and the end
  pub draw_of_other_arity : Only (made board 16384 (odd_source ∷ []))
      ((to_begin stale [] 64, begun) ∷ (to_draw 0, refused_for OtherArity 0) ∷ (to_draw 0, still_running) ∷ (to_draw 0, no_event) ∷ (to_draw 0, no_event) ∷ (to_draw 1, no_source) ∷ [])
      (with_sources (turned (begun_over 16384 stale [] 64) Running (so_far (midnight ∷ []))) (record { waiting = []; ending = Ok tt } ∷ []))
  pub refused_draw_takes_one : Only (made board 16384 (odd_source ∷ []))
      ((to_begin stale [] 64, begun) ∷ (to_draw 0, refused_for OtherArity 0) ∷ [])
      (with_sources (begun_over 16384 stale [] 64) (record { waiting = midnight ∷ []; ending = Ok tt } ∷ []))
  -- a day that is drawn: it breaks as one that is fed, and the other source is not touched
  pub drawn_day_breaks : Only (made board 16384 (cut_source ∷ day_source ∷ []))
      ((to_begin stale [] 64, begun) ∷ (to_draw 1, still_running) ∷ (to_draw 1, still_running) ∷ (to_draw 1, still_running) ∷ (to_draw 1, found_broken 4) ∷ [])
      (with_sources stale_end (cut_source ∷ record { waiting = []; ending = Ok tt } ∷ []))
  -- an event whose draw spills is gone, and not judged
  pub spilled_draw_takes_one : Only (made board 16384 (day_source ∷ []))
      ((to_begin stale [] 1, begun) ∷ (to_draw 0, still_running) ∷ (to_draw 0, refused_for IsSpilled 1) ∷ (to_draw 0, refused_for IsSpilled 1) ∷ [])
      (with_sources (turned (begun_over 16384 stale [] 1) Spilled (so_far (take 1 applied))) (record { waiting = drop 2 applied; ending = Ok tt } ∷ []))
  -- a source's refusal is passed on, at each draw
  pub ending_is_passed_on : Only (made board 16384 (cut_source ∷ []))
      ((to_begin stale [] 64, begun) ∷ (to_draw 0, still_running) ∷ (to_draw 0, refused cut) ∷ (to_draw 0, refused cut) ∷ [])
      (with_sources (turned (begun_over 16384 stale [] 64) Running (so_far (midnight ∷ []))) (record { waiting = []; ending = Err cut } ∷ []))
  -- 20: not begun; a draw that the phase refuses leaves its source
  pub not_begun : Only (made board 16384 (cut_source ∷ []))
      ((to_feed midnight, refused_for NotBegun 0) ∷ (to_draw 0, refused_for NotBegun 0) ∷ (to_close, refused_for NotBegun 0) ∷ (ask_verdict, verdict_is Blank 0 None) ∷ [])
      (with_sources (fresh board 16384) (cut_source ∷ []))
  -- 21: begun already; 40: not broken, and the page stays
  pub begun_already : Day 16384 stale 64
      ((to_begin wait [] 64, refused_for BegunAlready 0) ∷ (ask_path (8 ∷ 9 ∷ []), unwritten (watch_refusal (of_watch NotBroken) 0) (8 ∷ 9 ∷ [])) ∷ [])
      (begun_over 16384 stale [] 64)
  -- 22: a cap of 0 or over 64; 23: another count of constants; the order is 22 before 23
  pub bad_cap : Only (made board 16384 [])
      ((to_begin stale [] 0, refused_for BadCap 0) ∷ (to_begin limited [] 65, refused_for BadCap 0) ∷ (to_begin limited [] 64, refused_for OtherConstants 0) ∷ (to_begin stale (nothing ∷ []) 1, refused_for OtherConstants 0) ∷ [])
      (alone (fresh board 16384))
  -- 24: a board one value short, or an empty book; a board for a cap of 1 has 104 values
  pub board_is_short : Only (made 103 16384 []) ((to_begin stale [] 1, refused_for SmallBoard 0) ∷ []) (alone (fresh 103 16384))
  pub board_is_enough : Only (made 104 1 []) ((to_begin stale [] 1, begun) ∷ []) (alone (began (fresh 104 1) stale [] 1))
  pub book_is_empty : Only (made board 0 []) ((to_begin stale [] 1, refused_for SmallBoard 0) ∷ []) (alone (fresh board 0))
  -- 31 once broken, for every call that could change anything; 41: a page too short stays; the run that is shown stays
  pub once_broken : Only (made board 16384 (cut_source ∷ []))
      ((to_begin stale [] 64, begun) ∷ (all_fed (take 3 applied) still_running ++ ((to_feed (call_of 4 (number 12 ∷ number 900 ∷ [])), found_broken 4) ∷ (to_feed midnight, refused_for IsBroken 4) ∷
      (to_draw 0, refused_for IsBroken 4) ∷ (to_close, refused_for IsBroken 4) ∷ (to_begin stale [] 64, refused_for BegunAlready 4) ∷
      (ask_path (8 ∷ 9 ∷ []), unwritten (watch_refusal (of_watch SmallPage) 4) (8 ∷ 9 ∷ [])) ∷ (ask_path (7 ∷ 8 ∷ 9 ∷ []), wrote 3 (1 ∷ 2 ∷ 3 ∷ [])) ∷ [])))
      (with_sources (broken_at (begun_over 16384 stale [] 64) (so_far applied) 4 first_path) (cut_source ∷ []))
  -- 34 once kept
  pub once_kept : Only (made board 16384 (cut_source ∷ []))
      ((to_begin stale [] 64, begun) ∷ (to_close, says Kept None) ∷ (to_feed midnight, refused_for IsKept 0) ∷ (to_draw 0, refused_for IsKept 0) ∷ (to_close, refused_for IsKept 0) ∷
      (ask_path [], unwritten (watch_refusal (of_watch NotBroken) 0) []) ∷ [])
      (with_sources (turned (begun_over 16384 stale [] 64) Kept (closing [])) (cut_source ∷ []))
  -- 4 and 5 come before 30, and after the phase; the last id is 131,071; an undeclared method may have any count of values that is lawful
  pub unlawful_events : Day 16384 stale 64
      ((to_feed (record { id = 131072; values = replicate 6 nothing }), refused (watch_refusal WildId 0)) ∷ (to_feed (call_of 3 (replicate 6 nothing)), refused (watch_refusal TooManyValues 0)) ∷
      (to_feed (return_of 3 (replicate 2 nothing)), refused (watch_refusal TooManyValues 0)) ∷ (to_feed (call_of 3 (replicate 2 nothing)), refused_for OtherArity 0) ∷
      (to_feed (record { id = 131071; values = nothing ∷ [] }), still_running) ∷ (to_feed (call_of 9 (replicate 5 nothing)), still_running) ∷ [])
      (turned (begun_over 16384 stale [] 64) Running (so_far (record { id = 131071; values = nothing ∷ [] } ∷ call_of 9 (replicate 5 nothing) ∷ [])))
  -- at one position `error` comes before the cap, and before the book
  pub error_comes_first : Day 1 at_once 1
      ((to_feed (call_of 1 []), found_broken 1) ∷ [])
      (broken_at (begun_over 1 at_once [] 1) (so_far (call_of 1 [] ∷ [])) 1 (1 ∷ []))
  -- the lowest position decides: at the close position 2 has three configurations, and position 3 reaches `error`
  pub lowest_position_decides : Day 16384 wait_more 2
      (all_fed gpr still_running ++ ((to_close, refused_for IsSpilled 3) ∷ []))
      (turned (begun_over 16384 wait_more [] 2) Spilled (so_far gpr))
  -- the need counts what was reached at later positions before: at the close it is 6 at position 2, before `error` is reached at position 3
  pub need_counts_what_was : Day 5 wait 2
      (all_fed gpr still_running ++ ((to_close, refused_for IsFull 3) ∷ []))
      (turned (begun_over 5 wait [] 2) Full (so_far gpr))
  pub book_of_six_waits : Day 6 wait 2
      (all_fed gpr still_running ++ ((to_close, found_broken 3) ∷ []))
      (broken_at (begun_over 6 wait [] 2) (closing gpr) 3 (1 ∷ 0 ∷ 3 ∷ []))
  -- the table that no text has filled keeps every list
  pub empty_table_keeps : Day 16384 empty_table 1
      ((to_feed midnight, still_running) ∷ (to_close, says Kept None) ∷ [])
      (turned (begun_over 16384 empty_table [] 1) Kept (closing (midnight ∷ [])))

-- READINGS THAT ARE EXCLUDED
-- the list is in the language of the property's automaton
abbrev pub Accepted : Table → List Event → Type 0
Accepted P es = InLanguage (begun_over 16384 P [] 64) es

-- some settled run of what has come so far reaches `error`
abbrev pub SettledError : Table → List Event → Type 0
SettledError P es = (p : ℕ) × ErrorAt P (registers_of (begun_over 16384 P [] 64)) (so_far es) p

-- m(1), and then n(2, 1), whose second value is what m wrote
abbrev pub reads_earlier : List Event
reads_earlier = call_of 1 (number 1 ∷ []) ∷ call_of 2 (number 2 ∷ number 1 ∷ []) ∷ []

-- m(1), and then n(2, 2), whose second value is what n writes itself
abbrev pub reads_itself : List Event
reads_itself = call_of 1 (number 1 ∷ []) ∷ call_of 2 (number 2 ∷ number 2 ∷ []) ∷ []

-- m and n
abbrev pub consecutive : List Event
consecutive = call_of 1 [] ∷ call_of 2 [] ∷ []

-- m and n, with a call of an undeclared method between them
abbrev pub interrupted : List Event
interrupted = call_of 1 [] ∷ call_of 9 [] ∷ call_of 2 [] ∷ []

-- What each of three other readings would get wrong.
pub record Excluded : Type 0 where
  -- Skipping as soon as nothing passes, while more may come: after g, p, r such a run would reach `error`, as it does once the list has ended; but z may
  -- still come, and then no run does.
  pub no_hasty_skip : Accepted wait gpr × (¬ SettledError wait gpr) × (¬ Accepted wait gprz)
  -- Reads that see their own event's writes: call n(X, x) reads the x that was written before.
  pub reads_come_first : Accepted rewritten reads_earlier × (¬ Accepted rewritten reads_itself)
  -- Passing over calls of methods that the property does not declare: joined labels match consecutive events.
  pub undeclared_calls_count : Accepted joined consecutive × (¬ Accepted joined interrupted)

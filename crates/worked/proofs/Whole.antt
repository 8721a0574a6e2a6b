-- The worked days as wholes: from the bytes of a text, of a journal and of constants to the outcome and its report.
use Rattle.std.proofs.Common.{◌≡◌, ℕ, ◌↔◌, List, [], ◌∷◌, take, length, Some, Ok, Result, sym, refl, ap, ◌∙◌, subst, inl, arith}
use Rattle.kinds.specs.Labels.{label_class, label_read}
use Rattle.kinds.specs.Meaning.{label_keeps}
use Rattle.kinds.specs.Numbers.{groups_read, number_class, number_value}
use Rattle.kinds.specs.declared.refusal.Fault.{Fault}
use Rattle.kinds.specs.declared.refusal.Reason.TheVariants.{Watch as of_watch}
use Rattle.kinds.specs.declared.watch_reason.WatchReason.TheVariants.{OtherConstants}
use Rattle.day.specs.Reporting.{Reported, report_of}
use Rattle.judging.specs.Outcomes.{ComesBy, ConstantsRead, Ends, Judged, Outcome, begin_refused, broken, broken_by_end, broken_by_event, judged, kept, kept_to_end, read, watch_refuses}
use Rattle.judging.proofs.Only.{judged_so}
use Rattle.limits.specs.Tables.{table_of}
use Rattle.paths.specs.Outcomes.{Written}
use Rattle.property.specs.States.{Property}
use Rattle.sources.specs.Events.{Happening}
use Rattle.sources.specs.Records.{none, one_more}
use Rattle.topl.specs.Days.{applied, applied_labels, applied_other, begun_over, first_path, gpr, gprz, stale, wait}
use Rattle.topl.specs.Deciding.{decides, need, ruling_at}
use Rattle.topl.specs.Ledger.{initial}
use Rattle.topl.specs.Lists.{Class}
use Rattle.topl.specs.Runs.{closing, reached, runs, so_far}
use Rattle.topl.specs.Table.{Event, Table}
use Rattle.topl.proofs.Days.{worked}
use Rattle.topl.proofs.Sole.{only_run}
use Rattle.topl.proofs.Verdicts.{verdicts}
use Rattle.worked.specs.Journals.{Journals, gpr_bytes, gpr_events, gprz_bytes, gprz_events, label_bytes, label_events, number_bytes, number_events, other_bytes, other_events}
use Rattle.worked.specs.Texts.{stale_property, stale_text, wait_property, wait_text}
use Rattle.worked.proofs.Recorded.{gpr_recorded, gprz_recorded, labels_recorded, number_keeps, numbers_recorded, other_recorded}
use Rattle.worked.proofs.Steps.{day_steps, no_steps, reports}
use Rattle.worked.proofs.Written.{stale_written, wait_written}

-- EVENTS
-- Stale breaks at the fourth event, over numbers and over labels.
stale_ends : Ends stale (initial stale []) applied (Ok tt) (broken 4 4 first_path)
unfolding decides ruling_at need runs reached
stale_ends =
    broken_by_event (take 3 applied) _ [] 4 first_path refl (refl, refl, (refl, refl, (refl, refl, tt))) refl refl
    ((only_run (begun_over 16384 stale [] 64) (so_far applied) 4 first_path refl first_path).1 refl)
    ((verdicts stale (initial stale []) 64 16384 (so_far (take 3 applied)) applied worked.stale_lawful).0 4 refl)

labels_end : Ends stale (initial stale []) applied_labels (Ok tt) (broken 4 4 first_path)
unfolding decides ruling_at need runs reached
labels_end =
    broken_by_event (take 3 applied_labels) _ [] 4 first_path refl (refl, refl, (refl, refl, (refl, refl, tt))) refl refl
    ((only_run (begun_over 16384 stale [] 64) (so_far applied_labels) 4 first_path refl first_path).1 refl)
    ((verdicts stale (initial stale []) 64 16384 (so_far (take 3 applied_labels)) applied_labels worked.stale_lawful).0 4 refl)

-- It is kept where another value is applied.
other_ends : Ends stale (initial stale []) applied_other (Ok tt) (kept 4)
unfolding decides ruling_at need runs reached
other_ends =
    kept_to_end refl (refl, refl, (refl, refl, (refl, refl, (refl, refl, tt)))) refl
    ((verdicts stale (initial stale []) 64 16384 (so_far applied_other) applied_other worked.stale_lawful).2 refl)

-- Wait breaks at the end, and is kept where the joined events come.
gpr_ends : Ends wait (initial wait []) gpr (Ok tt) (broken 3 3 (1 ∷ 0 ∷ 3 ∷ []))
unfolding decides ruling_at need runs reached
gpr_ends =
    broken_by_end 3 (1 ∷ 0 ∷ 3 ∷ []) refl (refl, refl, (refl, refl, (refl, refl, tt))) refl
    ((only_run (begun_over 16384 wait [] 64) (closing gpr) 3 (1 ∷ 0 ∷ 3 ∷ []) refl (1 ∷ 0 ∷ 3 ∷ [])).1 refl)
    ((verdicts wait (initial wait []) 64 16384 (so_far gpr) gpr worked.wait_lawful).1 3 refl)

gprz_ends : Ends wait (initial wait []) gprz (Ok tt) (kept 4)
unfolding decides ruling_at need runs reached
gprz_ends =
    kept_to_end refl (refl, refl, (refl, refl, (refl, refl, (refl, refl, tt)))) refl
    ((verdicts wait (initial wait []) 64 16384 (so_far gprz) gprz worked.wait_lawful).2 refl)

-- DAYS
-- No constants are read from no bytes.
no_constant : {V : Type 0} (reads : List ℕ → Result (V × ℕ) Fault) → ConstantsRead reads [] (Ok [])
no_constant reads = read [] 0 (none 0) (omega arith) (inl (omega arith))

-- A day with no constants comes out as its events do.
comes_out : {V : Type 0} (reads : List ℕ → Result (V × ℕ) Fault) (number : ℕ) (class : V → Class) (text journal : List ℕ) (P : Property) (t : Table)
    (hs : List (Happening V)) (es : List Event) (o : Outcome) → Written text P → table_of P ≡ t → t.constants ≡ [] → Journals number reads class journal hs es
    → Ends t (initial t []) es (Ok tt) o → ComesBy reads number class text journal [] o
comes_out reads number class text journal P t hs es o w same no_constants j e =
    judged P [] hs (Ok tt) o w j.opens (no_constant reads)
    (ap length (sym no_constants) ∙ ap (λ (z : Table). length z.constants) (sym same)) j.records
    (subst (λ (z : Table × List Event). Ends z.0 (initial z.0 []) z.1 (Ok tt) o) (λ i. (sym same i, sym j.seen_as i)) e)

-- The days come out so, and in no other way.
pub stale_breaks : Judged stale_text number_bytes [] (broken 4 4 first_path)
stale_breaks =
    judged_so stale_text number_bytes [] _
    (comes_out number_value 1 number_class stale_text number_bytes stale_property stale number_events applied _ stale_written refl refl numbers_recorded stale_ends)

pub labels_break : Judged stale_text label_bytes [] (broken 4 4 first_path)
labels_break =
    judged_so stale_text label_bytes [] _
    (comes_out label_read 2 label_class stale_text label_bytes stale_property stale label_events applied_labels _ stale_written refl refl labels_recorded labels_end)

pub other_value_kept : Judged stale_text other_bytes [] (kept 4)
other_value_kept =
    judged_so stale_text other_bytes [] _
    (comes_out number_value 1 number_class stale_text other_bytes stale_property stale other_events applied_other _ stale_written refl refl other_recorded other_ends)

pub wait_breaks_at_close : Judged wait_text gpr_bytes [] (broken 3 3 (1 ∷ 0 ∷ 3 ∷ []))
wait_breaks_at_close =
    judged_so wait_text gpr_bytes [] _
    (comes_out number_value 1 number_class wait_text gpr_bytes wait_property wait gpr_events gpr _ wait_written refl refl gpr_recorded gpr_ends)

pub wait_kept : Judged wait_text gprz_bytes [] (kept 4)
wait_kept =
    judged_so wait_text gprz_bytes [] _
    (comes_out number_value 1 number_class wait_text gprz_bytes wait_property wait gprz_events gprz _ wait_written refl refl gprz_recorded gprz_ends)

-- The constant 1 is read, and Stale has none.
constant_read : ConstantsRead number_value (1 ∷ []) (Ok (Some 1 ∷ []))
unfolding groups_read
constant_read = read (Some 1 ∷ []) 1 (one_more 0 (Some 1) 1 [] 1 refl (none 1)) (omega arith) (inl (omega arith))

-- The watch does not begin with it.
constant_comes : ComesBy number_value 1 number_class stale_text number_bytes (1 ∷ []) (watch_refuses (of_watch OtherConstants) 0)
constant_comes = begin_refused stale_property (Some 1 ∷ []) stale_written refl constant_read (λ e. absurd (omega (arith, e)))

pub constant_refused : Judged stale_text number_bytes (1 ∷ []) (watch_refuses (of_watch OtherConstants) 0)
constant_refused = judged_so stale_text number_bytes (1 ∷ []) _ constant_comes

-- REPORTS
-- A broken day reports the steps of its one run.
pub stale_report : (bytes : List ℕ) → Reported stale_text number_bytes [] bytes ↔ (bytes ≡ report_of (broken 4 4 first_path))
unfolding runs
stale_report =
    reports stale_text number_bytes [] _ stale_breaks (λ p c. day_steps stale applied 4 4 first_path refl number_value 9 number_keeps 1 number_class stale_text number_bytes
    stale_property number_events stale_written refl numbers_recorded (no_constant number_value) c)

pub labels_report : (bytes : List ℕ) → Reported stale_text label_bytes [] bytes ↔ (bytes ≡ report_of (broken 4 4 first_path))
unfolding runs
labels_report =
    reports stale_text label_bytes [] _ labels_break (λ p c. day_steps stale applied_labels 4 4 first_path refl label_read 17 label_keeps 2 label_class stale_text label_bytes
    stale_property label_events stale_written refl labels_recorded (no_constant label_read) c)

pub wait_breaks_report : (bytes : List ℕ) → Reported wait_text gpr_bytes [] bytes ↔ (bytes ≡ report_of (broken 3 3 (1 ∷ 0 ∷ 3 ∷ [])))
unfolding runs
wait_breaks_report =
    reports wait_text gpr_bytes [] _ wait_breaks_at_close (λ p c. day_steps wait gpr 3 3 (1 ∷ 0 ∷ 3 ∷ []) refl number_value 9 number_keeps 1 number_class wait_text gpr_bytes
    wait_property gpr_events wait_written refl gpr_recorded (no_constant number_value) c)

-- A kept or refused day shows no steps.
pub other_value_report : (bytes : List ℕ) → Reported stale_text other_bytes [] bytes ↔ (bytes ≡ report_of (kept 4))
other_value_report = reports stale_text other_bytes [] _ other_value_kept (λ p c e. no_steps (kept 4) p refl e)

pub wait_kept_report : (bytes : List ℕ) → Reported wait_text gprz_bytes [] bytes ↔ (bytes ≡ report_of (kept 4))
wait_kept_report = reports wait_text gprz_bytes [] _ wait_kept (λ p c e. no_steps (kept 4) p refl e)

pub constant_report : (bytes : List ℕ) → Reported stale_text number_bytes (1 ∷ []) bytes ↔ (bytes ≡ report_of (watch_refuses (of_watch OtherConstants) 0))
constant_report = reports stale_text number_bytes (1 ∷ []) _ constant_refused (λ p c e. no_steps (watch_refuses (of_watch OtherConstants) 0) p refl e)

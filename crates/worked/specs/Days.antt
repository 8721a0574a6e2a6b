-- The worked days, from the texts and the journals to the reports.
use Rattle.std.specs.Prelude.{◌≡◌, ℕ, ◌↔◌, List, [], ◌∷◌, codes}
use Rattle.day.specs.Reporting.{Reported, report_of}
use Rattle.judging.specs.Outcomes.{Judged, broken, kept, watch_refuses}
use Rattle.kinds.specs.Cases.{NumberCases}
use Rattle.kinds.specs.Labels.{label_class, label_read}
use Rattle.kinds.specs.Numbers.{number_class, number_value}
use Rattle.kinds.specs.Refusals.{number_of, number_overlong}
use Rattle.kinds.specs.declared.refusal.Reason.TheVariants.{Watch as of_watch}
use Rattle.kinds.specs.declared.watch_reason.WatchReason.TheVariants.{OtherConstants}
use Rattle.limits.specs.Tables.{table_of}
use Rattle.paths.specs.Outcomes.{Written}
use Rattle.topl.specs.Days.{Worked, applied, applied_labels, stale, wait}
use Rattle.worked.specs.Journals.{Journals, gpr_bytes, gprz_bytes, label_bytes, label_events, number_bytes, number_events, other_bytes}
use Rattle.worked.specs.Texts.{stale_property, stale_text, wait_property, wait_text}

-- These bytes report how the day comes out, and no others do.
abbrev pub OnlyReport : List ℕ → List ℕ → List ℕ → List ℕ → Type 0
OnlyReport text journal constants out = (bytes : List ℕ) → Reported text journal constants bytes ↔ (bytes ≡ out)

-- What the definitions say of the two texts, of the journals, of the days of their events under the properties that the texts write, and of whole days.
pub record WorkedDays : Type 0 where
  -- the texts are accepted as these properties, which read no variable unwritten
  pub stale_written : Written stale_text stale_property
  pub wait_written : Written wait_text wait_property
  -- the tables of these are the two of the days
  pub stale_table : table_of stale_property ≡ stale
  pub wait_table : table_of wait_property ≡ wait
  -- the days of those tables
  pub days : Worked
  -- the journals record the events of two of the days
  pub numbers_recorded : Journals 1 number_value number_class number_bytes number_events applied
  pub labels_recorded : Journals 2 label_read label_class label_bytes label_events applied_labels
  -- 84 07 is 900 in two bytes, and 84 00 is refused, with 2
  pub numbers : NumberCases
  pub overlong : number_of number_overlong.reason ≡ 2
  -- THE WHOLE DAYS, from the bytes of a text, of a journal and of constants to the outcome and its report
  -- the applied value is stale: broken at the fourth event, by the three statements in turn
  pub stale_breaks : Judged stale_text number_bytes [] (broken 4 4 (1 ∷ 2 ∷ 3 ∷ []))
  pub stale_report : OnlyReport stale_text number_bytes [] (codes "broken 4 4\n1 2 3\n")
  -- so is a label that differs in the case of letters
  pub labels_break : Judged stale_text label_bytes [] (broken 4 4 (1 ∷ 2 ∷ 3 ∷ []))
  pub labels_report : OnlyReport stale_text label_bytes [] (codes "broken 4 4\n1 2 3\n")
  -- 901 is applied, which was not fetched: kept
  pub other_value_kept : Judged stale_text other_bytes [] (kept 4)
  pub other_value_report : OnlyReport stale_text other_bytes [] (codes "kept 4\n")
  -- g, p, r: broken by the end, since z has not come
  pub wait_breaks_at_close : Judged wait_text gpr_bytes [] (broken 3 3 (1 ∷ 0 ∷ 3 ∷ []))
  pub wait_breaks_report : OnlyReport wait_text gpr_bytes [] (codes "broken 3 3\n1 0 3\n")
  -- g, p, r, z: kept
  pub wait_kept : Judged wait_text gprz_bytes [] (kept 4)
  pub wait_kept_report : OnlyReport wait_text gprz_bytes [] (codes "kept 4\n")
  -- a constant is given where Stale has none: refused before any event
  pub constant_refused : Judged stale_text number_bytes (1 ∷ []) (watch_refuses (of_watch OtherConstants) 0)
  pub constant_report : OnlyReport stale_text number_bytes (1 ∷ []) (codes "refused watch 23 0\n")
  -- what is printed of the first outcome
  pub reported : report_of (broken 4 4 (1 ∷ 2 ∷ 3 ∷ [])) ≡ codes "broken 4 4\n1 2 3\n"

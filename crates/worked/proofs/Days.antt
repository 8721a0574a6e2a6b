-- The worked days, from the texts and the journals on.
use Rattle.std.specs.Fmt.{digits}
use Rattle.std.proofs.Common.{refl}
use Rattle.kinds.specs.Numbers.{encode, form, groups_read}
use Rattle.topl.proofs.Days.{worked}
use Rattle.worked.specs.Days.{WorkedDays}
use Rattle.worked.proofs.Recorded.{labels_recorded, numbers_recorded}
use Rattle.worked.proofs.Whole.{constant_refused, constant_report, labels_break, labels_report, other_value_kept, other_value_report, stale_breaks, stale_report, wait_breaks_at_close, wait_breaks_report, wait_kept, wait_kept_report}
use Rattle.worked.proofs.Written.{stale_written, wait_written}

-- All of it.
pub worked_days : WorkedDays
unfolding digits encode form groups_read
worked_days = record {
  stale_written = stale_written;
  wait_written = wait_written;
  stale_table = refl;
  wait_table = refl;
  days = worked;
  numbers_recorded = numbers_recorded;
  labels_recorded = labels_recorded;
  numbers = (refl, refl, refl, refl, refl);
  overlong = refl;
  stale_breaks = stale_breaks;
  stale_report = stale_report;
  labels_break = labels_break;
  labels_report = labels_report;
  other_value_kept = other_value_kept;
  other_value_report = other_value_report;
  wait_breaks_at_close = wait_breaks_at_close;
  wait_breaks_report = wait_breaks_report;
  wait_kept = wait_kept;
  wait_kept_report = wait_kept_report;
  constant_refused = constant_refused;
  constant_report = constant_report;
  reported = refl;
}

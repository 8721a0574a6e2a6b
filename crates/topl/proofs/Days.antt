-- The worked days, computed.
use Rattle.std.proofs.Common.{[], ◌∷◌, take, refl}
use Rattle.topl.specs.Runs.{closing, reached, runs, so_far}
use Rattle.topl.specs.Deciding.{decides, need, ruling_at}
use Rattle.topl.specs.Ledger.{registers_of, rule}
use Rattle.topl.specs.History.{made}
use Rattle.topl.specs.Days.{Worked, applied, applied_labels, applied_other, begun_over, board, first_path, gpr, stale, stale_end, wait}
use Rattle.topl.proofs.Lawful.{tested}
use Rattle.topl.proofs.Verdicts.{verdicts}
use Rattle.topl.proofs.Sole.{only_run, only_so, ◌also◌}

pub worked : Worked
unfolding rule decides ruling_at need runs reached
worked = record {
  stale_lawful = (tested stale).0 refl;
  wait_lawful = (tested wait).0 refl;
  stale_breaks = only_so (made board 16384 []) _ first_path (tt also tt also tt also tt also only_run (begun_over 16384 stale [] 64) (so_far applied) 4 first_path refl also tt also tt also tt);
  stale_in_language = (verdicts stale (registers_of stale_end) 64 16384 (so_far (take 3 applied)) applied ((tested stale).0 refl)).0 4 refl;
  other_value_not_in_language = (verdicts stale (registers_of stale_end) 64 16384 (so_far applied_other) applied_other ((tested stale).0 refl)).2 refl;
  other_value_kept = only_so (made board 16384 []) _ [] (tt also tt also tt also tt also tt also tt also tt also tt);
  cap_of_one_spills = only_so (made board 16384 []) _ [] (tt also tt also tt also tt also tt also tt);
  book_of_six_breaks = only_so (made board 6 []) _ first_path (tt also tt also tt also tt also only_run (begun_over 6 stale [] 2) (so_far applied) 4 first_path refl also tt);
  book_of_five_fills = only_so (made board 5 []) _ [] (tt also tt also tt also tt also tt also tt also tt);
  wait_breaks_at_close = only_so (made board 16384 []) _ (1 ∷ 0 ∷ 3 ∷ []) (tt also tt also tt also tt also only_run (begun_over 16384 wait [] 64) (closing gpr) 3 (1 ∷ 0 ∷ 3 ∷ []) refl also tt also tt);
  wait_kept = only_so (made board 16384 []) _ [] (tt also tt also tt also tt also tt also tt also tt);
  labels_break = only_so (made board 16384 []) _ first_path (tt also tt also tt also tt also only_run (begun_over 16384 stale [] 64) (so_far applied_labels) 4 first_path refl also tt);
}

-- What the results of the calls say, as answers of the ledger.
use Rattle.std.specs.Prelude.{◌≡◌, ℕ, List, Some, None, Ok, Err, Option, Result}
use Rattle.kinds.specs.declared.phase.Phase.TheVariants as phases
use Rattle.kinds.specs.declared.refusal.Layer.TheVariants.{Watch}
use Rattle.kinds.specs.declared.refusal.Reason.{Reason}
use Rattle.kinds.specs.declared.refusal.Refusal.{Refusal}
use Rattle.topl.specs.Ledger.{Answer, begun, no_event, says, verdict_is, wrote, unwritten, refused}
use Rattle.watch.specs.declared.standing.Standing.{Standing}
use Rattle.watch.specs.declared.standing.Standing.TheVariants.{Running, Broken, Kept}
use Rattle.watch.specs.declared.standing.Verdict.{Verdict}

-- What each standing says: a phase, and the position if it is broken.
abbrev pub stands_for : Standing → Answer
stands_for Running = says phases.Running None
stands_for (Broken p) = says phases.Broken (Some p)
stands_for Kept = says phases.Kept None

-- of a begin
abbrev pub began : Result (Unit {0}) Refusal → Answer
began (Ok u) = begun
began (Err f) = refused f

-- of a feed and of a close
abbrev pub told : Result Standing Refusal → Answer
told (Ok s) = stands_for s
told (Err f) = refused f

-- of a draw
abbrev pub drew : Result (Option Standing) Refusal → Answer
drew (Ok (Some s)) = stands_for s
drew (Ok None) = no_event
drew (Err f) = refused f

-- of a path, with the page as it is then
abbrev pub paged : Result ℕ Refusal → List ℕ → Answer
paged (Ok n) page = wrote n page
paged (Err f) page = unwritten f page

-- of a verdict
abbrev pub tells : Verdict → Answer
tells v = verdict_is v.phase v.judged v.position

-- The watch refuses for this reason, at the judged count.
abbrev pub RefusedFor : Option Reason → ℕ → Refusal → Type 0
RefusedFor o judged f = (o ≡ Some f.reason) × (f ≡ record { layer = Watch; reason = f.reason; place = judged })

-- A check passes exactly where there is no reason to refuse.
abbrev pub Checks : Option Reason → ℕ → Result (Unit {0}) Refusal → Type 0
Checks o judged (Ok u) = o ≡ None
Checks o judged (Err f) = RefusedFor o judged f

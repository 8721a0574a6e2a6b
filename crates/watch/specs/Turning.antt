-- How the deciding rule's word turns what a watch keeps.
use Rattle.std.specs.Prelude.{◌≡◌, ℕ, ◌+◌, min, Ok, Err, Result}
use Rattle.kinds.specs.declared.refusal.Layer.TheVariants.{Watch}
use Rattle.kinds.specs.declared.refusal.Reason.TheVariants.{Watch as of_watch}
use Rattle.kinds.specs.declared.watch_reason.WatchReason.{WatchReason}
use Rattle.kinds.specs.declared.watch_reason.WatchReason.TheVariants.{IsSpilled, IsFull}
use Rattle.kinds.specs.declared.refusal.Refusal.{Refusal}
use Rattle.engine.specs.declared.front.Decision.{Decision}
use Rattle.engine.specs.declared.front.Decision.TheVariants.{Breaks, Spills, Overfills}
use Rattle.watch.specs.declared.held.Held.{Held}
use Rattle.watch.specs.declared.held.Stage.{Stage}
use Rattle.watch.specs.declared.held.Stage.TheVariants.{Broken, Spilled, Full, Kept}
use Rattle.watch.specs.declared.standing.Standing.{Standing}
use Rattle.watch.specs.declared.standing.Standing.TheVariants as standings
use Rattle.watch.specs.declared.standing.Asked.{Asked}
use Rattle.watch.specs.declared.standing.Asked.TheVariants.{Event, End}

-- how many events are judged then, at most 16,384
abbrev pub counted : Asked → ℕ → ℕ
counted Event n = min n 16383 + 1
counted End n = n

-- what is told where nothing decides
abbrev pub stands : Asked → Standing
stands Event = standings.Running
stands End = standings.Kept

-- and the stage after: an event leaves it as it is
abbrev pub rests : Asked → Stage → Stage
rests Event q = q
rests End q = Kept

abbrev pub in_stage : Stage → Held → Held
in_stage q h = record { stage = q; judged = h.judged }

-- one of the two refusals that the rule gives
abbrev pub ruled_out : Held → WatchReason → Result Standing Refusal
ruled_out h n = Err (record { layer = Watch; reason = of_watch n; place = h.judged })

-- what is kept, before and after, with what is told
abbrev pub Turned : Held → Held → Result (Unit {0}) Decision → Asked → Result Standing Refusal → Type 0
Turned h k (Ok _) asked r = (k ≡ record { stage = rests asked h.stage; judged = counted asked h.judged }) × (r ≡ Ok (stands asked))
Turned h k (Err (Breaks b)) asked r = (k ≡ record { stage = Broken b; judged = counted asked h.judged }) × (r ≡ Ok (standings.Broken b.position))
Turned h k (Err Spills) asked r = (k ≡ in_stage Spilled h) × (r ≡ ruled_out h IsSpilled)
Turned h k (Err Overfills) asked r = (k ≡ in_stage Full h) × (r ≡ ruled_out h IsFull)

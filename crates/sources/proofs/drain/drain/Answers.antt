use Rattle.std.proofs.Common.{◌≡◌, suc, ◌∷◌, length, vec_items, rules}
use Rattle.std.proofs.lemmas.Result.{MatchResult-from_err}
use Rattle.sources.specs.Sayings.{says}
use Rattle.sources.proofs.Drained.{lost_one}
use Rattle.sources.proofs.drain.drain.Goals as goal

pub returns-in_err-push-in-Ok-Some-clause-leaves : goal.returns-in_err-push-in-Ok-Some-clause-leaves
returns-in_err-push-in-Ok-Some-clause-leaves g c =
    let first : g.S.Source.waiting c.loop-event.source ≡ says c.in-Ok-Some.event ∷ g.S.Source.waiting c.next.new.self = search rules in
    let lost = lost_one _ c.in-Ok-Some.event _ _ _ c.loop-event.invariant.0 first in
    MatchResult-from_err c.from_residual.result _ _ (search rules) (λ _. (suc (length (vec_items c.loop-event.events)), lost))

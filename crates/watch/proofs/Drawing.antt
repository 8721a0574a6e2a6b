-- What a draw does to the ledger that a watch shows.
use Rattle.std.proofs.Common.{◌≡◌, ℕ, List, ◌∷◌, map, Some, Ok, Option, Result, sym, ap, ◌∙◌, subst, Bor}
use Rattle.kinds.specs.declared.phase.Phase.TheVariants as phases
use Rattle.kinds.specs.Refusals.{Ending}
use Rattle.kinds.specs.declared.refusal.Refusal.{Refusal}
use Rattle.topl.specs.Lists.{Class}
use Rattle.topl.specs.Theorems.{seen}
use Rattle.topl.specs.Ledger.{Ledger, Answer, Feeds, Draws}
use Rattle.topl.proofs.Calls.{draws_fed}
use Rattle.sources.specs.declared.event.Event.{Event}
use Rattle.sources.specs.Events.{Happening}
use Rattle.sources.specs.Sayings.{says}
use Rattle.sources.specs.Sources.{Next}
use Rattle.tables.specs.declared.table.Table.{Table}
use Rattle.engine.specs.declared.state.State.{State}
use Rattle.watch.specs.declared.held.Held.{Held}
use Rattle.watch.specs.declared.held.Stage.TheVariants.{Running}
use Rattle.watch.specs.Stages.{phase_of}
use Rattle.watch.specs.Shows.{Agrees, meaning}

module _ {V : Type 0} (class : V → Class) (s : State V) (h : Held) (l : Ledger) (sh : Agrees class s h l) (t : Bor Table) (runs : h.stage ≡ Running t) where
  running : l.phase ≡ phases.Running
  running = sym sh.phase ∙ ap phase_of runs

  -- the first event that waits is handed over and fed
  pub draw_fed : (hs ks : List (Happening V)) (stop stop' : Ending) (r : Result (Option (Event V)) Refusal) (x : Event V) (id : ℕ) (values : List V) (m : Ledger) (a : Answer) → Next hs stop r ks stop' → r ≡ Ok (Some x) →
      id ≡ (says x).id → values ≡ (says x).values → Feeds l (seen class id values) (m, a) → Draws l (meaning class hs stop) (m, a) (meaning class ks stop')
  draw_fed hs ks stop stop' r x id values m a next is i v f =
      let y = says x in
      let took : (hs ≡ y ∷ ks) × (stop' ≡ stop) = subst (λ (z : Result (Option (Event V)) Refusal). Next hs stop z ks stop') is next in
      let fed : Feeds l (seen class y.id y.values) (m, a) = subst (λ (z : ℕ × List V). Feeds l (seen class z.0 z.1) (m, a)) (λ j. (i j, v j)) f in
      let drawn : Draws l (meaning class (y ∷ ks) stop) (m, a) (meaning class ks stop) = draws_fed l (seen class y.id y.values) (map (λ h. seen class h.id h.values) ks) stop (m, a) running fed in
      let here : Draws l (meaning class hs stop) (m, a) (meaning class ks stop) = subst (λ (z : List (Happening V)). Draws l (meaning class z stop) (m, a) (meaning class ks stop)) (sym took.0) drawn in
      subst (λ (z : Ending). Draws l (meaning class hs stop) (m, a) (meaning class ks z)) (sym took.1) here

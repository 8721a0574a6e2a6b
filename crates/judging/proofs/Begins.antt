-- What a begin does to the ledger of a watch that is made for a day.
use Rattle.std.proofs.Common.{◌≡◌, Bool, true, false, not, ◌==◌, List, [], length, None, sym, refl, subst}
use Rattle.std.proofs.lemmas.Bool.{eqb-true, eqb-false}
use Rattle.kinds.specs.declared.refusal.Reason.TheVariants.{Watch as of_watch}
use Rattle.kinds.specs.declared.watch_reason.WatchReason.TheVariants.{OtherConstants}
use Rattle.topl.specs.Ledger.{Ledger, Answer, begun, refused, fresh, began, reason_if, unless, Begins}
use Rattle.topl.specs.Lists.{Class}
use Rattle.topl.specs.Table as T
use Rattle.judging.specs.Outcomes as O
use Rattle.judging.specs.Outcomes.{watch_refuses}
use Rattle.judging.specs.Ways.{running_on}

module _ (P : T.Table) (ks : List Class) where
  -- what a begin leaves, by its answer
  abbrev pub AtStart : Answer → Ledger → Type 0
  AtStart begun m = (length ks ≡ length P.constants) × (m ≡ running_on P ks [])
  AtStart (refused f) m = ¬ (length ks ≡ length P.constants) × (O.refused f ≡ watch_refuses (of_watch OtherConstants) 0)
  AtStart _ m = ⊥

  tested : (b : Bool) → (length ks == length P.constants) ≡ b → (r : Ledger × Answer) →
      unless (fresh 2624 16384) (reason_if (not b) (of_watch OtherConstants) None) (λ r. r ≡ (began (fresh 2624 16384) P ks 64, begun)) r → AtStart r.1 r.0
  tested true e r is = subst (λ (z : Ledger × Answer). AtStart z.1 z.0) (sym is) (eqb-true _ _ e, refl)
  tested false e r is = subst (λ (z : Ledger × Answer). AtStart z.1 z.0) (sym is) (eqb-false _ _ e, refl)

  pub starts : (r : Ledger × Answer) → Begins (fresh 2624 16384) P ks 64 r → AtStart r.1 r.0
  starts r does = tested (length ks == length P.constants) refl r does

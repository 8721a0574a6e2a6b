-- What one call does to the ledger of a day's watch, and what that says of the day.
use Rattle.std.proofs.Common.{◌≡◌, ℕ, List, [], ◌∷◌, ◌++◌, length, Some, None, Ok, Err, Option, sym, refl, ap, ◌∙◌, subst}
use Rattle.std.proofs.lemmas.List.{append_assoc, append-nil, length_push}
use Rattle.kinds.specs.declared.phase.Phase.TheVariants.{Running, Broken, Kept}
use Rattle.kinds.specs.declared.refusal.Reason.{Reason}
use Rattle.kinds.specs.Refusals.{Ending}
use Rattle.topl.specs.Deciding.{Ruling, breaks, spills, overfills, goes_on}
use Rattle.topl.specs.Ledger.{Ledger, Source, Answer, no_event, says, refused, initial, event_reason, rule, unless, Settles, Draws, Closes, passed_on}
use Rattle.topl.specs.Lists.{Class}
use Rattle.topl.specs.Runs.{World, so_far, closing}
use Rattle.topl.specs.Table as T
use Rattle.topl.specs.Table.{Event}
use Rattle.topl.proofs.Verdicts.{verdicts}
use Rattle.watch.specs.declared.standing.Standing as by
use Rattle.watch.specs.declared.standing.Standing.TheVariants as standings
use Rattle.watch.specs.Answers.{stands_for}
use Rattle.judging.specs.Outcomes as O
use Rattle.judging.specs.Outcomes.{Quiet, Ends, ruling, refuses, broken, kept, kept_to_end, broken_by_event, broken_by_end, event_refused, event_undecided, end_undecided, source_refused}
use Rattle.judging.specs.Ways.{running_on}

-- events one more after some that are judged quietly
quiet_more : (P : T.Table) (ks : List Class) (M L : List Event) (e : Event) → Quiet P (initial P ks) M L → event_reason P e ≡ None →
    ruling P (initial P ks) (M ++ L) (so_far ((M ++ L) ++ e ∷ [])) ≡ goes_on → Quiet P (initial P ks) M (L ++ e ∷ [])
quiet_more P ks M [] e q r d = (r, subst (λ (z : List Event). ruling P (initial P ks) z (so_far (z ++ e ∷ [])) ≡ goes_on) (append-nil M) d, tt)
quiet_more P ks M (a ∷ L) e q r d =
    (q.0, q.1, quiet_more P ks (M ++ a ∷ []) L e q.2 r (subst (λ (z : List Event). ruling P (initial P ks) z (so_far (z ++ e ∷ [])) ≡ goes_on) (sym (append_assoc M (a ∷ []) L)) d))

module _ (P : T.Table) (ks : List Class) (law : T.Lawful P) (es : List Event) (n : Ending) where
  -- the day comes out broken at p, with what the ledger shows
  abbrev pub Broke : Ledger → ℕ → Type 0
  Broke m p = (m.phase ≡ Broken) × Ends P (initial P ks) es n (broken (length m.judged) p m.shown)

  -- L is judged quietly, and the rest waits
  abbrev pub Waits : List Event → List Event → Type 0
  Waits L ws = (es ≡ L ++ ws) × Quiet P (initial P ks) [] L

  -- what a draw leaves behind L, by its answer
  abbrev pub After : List Event → Answer → Ledger → Source → Type 0
  After L no_event m s = (n ≡ Ok tt) × Quiet P (initial P ks) [] es × (m ≡ running_on P ks es)
  After L (says Running None) m s = (e : Event) × (m ≡ running_on P ks (L ++ e ∷ [])) × Waits (L ++ e ∷ []) s.waiting × (s.ending ≡ n)
  After L (says Broken (Some p)) m s = Broke m p
  After L (refused f) m s = Ends P (initial P ks) es n (O.refused f)
  After L _ m s = ⊥

  -- what a close leaves, by its answer
  abbrev pub AtEnd : Answer → Ledger → Type 0
  AtEnd (says Kept None) m = Ends P (initial P ks) es n (kept (length m.judged))
  AtEnd (says Broken (Some p)) m = Broke m p
  AtEnd (refused f) m = Ends P (initial P ks) es n (O.refused f)
  AtEnd _ m = ⊥

  rule_is : (L : List Event) (w : World) → rule (running_on P ks L) w ≡ ruling P (initial P ks) L w
  unfolding rule
  rule_is L w = refl

  module _ (L : List Event) (e : Event) (X : List Event) (split : es ≡ L ++ e ∷ X) (quiet : Quiet P (initial P ks) [] L) where
    abbrev next : World
    next = so_far (L ++ e ∷ [])

    abbrev left : Source
    left = record { waiting = X; ending = n }

    ruled : event_reason P e ≡ None → (R : Ruling) → ruling P (initial P ks) L next ≡ R → (r : Ledger × Answer) → Settles (running_on P ks L) next Running R r → After L r.1 r.0 left
    ruled free (breaks p) d r (path, run, is) =
        let all = (verdicts P (initial P ks) 64 16384 (so_far L) (L ++ e ∷ []) law).0 p d in
        subst (λ (z : Ledger × Answer). After L z.1 z.0 left) (sym is) (
          refl,
          subst (λ (z : ℕ). Ends P (initial P ks) es n (broken z p path)) (sym (length_push L e)) (broken_by_event L e X p path split quiet free d run all),
        )
    ruled free spills d r is =
        subst (λ (z : Ledger × Answer). After L z.1 z.0 left) (sym is) (event_undecided L e X _ split quiet free (ap refuses d))
    ruled free overfills d r is =
        subst (λ (z : Ledger × Answer). After L z.1 z.0 left) (sym is) (event_undecided L e X _ split quiet free (ap refuses d))
    ruled free goes_on d r is =
        subst (λ (z : Ledger × Answer). After L z.1 z.0 left) (sym is)
        (e, refl, (split ∙ sym (append_assoc L (e ∷ []) X), quiet_more P ks [] L e quiet free d), refl)

    fed : (o : Option Reason) → event_reason P e ≡ o → (r : Ledger × Answer) → unless (running_on P ks L) o (Settles (running_on P ks L) next Running (rule (running_on P ks L) next)) r → After L r.1 r.0 left
    fed (Some x) i r is = subst (λ (z : Ledger × Answer). After L z.1 z.0 left) (sym is) (event_refused L e X x split quiet i)
    fed None i r does = ruled i (ruling P (initial P ks) L next) refl r (subst (λ (z : Ruling). Settles (running_on P ks L) next Running z r) (rule_is L next) does)

  -- nothing waits behind L
  none_left : (L : List Event) → es ≡ L → Quiet P (initial P ks) [] L → (m : Ending) → n ≡ m → (r : Ledger × Answer) (s : Source) → r ≡ (running_on P ks L, passed_on m) → After L r.1 r.0 s
  none_left L all quiet (Ok u) i r s is =
      subst (λ (z : Ledger × Answer). After L z.1 z.0 s) (sym is) (i, subst (Quiet P (initial P ks) []) (sym all) quiet, ap (running_on P ks) (sym all))
  none_left L all quiet (Err f) i r s is =
      subst (λ (z : Ledger × Answer). After L z.1 z.0 s) (sym is) (source_refused f i (subst (Quiet P (initial P ks) []) (sym all) quiet))

  -- a draw from what waits behind L
  pub drawn : (L ws : List Event) → es ≡ L ++ ws → Quiet P (initial P ks) [] L → (r : Ledger × Answer) (s : Source) → Draws (running_on P ks L) (record { waiting = ws; ending = n }) r s → After L r.1 r.0 s
  drawn L [] split quiet r s (is, _) = none_left L (split ∙ append-nil L) quiet n refl r s is
  drawn L (e ∷ X) split quiet r s (does, rest) = subst (λ (z : Source). After L r.1 r.0 z) (sym rest) (fed L e X split quiet (event_reason P e) refl r does)

  ended : (R : Ruling) → n ≡ Ok tt → Quiet P (initial P ks) [] es → ruling P (initial P ks) es (closing es) ≡ R → (r : Ledger × Answer) → Settles (running_on P ks es) (closing es) Kept R r → AtEnd r.1 r.0
  ended (breaks p) end quiet d r (path, run, is) =
      subst (λ (z : Ledger × Answer). AtEnd z.1 z.0) (sym is) (refl, broken_by_end p path end quiet d run ((verdicts P (initial P ks) 64 16384 (so_far es) es law).1 p d))
  ended spills end quiet d r is = subst (λ (z : Ledger × Answer). AtEnd z.1 z.0) (sym is) (end_undecided _ end quiet (ap refuses d))
  ended overfills end quiet d r is = subst (λ (z : Ledger × Answer). AtEnd z.1 z.0) (sym is) (end_undecided _ end quiet (ap refuses d))
  ended goes_on end quiet d r is =
      subst (λ (z : Ledger × Answer). AtEnd z.1 z.0) (sym is) (kept_to_end end quiet d ((verdicts P (initial P ks) 64 16384 (so_far es) es law).2 d))

  -- a close behind all events
  pub closed : n ≡ Ok tt → Quiet P (initial P ks) [] es → (r : Ledger × Answer) → Closes (running_on P ks es) r → AtEnd r.1 r.0
  closed end quiet r does =
      ended (ruling P (initial P ks) es (closing es)) end quiet refl r (subst (λ (z : Ruling). Settles (running_on P ks es) (closing es) Kept z r) (rule_is es (closing es)) does)

  -- a close that does not break keeps
  pub keeps : (s : by.Standing) → ((p : ℕ) → s ≡ standings.Broken p → ⊥) → (m : Ledger) → AtEnd (stands_for s) m → Ends P (initial P ks) es n (kept (length m.judged))
  keeps standings.Running unlike m end = absurd end
  keeps (standings.Broken p) unlike m end = absurd (unlike p refl)
  keeps standings.Kept unlike m end = end

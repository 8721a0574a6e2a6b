-- How a day of some events stands between two draws.
use Rattle.std.proofs.Common.{◌≡◌, ℕ, ◌+◌, ◌<◌, List, [], ◌∷◌, ◌++◌, length, None, Ok, refl, ap, ◌∙◌, subst, arith, length-append}
use Rattle.std.proofs.lemmas.List.{length_push}
use Rattle.kinds.specs.declared.phase.Phase.TheVariants.{Running, Broken}
use Rattle.kinds.specs.Refusals.{Ending}
use Rattle.topl.specs.Ledger.{Ledger, Answer, no_event, says, initial, Draws}
use Rattle.topl.specs.Lists.{Class}
use Rattle.topl.specs.Table as T
use Rattle.topl.specs.Table.{Event}
use Rattle.watch.specs.declared.standing.Standing.{Standing}
use Rattle.watch.specs.declared.standing.Standing.TheVariants as standings
use Rattle.watch.specs.Answers.{stands_for}
use Rattle.judging.specs.Outcomes.{Quiet, Ends, broken}
use Rattle.judging.specs.Ways.{running_on}
use Rattle.judging.proofs.Ledgers.{After, Broke, drawn}

module _ (P : T.Table) (ks : List Class) (es : List Event) (n : Ending) where
  -- some events are judged quietly, and these wait with this ending
  abbrev pub Stands : (Ledger → Type 0) → List Event → Ending → Type 0
  Stands shows ws m = (L : List Event) × shows (running_on P ks L) × (es ≡ L ++ ws) × Quiet P (initial P ks) [] L × (m ≡ n)

  -- a draw was answered so and left these
  abbrev pub Drew : (Ledger → Type 0) → List Event → List Event → Ending → Answer → List Event → Ending → Type 0
  Drew shows L ws m a ws' m' = (o : Ledger) × shows o × Draws (running_on P ks L) (record { waiting = ws; ending = m }) (o, a) (record { waiting = ws'; ending = m' })

  module _ (law : T.Lawful P) (shows shows' : Ledger → Type 0) (ws ws' : List Event) (m m' : Ending) (S : Stands shows ws m) where
    -- what the draw leaves
    pub left : (a : Answer) → (d : Drew shows' S.0 ws m a ws' m') → After P ks law es n S.0 a d.0 (record { waiting = ws'; ending = m' })
    left a d =
        let at : Draws (running_on P ks S.0) (record { waiting = ws; ending = n }) (d.0, a) (record { waiting = ws'; ending = m' }) =
        subst (λ (z : Ending). Draws (running_on P ks S.0) (record { waiting = ws; ending = z }) (d.0, a) (record { waiting = ws'; ending = m' })) S.4 d.2 in
        drawn P ks law es n S.0 ws S.2 S.3 (d.0, a) (record { waiting = ws'; ending = m' }) at

    -- one that runs on leaves fewer events
    pub stands_on : (s : Standing) → ((p : ℕ) → s ≡ standings.Broken p → ⊥) → Drew shows' S.0 ws m (stands_for s) ws' m' → Stands shows' ws' m' × (length ws' < length ws)
    stands_on standings.Running unlike d =
        let a = left (says Running None) d in
        let e : ℕ = length es in
        let before : length es ≡ length S.0 + length ws = ap length S.2 ∙ length-append S.0 ws in
        let after : length es ≡ length (S.0 ++ a.0 ∷ []) + length ws' = ap length a.2.0 ∙ length-append (S.0 ++ a.0 ∷ []) ws' in
        let one : length (S.0 ++ a.0 ∷ []) ≡ length S.0 + 1 = length_push S.0 a.0 in
        ((S.0 ++ a.0 ∷ [], subst shows' a.1 d.1, a.2.0, a.2.1, a.3), omega arith)
    stands_on (standings.Broken p) unlike d = absurd (unlike p refl)
    stands_on standings.Kept unlike d = absurd (left (stands_for standings.Kept) d)

    -- one that breaks
    pub breaks_by : (s : Standing) (p : ℕ) → s ≡ standings.Broken p → Drew shows' S.0 ws m (stands_for s) ws' m' →
        (l : Ledger) × shows' l × (l.phase ≡ Broken) × Ends P (initial P ks) es n (broken (length l.judged) p l.shown)
    breaks_by s p is d =
        let b : Broke P ks law es n d.0 p = subst (λ (z : Standing). After P ks law es n S.0 (stands_for z) d.0 (record { waiting = ws'; ending = m' })) is (left (stands_for s) d) in
        (d.0, d.1, b.0, b.1)

    -- one that finds no event
    pub none_left : Drew shows' S.0 ws m no_event ws' m' → (n ≡ Ok tt) × Quiet P (initial P ks) [] es × shows' (running_on P ks es)
    none_left d = let a = left no_event d in (a.0, a.1, subst shows' a.2 d.1)

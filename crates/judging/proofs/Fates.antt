-- The events of a day and their ending come out in one way, but for the steps shown.
use Rattle.std.proofs.Common.{◌≡◌, ℕ, ◌+◌, List, [], ◌∷◌, ◌++◌, length, Some, None, Ok, Err, Option, sym, ap, ◌∙◌, arith}
use Rattle.std.proofs.lemmas.List.{append_assoc, append-nil}
use Rattle.kinds.specs.declared.refusal.Reason.{Reason}
use Rattle.kinds.specs.declared.refusal.Reason.TheVariants.{Watch as of_watch}
use Rattle.kinds.specs.declared.watch_reason.WatchReason.TheVariants.{IsSpilled, IsFull}
use Rattle.kinds.specs.Refusals.{Ending}
use Rattle.topl.specs.Deciding.{Ruling, breaks, spills, overfills, goes_on}
use Rattle.topl.specs.Ledger.{event_reason}
use Rattle.topl.specs.Runs.{Registers, so_far, closing}
use Rattle.topl.specs.Table as T
use Rattle.topl.specs.Table.{Event}
use Rattle.judging.specs.Outcomes.{Outcome, kept, broken, refused, but_steps, watch_refuses, refuses, ruling, Quiet, Ends, kept_to_end, broken_by_event, broken_by_end, event_refused, event_undecided, end_undecided, source_refused}

-- what the end of the list makes of a day, by the ending, the ruling and the count of judged events
end_fate : Ending → Ruling → ℕ → Outcome
end_fate (Err f) r j = refused f
end_fate (Ok u) (breaks p) j = broken j p []
end_fate (Ok u) spills j = watch_refuses (of_watch IsSpilled) j
end_fate (Ok u) overfills j = watch_refuses (of_watch IsFull) j
end_fate (Ok u) goes_on j = kept j

-- what an event makes of it, where this follows if nothing decides
event_fate : Option Reason → Ruling → ℕ → Outcome → Outcome
event_fate (Some r) x j rest = watch_refuses r j
event_fate None (breaks p) j rest = broken (j + 1) p []
event_fate None spills j rest = watch_refuses (of_watch IsSpilled) j
event_fate None overfills j rest = watch_refuses (of_watch IsFull) j
event_fate None goes_on j rest = rest

undecided_event : (x : Ruling) (r : Reason) (j : ℕ) (rest : Outcome) → refuses x ≡ Some r → event_fate None x j rest ≡ watch_refuses r j
unfolding event_fate
undecided_event (breaks p) r j rest e = let z : ◌≡◌ {A = ℕ} 0 1 = cc in absurd (omega arith)
undecided_event spills r j rest e = let s : of_watch IsSpilled ≡ r = cc in ap (λ z. watch_refuses z j) s
undecided_event overfills r j rest e = let s : of_watch IsFull ≡ r = cc in ap (λ z. watch_refuses z j) s
undecided_event goes_on r j rest e = let z : ◌≡◌ {A = ℕ} 0 1 = cc in absurd (omega arith)

undecided_end : (x : Ruling) (r : Reason) (j : ℕ) → refuses x ≡ Some r → end_fate (Ok tt) x j ≡ watch_refuses r j
unfolding end_fate
undecided_end (breaks p) r j e = let z : ◌≡◌ {A = ℕ} 0 1 = cc in absurd (omega arith)
undecided_end spills r j e = let s : of_watch IsSpilled ≡ r = cc in ap (λ z. watch_refuses z j) s
undecided_end overfills r j e = let s : of_watch IsFull ≡ r = cc in ap (λ z. watch_refuses z j) s
undecided_end goes_on r j e = let z : ◌≡◌ {A = ℕ} 0 1 = cc in absurd (omega arith)

module _ (P : T.Table) (k : Registers) (n : Ending) where
  -- how a day comes out that has judged L and goes on with these events
  fate : List Event → List Event → Outcome
  unfolding event_fate end_fate
  fate L [] = end_fate n (ruling P k L (closing L)) (length L)
  fate L (e ∷ es) = event_fate (event_reason P e) (ruling P k L (so_far (L ++ e ∷ []))) (length L) (fate (L ++ e ∷ []) es)

  -- events that are judged quietly decide nothing of it
  quiet_fate : (M L X : List Event) → Quiet P k L M → fate L (M ++ X) ≡ fate (L ++ M) X
  unfolding fate
  quiet_fate [] L X q = ap (λ z. fate z X) (sym (append-nil L))
  quiet_fate (e ∷ M) L X q =
      (λ j. event_fate (q.0 j) (q.1 j) (length L) (fate (L ++ e ∷ []) (M ++ X))) ∙ quiet_fate M (L ++ e ∷ []) X q.2 ∙ ap (λ z. fate z X) (append_assoc L (e ∷ []) M)

  module _ (es : List Event) where
    whole : Quiet P k [] es → fate [] es ≡ end_fate n (ruling P k es (closing es)) (length es)
    unfolding fate
    whole q = ap (λ z. fate [] z) (sym (append-nil es)) ∙ quiet_fate es [] [] q

    up_to : (L : List Event) (e : Event) (X : List Event) → es ≡ L ++ e ∷ X → Quiet P k [] L →
        fate [] es ≡ event_fate (event_reason P e) (ruling P k L (so_far (L ++ e ∷ []))) (length L) (fate (L ++ e ∷ []) X)
    unfolding fate
    up_to L e X split q = ap (λ z. fate [] z) split ∙ quiet_fate L [] (e ∷ X) q

    is_fate : {o : Outcome} → Ends P k es n o → but_steps o ≡ fate [] es
    unfolding fate
    is_fate (kept_to_end e q d out) = sym (whole q ∙ (λ j. end_fate (e j) (d j) (length es)))
    is_fate (broken_by_event L e X p path split q free d run out) = sym (up_to L e X split q ∙ (λ j. event_fate (free j) (d j) (length L) (fate (L ++ e ∷ []) X)))
    is_fate (broken_by_end p path e q d run out) = sym (whole q ∙ (λ j. end_fate (e j) (d j) (length es)))
    is_fate (event_refused L e X r split q why) =
        sym (up_to L e X split q ∙ (λ j. event_fate (why j) (ruling P k L (so_far (L ++ e ∷ []))) (length L) (fate (L ++ e ∷ []) X)))
    is_fate (event_undecided L e X r split q free d) =
        let x = ruling P k L (so_far (L ++ e ∷ [])) in
        let rest = fate (L ++ e ∷ []) X in
        sym (up_to L e X split q ∙ (λ j. event_fate (free j) x (length L) rest) ∙ undecided_event x r (length L) rest d)
    is_fate (end_undecided r e q d) =
        let x = ruling P k es (closing es) in
        sym (whole q ∙ (λ j. end_fate (e j) x (length es)) ∙ undecided_end x r (length es) d)
    is_fate (source_refused f e q) = sym (whole q ∙ (λ j. end_fate (e j) (ruling P k es (closing es)) (length es)))

    pub one_end : (o p : Outcome) → Ends P k es n o → Ends P k es n p → but_steps p ≡ but_steps o
    one_end o p d c = is_fate c ∙ sym (is_fate d)

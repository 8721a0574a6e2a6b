-- The answers are determined but for the shown run.
use Rattle.std.proofs.Common.{◌≡◌, ℕ, List, [], ◌∷◌, length, set, Some, None, Option, sym, refl, ap, ◌∙◌, subst, arith}
use Rattle.std.specs.List.{slice_get}
use Rattle.kinds.specs.declared.phase.Phase.{Phase}
use Rattle.kinds.specs.declared.phase.Phase.TheVariants.{Running, Broken, Spilled, Full, Kept}
use Rattle.kinds.specs.declared.refusal.Reason.{Reason}
use Rattle.kinds.specs.declared.refusal.Reason.TheVariants.{Watch as of_watch}
use Rattle.kinds.specs.declared.watch_reason.WatchReason.TheVariants.{IsSpilled, IsFull}
use Rattle.kinds.specs.Refusals.{Ending}
use Rattle.topl.specs.Lists.{Class}
use Rattle.topl.specs.Table.{Event, Table}
use Rattle.topl.specs.Runs.{World, closing}
use Rattle.topl.specs.Deciding.{Ruling, breaks, goes_on, overfills, spills}
use Rattle.topl.specs.Ledger.{Answer, Begins, Closes, Feeds, Ledger, Settles, Source, Takes, began, begin_reason, begun, broken_at, draws_by, feed_reason, passed_on, phase_reason, refuse, rule, says, turned, unless, verdict, with_event, world_of}
use Rattle.topl.specs.History.{Call, Determined, Does, Moment, SameButShown, ask_path, ask_verdict, bare, but_paths, calls_of, draws_at, to_begin, to_close, to_draw, to_feed}

-- a result without the shown run
abbrev core : Ledger × Answer → Ledger × Answer
core r = (bare r.0, r.1)

-- what a ruling gives, but for the shown run
abbrev settled_core : Ledger → World → Phase → Ruling → Ledger × Answer
settled_core l w idle (breaks p) = (broken_at l w p [], says Broken (Some p))
settled_core l w idle spills = (turned l Spilled (world_of l), refuse l (of_watch IsSpilled))
settled_core l w idle overfills = (turned l Full (world_of l), refuse l (of_watch IsFull))
settled_core l w idle goes_on = (turned l idle w, says idle None)

settles_core : (l : Ledger) (w : World) (idle : Phase) (x : Ruling) (r : Ledger × Answer) → Settles l w idle x r → core r ≡ settled_core (bare l) w idle x
settles_core l w idle (breaks p) r (path, A, i) = ap core i
settles_core l w idle spills r i = ap core i
settles_core l w idle overfills r i = ap core i
settles_core l w idle goes_on r i = ap core i

abbrev unless_core : Ledger → Option Reason → Ledger × Answer → Ledger × Answer
unless_core l (Some n) r = (l, refuse l n)
unless_core l None r = r

unless_is : (l : Ledger) (does : Ledger × Answer → Type 0) (o : Option Reason) (r c : Ledger × Answer) → (does r → core r ≡ c) → unless l o does r → core r ≡ unless_core (bare l) o c
unless_is l does (Some n) r c f u = ap core u
unless_is l does None r c f u = f u

fed_core : (l : Ledger) (e : Event) (r : Ledger × Answer) → Feeds l e r → core r ≡ unless_core (bare l) (feed_reason (bare l) e) (settled_core (bare l) (with_event (bare l) e) Running (rule (bare l) (with_event (bare l) e)))
unfolding rule
fed_core l e r f =
    unless_is l (Settles l (with_event l e) Running (rule l (with_event l e))) (feed_reason l e) r (settled_core (bare l) (with_event l e) Running (rule l (with_event l e)))
    (settles_core l (with_event l e) Running (rule l (with_event l e)) r) f

ended_core : (l : Ledger) (r : Ledger × Answer) → Closes l r →
    core r ≡ unless_core (bare l) (phase_reason (bare l).phase) (settled_core (bare l) (closing (bare l).judged) Kept (rule (bare l) (closing (bare l).judged)))
unfolding rule
ended_core l r f =
    unless_is l (Settles l (closing l.judged) Kept (rule l (closing l.judged))) (phase_reason l.phase) r (settled_core (bare l) (closing l.judged) Kept (rule l (closing l.judged)))
    (settles_core l (closing l.judged) Kept (rule l (closing l.judged)) r) f

begun_core : (l : Ledger) (P : Table) (ks : List Class) (cap : ℕ) (r : Ledger × Answer) → Begins l P ks cap r → core r ≡ unless_core (bare l) (begin_reason (bare l) P ks cap) (began (bare l) P ks cap, begun)
begun_core l P ks cap r f = unless_is l (λ r. r ≡ (began l P ks cap, begun)) (begin_reason l P ks cap) r (began (bare l) P ks cap, begun) (λ e. ap core e) f

module _ (l l' : Ledger) (q : bare l ≡ bare l') where
  fed_same : (e : Event) (r r' : Ledger × Answer) → Feeds l e r → Feeds l' e r' → core r ≡ core r'
  fed_same e r r' f f' =
      fed_core l e r f ∙ ap (λ (z : Ledger). unless_core z (feed_reason z e) (settled_core z (with_event z e) Running (rule z (with_event z e)))) q ∙ sym (fed_core l' e r' f')

  ended_same : (r r' : Ledger × Answer) → Closes l r → Closes l' r' → core r ≡ core r'
  ended_same r r' f f' =
      ended_core l r f ∙ ap (λ (z : Ledger). unless_core z (phase_reason z.phase) (settled_core z (closing z.judged) Kept (rule z (closing z.judged)))) q ∙ sym (ended_core l' r' f')

  begin_same : (P : Table) (ks : List Class) (cap : ℕ) (r r' : Ledger × Answer) → Begins l P ks cap r → Begins l' P ks cap r' → core r ≡ core r'
  begin_same P ks cap r r' f f' =
      begun_core l P ks cap r f ∙ ap (λ (z : Ledger). unless_core z (begin_reason z P ks cap) (began z P ks cap, begun)) q ∙ sym (begun_core l' P ks cap r' f')

  takes_same : (es : List Event) (end : Ending) (r r' : Ledger × Answer) (s s' : Source) → Takes l es end r s → Takes l' es end r' s' → (core r ≡ core r') × (s ≡ s')
  takes_same [] end r r' s s' t t' = (ap core t.0 ∙ ap (λ (z : Ledger). (z, passed_on end)) q ∙ ap core (sym t'.0), t.1 ∙ sym t'.1)
  takes_same (e ∷ es) end r r' s s' t t' = (fed_same e r r' t.0 t'.0, t.1 ∙ sym t'.1)

  draws_same : (o : Option Reason) (s : Source) (r r' : Ledger × Answer) (t t' : Source) → draws_by o l s r t → draws_by o l' s r' t' → (core r ≡ core r') × (t ≡ t')
  draws_same (Some n) s r r' t t' d d' = (ap core d.0 ∙ ap (λ (z : Ledger). (z, refuse z n)) q ∙ ap core (sym d'.0), d.1 ∙ sym d'.1)
  draws_same None s r r' t t' d d' = takes_same s.waiting s.ending r r' t t' d d'

draw_same : (m m' o o' : Moment) (k : ℕ) (a a' : Answer) (u : Option Source) → SameButShown m m' → draws_at m k u a o → draws_at m' k u a' o' → (a ≡ a') × SameButShown o o'
draw_same m m' o o' k a a' None (q, w) d d' = (d.1 ∙ sym d'.1, ((λ j. bare (d.0 j).ledger) ∙ q ∙ (λ j. bare (sym d'.0 j).ledger), (λ j. (d.0 j).sources) ∙ w ∙ (λ j. (sym d'.0 j).sources)))
draw_same m m' o o' k a a' (Some s) (q, w) d d' =
    let n : phase_reason m'.ledger.phase ≡ phase_reason m.ledger.phase = ap (λ (z : Ledger). phase_reason z.phase) (sym q) in
    let e' : draws_by (phase_reason m.ledger.phase) m'.ledger s (o'.ledger, a') d'.0 = subst (λ (z : Option Reason). draws_by z m'.ledger s (o'.ledger, a') d'.0) n d'.1 in
    let x = draws_same m.ledger m'.ledger q (phase_reason m.ledger.phase) s (o.ledger, a) (o'.ledger, a') d.0 d'.0 d.1 e' in
    ((λ j. (x.0 j).1), ((λ j. (x.0 j).0), d.2 ∙ (λ j. set (w j) k (x.1 j)) ∙ sym d'.2))

one : (m m' o o' : Moment) (c : Call) (a a' : Answer) → SameButShown m m' → Does m c a o → Does m' c a' o' → (but_paths c a ≡ but_paths c a') × SameButShown o o'
one m m' o o' (to_begin P ks cap) a a' (q, w) d d' =
    let x = begin_same m.ledger m'.ledger q P ks cap (o.ledger, a) (o'.ledger, a') d.0 d'.0 in ((λ j. (x j).1), ((λ j. (x j).0), d.1 ∙ w ∙ sym d'.1))
one m m' o o' (to_feed e) a a' (q, w) d d' = let x = fed_same m.ledger m'.ledger q e (o.ledger, a) (o'.ledger, a') d.0 d'.0 in ((λ j. (x j).1), ((λ j. (x j).0), d.1 ∙ w ∙ sym d'.1))
one m m' o o' (to_draw k) a a' (q, w) d d' =
    draw_same m m' o o' k a a' (slice_get m.sources k) (q, w) d (subst (λ (W : List Source). draws_at m' k (slice_get W k) a' o') (sym w) d')
one m m' o o' to_close a a' (q, w) d d' = let x = ended_same m.ledger m'.ledger q (o.ledger, a) (o'.ledger, a') d.0 d'.0 in ((λ j. (x j).1), ((λ j. (x j).0), d.1 ∙ w ∙ sym d'.1))
one m m' o o' ask_verdict a a' (q, w) d d' =
    (d.1 ∙ ap (λ (z : Ledger). verdict z) q ∙ sym d'.1, ((λ j. bare (d.0 j).ledger) ∙ q ∙ (λ j. bare (sym d'.0 j).ledger), (λ j. (d.0 j).sources) ∙ w ∙ (λ j. (sym d'.0 j).sources)))
one m m' o o' (ask_path page) a a' (q, w) d d' = (refl, ((λ j. bare (d.0 j).ledger) ∙ q ∙ (λ j. bare (sym d'.0 j).ledger), (λ j. (d.0 j).sources) ∙ w ∙ (λ j. (sym d'.0 j).sources)))

pub determined : Determined
determined m m' n n' [] [] s e H H' = (refl, ((λ j. bare (H j).ledger) ∙ s.0 ∙ (λ j. bare (sym H' j).ledger), (λ j. (H j).sources) ∙ s.1 ∙ (λ j. (sym H' j).sources)))
determined m m' n n' [] (t ∷ h) s e H H' = absurd (let z : 0 ≡ length (calls_of (t ∷ h)) = ap length e in omega arith)
determined m m' n n' (t ∷ h) [] s e H H' = absurd (let z : length (calls_of (t ∷ h)) ≡ 0 = ap length e in omega arith)
determined m m' n n' (t ∷ h) (t' ∷ h') s e (o, d, H) (o', d', H') =
    let c : t.0 ≡ t'.0 = cc in
    let rest : calls_of h ≡ calls_of h' = cc in
    let x = one m m' o o' t.0 t.1 t'.1 s d (subst (λ (z : Call). Does m' z t'.1 o') (sym c) d') in
    let y = determined o o' n n' h h' x.1 rest H H' in
    ((λ j. (x.0 ∙ (λ i. but_paths (c i) t'.1)) j ∷ y.0 j), y.1)

-- Every call has an answer.
use Rattle.std.proofs.Common.{◌≡◌, ℕ, min, List, [], ◌∷◌, set, Some, None, Option, refl, ap}
use Rattle.std.specs.List.{slice_get}
use Rattle.kinds.specs.declared.phase.Phase.{Phase}
use Rattle.kinds.specs.declared.phase.Phase.TheVariants.{Running, Broken, Spilled, Full, Kept}
use Rattle.kinds.specs.declared.refusal.Reason.{Reason}
use Rattle.kinds.specs.declared.refusal.Reason.TheVariants.{Watch as of_watch}
use Rattle.kinds.specs.declared.watch_reason.WatchReason.TheVariants.{IsSpilled, IsFull}
use Rattle.kinds.specs.Refusals.{Ending}
use Rattle.topl.specs.Lists.{Class}
use Rattle.topl.specs.Table.{Event, Table}
use Rattle.topl.specs.Runs.{World, closing, so_far}
use Rattle.topl.specs.Deciding.{Ruling, breaks, goes_on, overfills, spills}
use Rattle.topl.specs.Ledger.{Answer, Begins, Closes, Feeds, Ledger, Settles, Source, Takes, began, begin_reason, begun, broken_at, draws_by, feed_reason, no_source, passed_on, path_on, phase_reason, refuse, registers_of, rule, says, turned, unless, verdict, with_event, world_of}
use Rattle.topl.specs.History.{Answered, Call, Does, History, Log, Moment, ask_path, ask_verdict, calls_of, draws_at, to_begin, to_close, to_draw, to_feed}
use Rattle.topl.proofs.Deciding.{deciding}

module _ (l : Ledger) where
  -- where the rule breaks there is a run to show
  settles : (w : World) (idle : Phase) (x : Ruling) → rule l w ≡ x → (r : Ledger × Answer) × Settles l w idle x r
  unfolding rule
  settles w idle (breaks p) e =
      let f = (((deciding l.table (registers_of l) l.cap (min l.book 16384) (so_far l.judged) w).when_broken p).0 e).1 in
      ((broken_at l w p f.2.0, says Broken (Some p)), (f.2.0, (f.0, f.1, f.2.1), refl))
  settles w idle spills e = ((turned l Spilled (world_of l), refuse l (of_watch IsSpilled)), refl)
  settles w idle overfills e = ((turned l Full (world_of l), refuse l (of_watch IsFull)), refl)
  settles w idle goes_on e = ((turned l idle w, says idle None), refl)

  unless_answered : (does : Ledger × Answer → Type 0) (o : Option Reason) → (r : Ledger × Answer) × does r → (r : Ledger × Answer) × unless l o does r
  unless_answered does (Some n) f = ((l, refuse l n), refl)
  unless_answered does None f = f

  begins_so : (P : Table) (ks : List Class) (cap : ℕ) → (r : Ledger × Answer) × Begins l P ks cap r
  begins_so P ks cap = unless_answered (λ r. r ≡ (began l P ks cap, begun)) (begin_reason l P ks cap) ((began l P ks cap, begun), refl)

  feeds_so : (e : Event) → (r : Ledger × Answer) × Feeds l e r
  feeds_so e = unless_answered (Settles l (with_event l e) Running (rule l (with_event l e))) (feed_reason l e) (settles (with_event l e) Running (rule l (with_event l e)) refl)

  closes_so : (r : Ledger × Answer) × Closes l r
  closes_so = unless_answered (Settles l (closing l.judged) Kept (rule l (closing l.judged))) (phase_reason l.phase) (settles (closing l.judged) Kept (rule l (closing l.judged)) refl)

  takes_so : (es : List Event) (end : Ending) → (r : Ledger × Answer) × (s' : Source) × Takes l es end r s'
  takes_so [] end = ((l, passed_on end), record { waiting = []; ending = end }, (refl, refl))
  takes_so (e ∷ es) end = let f = feeds_so e in (f.0, record { waiting = es; ending = end }, (f.1, refl))

  draws_so : (o : Option Reason) (s : Source) → (r : Ledger × Answer) × (s' : Source) × draws_by o l s r s'
  draws_so (Some n) s = ((l, refuse l n), s, (refl, refl))
  draws_so None s = takes_so s.waiting s.ending

draw_so : (m : Moment) (k : ℕ) (u : Option Source) → (a : Answer) × (o : Moment) × draws_at m k u a o
draw_so m k None = (no_source, m, (refl, refl))
draw_so m k (Some s) = let d = draws_so m.ledger (phase_reason m.ledger.phase) s in (d.0.1, record { ledger = d.0.0; sources = set m.sources k d.1 }, (d.1, d.2, refl))

pub does_so : (m : Moment) (c : Call) → (a : Answer) × (o : Moment) × Does m c a o
does_so m (to_begin P ks cap) = let f = begins_so m.ledger P ks cap in (f.0.1, record { ledger = f.0.0; sources = m.sources }, (f.1, refl))
does_so m (to_feed e) = let f = feeds_so m.ledger e in (f.0.1, record { ledger = f.0.0; sources = m.sources }, (f.1, refl))
does_so m (to_draw k) = draw_so m k (slice_get m.sources k)
does_so m to_close = let f = closes_so m.ledger in (f.0.1, record { ledger = f.0.0; sources = m.sources }, (f.1, refl))
does_so m ask_verdict = (verdict m.ledger, m, (refl, refl))
does_so m (ask_path page) = (path_on m.ledger page, m, (refl, refl))

history_so : (m : Moment) (cs : List Call) → (h : Log) × (n : Moment) × (calls_of h ≡ cs) × History m h n
history_so m [] = ([], m, refl, refl)
history_so m (c ∷ cs) =
    let x = does_so m c in
    let y = history_so x.1 cs in
    ((c, x.0) ∷ y.0, y.1, ap (λ (z : List Call). c ∷ z) y.2, (x.1, x.2, y.3))

pub answered : Answered
answered = (does_so, history_so)

-- Histories that are the only ones of their calls, by computing.
use Rattle.std.proofs.Common.{◌≡◌, ℕ, Bool, true, false, cond, eqb, ◌↔◌, List, [], ◌∷◌, length, set, Some, None, Option, sym, refl, ap, ◌∙◌, subst, ⊎_elim, arith, eq-eqb, eqb-true}
use mathlib.Core.List.Memᴰ
use Rattle.std.specs.List.{slice_get}
use Rattle.kinds.specs.declared.phase.Phase.{Phase}
use Rattle.kinds.specs.declared.phase.Phase.TheVariants.{Running, Broken, Spilled, Full, Kept}
use Rattle.kinds.specs.declared.refusal.Reason.{Reason}
use Rattle.kinds.specs.declared.refusal.Reason.TheVariants.{Watch as of_watch}
use Rattle.kinds.specs.declared.watch_reason.WatchReason.TheVariants.{IsSpilled, IsFull}
use Rattle.kinds.specs.Refusals.{Ending}
use Rattle.topl.specs.Lists.{Class, ◌∈◌}
use Rattle.topl.specs.Table.{Event, Table, error}
use Rattle.topl.specs.Runs.{Configuration, Run, World, closing, runs}
use Rattle.topl.specs.Deciding.{Ruling, breaks, goes_on, overfills, spills}
use Rattle.topl.specs.Ledger.{Allowed, Answer, Begins, Closes, Feeds, Ledger, Settles, Source, Takes, began, begin_reason, begun, broken_at, draws_by, feed_reason, no_source, passed_on, path_on, phase_reason, refuse, registers_of, rule, says, turned, unless, verdict, with_event, world_of}
use Rattle.topl.specs.History.{Call, Does, History, Log, Moment, ask_path, ask_verdict, calls_of, draws_at, to_begin, to_close, to_draw, to_feed}
use Rattle.topl.proofs.Enumerate.{enumerates}

-- the steps of the runs that end in `error`
abbrev pub errors : List Run → List (List ℕ)
errors [] = []
errors (r ∷ rs) = cond (eqb r.0.state error) (r.1 ∷ errors rs) (errors rs)

errors_sound : {path : List ℕ} (rs : List Run) → path ∈ errors rs → (c : Configuration) × (c.state ≡ error) × ((c, path) ∈ rs)
errors_sound [] m = absurd (Memᴰ.not-nil m)
errors_sound {path} (r ∷ rs) m = go (errors_sound rs) (eqb r.0.state error) refl m
  where
    further : (c : Configuration) × (c.state ≡ error) × ((c, path) ∈ rs) → (c : Configuration) × (c.state ≡ error) × ((c, path) ∈ (r ∷ rs))
    further x = (x.0, x.1, Memᴰ.tail x.2)

    go : (path ∈ errors rs → (c : Configuration) × (c.state ≡ error) × ((c, path) ∈ rs)) → (b : Bool) → eqb r.0.state error ≡ b → path ∈ cond b (r.1 ∷ errors rs) (errors rs) → (c : Configuration) × (c.state ≡ error) × ((c, path) ∈ (r ∷ rs))
    go below true e h = ⊎_elim (λ (i : path ≡ r.1). (r.0, eqb-true r.0.state error e, Memᴰ.head (λ j. (r.0, i j)))) (λ h'. further (below h')) (Memᴰ.cases_cons h)
    go below false e h = further (below h)

errors_complete : {c : Configuration} {path : List ℕ} {rs : List Run} → c.state ≡ error → (c, path) ∈ rs → path ∈ errors rs
errors_complete {c} {path} e (Memᴰ.head {x = r} {xs = rs} i) = rw (eq-eqb r.0.state error ((λ j. (sym i j).0.state) ∙ e)) (Memᴰ.head (λ j. (i j).1))
errors_complete {c} {path} e (Memᴰ.tail {x = r} {xs = rs} m) = go (eqb r.0.state error) (errors_complete e m)
  where
    go : (b : Bool) → path ∈ errors rs → path ∈ cond b (r.1 ∷ errors rs) (errors rs)
    go true h = Memᴰ.tail h
    go false h = h

-- where one run alone ends in `error`, it is the one to show
pub only_run : (l : Ledger) (w : World) (p : ℕ) (path : List ℕ) → errors (runs l.table (registers_of l) w p) ≡ path ∷ [] → (shown : List ℕ) → Allowed l w p shown ↔ (shown ≡ path)
only_run l w p path e shown = (there, back)
  where
    there : Allowed l w p shown → shown ≡ path
    there a = Memᴰ.eq_of_singleton (subst (λ (ps : List (List ℕ)). shown ∈ ps) e (errors_complete a.1 (((enumerates l.table (registers_of l) w p).0 a.0 shown).1 a.2)))

    back : shown ≡ path → Allowed l w p shown
    back i =
        let m : shown ∈ errors (runs l.table (registers_of l) w p) = subst (λ (ps : List (List ℕ)). shown ∈ ps) (sym e) (Memᴰ.head i) in
        let x = errors_sound (runs l.table (registers_of l) w p) m in
        (x.0, x.1, ((enumerates l.table (registers_of l) w p).0 x.0 shown).0 x.2)

-- WHAT A CALL ANSWERS, with the run to show if it breaks
abbrev ruled : Ledger → World → Phase → List ℕ → Ruling → Ledger × Answer
ruled l w idle path (breaks p) = (broken_at l w p path, says Broken (Some p))
ruled l w idle path spills = (turned l Spilled (world_of l), refuse l (of_watch IsSpilled))
ruled l w idle path overfills = (turned l Full (world_of l), refuse l (of_watch IsFull))
ruled l w idle path goes_on = (turned l idle w, says idle None)

abbrev or_refused : Ledger → Option Reason → Ledger × Answer → Ledger × Answer
or_refused l (Some n) r = (l, refuse l n)
or_refused l None r = r

abbrev begun_so : Ledger → Table → List Class → ℕ → Ledger × Answer
begun_so l P ks cap = or_refused l (begin_reason l P ks cap) (began l P ks cap, begun)

abbrev fed_so : Ledger → Event → List ℕ → Ledger × Answer
fed_so l e path = or_refused l (feed_reason l e) (ruled l (with_event l e) Running path (rule l (with_event l e)))

abbrev closed_so : Ledger → List ℕ → Ledger × Answer
closed_so l path = or_refused l (phase_reason l.phase) (ruled l (closing l.judged) Kept path (rule l (closing l.judged)))

abbrev taken_so : Ledger → List Event → Ending → List ℕ → (Ledger × Answer) × Source
taken_so l [] end path = ((l, passed_on end), record { waiting = []; ending = end })
taken_so l (e ∷ es) end path = (fed_so l e path, record { waiting = es; ending = end })

abbrev drawn_so : Option Reason → Ledger → Source → List ℕ → (Ledger × Answer) × Source
drawn_so (Some n) l s path = ((l, refuse l n), s)
drawn_so None l s path = taken_so l s.waiting s.ending path

abbrev put_back : Moment → ℕ → (Ledger × Answer) × Source → Answer × Moment
put_back m k x = (x.0.1, record { ledger = x.0.0; sources = set m.sources k x.1 })

abbrev source_so : Moment → ℕ → Option Source → List ℕ → Answer × Moment
source_so m k None path = (no_source, m)
source_so m k (Some s) path = put_back m k (drawn_so (phase_reason m.ledger.phase) m.ledger s path)

abbrev keeping : Moment → Ledger × Answer → Answer × Moment
keeping m r = (r.1, record { ledger = r.0; sources = m.sources })

abbrev done_so : Moment → Call → List ℕ → Answer × Moment
done_so m (to_begin P ks cap) path = keeping m (begun_so m.ledger P ks cap)
done_so m (to_feed e) path = keeping m (fed_so m.ledger e path)
done_so m (to_draw k) path = source_so m k (slice_get m.sources k) path
done_so m to_close path = keeping m (closed_so m.ledger path)
done_so m ask_verdict path = (verdict m.ledger, m)
done_so m (ask_path page) path = (path_on m.ledger page, m)

-- some calls, each with the run to show if it breaks: the answers, and what is left
abbrev pub lived : Moment → List Call → List ℕ → Log
lived m [] path = []
lived m (c ∷ cs) path = (c, (done_so m c path).0) ∷ lived (done_so m c path).1 cs path

abbrev pub left_by : Moment → List Call → List ℕ → Moment
left_by m [] path = m
left_by m (c ∷ cs) path = left_by (done_so m c path).1 cs path

-- THE CONDITION: where it breaks, that run alone may be shown
abbrev FineRuling : Ledger → World → List ℕ → Ruling → Type 0
FineRuling l w path (breaks p) = (shown : List ℕ) → Allowed l w p shown ↔ (shown ≡ path)
FineRuling l w path spills = Unit {0}
FineRuling l w path overfills = Unit {0}
FineRuling l w path goes_on = Unit {0}

abbrev FineIf : Option Reason → Type 0 → Type 0
FineIf (Some n) T = Unit {0}
FineIf None T = T

abbrev FineFeed : Ledger → Event → List ℕ → Type 0
FineFeed l e path = FineIf (feed_reason l e) (FineRuling l (with_event l e) path (rule l (with_event l e)))

abbrev FineWaiting : Ledger → List Event → List ℕ → Type 0
FineWaiting l [] path = Unit {0}
FineWaiting l (e ∷ es) path = FineFeed l e path

abbrev FineSource : Moment → Option Source → List ℕ → Type 0
FineSource m None path = Unit {0}
FineSource m (Some s) path = FineIf (phase_reason m.ledger.phase) (FineWaiting m.ledger s.waiting path)

abbrev Fine : Moment → Call → List ℕ → Type 0
Fine m (to_begin P ks cap) path = Unit {0}
Fine m (to_feed e) path = FineFeed m.ledger e path
Fine m (to_draw k) path = FineSource m (slice_get m.sources k) path
Fine m to_close path = FineIf (phase_reason m.ledger.phase) (FineRuling m.ledger (closing m.ledger.judged) path (rule m.ledger (closing m.ledger.judged)))
Fine m ask_verdict path = Unit {0}
Fine m (ask_path page) path = Unit {0}

abbrev pub Fines : Moment → List Call → List ℕ → Type 0
Fines m [] path = Unit {0}
Fines m (c ∷ cs) path = Fine m c path × Fines (done_so m c path).1 cs path

-- THEN IT IS THE ONLY ONE
abbrev Sole : {X : Type 0} → (X → Type 0) → X → Type 0
Sole {X} D x = D x × ((y : X) → D y → y ≡ x)

ruled_sole : (l : Ledger) (w : World) (idle : Phase) (path : List ℕ) (x : Ruling) → FineRuling l w path x → Sole (Settles l w idle x) (ruled l w idle path x)
ruled_sole l w idle path (breaks p) f = ((path, (f path).1 refl, refl), λ y s. s.2 ∙ ap (λ (z : List ℕ). (broken_at l w p z, says Broken (Some p))) ((f s.0).0 s.1))
ruled_sole l w idle path spills f = (refl, λ y s. s)
ruled_sole l w idle path overfills f = (refl, λ y s. s)
ruled_sole l w idle path goes_on f = (refl, λ y s. s)

refused_sole : (l : Ledger) (does : Ledger × Answer → Type 0) (o : Option Reason) (r : Ledger × Answer) (T : Type 0) → FineIf o T → (T → Sole does r) → Sole (unless l o does) (or_refused l o r)
refused_sole l does (Some n) r T f g = (refl, λ y s. s)
refused_sole l does None r T f g = g f

begun_sole : (l : Ledger) (P : Table) (ks : List Class) (cap : ℕ) → Sole (Begins l P ks cap) (begun_so l P ks cap)
begun_sole l P ks cap = go (begin_reason l P ks cap)
  where
    go : (o : Option Reason) → Sole (unless l o (λ r. r ≡ (began l P ks cap, begun))) (or_refused l o (began l P ks cap, begun))
    go (Some n) = (refl, λ y s. s)
    go None = (refl, λ y s. s)

fed_sole : (l : Ledger) (e : Event) (path : List ℕ) → FineFeed l e path → Sole (Feeds l e) (fed_so l e path)
fed_sole l e path f =
    refused_sole l (Settles l (with_event l e) Running (rule l (with_event l e))) (feed_reason l e) (ruled l (with_event l e) Running path (rule l (with_event l e)))
    (FineRuling l (with_event l e) path (rule l (with_event l e))) f (ruled_sole l (with_event l e) Running path (rule l (with_event l e)))

closed_sole : (l : Ledger) (path : List ℕ) → FineIf (phase_reason l.phase) (FineRuling l (closing l.judged) path (rule l (closing l.judged))) → Sole (Closes l) (closed_so l path)
closed_sole l path f =
    refused_sole l (Settles l (closing l.judged) Kept (rule l (closing l.judged))) (phase_reason l.phase) (ruled l (closing l.judged) Kept path (rule l (closing l.judged)))
    (FineRuling l (closing l.judged) path (rule l (closing l.judged))) f (ruled_sole l (closing l.judged) Kept path (rule l (closing l.judged)))

taken_sole : (l : Ledger) (es : List Event) (end : Ending) (path : List ℕ) → FineWaiting l es path → Sole (λ x. Takes l es end x.0 x.1) (taken_so l es end path)
taken_sole l [] end path f = ((refl, refl), λ y s. λ j. (s.0 j, s.1 j))
taken_sole l (e ∷ es) end path f = let x = fed_sole l e path f in ((x.0, refl), λ y s. λ j. (x.1 y.0 s.0 j, s.1 j))

drawn_sole : (o : Option Reason) (l : Ledger) (s : Source) (path : List ℕ) → FineIf o (FineWaiting l s.waiting path) → Sole (λ x. draws_by o l s x.0 x.1) (drawn_so o l s path)
drawn_sole (Some n) l s path f = ((refl, refl), λ y d. λ j. (d.0 j, d.1 j))
drawn_sole None l s path f = taken_sole l s.waiting s.ending path f

source_sole : (m : Moment) (k : ℕ) (u : Option Source) (path : List ℕ) → FineSource m u path → Sole (λ x. draws_at m k u x.0 x.1) (source_so m k u path)
source_sole m k None path f = ((refl, refl), λ y d. λ j. (d.1 j, d.0 j))
source_sole m k (Some s) path f =
    let x = drawn_sole (phase_reason m.ledger.phase) m.ledger s path f in (
      ((drawn_so (phase_reason m.ledger.phase) m.ledger s path).1, x.0, refl),
      λ y d. let e = x.1 ((y.1.ledger, y.0), d.0) d.1 in λ j. ((e j).0.1, record { ledger = (e j).0.0; sources = (d.2 ∙ ap (set m.sources k) (λ i. (e i).1)) j }),
    )

kept_sole : (m : Moment) (does : Ledger × Answer → Type 0) (r : Ledger × Answer) → Sole does r → Sole {X = Answer × Moment} (λ x. does (x.1.ledger, x.0) × (x.1.sources ≡ m.sources)) (keeping m r)
kept_sole m does r s = ((s.0, refl), λ y d. let e = s.1 (y.1.ledger, y.0) d.0 in λ j. ((e j).1, record { ledger = (e j).0; sources = d.1 j }))

done_sole : (m : Moment) (c : Call) (path : List ℕ) → Fine m c path → Sole (λ x. Does m c x.0 x.1) (done_so m c path)
done_sole m (to_begin P ks cap) path f = kept_sole m (Begins m.ledger P ks cap) (begun_so m.ledger P ks cap) (begun_sole m.ledger P ks cap)
done_sole m (to_feed e) path f = kept_sole m (Feeds m.ledger e) (fed_so m.ledger e path) (fed_sole m.ledger e path f)
done_sole m (to_draw k) path f = source_sole m k (slice_get m.sources k) path f
done_sole m to_close path f = kept_sole m (Closes m.ledger) (closed_so m.ledger path) (closed_sole m.ledger path f)
done_sole m ask_verdict path f = ((refl, refl), λ y d. λ j. (d.1 j, d.0 j))
done_sole m (ask_path page) path f = ((refl, refl), λ y d. λ j. (d.1 j, d.0 j))

lives : (m : Moment) (cs : List Call) (path : List ℕ) → Fines m cs path → History m (lived m cs path) (left_by m cs path)
lives m [] path f = refl
lives m (c ∷ cs) path f = ((done_so m c path).1, (done_sole m c path f.0).0, lives (done_so m c path).1 cs path f.1)

alone_lives : (m : Moment) (cs : List Call) (path : List ℕ) → Fines m cs path → (h : Log) (n : Moment) → calls_of h ≡ cs → History m h n → (h ≡ lived m cs path) × (n ≡ left_by m cs path)
alone_lives m [] path f [] n e H = (refl, H)
alone_lives m [] path f (t ∷ h) n e H = absurd (let z : length (calls_of (t ∷ h)) ≡ 0 = ap length e in omega arith)
alone_lives m (c ∷ cs) path f [] n e H = absurd (let z : 0 ≡ length (c ∷ cs) = ap length e in omega arith)
alone_lives m (c ∷ cs) path f (t ∷ h) n e (o, d, H) =
    let i : t.0 ≡ c = cc in
    let k : calls_of h ≡ cs = cc in
    let x = (done_sole m c path f.0).1 (t.1, o) (subst (λ (z : Call). Does m z t.1 o) i d) in
    let y = alone_lives (done_so m c path).1 cs path f.1 h n k (subst (λ (z : Moment). History z h n) (λ j. (x j).1) H) in
    (λ j. (i j, (x j).0) ∷ y.0 j, y.1)

pub only_so : (m : Moment) (cs : List Call) (path : List ℕ) → Fines m cs path → History m (lived m cs path) (left_by m cs path) × ((h : Log) (n : Moment) → calls_of h ≡ cs → History m h n → (h ≡ lived m cs path) × (n ≡ left_by m cs path))
only_so m cs path f = (lives m cs path f, alone_lives m cs path f)

-- one condition after the other
infixr 30 ◌also◌
abbrev pub ◌also◌ : {A B : Type 0} → A → B → A × B
a also b = (a, b)

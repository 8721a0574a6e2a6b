-- What is true of a history.
use Rattle.std.proofs.Common.{◌≡◌, ℕ, cond, ◌⊎◌, List, [], ◌∷◌, ◌++◌, length, Some, None, Option, sym, refl, ap, ◌∙◌, subst, inl, inr, append_assoc, append-nil, arith}
use mathlib.Core.List.Memᴰ
use Rattle.std.specs.List.{slice_get}
use Rattle.kinds.specs.declared.phase.Phase.{Phase}
use Rattle.kinds.specs.declared.phase.Phase.TheVariants.{Blank, Running, Broken, Spilled, Full, Kept}
use Rattle.kinds.specs.declared.refusal.Reason.TheVariants.{Watch as of_watch}
use Rattle.kinds.specs.declared.watch_reason.WatchReason.TheVariants.{BegunAlready, IsBroken}
use Rattle.topl.specs.Lists.{◌∈◌}
use Rattle.topl.specs.Table.{Event, at}
use Rattle.topl.specs.Runs.{Mode, Reach, closed, closing, settled}
use Rattle.topl.specs.Ledger.{Allowed, Answer, Ledger, Source, began, begin_reason, begun, on_page, opening_reason, path_on, phase_reason, registers_of, wrote}
use Rattle.topl.specs.History.{Call, Does, History, JudgesEachOnce, Log, Means, Moment, OneRun, Sound, Telling, TellingOn, Truth, ask_path, ask_verdict, brought, draws_at, judged_over, judges, made, to_begin, to_close, to_draw, to_feed}
use Rattle.topl.specs.Days.{board}
use Rattle.topl.proofs.Persist.{persists}
use Rattle.topl.proofs.Lasting.{lasting}
use Rattle.topl.proofs.Language.{recognizes}
use Rattle.topl.proofs.Calls.{is_refused, fed_refused, closed_refused, draws_refused}
use Rattle.topl.proofs.Changes.{turns}

-- the ledger stays sound
draw_sound : (m o : Moment) (k : ℕ) (a : Answer) (u : Option Source) → Sound m.ledger → draws_at m k u a o → Sound o.ledger
draw_sound m o k a None S d = subst (λ (x : Moment). Sound x.ledger) (sym d.0) S
draw_sound m o k a (Some s) S d = lasting.draw_sound m.ledger s d.0 (o.ledger, a) S d.1

pub sound : (m o : Moment) (c : Call) (a : Answer) → Sound m.ledger → Does m c a o → Sound o.ledger
sound m o (to_begin P ks cap) a S d = lasting.begin_sound m.ledger P ks cap (o.ledger, a) S d.0
sound m o (to_feed e) a S d = lasting.feed_sound m.ledger e (o.ledger, a) S d.0
sound m o (to_draw k) a S d = draw_sound m o k a (slice_get m.sources k) S d
sound m o to_close a S d = lasting.close_sound m.ledger (o.ledger, a) S d.0
sound m o ask_verdict a S d = subst (λ (x : Moment). Sound x.ledger) (sym d.0) S
sound m o (ask_path page) a S d = subst (λ (x : Moment). Sound x.ledger) (sym d.0) S

-- a broken watch stays as it is
draw_broken : (m o : Moment) (k : ℕ) (a : Answer) (u : Option Source) → m.ledger.phase ≡ Broken → draws_at m k u a o → o.ledger ≡ m.ledger
draw_broken m o k a None i d = λ j. (d.0 j).ledger
draw_broken m o k a (Some s) i d = λ j. ((draws_refused m.ledger (of_watch IsBroken) s d.0 (o.ledger, a) (ap phase_reason i) d.1).0 j).0

broken_stays : (m o : Moment) (c : Call) (a : Answer) → m.ledger.phase ≡ Broken → Does m c a o → o.ledger ≡ m.ledger
broken_stays m o (to_begin P ks cap) a i d =
    λ j. (is_refused m.ledger (λ r. r ≡ (began m.ledger P ks cap, begun)) (begin_reason m.ledger P ks cap) (of_watch BegunAlready) (o.ledger, a)
    (ap (λ (q : Phase). opening_reason q m.ledger.board m.ledger.book (length ks) (length P.constants) cap) i) d.0 j).0
broken_stays m o (to_feed e) a i d = λ j. (fed_refused m.ledger e (of_watch IsBroken) (o.ledger, a) (ap phase_reason i) d.0 j).0
broken_stays m o (to_draw k) a i d = draw_broken m o k a (slice_get m.sources k) i d
broken_stays m o to_close a i d = λ j. (closed_refused m.ledger (of_watch IsBroken) (o.ledger, a) (ap phase_reason i) d.0 j).0
broken_stays m o ask_verdict a i d = λ j. (d.0 j).ledger
broken_stays m o (ask_path page) a i d = λ j. (d.0 j).ledger

broken_lasts : (m n : Moment) (h : Log) → m.ledger.phase ≡ Broken → History m h n → n.ledger ≡ m.ledger
broken_lasts m n [] i H = λ j. (H j).ledger
broken_lasts m n (t ∷ h) i (o, d, H) = let k = broken_stays m o t.0 t.1 i d in broken_lasts o n h (ap (λ (l : Ledger). l.phase) k ∙ i) H ∙ k

asked : (m n : Moment) (h : Log) → m.ledger.phase ≡ Broken → History m h n → (page : List ℕ) (a : Answer) → (ask_path page, a) ∈ h → a ≡ path_on m.ledger page
asked m n [] i H page a x = absurd (Memᴰ.not-nil x)
asked m n (t ∷ h) i (o, d, H) page a x =
    let k : o.ledger ≡ m.ledger = broken_stays m o t.0 t.1 i d in
    go k (asked o n h (ap (λ (l : Ledger). l.phase) k ∙ i) H page a) (Memᴰ.cases_cons x)
  where
    go : o.ledger ≡ m.ledger → ((ask_path page, a) ∈ h → a ≡ path_on o.ledger page) → ((ask_path page, a) ≡ t) ⊎ ((ask_path page, a) ∈ h) → a ≡ path_on m.ledger page
    go k below (inl e) = (subst (λ (u : Call × Answer). Does m u.0 u.1 o) (sym e) d).1
    go k below (inr y) = below y ∙ ap (λ (l : Ledger). path_on l page) k

truth : (m n : Moment) (h : Log) (q : Phase) → m.ledger.phase ≡ q → Means m.ledger q → History m h n → Truth m.ledger h q
truth m n h Blank i S H = (S.0, S.1)
truth m n h Running i S H = (S.0, S.1.0)
truth m n h Broken i (p, at, S) H = (
  p,
  record {
    placed = at;
    run = shut m.ledger.mode S;
    lasting = later;
    asked = asked m n h i H;
    broken = λ f. let x = shut m.ledger.mode S in (recognizes m.ledger.table (registers_of m.ledger) m.ledger.judged f).1 (p, (x.0, x.1, (m.ledger.shown, x.2)));
    for_good = λ f s X. let x = later s X in (recognizes m.ledger.table (registers_of m.ledger) (m.ledger.judged ++ X) f).1 (p, (x.0, x.1, (m.ledger.shown, x.2)));
  },
)
  where
    shut : (w : Mode) → Allowed m.ledger (record { mode = w; events = m.ledger.judged }) p m.ledger.shown → Allowed m.ledger (closing m.ledger.judged) p m.ledger.shown
    shut settled x = (x.0, x.1, (persists m.ledger.table (registers_of m.ledger) m.ledger.judged [] p x.0 m.ledger.shown x.2).1)
    shut closed x = x

    later : m.ledger.mode ≡ settled → (X : List Event) → Allowed m.ledger (closing (m.ledger.judged ++ X)) p m.ledger.shown
    later s X =
        let l = m.ledger in
        let r = subst (λ (w : Mode). Reach l.table (registers_of l) (record { mode = w; events = l.judged }) p S.0 l.shown) s S.2 in
        (S.0, S.1, (persists l.table (registers_of l) l.judged X p S.0 l.shown r).2)
truth m n h Spilled i S H = S
truth m n h Full i S H = S
truth m n h Kept i S H =
    let l = m.ledger in
    (S.0, record { none = S.1; kept = λ f x. let r = (recognizes l.table (registers_of l) l.judged f).0 x in S.1 r.0 r.1 })

pub telling_on : TellingOn
telling_on m n [] S H = (truth m n [] m.ledger.phase refl S H, H)
telling_on m n (t ∷ h) S (o, d, H) = (truth m n (t ∷ h) m.ledger.phase refl S (o, d, H), (o, turns m o t.0 t.1 S d, telling_on o n h (sound m o t.0 t.1 S d) H))

pub telling : Telling
telling board book W h n H = telling_on (made board book W) n h (lasting.fresh_sound board book) H

judged_so : (m n : Moment) (h : Log) (H : History m h n) → Sound m.ledger → n.ledger.judged ≡ m.ledger.judged ++ judged_over m h n H
judged_so m n [] H S = (λ j. (H j).ledger.judged) ∙ sym (append-nil m.ledger.judged)
judged_so m n (t ∷ h) (o, d, H) S =
    judged_so o n h H (sound m o t.0 t.1 S d)
    ∙ ap (λ (z : List Event). z ++ judged_over o h n H) (turns m o t.0 t.1 S d).judged
    ∙ append_assoc m.ledger.judged (cond (judges t.1) (brought m.sources t.0) []) (judged_over o h n H)

pub judges_each_once : JudgesEachOnce
judges_each_once board book W h n H = judged_so (made board book W) n h H (lasting.fresh_sound board book)

-- a path that is written is one of a broken watch
wrote_broken : (l : Ledger) (page filled : List ℕ) (size : ℕ) (q : Phase) → wrote size filled ≡ on_page l page q → q ≡ Broken
wrote_broken l page filled size Blank e = let z : ◌≡◌ {A = ℕ} 0 1 = cc in absurd (omega arith)
wrote_broken l page filled size Running e = let z : ◌≡◌ {A = ℕ} 0 1 = cc in absurd (omega arith)
wrote_broken l page filled size Broken e = refl
wrote_broken l page filled size Spilled e = let z : ◌≡◌ {A = ℕ} 0 1 = cc in absurd (omega arith)
wrote_broken l page filled size Full e = let z : ◌≡◌ {A = ℕ} 0 1 = cc in absurd (omega arith)
wrote_broken l page filled size Kept e = let z : ◌≡◌ {A = ℕ} 0 1 = cc in absurd (omega arith)

pub one_run : OneRun
one_run m n [] H page filled size x = absurd (Memᴰ.not-nil x)
one_run m n (t ∷ h) (o, d, H) page filled size x = go (one_run o n h H page filled size) (Memᴰ.cases_cons x)
  where
    here : Does m (ask_path page) (wrote size filled) o → (n.ledger.phase ≡ Broken) × (wrote size filled ≡ path_on n.ledger page)
    here e =
        let b : m.ledger.phase ≡ Broken = wrote_broken m.ledger page filled size m.ledger.phase e.1 in
        let k : o.ledger ≡ m.ledger = (λ j. (e.0 j).ledger) in
        let same : n.ledger ≡ m.ledger = broken_lasts o n h (ap (λ (l : Ledger). l.phase) k ∙ b) H ∙ k in
        (ap (λ (l : Ledger). l.phase) same ∙ b, e.1 ∙ ap (λ (l : Ledger). path_on l page) (sym same))

    go : ((ask_path page, wrote size filled) ∈ h → (n.ledger.phase ≡ Broken) × (wrote size filled ≡ path_on n.ledger page)) →
        ((ask_path page, wrote size filled) ≡ t) ⊎ ((ask_path page, wrote size filled) ∈ h) → (n.ledger.phase ≡ Broken) × (wrote size filled ≡ path_on n.ledger page)
    go below (inl e) = here (subst (λ (u : Call × Answer). Does m u.0 u.1 o) (sym e) d)
    go below (inr y) = below y

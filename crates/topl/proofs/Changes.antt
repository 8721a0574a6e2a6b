-- What one call changes.
use Rattle.std.proofs.Common.{◌≡◌, ℕ, zero, suc, Bool, true, false, cond, ltb, List, [], ◌∷◌, ◌++◌, length, take, drop, set, Some, None, Ok, Err, Option, sym, refl, ap, ◌∙◌, subst, ⊎_elim, append-nil, arith}
use Rattle.std.specs.List.{slice_get}
use Rattle.kinds.specs.declared.phase.Phase.{Phase}
use Rattle.kinds.specs.declared.phase.Phase.TheVariants.{Blank, Running, Broken, Spilled, Full, Kept}
use Rattle.kinds.specs.declared.refusal.Reason.{Reason}
use Rattle.kinds.specs.declared.refusal.Refusal.{Refusal}
use Rattle.kinds.specs.declared.refusal.Reason.TheVariants.{Watch as of_watch}
use Rattle.kinds.specs.declared.watch_reason.WatchReason.TheVariants.{NotBegun, IsBroken, IsSpilled, IsFull, IsKept, SmallPage}
use Rattle.kinds.specs.Refusals.{Ending}
use Rattle.topl.specs.Lists.{Class}
use Rattle.topl.specs.Table.{Event, Table}
use Rattle.topl.specs.Runs.{closed, closing, settled}
use Rattle.topl.specs.Deciding.{Ruling, breaks, goes_on, overfills, spills}
use Rattle.topl.specs.Ledger.{Answer, Closes, Feeds, Ledger, Settles, Source, Takes, began, begin_reason, begun, draws_by, event_reason, no_event, no_source, on_page, opening_reason, passed_on, path_on, phase_reason, refusal, refuse, refused, rule, says, unwritten, verdict, with_event, wrote}
use Rattle.topl.specs.History.{Call, Does, Means, Moment, Sound, Turns, ask_path, ask_verdict, begun_as, begun_with, drawn_from, draws_at, first_of, is_running, judges, says_phase, to_begin, to_close, to_draw, to_feed}
use Rattle.topl.proofs.Calls.{fed_parts, closed_parts, begun_parts, not_refused, phase_runs}

-- the judged events, the arguments, and the phase that is said
pub record Changes (l : Ledger) (added : List Event) (r : Ledger × Answer) : Type 0 where
  pub judged : r.0.judged ≡ l.judged ++ cond (judges r.1) added []
  pub kept : begun_with r.0 ≡ begun_with l
  pub told : (p : Phase) (x : Option ℕ) → r.1 ≡ says p x → (r.0.phase ≡ p) × (r.0.position ≡ x)

nothing_said : (l : Ledger) (added : List Event) (a : Answer) (r : Ledger × Answer) → judges a ≡ false → ((p : Phase) (x : Option ℕ) → ¬ (a ≡ says p x)) → r ≡ (l, a) → Changes l added r
nothing_said l added a r j f e = subst (Changes l added) (sym e) (record {
  judged = sym (append-nil l.judged) ∙ ap (λ (b : Bool). l.judged ++ cond b added []) (sym j);
  kept = refl;
  told = λ p x i. absurd (f p x i);
})

refused_changes : (l : Ledger) (added : List Event) (f : Refusal) (r : Ledger × Answer) → r ≡ (l, refused f) → Changes l added r
refused_changes l added f r e = nothing_said l added (refused f) r refl (λ p x i. let z : ◌≡◌ {A = ℕ} 0 1 = cc in omega arith) e

module _ (l : Ledger) where
  fed_changes : (e : Event) (x : Ruling) (r : Ledger × Answer) → Settles l (with_event l e) Running x r → Changes l (e ∷ []) r
  fed_changes e (breaks p) r (path, A, i) = subst (Changes l (e ∷ [])) (sym i) (record { judged = refl; kept = refl; told = λ q x j. (cc, cc) })
  fed_changes e spills r i = subst (Changes l (e ∷ [])) (sym i) (record { judged = sym (append-nil l.judged); kept = refl; told = λ q x j. let z : ◌≡◌ {A = ℕ} 0 1 = cc in absurd (omega arith) })
  fed_changes e overfills r i = subst (Changes l (e ∷ [])) (sym i) (record { judged = sym (append-nil l.judged); kept = refl; told = λ q x j. let z : ◌≡◌ {A = ℕ} 0 1 = cc in absurd (omega arith) })
  fed_changes e goes_on r i = subst (Changes l (e ∷ [])) (sym i) (record { judged = refl; kept = refl; told = λ q x j. (cc, cc) })

  ended_changes : (x : Ruling) (r : Ledger × Answer) → Settles l (closing l.judged) Kept x r → Changes l [] r
  ended_changes (breaks p) r (path, A, i) = subst (Changes l []) (sym i) (record { judged = sym (append-nil l.judged); kept = refl; told = λ q x j. (cc, cc) })
  ended_changes spills r i = subst (Changes l []) (sym i) (record { judged = sym (append-nil l.judged); kept = refl; told = λ q x j. let z : ◌≡◌ {A = ℕ} 0 1 = cc in absurd (omega arith) })
  ended_changes overfills r i = subst (Changes l []) (sym i) (record { judged = sym (append-nil l.judged); kept = refl; told = λ q x j. let z : ◌≡◌ {A = ℕ} 0 1 = cc in absurd (omega arith) })
  ended_changes goes_on r i = subst (Changes l []) (sym i) (record { judged = sym (append-nil l.judged); kept = refl; told = λ q x j. (cc, cc) })

  pub feed_changes : (e : Event) (r : Ledger × Answer) → Feeds l e r → Changes l (e ∷ []) r
  feed_changes e r f = ⊎_elim (λ x. refused_changes l (e ∷ []) (refusal l x.0) r x.2) (λ x. fed_changes e (rule l (with_event l e)) r x.1) (fed_parts l e r f)

  pub close_changes : (r : Ledger × Answer) → Closes l r → Changes l [] r
  close_changes r f = ⊎_elim (λ x. refused_changes l [] (refusal l x.0) r x.2) (λ x. ended_changes (rule l (closing l.judged)) r x.1) (closed_parts l r f)

  -- whether the list has ended
  fed_mode : (e : Event) (x : Ruling) (r : Ledger × Answer) → l.mode ≡ settled → Settles l (with_event l e) Running x r → r.0.mode ≡ l.mode
  fed_mode e (breaks p) r s (path, A, i) = (λ j. (i j).0.mode) ∙ sym s
  fed_mode e spills r s i = λ j. (i j).0.mode
  fed_mode e overfills r s i = λ j. (i j).0.mode
  fed_mode e goes_on r s i = (λ j. (i j).0.mode) ∙ sym s

  running_settled : (q : Phase) → q ≡ Running → Means l q → l.mode ≡ settled
  running_settled q e S = (subst (Means l) e S).2

  pub feed_mode : (e : Event) (r : Ledger × Answer) → Sound l → Feeds l e r → r.0.mode ≡ l.mode
  feed_mode e r S f =
      ⊎_elim (λ x. λ j. (x.2 j).0.mode)
      (λ x. fed_mode e (rule l (with_event l e)) r (running_settled l.phase (phase_runs l.phase (not_refused l (phase_reason l.phase) (event_reason l.table e) x.0)) S) x.1) (fed_parts l e r f)

  ended_mode : (x : Ruling) (r : Ledger × Answer) → Settles l (closing l.judged) Kept x r → r.0.mode ≡ cond (says_phase r.1) closed l.mode
  ended_mode (breaks p) r (path, A, i) = subst (λ (r : Ledger × Answer). r.0.mode ≡ cond (says_phase r.1) closed l.mode) (sym i) refl
  ended_mode spills r i = subst (λ (r : Ledger × Answer). r.0.mode ≡ cond (says_phase r.1) closed l.mode) (sym i) refl
  ended_mode overfills r i = subst (λ (r : Ledger × Answer). r.0.mode ≡ cond (says_phase r.1) closed l.mode) (sym i) refl
  ended_mode goes_on r i = subst (λ (r : Ledger × Answer). r.0.mode ≡ cond (says_phase r.1) closed l.mode) (sym i) refl

  pub close_mode : (r : Ledger × Answer) → Closes l r → r.0.mode ≡ cond (says_phase r.1) closed l.mode
  close_mode r f =
      ⊎_elim (λ x. subst (λ (r : Ledger × Answer). r.0.mode ≡ cond (says_phase r.1) closed l.mode) (sym x.2) refl) (λ x. ended_mode (rule l (closing l.judged)) r x.1) (closed_parts l r f)

-- a begin that is not refused is one of a blank watch
blank_only : (q : Phase) (board book here wanted cap : ℕ) → opening_reason q board book here wanted cap ≡ None → q ≡ Blank
blank_only Blank board book here wanted cap e = refl
blank_only Running board book here wanted cap e = let z : ◌≡◌ {A = ℕ} 0 1 = cc in absurd (omega arith)
blank_only Broken board book here wanted cap e = let z : ◌≡◌ {A = ℕ} 0 1 = cc in absurd (omega arith)
blank_only Spilled board book here wanted cap e = let z : ◌≡◌ {A = ℕ} 0 1 = cc in absurd (omega arith)
blank_only Full board book here wanted cap e = let z : ◌≡◌ {A = ℕ} 0 1 = cc in absurd (omega arith)
blank_only Kept board book here wanted cap e = let z : ◌≡◌ {A = ℕ} 0 1 = cc in absurd (omega arith)

pub begin_turns : (m o : Moment) (P : Table) (ks : List Class) (cap : ℕ) (a : Answer) → Sound m.ledger → Does m (to_begin P ks cap) a o → Turns m (to_begin P ks cap) a o
begin_turns m o P ks cap a S d = ⊎_elim (λ x. refused_so x.0 x.2) (λ x. begun_so x.0 x.1) (begun_parts m.ledger P ks cap (o.ledger, a) d.0)
  where
    refused_so : (n : Reason) → ◌≡◌ {A = Ledger × Answer} (o.ledger, a) (m.ledger, refuse m.ledger n) → Turns m (to_begin P ks cap) a o
    refused_so n e =
        let c = refused_changes m.ledger [] (refusal m.ledger n) (o.ledger, a) e in
        record { does = d; arguments = (λ j. begun_with (e j).0) ∙ (λ j. begun_as (begun_with m.ledger) P ks cap (sym e j).1); told = c.told; judged = c.judged; sources = d.1; mode = λ j. (e j).0.mode }

    begun_so : begin_reason m.ledger P ks cap ≡ None → ◌≡◌ {A = Ledger × Answer} (o.ledger, a) (began m.ledger P ks cap, begun) → Turns m (to_begin P ks cap) a o
    begun_so h e =
        let B : Means m.ledger Blank = subst (Means m.ledger) (blank_only m.ledger.phase m.ledger.board m.ledger.book (length ks) (length P.constants) cap h) S in
        record {
          does = d;
          arguments = (λ j. begun_with (e j).0) ∙ (λ j. begun_as (begun_with m.ledger) P ks cap (sym e j).1);
          told = λ p x i. let k : begun ≡ says p x = (λ j. (sym e j).1) ∙ i in let z : ◌≡◌ {A = ℕ} 0 1 = cc in absurd (omega arith);
          judged = (λ j. (e j).0.judged) ∙ sym B.1 ∙ sym (append-nil m.ledger.judged) ∙ (λ j. m.ledger.judged ++ cond (judges (sym e j).1) [] []);
          sources = d.1;
          mode = (λ j. (e j).0.mode) ∙ sym B.2;
        }

pub feed_turns : (m o : Moment) (e : Event) (a : Answer) → Sound m.ledger → Does m (to_feed e) a o → Turns m (to_feed e) a o
feed_turns m o e a S d =
    let c = feed_changes m.ledger e (o.ledger, a) d.0 in
    record { does = d; arguments = c.kept; told = c.told; judged = c.judged; sources = d.1; mode = feed_mode m.ledger e (o.ledger, a) S d.0 }

pub close_turns : (m o : Moment) (a : Answer) → Does m to_close a o → Turns m to_close a o
close_turns m o a d =
    let c = close_changes m.ledger (o.ledger, a) d.0 in
    record { does = d; arguments = c.kept; told = c.told; judged = c.judged; sources = d.1; mode = close_mode m.ledger (o.ledger, a) d.0 }

-- draws
pub set_same : {X : Type 0} (xs : List X) (k : ℕ) (x : X) → slice_get xs k ≡ Some x → set xs k x ≡ xs
set_same [] k x e = let z : ◌≡◌ {A = ℕ} 0 1 = cc in absurd (omega arith)
set_same (y ∷ xs) zero x e = let i : x ≡ y = cc in ap (λ z. z ∷ xs) i
set_same (y ∷ xs) (suc k) x e = ap (λ zs. y ∷ zs) (set_same xs k x e)

record DrawChanges (l : Ledger) (s : Source) (r : Ledger × Answer) (s' : Source) : Type 0 where
  changes : Changes l (take 1 s.waiting) r
  source : s' ≡ cond (is_running l.phase) (record { waiting = drop 1 s.waiting; ending = s.ending }) s
  mode : r.0.mode ≡ l.mode

takes_changes : (l : Ledger) (es : List Event) (end : Ending) (r : Ledger × Answer) (s' : Source) → Sound l → l.phase ≡ Running → Takes l es end r s' → DrawChanges l (record { waiting = es; ending = end }) r s'
takes_changes l [] end r s' S i t = record {
  changes = passed end t.0;
  source = t.1 ∙ ap (λ (b : Bool). cond b (record { waiting = []; ending = end }) (record { waiting = []; ending = end })) (ap is_running (sym i));
  mode = λ j. (t.0 j).0.mode;
}
  where
    passed : (end : Ending) → r ≡ (l, passed_on end) → Changes l [] r
    passed (Ok _) e = nothing_said l [] no_event r refl (λ p x i. let z : ◌≡◌ {A = ℕ} 0 1 = cc in omega arith) e
    passed (Err f) e = refused_changes l [] f r e
takes_changes l (e ∷ es) end r s' S i t = record {
  changes = feed_changes l e r t.0;
  source = t.1 ∙ ap (λ (b : Bool). cond b (record { waiting = es; ending = end }) (record { waiting = e ∷ es; ending = end })) (ap is_running (sym i));
  mode = feed_mode l e r S t.0;
}

stays : (l : Ledger) (s s' : Source) (n : Reason) (r : Ledger × Answer) → r ≡ (l, refuse l n) → is_running l.phase ≡ false → s' ≡ s → DrawChanges l s r s'
stays l s s' n r e i k = record {
  changes = refused_changes l (take 1 s.waiting) (refusal l n) r e;
  source = k ∙ ap (λ (b : Bool). cond b (record { waiting = drop 1 s.waiting; ending = s.ending }) s) (sym i);
  mode = λ j. (e j).0.mode;
}

draws_changes : (l : Ledger) (s s' : Source) (r : Ledger × Answer) (q : Phase) → Sound l → l.phase ≡ q → draws_by (phase_reason q) l s r s' → DrawChanges l s r s'
draws_changes l s s' r Blank S i d = stays l s s' (of_watch NotBegun) r d.0 (ap is_running i) d.1
draws_changes l s s' r Running S i d = takes_changes l s.waiting s.ending r s' S i d
draws_changes l s s' r Broken S i d = stays l s s' (of_watch IsBroken) r d.0 (ap is_running i) d.1
draws_changes l s s' r Spilled S i d = stays l s s' (of_watch IsSpilled) r d.0 (ap is_running i) d.1
draws_changes l s s' r Full S i d = stays l s s' (of_watch IsFull) r d.0 (ap is_running i) d.1
draws_changes l s s' r Kept S i d = stays l s s' (of_watch IsKept) r d.0 (ap is_running i) d.1

module _ (m o : Moment) (k : ℕ) (a : Answer) (S : Sound m.ledger) where
  draw_turns_at : (u : Option Source) → slice_get m.sources k ≡ u → draws_at m k u a o →
      Changes m.ledger (first_of u) (o.ledger, a) × (o.sources ≡ cond (is_running m.ledger.phase) (drawn_from m.sources k u) m.sources) × (o.ledger.mode ≡ m.ledger.mode)
  draw_turns_at None i d =
      (nothing_said m.ledger [] no_source (o.ledger, a) refl (λ p x i. let z : ◌≡◌ {A = ℕ} 0 1 = cc in omega arith) (λ j. ((d.0 j).ledger, d.1 j)), (λ j. (d.0 j).sources) ∙ both (is_running m.ledger.phase), λ j. (d.0 j).ledger.mode)
    where
      both : (b : Bool) → m.sources ≡ cond b m.sources m.sources
      both true = refl
      both false = refl
  draw_turns_at (Some s) i d =
      let x = draws_changes m.ledger s d.0 (o.ledger, a) m.ledger.phase S refl d.1 in
      (x.changes, d.2 ∙ ap (set m.sources k) x.source ∙ which (is_running m.ledger.phase), x.mode)
    where
      which : (b : Bool) → set m.sources k (cond b (record { waiting = drop 1 s.waiting; ending = s.ending }) s) ≡ cond b (set m.sources k (record { waiting = drop 1 s.waiting; ending = s.ending })) m.sources
      which true = refl
      which false = set_same m.sources k s i

  pub draw_turns : Does m (to_draw k) a o → Turns m (to_draw k) a o
  draw_turns d =
      let x = draw_turns_at (slice_get m.sources k) refl d in
      record { does = d; arguments = x.0.kept; told = x.0.told; judged = x.0.judged; sources = x.1; mode = x.2 }

-- verdict and path
pages : (l : Ledger) (page : List ℕ) (q : Phase) (p : Phase) (x : Option ℕ) → (judges (on_page l page q) ≡ false) × (¬ (on_page l page q ≡ says p x))
pages l page Blank p x = (refl, λ i. let z : ◌≡◌ {A = ℕ} 0 1 = cc in omega arith)
pages l page Running p x = (refl, λ i. let z : ◌≡◌ {A = ℕ} 0 1 = cc in omega arith)
pages l page Spilled p x = (refl, λ i. let z : ◌≡◌ {A = ℕ} 0 1 = cc in omega arith)
pages l page Full p x = (refl, λ i. let z : ◌≡◌ {A = ℕ} 0 1 = cc in omega arith)
pages l page Kept p x = (refl, λ i. let z : ◌≡◌ {A = ℕ} 0 1 = cc in omega arith)
pages l page Broken p x = go (ltb (length page) (length l.shown))
  where
    go : (b : Bool) → (judges (cond b (unwritten (refusal l (of_watch SmallPage)) page) (wrote (length l.shown) (l.shown ++ drop (length l.shown) page))) ≡ false) ×
        (¬ (cond b (unwritten (refusal l (of_watch SmallPage)) page) (wrote (length l.shown) (l.shown ++ drop (length l.shown) page)) ≡ says p x))
    go true = (refl, λ i. let z : ◌≡◌ {A = ℕ} 0 1 = cc in omega arith)
    go false = (refl, λ i. let z : ◌≡◌ {A = ℕ} 0 1 = cc in omega arith)

asks : (m o : Moment) (c : Call) (a b : Answer) → (o ≡ m) × (a ≡ b) → judges b ≡ false → ((p : Phase) (x : Option ℕ) → ¬ (b ≡ says p x)) → Changes m.ledger [] (o.ledger, a)
asks m o c a b d j f = nothing_said m.ledger [] b (o.ledger, a) j f (λ i. ((d.0 i).ledger, d.1 i))

pub turns : (m o : Moment) (c : Call) (a : Answer) → Sound m.ledger → Does m c a o → Turns m c a o
turns m o (to_begin P ks cap) a S d = begin_turns m o P ks cap a S d
turns m o (to_feed e) a S d = feed_turns m o e a S d
turns m o (to_draw k) a S d = draw_turns m o k a S d
turns m o to_close a S d = close_turns m o a d
turns m o ask_verdict a S d =
    let c = asks m o ask_verdict a (verdict m.ledger) d refl (λ p x i. let z : ◌≡◌ {A = ℕ} 0 1 = cc in omega arith) in
    record { does = d; arguments = c.kept; told = c.told; judged = c.judged; sources = λ j. (d.0 j).sources; mode = λ j. (d.0 j).ledger.mode }
turns m o (ask_path page) a S d =
    let c = asks m o (ask_path page) a (path_on m.ledger page) d (pages m.ledger page m.ledger.phase Blank None).0 (λ p x. (pages m.ledger page m.ledger.phase p x).1) in
    record { does = d; arguments = c.kept; told = c.told; judged = c.judged; sources = λ j. (d.0 j).sources; mode = λ j. (d.0 j).ledger.mode }

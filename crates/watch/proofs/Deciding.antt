-- What a feed and a close that the deciding rule settles do to the ledger that a watch shows.
use Rattle.std.proofs.Common.{◌≡◌, ℕ, ◌<◌, min, List, [], ◌∷◌, ◌++◌, length, Some, None, Ok, Err, vec_items, Result, sym, refl, ap, ◌∙◌, subst, arith, length-append, Bor}
use Rattle.kinds.specs.declared.phase.Phase.{Phase}
use Rattle.kinds.specs.declared.phase.Phase.TheVariants as phases
use Rattle.kinds.specs.declared.refusal.Layer.TheVariants.{Watch}
use Rattle.kinds.specs.declared.refusal.Reason.TheVariants.{Watch as of_watch}
use Rattle.kinds.specs.declared.watch_reason.WatchReason.{WatchReason}
use Rattle.kinds.specs.declared.watch_reason.WatchReason.TheVariants.{IsSpilled, IsFull}
use Rattle.kinds.specs.declared.refusal.Refusal.{Refusal}
use Rattle.topl.specs.Lists.{Class}
use Rattle.topl.specs.Table as T
use Rattle.topl.specs.Runs.{World, Registers, so_far, closing}
use Rattle.topl.specs.Deciding as D
use Rattle.topl.specs.Theorems.{Steady}
use Rattle.topl.specs.Ledger.{Ledger, Answer, says, refuse, refused, registers_of, world_of, turned, broken_at, rule, event_reason, with_event, Settles, Feeds, Closes}
use Rattle.topl.specs.History.{Sound, Means}
use Rattle.topl.proofs.Bounded.{bounded}
use Rattle.topl.proofs.Calls.{feeds_ruled, closes_ruled}
use Rattle.topl.proofs.Lasting.{lasting}
use Rattle.engine.proofs.Cases.{never}
use Rattle.tables.specs.declared.table.Table.{Table}
use Rattle.tables.specs.Meant.{meant}
use Rattle.engine.specs.declared.front.Decision.{Decision}
use Rattle.engine.specs.declared.front.Decision.TheVariants.{Breaks, Spills, Overfills}
use Rattle.engine.specs.declared.state.State.{State}
use Rattle.engine.specs.Judging.{ruled}
use Rattle.engine.specs.States.{Follows, ComesTo, Stays}
use Rattle.engine.specs.Trails.{room_of, steps_by}
use Rattle.watch.specs.declared.held.Held.{Held}
use Rattle.watch.specs.declared.standing.Standing.{Standing}
use Rattle.watch.specs.declared.standing.Asked.{Asked}
use Rattle.watch.specs.declared.standing.Asked.TheVariants.{Event, End}
use Rattle.watch.specs.Answers.{told}
use Rattle.engine.specs.declared.front.Breach.{Breach}
use Rattle.watch.specs.declared.held.Stage.{Stage}
use Rattle.watch.specs.declared.held.Stage.TheVariants.{Running, Broken, Spilled, Full}
use Rattle.watch.specs.Stages.{phase_of, position_of}
use Rattle.watch.specs.Turning.{counted, rests, stands, in_stage, ruled_out, Turned}
use Rattle.watch.specs.Shows.{Agrees}

-- the phase where nothing decides
abbrev pub idle : Asked → Phase
idle Event = phases.Running
idle End = phases.Kept

module _ {V : Type 0} (class : V → Class) (s : State V) (h : Held) (l : Ledger) (sh : Agrees class s h l) where
  running : (x : Bor Table) → h.stage ≡ Running x → l.phase ≡ phases.Running
  running x i = sym sh.phase ∙ ap phase_of i

  module _ (run : l.phase ≡ phases.Running) where
    means : Means l phases.Running
    means = subst (Means l) run sh.sound

    -- the list is steady at the rows' own bounds
    steady : Steady l.table (registers_of l) s.grid.cap (room_of (vec_items s.grid.book.entries)) l.judged
    steady =
        let a : l.cap ≡ s.grid.cap = sym (sh.cap run) in
        let b : min l.book 16384 ≡ room_of (vec_items s.grid.book.entries) = ap (λ (n : ℕ). min n 16384) (sym sh.book) in
        subst (λ (n : ℕ). Steady l.table (registers_of l) s.grid.cap n l.judged) b (subst (λ (n : ℕ). Steady l.table (registers_of l) n (min l.book 16384) l.judged) a means.1)

    few : length l.judged < 16384
    few = let b = bounded l.table (registers_of l) l.cap (min l.book 16384) l.judged means.1 in omega arith

    -- the rows' ruling is the ledger's
    rule_is : (t : State V) (w : World) (d : Result (Unit {0}) Decision) → ComesTo s t l.table (registers_of l) l.judged w d → rule l w ≡ ruled d
    unfolding rule
    rule_is t w d C = sym (
        C.rules ∙ (λ j. D.decides l.table (registers_of l) (sh.cap run j) (min (sh.book j) 16384) (so_far l.judged) w)
        )

    -- as many events as are judged then
    judged_then : (asked : Asked) (w : World) → length w.events ≡ counted asked (length l.judged) → counted asked h.judged ≡ length w.events
    judged_then asked w n = ap (counted asked) sh.count ∙ sym n

    rests_phase : (asked : Asked) → phase_of (rests asked h.stage) ≡ idle asked
    rests_phase Event = sh.phase ∙ run
    rests_phase End = refl

    rests_nowhere : (asked : Asked) → position_of (rests asked h.stage) ≡ None
    rests_nowhere Event = sh.position ∙ means.0
    rests_nowhere End = refl

    rests_lent : (asked : Asked) (x : Bor Table) → rests asked h.stage ≡ Running x → l.table ≡ meant x.now
    rests_lent Event x e = sh.lent x e
    rests_lent End x e = absurd (never cc)

    rests_whole : (asked : Asked) (b : Breach) → rests asked h.stage ≡ Broken b → ⊥
    rests_whole Event b e = let f : phases.Running ≡ phases.Broken = sym (sh.phase ∙ run) ∙ ap phase_of e in never cc
    rests_whole End b e = never cc

    same_breach : (a b : Breach) → ◌≡◌ {A = Stage} (Broken a) (Broken b) → a ≡ b
    same_breach a b e = cc

    told_idle : (asked : Asked) → told (Ok (stands asked)) ≡ says (idle asked) None
    told_idle Event = refl
    told_idle End = refl

    -- the two refusals by the rule: the phase turns, and nothing else
    stopped : (q : Stage) (n : WatchReason) (t : State V) (k : Held) (r : Result Standing Refusal) (d : Result (Unit {0}) Decision) → (phase_of q ≡ phases.Running → ⊥) → (phase_of q ≡ phases.Broken → ⊥) → position_of q ≡ None →
        Stays s t d → k ≡ in_stage q h → r ≡ ruled_out h n → Sound (turned l (phase_of q) (world_of l)) → Agrees class t k (turned l (phase_of q) (world_of l)) × (told r ≡ refuse l (of_watch n))
    stopped q n t k r d runs breaks none stays e f S = (
      subst (λ (z : Held). Agrees class t z (turned l (phase_of q) (world_of l))) (sym e) (record {
        phase = refl;
        count = sh.count;
        position = none;
        board = stays.board ∙ sh.board;
        book = stays.book ∙ sh.book;
        sound = S;
        lawful = sh.lawful;
        lent = λ x i. absurd (runs (ap phase_of i));
        cap = λ i. absurd (runs i);
        follows = λ i. absurd (runs i);
        known = λ b i. absurd (breaks (ap phase_of i));
        shown = λ b i. absurd (breaks (ap phase_of i));
      }),
      ap told f ∙ ap (λ (c : ℕ). refused (record { layer = Watch; reason = of_watch n; place = c })) sh.count,
    )

    module _ (t : State V) (k : Held) (asked : Asked) (w : World) (r : Result Standing Refusal) (fills : length w.events ≡ counted asked (length l.judged)) where
      -- a turn of the watch is one of the ledger
      turned_by : (d : Result (Unit {0}) Decision) → Stays s t d → ComesTo s t l.table (registers_of l) l.judged w d → (d ≡ Ok tt → idle asked ≡ phases.Running → Follows class t l.table (registers_of l) w.events) →
          Turned h k d asked r → ((o : Ledger × Answer) → Settles l w (idle asked) (ruled d) o → Sound o.0) → (m : Ledger) × Agrees class t k m × Settles l w (idle asked) (ruled d) (m, told r)
      turned_by (Err (Breaks a)) stays C F u S =
          let path = steps_by (vec_items t.grid.book.entries) a.last in
          let m = broken_at l w a.position path in
          let says_so : told r ≡ says phases.Broken (Some a.position) = ap told u.1 in
          let o : Settles l w (idle asked) (D.breaks a.position) (m, told r) = (path, C.shown, λ j. (m, says_so j)) in (
            m,
            subst (λ (z : Held). Agrees class t z m) (sym u.0) (record {
              phase = refl;
              count = judged_then asked w fills;
              position = refl;
              board = stays.board ∙ sh.board;
              book = stays.book ∙ sh.book;
              sound = S (m, told r) o;
              lawful = sh.lawful;
              lent = λ y e. absurd (never cc);
              cap = λ e. absurd (never cc);
              follows = λ e. absurd (never cc);
              known = λ b e. subst (λ (z : Breach). z.last.parent < t.grid.book.used) (same_breach a b e) (stays.known a refl);
              shown = λ b e. ap (λ (z : Breach). steps_by (vec_items t.grid.book.entries) z.last) (same_breach a b e);
            }),
            o,
          )
      turned_by (Err Spills) stays C F u S =
          let m = turned l phases.Spilled (world_of l) in
          let z = stopped Spilled IsSpilled t k r (Err Spills) (λ e. never cc) (λ e. never cc) refl stays u.0 u.1 refl in
          (m, z.0, λ j. (m, z.1 j))
      turned_by (Err Overfills) stays C F u S =
          let m = turned l phases.Full (world_of l) in
          let z = stopped Full IsFull t k r (Err Overfills) (λ e. never cc) (λ e. never cc) refl stays u.0 u.1 refl in
          (m, z.0, λ j. (m, z.1 j))
      turned_by (Ok _) stays C F u S =
          let m = turned l (idle asked) w in
          let o : Settles l w (idle asked) D.goes_on (m, told r) = λ j. (m, (ap told u.1 ∙ told_idle asked) j) in (
            m,
            subst (λ (z : Held). Agrees class t z m) (sym u.0) (record {
              phase = rests_phase asked;
              count = judged_then asked w fills;
              position = rests_nowhere asked;
              board = stays.board ∙ sh.board;
              book = stays.book ∙ sh.book;
              sound = S (m, told r) o;
              lawful = sh.lawful;
              lent = rests_lent asked;
              cap = λ e. stays.cap ∙ sh.cap run;
              follows = λ e. F refl e;
              known = λ b e. absurd (rests_whole asked b e);
              shown = λ b e. absurd (rests_whole asked b e);
            }),
            o,
          )

  -- what the rows promise of an event, at the table that was lent
  abbrev pub Promise : T.Table → State V → ℕ → (List T.Event → World) → (State V → T.Table → Registers → List T.Event → Type 0) → Result (Unit {0}) Decision → Type 0
  Promise P t judged world Then d = (k : Registers) (L : List T.Event) → Steady P k s.grid.cap (room_of (vec_items s.grid.book.entries)) L → judged ≡ length L → Follows class s P k L →
      ComesTo s t P k L (world L) d × Then t P k L

  pub feed_ruled : (t : State V) (k : Held) (e : T.Event) (x : Bor Table) (d : Result (Unit {0}) Decision) (r : Result Standing Refusal) → h.stage ≡ Running x → event_reason (meant x.now) e ≡ None →
      Stays s t d → Promise (meant x.now) t h.judged (λ L. so_far (L ++ (e ∷ []))) (λ t P k L. d ≡ Ok tt → Follows class t P k (L ++ (e ∷ []))) d → Turned h k d Event r →
      (m : Ledger) × Agrees class t k m × Feeds l e (m, told r)
  feed_ruled t k e x d r p free stays rules u =
      let run = running x p in
      let tab : l.table ≡ meant x.now = sh.lent x p in
      let w = with_event l e in
      let none : event_reason l.table e ≡ None = ap (λ (P : T.Table). event_reason P e) tab ∙ free in
      let promise : Promise l.table t h.judged (λ L. so_far (L ++ (e ∷ []))) (λ t P k L. d ≡ Ok tt → Follows class t P k (L ++ (e ∷ []))) d =
      subst (λ (P : T.Table). Promise P t h.judged (λ L. so_far (L ++ (e ∷ []))) (λ t P k L. d ≡ Ok tt → Follows class t P k (L ++ (e ∷ []))) d) (sym tab) rules in
      let came = promise (registers_of l) l.judged (steady run) sh.count (sh.follows run) in
      let is = rule_is run t w d came.0 in
      let n = few run in
      let long = length-append l.judged (e ∷ []) in
      let feeds : (o : Ledger × Answer) → Settles l w phases.Running (ruled d) o → Feeds l e o = λ o y. feeds_ruled l e (ruled d) o run none is y in
      let z = turned_by run t k Event w r (omega arith) d stays came.0 (λ g v. came.1 g) u (λ o y. lasting.feed_sound l e o sh.sound (feeds o y)) in
      (z.0, z.1, feeds (z.0, told r) z.2)

  pub close_ruled : (t : State V) (k : Held) (x : Bor Table) (d : Result (Unit {0}) Decision) (r : Result Standing Refusal) → h.stage ≡ Running x → Stays s t d →
      ((k : Registers) (L : List T.Event) → Steady (meant x.now) k s.grid.cap (room_of (vec_items s.grid.book.entries)) L → h.judged ≡ length L → Follows class s (meant x.now) k L → ComesTo s t (meant x.now) k L (closing L) d) →
      Turned h k d End r → (m : Ledger) × Agrees class t k m × Closes l (m, told r)
  close_ruled t k x d r p stays rules u =
      let run = running x p in
      let tab : l.table ≡ meant x.now = sh.lent x p in
      let w = closing l.judged in
      let promise : (k : Registers) (L : List T.Event) → Steady l.table k s.grid.cap (room_of (vec_items s.grid.book.entries)) L → h.judged ≡ length L → Follows class s l.table k L → ComesTo s t l.table k L (closing L) d =
      subst (λ (P : T.Table). (k : Registers) (L : List T.Event) → Steady P k s.grid.cap (room_of (vec_items s.grid.book.entries)) L → h.judged ≡ length L → Follows class s P k L → ComesTo s t P k L (closing L) d) (sym tab) rules in
      let came = promise (registers_of l) l.judged (steady run) sh.count (sh.follows run) in
      let is = rule_is run t w d came in
      let closes : (o : Ledger × Answer) → Settles l w phases.Kept (ruled d) o → Closes l o = λ o y. closes_ruled l (ruled d) o run is y in
      let z = turned_by run t k End w r refl d stays came (λ g v. absurd (never cc)) u (λ o y. lasting.close_sound l o sh.sound (closes o y)) in
      (z.0, z.1, closes (z.0, told r) z.2)

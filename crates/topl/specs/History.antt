-- Histories of calls on one watch, and what is true of them.
use Rattle.std.specs.Prelude.{◌≡◌, ℕ, ◌+◌, ◌*◌, ◌/◌, ◌<◌, ◌≤◌, min, Bool, true, false, cond, ◌⊎◌, ◌↔◌, List, [], ◌∷◌, ◌++◌, map, take, drop, Some, None, Option, slice_set}
use Rattle.std.specs.List.{slice_get}
use Rattle.kinds.specs.declared.phase.Phase.{Phase}
use Rattle.kinds.specs.declared.phase.Phase.TheVariants.{Blank, Running, Broken, Spilled, Full, Kept}
use Rattle.kinds.specs.declared.refusal.Reason.TheVariants.{WildId, TooManyValues, Watch as of_watch}
use Rattle.kinds.specs.declared.watch_reason.WatchReason.TheVariants.{BegunAlready, BadCap, OtherConstants, SmallBoard, OtherArity}
use Rattle.topl.specs.Lists.{Class, ◌∈◌}
use Rattle.topl.specs.Automata.{HighLanguage}
use Rattle.topl.specs.Table.{Event, LawfulEvent, calls, most_values, Table, Lawful}
use Rattle.topl.specs.Translation.{letter, automaton_of}
use Rattle.topl.specs.Runs.{World, Mode, settled, closed, so_far, closing, ErrorAt}
use Rattle.topl.specs.Ledger.{Ledger, fresh, registers_of, world_of, Answer, begun, no_event, no_source, says, verdict_is, wrote, unwritten, refused, opening_reason, count_reason, phase_reason, event_reason, feed_reason, rule, with_event, Begins, Feeds, Closes, Source, Draws, Allowed, path_on, verdict}
use Rattle.topl.specs.Deciding.{breaks, spills, overfills, goes_on, decides}
use Rattle.topl.specs.Theorems.{Steady}

-- CALLS
-- A call with its arguments. A draw names its source by its place among the sources, a path hands over a page.
pub data Call : Type 0 where
  to_begin : Table → List Class → ℕ → Call
  to_feed : Event → Call
  to_draw : ℕ → Call
  to_close ask_verdict : Call
  ask_path : List ℕ → Call

-- what there is between two calls: the watch's ledger, and the sources
pub record Moment : Type 0 where
  pub ledger : Ledger
  pub sources : List Source

-- the moment at which a watch is made over a board and a book of these lengths
abbrev pub made : ℕ → ℕ → List Source → Moment
made board book sources = record { ledger = fresh board book; sources = sources }

-- a draw from the source at k, if there is one
abbrev pub draws_at : Moment → ℕ → Option Source → Answer → Moment → Type 0
draws_at m k None a o = (o ≡ m) × (a ≡ no_source)
draws_at m k (Some s) a o = (s' : Source) × Draws m.ledger s (o.ledger, a) s' × (o.sources ≡ slice_set m.sources k s')

-- at m the call is answered by a and leaves o
abbrev pub Does : Moment → Call → Answer → Moment → Type 0
Does m (to_begin P ks cap) a o = Begins m.ledger P ks cap (o.ledger, a) × (o.sources ≡ m.sources)
Does m (to_feed e) a o = Feeds m.ledger e (o.ledger, a) × (o.sources ≡ m.sources)
Does m (to_draw k) a o = draws_at m k (slice_get m.sources k) a o
Does m to_close a o = Closes m.ledger (o.ledger, a) × (o.sources ≡ m.sources)
Does m ask_verdict a o = (o ≡ m) × (a ≡ verdict m.ledger)
Does m (ask_path page) a o = (o ≡ m) × (a ≡ path_on m.ledger page)

-- calls with their answers
abbrev pub Log : Type 0
Log = List (Call × Answer)

-- the calls alone
abbrev pub calls_of : Log → List Call
calls_of h = map (λ t. t.0) h

-- A history: any list of calls, refused or not, each on what the one before left.
abbrev pub History : Moment → Log → Moment → Type 0
History m [] n = n ≡ m
History m (t ∷ h) n = (o : Moment) × Does m t.0 t.1 o × History o h n

-- WHAT ONE CALL CHANGES
-- the first event that waits at a source
abbrev pub first_of : Option Source → List Event
first_of None = []
first_of (Some s) = take 1 s.waiting

-- the event that a call brings: a feed its own, a draw the first that waits at its source
abbrev pub brought : List Source → Call → List Event
brought W (to_begin P ks cap) = []
brought W (to_feed e) = e ∷ []
brought W (to_draw k) = first_of (slice_get W k)
brought W to_close = []
brought W ask_verdict = []
brought W (ask_path page) = []

-- running or broken
abbrev pub judging : Phase → Bool
judging Blank = false
judging Running = true
judging Broken = true
judging Spilled = false
judging Full = false
judging Kept = false

-- is the event of a feed or a draw judged that is answered so
abbrev pub judges : Answer → Bool
judges begun = false
judges no_event = false
judges no_source = false
judges (says p x) = judging p
judges (verdict_is p n x) = false
judges (wrote n page) = false
judges (unwritten f page) = false
judges (refused f) = false

-- the sources after a draw from the one at k: its first event is gone, if there is one, and the rest and its ending are left
abbrev pub drawn_from : List Source → ℕ → Option Source → List Source
drawn_from W k None = W
drawn_from W k (Some s) = slice_set W k (record { waiting = drop 1 s.waiting; ending = s.ending })

-- is the watch running
abbrev pub is_running : Phase → Bool
is_running Blank = false
is_running Running = true
is_running Broken = false
is_running Spilled = false
is_running Full = false
is_running Kept = false

-- what a call leaves of the sources: only a draw takes anything, and only while the watch runs
abbrev pub left : Phase → List Source → Call → List Source
left p W (to_begin P ks cap) = W
left p W (to_feed e) = W
left p W (to_draw k) = cond (is_running p) (drawn_from W k (slice_get W k)) W
left p W to_close = W
left p W ask_verdict = W
left p W (ask_path page) = W

-- does the answer say a phase
abbrev pub says_phase : Answer → Bool
says_phase begun = false
says_phase no_event = false
says_phase no_source = false
says_phase (says p x) = true
says_phase (verdict_is p n x) = false
says_phase (wrote n page) = false
says_phase (unwritten f page) = false
says_phase (refused f) = false

-- has the list ended: a close that says a phase ends it
abbrev pub mode_after : Mode → Call → Answer → Mode
mode_after w (to_begin P ks cap) a = w
mode_after w (to_feed e) a = w
mode_after w (to_draw k) a = w
mode_after w to_close a = cond (says_phase a) closed w
mode_after w ask_verdict a = w
mode_after w (ask_path page) a = w

-- what a watch was begun with
abbrev pub Arguments : Type 0
Arguments = Table × List Class × ℕ

-- what the ledger says of it
abbrev pub begun_with : Ledger → Arguments
begun_with l = (l.table, l.constants, l.cap)

-- the arguments of the begin that was answered begun
abbrev pub begun_as : Arguments → Table → List Class → ℕ → Answer → Arguments
begun_as was P ks cap begun = (P, ks, cap)
begun_as was P ks cap no_event = was
begun_as was P ks cap no_source = was
begun_as was P ks cap (says p x) = was
begun_as was P ks cap (verdict_is p n x) = was
begun_as was P ks cap (wrote n page) = was
begun_as was P ks cap (unwritten f page) = was
begun_as was P ks cap (refused f) = was

-- and after any call
abbrev pub begun_by : Arguments → Call → Answer → Arguments
begun_by was (to_begin P ks cap) a = begun_as was P ks cap a
begun_by was (to_feed e) a = was
begun_by was (to_draw k) a = was
begun_by was to_close a = was
begun_by was ask_verdict a = was
begun_by was (ask_path page) a = was

-- One call: what it does by the ledger's rules, with what the watch is then begun, that a phase and a position which are said are the ledger's, what it
-- adds to the judged events, what it leaves of the sources, and whether it ends the list.
pub record Turns (m : Moment) (c : Call) (a : Answer) (o : Moment) : Type 0 where
  pub does : Does m c a o
  pub arguments : begun_with o.ledger ≡ begun_by (begun_with m.ledger) c a
  pub told : (p : Phase) (x : Option ℕ) → a ≡ says p x → (o.ledger.phase ≡ p) × (o.ledger.position ≡ x)
  pub judged : o.ledger.judged ≡ m.ledger.judged ++ cond (judges a) (brought m.sources c) []
  pub sources : o.sources ≡ left m.ledger.phase m.sources c
  pub mode : o.ledger.mode ≡ mode_after m.ledger.mode c a

-- WHAT A LEDGER KEEPS TRUE, by its phase
-- Blank: nothing is judged. Running: the judged list is steady. Broken: the shown run reaches `error` at the position, a settled run unless the list has
-- ended. Kept: no run of the closed list does. Only a broken ledger has a position.
abbrev pub Means : Ledger → Phase → Type 0
Means l Blank = (l.position ≡ None) × (l.judged ≡ []) × (l.mode ≡ settled)
Means l Running = (l.position ≡ None) × Steady l.table (registers_of l) l.cap (min l.book 16384) l.judged × (l.mode ≡ settled)
Means l Broken = (p : ℕ) × (l.position ≡ Some p) × Allowed l (world_of l) p l.shown
Means l Spilled = l.position ≡ None
Means l Full = l.position ≡ None
Means l Kept = (l.position ≡ None) × ((p : ℕ) → ¬ ErrorAt l.table (registers_of l) (closing l.judged) p)

-- the ledger keeps true what its phase says
abbrev pub Sound : Ledger → Type 0
Sound l = Means l l.phase

-- Every call keeps to it.
pub record StaysSound : Type 0 where
  pub fresh_sound : (board book : ℕ) → Sound (fresh board book)
  pub begin_sound : (l : Ledger) (P : Table) (ks : List Class) (cap : ℕ) (r : Ledger × Answer) → Sound l → Begins l P ks cap r → Sound r.0
  pub feed_sound : (l : Ledger) (e : Event) (r : Ledger × Answer) → Sound l → Feeds l e r → Sound r.0
  pub close_sound : (l : Ledger) (r : Ledger × Answer) → Sound l → Closes l r → Sound r.0
  pub draw_sound : (l : Ledger) (s s' : Source) (r : Ledger × Answer) → Sound l → Draws l s r s' → Sound r.0

-- WHAT IS TRUE AT A MOMENT, by its phase and the calls that follow
-- a list of events is in the language of the property's automaton
abbrev pub InLanguage : Ledger → List Event → Type 0
InLanguage l es = HighLanguage (automaton_of l.table (registers_of l)) (map letter es)

-- Broken at p: the shown run is a run of the judged list that reaches `error` there, and if a feed or a draw found it, of every list that begins with the
-- judged one; every path asked from now on is answered from it; the judged list, and in the second case every longer one, is in the language.
pub record BrokenTruth (l : Ledger) (p : ℕ) (later : Log) : Type 0 where
  pub placed : l.position ≡ Some p
  pub run : Allowed l (closing l.judged) p l.shown
  pub lasting : l.mode ≡ settled → (X : List Event) → Allowed l (closing (l.judged ++ X)) p l.shown
  pub asked : (page : List ℕ) (a : Answer) → (ask_path page, a) ∈ later → a ≡ path_on l page
  pub broken : Lawful l.table → InLanguage l l.judged
  pub for_good : Lawful l.table → l.mode ≡ settled → (X : List Event) → InLanguage l (l.judged ++ X)

-- Kept: no run of the judged list reaches `error`, and it is not in the language.
pub record KeptTruth (l : Ledger) : Type 0 where
  pub none : (p : ℕ) → ¬ ErrorAt l.table (registers_of l) (closing l.judged) p
  pub kept : Lawful l.table → ¬ InLanguage l l.judged

-- Running: no settled run of the judged list reaches `error`.
abbrev pub Truth : Ledger → Log → Phase → Type 0
Truth l later Blank = (l.position ≡ None) × (l.judged ≡ [])
Truth l later Running = (l.position ≡ None) × ((p : ℕ) → ¬ ErrorAt l.table (registers_of l) (so_far l.judged) p)
Truth l later Broken = (p : ℕ) × BrokenTruth l p later
Truth l later Spilled = l.position ≡ None
Truth l later Full = l.position ≡ None
Truth l later Kept = (l.position ≡ None) × KeptTruth l

-- the whole: this is true at every moment, and every call turns so
abbrev pub Whole : Moment → Log → Moment → Type 0
Whole m [] n = Truth m.ledger [] m.ledger.phase × (n ≡ m)
Whole m (t ∷ h) n = Truth m.ledger (t ∷ h) m.ledger.phase × ((o : Moment) × Turns m t.0 t.1 o × Whole o h n)

-- THE THEOREMS ON HISTORIES
-- Every history of a watch, from the moment at which it is made, is true as a whole.
abbrev pub Telling : Type 0
Telling = (board book : ℕ) (W : List Source) (h : Log) (n : Moment) → History (made board book W) h n → Whole (made board book W) h n

-- So is one from any moment with a sound ledger.
abbrev pub TellingOn : Type 0
TellingOn = (m n : Moment) (h : Log) → Sound m.ledger → History m h n → Whole m h n

-- the events that a history judges: of each feed and draw that is answered running or broken its own, in call order
abbrev pub judged_over : (m : Moment) (h : Log) (n : Moment) → History m h n → List Event
judged_over m [] n H = []
judged_over m (t ∷ h) n (o, d, H) = cond (judges t.1) (brought m.sources t.0) [] ++ judged_over o h n H

-- The judged list of a watch is exactly these.
abbrev pub JudgesEachOnce : Type 0
JudgesEachOnce = (board book : ℕ) (W : List Source) (h : Log) (n : Moment) (H : History (made board book W) h n) → n.ledger.judged ≡ judged_over (made board book W) h n H

-- A draw that the phase allows takes the first waiting event, and leaves the rest and the ending; one that it refuses leaves the source and the ledger.
abbrev pub DrawsTakeOne : Type 0
DrawsTakeOne =
    (l : Ledger) (s s' : Source) (r : Ledger × Answer) → Draws l s r s' →
    (l.phase ≡ Running → s' ≡ record { waiting = drop 1 s.waiting; ending = s.ending }) × (¬ (l.phase ≡ Running) → (s' ≡ s) × (r.0 ≡ l))

-- Where no refusal comes first, the phase after a feed or a close is what the deciding rule says of the list w, and idle if it decides nothing.
pub record PhaseByRule (l : Ledger) (w : World) (idle : Phase) (r : Ledger × Answer) : Type 0 where
  pub is_broken : (p : ℕ) → ((r.0.phase ≡ Broken) × (r.0.position ≡ Some p)) ↔ (rule l w ≡ breaks p)
  pub is_spilled : (r.0.phase ≡ Spilled) ↔ (rule l w ≡ spills)
  pub is_full : (r.0.phase ≡ Full) ↔ (rule l w ≡ overfills)
  pub is_idle : (r.0.phase ≡ idle) ↔ (rule l w ≡ goes_on)

-- It holds for a feed and for a close.
abbrev pub Ruled : Type 0
Ruled =
    ((l : Ledger) (e : Event) (r : Ledger × Answer) → feed_reason l e ≡ None → Feeds l e r → PhaseByRule l (with_event l e) Running r) ×
    ((l : Ledger) (r : Ledger × Answer) → phase_reason l.phase ≡ None → Closes l r → PhaseByRule l (closing l.judged) Kept r)

-- The rule counts the entries of the book, and 16,384 where it has more.
abbrev pub BooksCount : Type 0
BooksCount =
    (l : Ledger) (w : World) →
    (l.book ≤ 16384 → rule l w ≡ decides l.table (registers_of l) l.cap l.book (so_far l.judged) w) ×
    (16384 ≤ l.book → rule l w ≡ decides l.table (registers_of l) l.cap 16384 (so_far l.judged) w)

-- All paths that a history writes are those of one run, the one that the ledger keeps at its end.
abbrev pub OneRun : Type 0
OneRun =
    (m n : Moment) (h : Log) → History m h n → (page filled : List ℕ) (size : ℕ) → (ask_path page, wrote size filled) ∈ h →
    (n.ledger.phase ≡ Broken) × (wrote size filled ≡ path_on n.ledger page)

-- Every call has an answer at every moment, and so every list of calls has a history.
abbrev pub Answered : Type 0
Answered =
    ((m : Moment) (c : Call) → (a : Answer) × (o : Moment) × Does m c a o) ×
    ((m : Moment) (cs : List Call) → (h : Log) × (n : Moment) × (calls_of h ≡ cs) × History m h n)

-- the ledger without its shown run
abbrev pub bare : Ledger → Ledger
bare l =
    record { board = l.board; book = l.book; phase = l.phase; table = l.table; constants = l.constants; cap = l.cap; judged = l.judged; mode = l.mode; position = l.position; shown = [] }

-- two moments differ in the shown run alone
abbrev pub SameButShown : Moment → Moment → Type 0
SameButShown m n = (bare m.ledger ≡ bare n.ledger) × (m.sources ≡ n.sources)

-- the answer, left out where a path was asked
abbrev pub but_paths : Call → Answer → Answer
but_paths (to_begin P ks cap) a = a
but_paths (to_feed e) a = a
but_paths (to_draw k) a = a
but_paths to_close a = a
but_paths ask_verdict a = a
but_paths (ask_path page) a = no_event

-- Only the shown run is free: two histories of the same calls, from moments that differ in it alone, have the same answers but to paths, and lead to
-- moments that differ in it alone.
abbrev pub Determined : Type 0
Determined =
    (m m' n n' : Moment) (h h' : Log) → SameButShown m m' → calls_of h ≡ calls_of h' → History m h n → History m' h' n' →
    (map (λ t. but_paths t.0 t.1) h ≡ map (λ t. but_paths t.0 t.1) h') × SameButShown n n'

-- REFUSALS: each is answered exactly if its condition holds and no earlier one does.
module _ (phase : Phase) (board book given wanted cap : ℕ) where
  -- the cap is 1 to 64
  abbrev pub CapFits : Type 0
  CapFits = (0 < cap) × (cap ≤ 64)

  -- the board has its 40 × cap + 64 values, and the book an entry
  abbrev pub HasRoom : Type 0
  HasRoom = (40 * cap + 64 ≤ board) × (0 < book)

  -- a begin tries 21 to 24 in order
  pub record BeginRefusals : Type 0 where
    pub is_21 : (opening_reason phase board book given wanted cap ≡ Some (of_watch BegunAlready)) ↔ (¬ (phase ≡ Blank))
    pub is_22 : (opening_reason phase board book given wanted cap ≡ Some (of_watch BadCap)) ↔ ((phase ≡ Blank) × (¬ CapFits))
    pub is_23 : (opening_reason phase board book given wanted cap ≡ Some (of_watch OtherConstants)) ↔ ((phase ≡ Blank) × (CapFits × (¬ (given ≡ wanted))))
    pub is_24 : (opening_reason phase board book given wanted cap ≡ Some (of_watch SmallBoard)) ↔ ((phase ≡ Blank) × (CapFits × ((given ≡ wanted) × (¬ HasRoom))))
    pub is_none : (opening_reason phase board book given wanted cap ≡ None) ↔ ((phase ≡ Blank) × (CapFits × ((given ≡ wanted) × HasRoom)))

module _ (P : Table) (id n : ℕ) where
  -- a call of a declared method with another count of values than its arity
  abbrev pub WrongCount : Type 0
  WrongCount = (calls id ≡ true) × ((m : ℕ × ℕ) × (m ∈ P.methods) × (id / 2 ≡ m.0) × (¬ (n ≡ m.1)))

  -- a feed and a draw try 4, 5 and 30 in order, after the phase
  pub record EventRefusals : Type 0 where
    pub is_4 : (count_reason P id n ≡ Some WildId) ↔ (131071 < id)
    pub is_5 : (count_reason P id n ≡ Some TooManyValues) ↔ ((id ≤ 131071) × (most_values id < n))
    pub is_30 : (count_reason P id n ≡ Some (of_watch OtherArity)) ↔ ((id ≤ 131071) × ((n ≤ most_values id) × WrongCount))
    pub is_none : (count_reason P id n ≡ None) ↔ ((id ≤ 131071) × ((n ≤ most_values id) × (¬ WrongCount)))

-- Both hold for all numbers; and of a lawful event, as every source hands over, only the arity can be refused.
abbrev pub Refusing : Type 0
Refusing =
    ((phase : Phase) (board book given wanted cap : ℕ) → BeginRefusals phase board book given wanted cap) × ((P : Table) (id n : ℕ) → EventRefusals P id n) ×
    ((P : Table) (e : Event) → LawfulEvent e → (event_reason P e ≡ None) ⊎ (event_reason P e ≡ Some (of_watch OtherArity)))

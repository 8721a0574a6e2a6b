-- The ledger with which a watch is compared: what it keeps, what each call answers and what it leaves.
use Rattle.std.specs.Prelude.{◌≡◌, ℕ, ◌+◌, ◌*◌, ◌/◌, min, Bool, true, false, cond, not, ◌&&◌, ◌||◌, List, [], ◌∷◌, ◌++◌, length, drop, replicate, Some, None, Ok, Err, Option, ◌==◌, nat_lt, slice_set}
use Rattle.kinds.specs.declared.phase.Phase.{Phase}
use Rattle.kinds.specs.declared.phase.Phase.TheVariants.{Blank, Running, Broken, Spilled, Full, Kept}
use Rattle.kinds.specs.declared.refusal.Layer.TheVariants.{Watch}
use Rattle.kinds.specs.declared.refusal.Reason.{Reason}
use Rattle.kinds.specs.declared.refusal.Reason.TheVariants.{WildId, TooManyValues, Watch as of_watch}
use Rattle.kinds.specs.declared.watch_reason.WatchReason.TheVariants.{NotBegun, BegunAlready, BadCap, OtherConstants, SmallBoard, OtherArity, IsBroken, IsSpilled, IsFull, IsKept, NotBroken, SmallPage}
use Rattle.kinds.specs.declared.refusal.Refusal.{Refusal}
use Rattle.kinds.specs.Refusals.{Ending}
use Rattle.topl.specs.Lists.{Class, nothing}
use Rattle.topl.specs.Table.{Event, calls, most_values, Table, empty_table, register_count, error}
use Rattle.topl.specs.Runs.{Registers, Configuration, Mode, settled, World, so_far, closing, Reach}
use Rattle.topl.specs.Deciding.{Ruling, breaks, spills, overfills, goes_on, decides}

-- values put into registers, one after the other
abbrev pub sets : Registers → List ℕ → List Class → Registers
sets s [] vs = s
sets s (r ∷ rs) [] = s
sets s (r ∷ rs) (v ∷ vs) = sets (slice_set s r v) rs vs

-- the registers at the start: the constants in theirs, and nothing in the others
abbrev pub initial : Table → List Class → Registers
initial P ks = sets (replicate register_count nothing) P.constants ks

-- WHAT IT KEEPS
-- The lengths of board and book, the phase, the arguments of begin, and the judged events. The mode tells whether the list has ended: of a broken watch,
-- whether a close found it, or a feed or a draw. Once broken, the deciding position and the steps of the shown run.
pub record Ledger : Type 0 where
  pub board : ℕ
  pub book : ℕ
  pub phase : Phase
  pub table : Table
  pub constants : List Class
  pub cap : ℕ
  pub judged : List Event
  pub mode : Mode
  pub position : Option ℕ
  pub shown : List ℕ

-- the ledger of a watch that is made over a board and a book of these lengths
abbrev pub fresh : ℕ → ℕ → Ledger
fresh board book =
    record { board = board; book = book; phase = Blank; table = empty_table; constants = []; cap = 0; judged = []; mode = settled; position = None; shown = [] }

-- the judged events, as a list that has ended or not
abbrev pub world_of : Ledger → World
world_of l = record { mode = l.mode; events = l.judged }

-- the registers with which its runs begin
abbrev pub registers_of : Ledger → Registers
registers_of l = initial l.table l.constants

-- the ledger in another phase, with another list
abbrev pub turned : Ledger → Phase → World → Ledger
turned l p w =
    record { board = l.board; book = l.book; phase = p; table = l.table; constants = l.constants; cap = l.cap; judged = w.events; mode = w.mode; position = None; shown = [] }

-- the ledger broken at a position, with the run to show
abbrev pub broken_at : Ledger → World → ℕ → List ℕ → Ledger
broken_at l w p path =
    record { board = l.board; book = l.book; phase = Broken; table = l.table; constants = l.constants; cap = l.cap; judged = w.events; mode = w.mode; position = Some p; shown = path }

-- WHAT IT ANSWERS
-- A begin: begun. A feed, a draw or a close: the phase, with the position if it is broken. A draw: also that no event is left, or that there is no such
-- source. A verdict: the phase, the judged count, and the position if it is broken. A path: the count of steps and the page after, or the page as it was
-- with a refusal. Every call but a verdict: a refusal.
pub data Answer : Type 0 where
  begun no_event no_source : Answer
  says : Phase → Option ℕ → Answer
  verdict_is : Phase → ℕ → Option ℕ → Answer
  wrote : ℕ → List ℕ → Answer
  unwritten : Refusal → List ℕ → Answer
  refused : Refusal → Answer

-- a refusal of the watch is placed at the judged count
abbrev pub refusal : Ledger → Reason → Refusal
refusal l n = record { layer = Watch; reason = n; place = length l.judged }

-- the answer that refuses so
abbrev pub refuse : Ledger → Reason → Answer
refuse l n = refused (refusal l n)

-- REFUSALS, in the order in which they are tried
abbrev pub reason_if : Bool → Reason → Option Reason → Option Reason
reason_if b n later = cond b (Some n) later

-- is the watch blank
abbrev pub is_blank : Phase → Bool
is_blank Blank = true
is_blank Running = false
is_blank Broken = false
is_blank Spilled = false
is_blank Full = false
is_blank Kept = false

-- of a begin by the phase, the lengths of board and book, the counts of constants given and wanted, and the cap
abbrev pub opening_reason : Phase → ℕ → ℕ → ℕ → ℕ → ℕ → Option Reason
opening_reason phase board book given wanted cap =
    reason_if (not (is_blank phase)) (of_watch BegunAlready)
    (reason_if (cap == 0 || nat_lt 64 cap) (of_watch BadCap)
    (reason_if (not (given == wanted)) (of_watch OtherConstants)
    (reason_if (nat_lt board (40 * cap + 64) || book == 0) (of_watch SmallBoard) None)))

-- the same at a ledger
abbrev pub begin_reason : Ledger → Table → List Class → ℕ → Option Reason
begin_reason l P ks cap = opening_reason l.phase l.board l.book (length ks) (length P.constants) cap

-- of a feed, a draw or a close by the phase
abbrev pub phase_reason : Phase → Option Reason
phase_reason Blank = Some (of_watch NotBegun)
phase_reason Running = None
phase_reason Broken = Some (of_watch IsBroken)
phase_reason Spilled = Some (of_watch IsSpilled)
phase_reason Full = Some (of_watch IsFull)
phase_reason Kept = Some (of_watch IsKept)

-- has some declared method this id's number, and another arity than n
abbrev pub other_arity : List (ℕ × ℕ) → ℕ → ℕ → Bool
other_arity [] id n = false
other_arity (m ∷ ms) id n = (id / 2 == m.0 && not (n == m.1)) || other_arity ms id n

-- of an event by its id and the count of its values
abbrev pub count_reason : Table → ℕ → ℕ → Option Reason
count_reason P id n =
    reason_if (nat_lt 131071 id) WildId
    (reason_if (nat_lt (most_values id) n) TooManyValues
    (reason_if (calls id && other_arity P.methods id n) (of_watch OtherArity) None))

-- the same of an event
abbrev pub event_reason : Table → Event → Option Reason
event_reason P e = count_reason P e.id (length e.values)

-- the first of two reasons
abbrev pub or_reason : Option Reason → Option Reason → Option Reason
or_reason (Some n) later = Some n
or_reason None later = later

-- of a feed: first by the phase, then by the event
abbrev pub feed_reason : Ledger → Event → Option Reason
feed_reason l e = or_reason (phase_reason l.phase) (event_reason l.table e)

-- WHAT A CALL DOES
-- a call that may be refused: then the ledger stays as it is; else what it does
abbrev pub unless : Ledger → Option Reason → (Ledger × Answer → Type 0) → Ledger × Answer → Type 0
unless l (Some n) does r = r ≡ (l, refuse l n)
unless l None does r = does r

-- begin keeps its arguments and sets running
abbrev pub began : Ledger → Table → List Class → ℕ → Ledger
began l P ks cap =
    record { board = l.board; book = l.book; phase = Running; table = P; constants = ks; cap = cap; judged = []; mode = settled; position = None; shown = [] }

-- what a begin does
abbrev pub Begins : Ledger → Table → List Class → ℕ → Ledger × Answer → Type 0
Begins l P ks cap r = unless l (begin_reason l P ks cap) (λ r. r ≡ (began l P ks cap, begun)) r

-- the deciding rule at the ledger's arguments; a book of more than 16,384 entries counts as one of 16,384
unfoldable pub rule : Ledger → World → Ruling
unfolding decides
rule l now = decides l.table (registers_of l) l.cap (min l.book 16384) (so_far l.judged) now

-- these are the steps of a run that reaches `error` at p
abbrev pub Allowed : Ledger → World → ℕ → List ℕ → Type 0
Allowed l w p path = (c : Configuration) × (c.state ≡ error) × Reach l.table (registers_of l) w p c path

-- What a ruling does, where w is the list that then counts as judged and idle the phase if nothing decides. Broken: any run that reaches `error` at the
-- position may be shown. Spilled and full: the list stays as it was, and the call is refused.
abbrev pub Settles : Ledger → World → Phase → Ruling → Ledger × Answer → Type 0
Settles l w idle (breaks p) r = (path : List ℕ) × Allowed l w p path × (r ≡ (broken_at l w p path, says Broken (Some p)))
Settles l w idle spills r = r ≡ (turned l Spilled (world_of l), refuse l (of_watch IsSpilled))
Settles l w idle overfills r = r ≡ (turned l Full (world_of l), refuse l (of_watch IsFull))
Settles l w idle goes_on r = r ≡ (turned l idle w, says idle None)

-- the judged events with one more
abbrev pub with_event : Ledger → Event → World
with_event l e = so_far (l.judged ++ (e ∷ []))

-- A feed looks at the judged events with the new one and at settled runs; if nothing decides the watch runs on.
abbrev pub Feeds : Ledger → Event → Ledger × Answer → Type 0
Feeds l e r = unless l (feed_reason l e) (Settles l (with_event l e) Running (rule l (with_event l e))) r

-- A close looks at the judged events as a list that has ended; if nothing decides the property is kept.
abbrev pub Closes : Ledger → Ledger × Answer → Type 0
Closes l r = unless l (phase_reason l.phase) (Settles l (closing l.judged) Kept (rule l (closing l.judged))) r

-- a source: the events that wait, and how it ends: at its end, or by one refusal
pub record Source : Type 0 where
  pub waiting : List Event
  pub ending : Ending

-- what a draw from a source with no event answers
abbrev pub passed_on : Ending → Answer
passed_on (Ok _) = no_event
passed_on (Err r) = refused r

-- a draw that the phase allows feeds the first event that waits, which is gone from the source even if it is refused
abbrev pub Takes : Ledger → List Event → Ending → Ledger × Answer → Source → Type 0
Takes l [] end r s = (r ≡ (l, passed_on end)) × (s ≡ record { waiting = []; ending = end })
Takes l (e ∷ es) end r s = Feeds l e r × (s ≡ record { waiting = es; ending = end })

-- one that the phase refuses leaves the source as it is
abbrev pub draws_by : Option Reason → Ledger → Source → Ledger × Answer → Source → Type 0
draws_by (Some n) l s r s' = (r ≡ (l, refuse l n)) × (s' ≡ s)
draws_by None l s r s' = Takes l s.waiting s.ending r s'

-- a draw: the ledger and a source before, the ledger, the answer and the source after
abbrev pub Draws : Ledger → Source → Ledger × Answer → Source → Type 0
Draws l s r s' = draws_by (phase_reason l.phase) l s r s'

-- Verdict and path only ask. A verdict tells the phase, the judged count, and the position if it is broken.
abbrev pub verdict : Ledger → Answer
verdict l = verdict_is l.phase (length l.judged) l.position

-- A path writes the steps of the shown run into the front of the page, one byte a step, and leaves the rest of it; 41 compares its steps with the page.
abbrev pub on_page : Ledger → List ℕ → Phase → Answer
on_page l page Blank = unwritten (refusal l (of_watch NotBroken)) page
on_page l page Running = unwritten (refusal l (of_watch NotBroken)) page
on_page l page Spilled = unwritten (refusal l (of_watch NotBroken)) page
on_page l page Full = unwritten (refusal l (of_watch NotBroken)) page
on_page l page Kept = unwritten (refusal l (of_watch NotBroken)) page
on_page l page Broken =
    cond (nat_lt (length page) (length l.shown)) (unwritten (refusal l (of_watch SmallPage)) page) (wrote (length l.shown) (l.shown ++ drop (length l.shown) page))

-- the same at the phase of the ledger
abbrev pub path_on : Ledger → List ℕ → Answer
path_on l page = on_page l page l.phase

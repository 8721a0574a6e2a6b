-- Runs of a property over a list of events.
use Rattle.std.specs.Prelude.{◌≡◌, ℕ, zero, suc, ◌+◌, ◌<◌, Bool, true, false, cond, not, ◌&&◌, List, [], ◌∷◌, ◌++◌, map, length, drop, ◌==◌, slice_set}
use Rattle.topl.specs.Lists.{Class, alike, same_class, ◌∈◌, each, once}
use Rattle.topl.specs.Table.{Event, at, places, Pattern, Any, Write, Same, Differs, Matcher, any_event, event_of, Statement, Table, numbered, matchers, span, start, error}

-- the classes that the registers hold
abbrev pub Registers : Type 0
Registers = List Class

-- does a value fit a pattern, under the registers from before the event
abbrev pub fits : Registers → Class → Pattern → Bool
fits s v Any = true
fits s v (Write r) = true
fits s v (Same r) = same_class (at s r) v
fits s v (Differs r) = not (same_class (at s r) v)

-- the registers once a pattern has written
abbrev pub written : Registers → Class → Pattern → Registers
written s v Any = s
written s v (Write r) = slice_set s r v
written s v (Same r) = s
written s v (Differs r) = s

-- do the places from j on fit the patterns; all of them read the same registers
abbrev pub fits_all : Registers → List Class → ℕ → List Pattern → Bool
fits_all s vs j [] = true
fits_all s vs j (p ∷ ps) = fits s (at vs j) p && fits_all s vs (suc j) ps

-- the registers once all patterns have written
abbrev pub written_all : Registers → List Class → ℕ → List Pattern → Registers
written_all s vs j [] = s
written_all s vs j (p ∷ ps) = written_all (written s (at vs j) p) vs (suc j) ps

-- does the event meet the matcher
abbrev pub meets : Registers → Event → Matcher → Bool
meets s e any_event = true
meets s e (event_of i ps) = i == e.id && fits_all s (places e) 0 ps

-- the registers after the event's writes
abbrev pub writes : Registers → Event → Matcher → Registers
writes s e any_event = s
writes s e (event_of i ps) = written_all s (places e) 0 ps

-- A statement passes, leaving these registers, fails, or hangs.
pub data Outcome : Type 0 where
  passes : Registers → Outcome
  fails hangs : Outcome

-- How it fares on the events that come next, of which only those that have come are listed: it passes if all its events have come and meet their
-- matchers in turn, fails if one has come that does not, those before it having met theirs, and hangs otherwise.
abbrev pub fares : List Matcher → Registers → List Event → Outcome
fares [] s es = passes s
fares (m ∷ ms) s [] = hangs
fares (m ∷ ms) s (e ∷ es) = cond (meets s e m) (fares ms (writes s e m) es) fails

-- A configuration: a state and what the registers hold. It is over classes, so two are equal exactly if the states are and every register is the same by
-- the kind.
pub record Configuration : Type 0 where
  pub state : ℕ
  pub registers : Registers

-- May more events come, so that runs are settled, or has the list ended?
pub data Mode : Type 0 where
  settled closed : Mode

-- the events that have come, and whether more may come
pub record World : Type 0 where
  pub mode : Mode
  pub events : List Event

-- the judged events while more may come
abbrev pub so_far : List Event → World
so_far es = record { mode = settled; events = es }

-- the judged events once the list has ended
abbrev pub closing : List Event → World
closing es = record { mode = closed; events = es }

-- what each statement leaving the state has to do for a skip: fail in a settled run, not pass in a run of a list that has ended
abbrev pub LetsSkip : Mode → Outcome → Type 0
LetsSkip settled o = o ≡ fails
LetsSkip closed o = (s : Registers) → ¬ (o ≡ passes s)

-- how a numbered statement fares at p
abbrev pub outcome_of : World → ℕ → Configuration → ℕ × Statement → Outcome
outcome_of w p c t = fares (matchers t.1) c.registers (drop p w.events)

-- the statement is one of the property's, and leaves the state
abbrev pub Leaves : Table → Configuration → ℕ × Statement → Type 0
Leaves P c t = (t ∈ numbered P) × (t.1.source ≡ c.state)

-- A move from p and c, by its step: the statement's number, or 0 for a skip. A passing statement moves to its target, past its events. A skip moves past
-- one event that has come and changes nothing else.
pub data Move (P : Table) (w : World) (p : ℕ) (c : Configuration) : ℕ → ℕ → Configuration → Type 0 where
  pass : (t : ℕ × Statement) (s : Registers) → Leaves P c t → outcome_of w p c t ≡ passes s →
      Move P w p c t.0 (p + span t.1) (record { state = t.1.target; registers = s })
  skip : p < length w.events → ((t : ℕ × Statement) → Leaves P c t → LetsSkip w.mode (outcome_of w p c t)) →
      Move P w p c 0 (suc p) c

-- where every run begins
abbrev pub first_configuration : Registers → Configuration
first_configuration k = record { state = start; registers = k }

-- A run makes moves from the start; it reaches this configuration at this position by these steps.
pub data Reach (P : Table) (k : Registers) (w : World) : ℕ → Configuration → List ℕ → Type 0 where
  at_start : Reach P k w 0 (first_configuration k) []
  onward : {p q n : ℕ} {c d : Configuration} {path : List ℕ} → Reach P k w p c path → Move P w p c n q d → Reach P k w q d (path ++ (n ∷ []))

-- some run reaches it
abbrev pub Reaches : Table → Registers → World → ℕ → Configuration → Type 0
Reaches P k w p c = (path : List ℕ) × Reach P k w p c path

-- some run reaches `error` at p
abbrev pub ErrorAt : Table → Registers → World → ℕ → Type 0
ErrorAt P k w p = (c : Configuration) × (c.state ≡ error) × Reaches P k w p c

-- THE ENUMERATION: the runs that lead to a position, and the configurations that they reach there.
-- are two configurations equal
abbrev pub alikeᶜ : Configuration → Configuration → Bool
alikeᶜ c d = c.state == d.state && alike same_class c.registers d.registers

-- a run: the configuration that it has reached, and its steps
abbrev pub Run : Type 0
Run = Configuration × List ℕ

-- where a move leads: its step, the position and the configuration
abbrev pub Landing : Type 0
Landing = ℕ × ℕ × Configuration

-- where a statement with this outcome leads
abbrev pub landing_of : ℕ → ℕ × Statement → Outcome → List Landing
landing_of p t (passes s) = (t.0, p + span t.1, record { state = t.1.target; registers = s }) ∷ []
landing_of p t fails = []
landing_of p t hangs = []

-- does this outcome let a skip go on
abbrev pub calm : Mode → Outcome → Bool
calm settled (passes s) = false
calm settled fails = true
calm settled hangs = false
calm closed (passes s) = false
calm closed fails = true
calm closed hangs = true

-- where one statement leads from c at p, if it leaves the state and passes
abbrev pub lands : World → ℕ → Configuration → ℕ × Statement → List Landing
lands w p c t = cond (t.1.source == c.state) (landing_of p t (outcome_of w p c t)) []

-- whether it lets a skip go on
abbrev pub calms : World → ℕ → Configuration → ℕ × Statement → Bool
calms w p c t = cond (t.1.source == c.state) (calm w.mode (outcome_of w p c t)) true

-- where some statements lead
abbrev pub passing : World → ℕ → Configuration → List (ℕ × Statement) → List Landing
passing w p c [] = []
passing w p c (t ∷ ts) = lands w p c t ++ passing w p c ts

-- whether all of them let a skip go on
abbrev pub quiet : World → ℕ → Configuration → List (ℕ × Statement) → Bool
quiet w p c [] = true
quiet w p c (t ∷ ts) = calms w p c t && quiet w p c ts

-- is there an event
abbrev pub has_come : {X : Type 0} → List X → Bool
has_come [] = false
has_come (e ∷ es) = true

-- where a skip leads
abbrev pub skips : Table → World → ℕ → Configuration → List Landing
skips P w p c = cond (has_come (drop p w.events) && quiet w p c (numbered P)) ((0, suc p, c) ∷ []) []

-- where all moves from c at p lead
abbrev pub moves : Table → World → ℕ → Configuration → List Landing
moves P w p c = skips P w p c ++ passing w p c (numbered P)

-- a run goes on by those that land at q
abbrev pub onto : ℕ → List ℕ → List Landing → List Run
onto q path [] = []
onto q path (m ∷ ms) = cond (m.1 == q) ((m.2, path ++ (m.0 ∷ [])) ∷ onto q path ms) (onto q path ms)

-- the runs that come to q from layers of runs, of which the last is at position 0
abbrev pub arrivals : Table → World → ℕ → List (List Run) → List Run
arrivals P w q [] = []
arrivals P w q (l ∷ ls) = each (λ r. onto q r.1 (moves P w (length ls) r.0)) l ++ arrivals P w q ls

-- the runs to p, to p - 1, and so on to 0
unfoldable pub layers : Table → Registers → World → ℕ → List (List Run)
layers P k w zero = ((first_configuration k, []) ∷ []) ∷ []
layers P k w (suc p) = let before = layers P k w p in arrivals P w (suc p) before ∷ before

-- the first of the layers
abbrev pub top : List (List Run) → List Run
top [] = []
top (l ∷ ls) = l

-- each run that leads to p
unfoldable pub runs : Table → Registers → World → ℕ → List Run
unfolding layers
runs P k w p = top (layers P k w p)

-- each configuration that is reached at p, once
unfoldable pub reached : Table → Registers → World → ℕ → List Configuration
unfolding runs
reached P k w p = once alikeᶜ (map (λ r. r.0) (runs P k w p))

-- What holds of a property text as far as it was read.
use Rattle.std.proofs.Common.{◌≡◌, ℕ, ◌+◌, ◌<◌, ◌≤◌, Bool, true, false, ◌⊎◌, List, map, length, get_or, ap, ◌∙◌, arith}
use Rattle.std.specs.Prelude.{All}
use Rattle.topl.specs.Lists.{◌∈◌, each, Distinct}
use Rattle.topl.specs.declared.pattern.Pattern.{Pattern}
use Rattle.topl.specs.declared.pattern.Pattern.TheVariants as patterns
use Rattle.property.specs.Cursors.{one_if, wrote}
use Rattle.property.specs.Grammar.{wants}
use Rattle.property.specs.States.{Declared, Key, Property, State}
use Rattle.property.specs.declared.cursor.Cursor.{Cursor}
use Rattle.property.specs.declared.cursor.Partial.{Partial}
use Rattle.property.specs.declared.spot.Inner.{Inner}
use Rattle.property.specs.declared.spot.Inner.TheVariants as inners
use Rattle.property.specs.declared.spot.Label.{Label}
use Rattle.property.specs.declared.spot.Label.TheVariants as labels
use Rattle.property.specs.declared.spot.Line.{Line}
use Rattle.property.specs.declared.spot.Line.TheVariants as lines
use Rattle.property.specs.declared.spot.Spot.{Spot}
use Rattle.property.specs.declared.spot.Spot.TheVariants as spots
use Rattle.property.specs.declared.table.Event.{Event}
use Rattle.property.specs.declared.table.Event.TheVariants as events
use Rattle.property.specs.declared.table.Slot.{Slot}
use Rattle.property.specs.declared.table.Statement.{Statement}
use Rattle.limits.specs.Limits.{writes, PatternFits, SlotFits, EventFits, MethodFits, states}
use Rattle.limits.specs.Tables.{spanned}

-- A statement as far as it was read, under these methods, so many states and these registers; a and b say whether `start` and `error` have been written.
pub record Partly (ms : List Declared) (n : ℕ) (gs : List Key) (a b : Bool) (s : Statement) : Type 0 where
  pub few : s.span ≤ 4
  pub four : length s.events ≡ 4
  pub from : s.source < n
  pub to : s.target < n
  pub leaves : s.source ≡ 1 → ⊥
  pub fit : All (EventFits ms gs) (spanned s)
  pub starts : s.source ≡ 0 → a ≡ true
  pub errs : s.target ≡ 1 → b ≡ true

-- The same, under a property.
abbrev pub Read : Property → Bool → Bool → Statement → Type 0
Read P a b s = Partly P.methods (states P) P.registers a b s

-- Methods within the limits.
pub record MethodsKept (ms : List Declared) : Type 0 where
  pub few : length ms ≤ 32
  pub fit : All MethodFits ms
  pub names_apart : Distinct (map (λ m. m.name) ms)
  pub numbers_apart : Distinct (map (λ m. m.number) ms)

-- States within the limits: ws are those besides `start` and `error`.
pub record StatesKept (ws : List (List ℕ)) (a b : Bool) : Type 0 where
  pub few : length ws + (one_if a + one_if b) ≤ 16
  pub apart : Distinct ws

-- Registers within the limits.
pub record RegistersKept (gs : List Key) : Type 0 where
  pub few : length gs ≤ 8
  pub apart : Distinct gs

-- A statement that was read whole.
pub record Whole (P : Property) (a b : Bool) (s : Statement) : Type 0 where
  pub some : 1 ≤ s.span
  pub read : Read P a b s

-- A property as far as it was read.
pub record Kept (P : Property) (a b : Bool) : Type 0 where
  pub methods : MethodsKept P.methods
  pub states : StatesKept P.others a b
  pub registers : RegistersKept P.registers
  pub few_statements : length P.statements ≤ 64
  pub statements_fit : All (Whole P a b) P.statements

-- The same, of a position.
abbrev pub Sofar : State → Type 0
Sofar p = Kept p.sofar p.cursor.starts p.cursor.errs

-- A statement is being read, and there is room for it.
pub record Stated (P : Property) (a b : Bool) (s : Statement) : Type 0 where
  pub room : length P.statements < 64
  pub read : Read P a b s

-- The parameters of a label: those that write registers are flagged, and no two write one.
pub record Slotted (gs : List Key) (ws : List Bool) (ss : List Slot) : Type 0 where
  pub five : length ss ≡ 5
  pub fit : All (SlotFits gs) ss
  pub once : Distinct (each writes ss)
  pub flagged : (r : ℕ) → r ∈ each writes ss → wrote ws r ≡ true

-- A label as far as it was read.
pub record Labelled (gs : List Key) (l : Partial) : Type 0 where
  pub eight : length l.written ≡ 8
  pub slotted : Slotted gs l.written l.slots
  pub returned : SlotFits gs l.returned

-- A label has a declared method.
abbrev pub Named : List Declared → Partial → Type 0
Named ms l = (m : Declared) × (m ∈ ms) × (m.number ≡ l.number) × (m.arity ≡ l.arity)

-- A pattern of a label comes next, or is being read: the returned one, or one of a named method's.
pub record InPattern (P : Property) (a b : Bool) (s : Statement) (l : Partial) : Type 0 where
  pub stated : Stated P a b s
  pub labelled : Labelled P.registers l
  pub called : (l.count ≡ 0) ⊎ Named P.methods l

-- A returned pattern has been read, and the method comes next.
pub record InReturn (P : Property) (a b : Bool) (s : Statement) (l : Partial) : Type 0 where
  pub stated : Stated P a b s
  pub labelled : Labelled P.registers l

-- A method has been named.
pub record InCall (P : Property) (a b : Bool) (s : Statement) (l : Partial) : Type 0 where
  pub stated : Stated P a b s
  pub labelled : Labelled P.registers l
  pub named : Named P.methods l

-- The same, of a cursor.
abbrev pub Amid : Property → Cursor → Type 0
Amid P u = InPattern P u.starts u.errs u.statement u.label

abbrev pub Returned : Property → Cursor → Type 0
Returned P u = InReturn P u.starts u.errs u.statement u.label

abbrev pub Called : Property → Cursor → Type 0
Called P u = InCall P u.starts u.errs u.statement u.label

-- There is room for a method of this name, which no method has.
pub record NewName (ms : List Declared) (w : List ℕ) : Type 0 where
  pub room : length ms < 32
  pub other : ¬ (w ∈ map (λ m. m.name) ms)

-- A number of a method, which no method has.
pub record NewNumber (ms : List Declared) (n : ℕ) : Type 0 where
  pub small : n ≤ 65535
  pub other : ¬ (n ∈ map (λ m. m.number) ms)

-- What holds besides in a line.
abbrev pub AtLine : Line → State → Type 0
AtLine lines.Ending p = Unit {0}
AtLine lines.Fresh p = Unit {0}
AtLine lines.MethodName p = length p.sofar.methods < 32
AtLine lines.MethodNumber p = NewName p.sofar.methods p.word
AtLine (lines.MethodArity n) p = NewName p.sofar.methods p.word × NewNumber p.sofar.methods n

-- A statement is being read, of a position.
abbrev pub Begun : State → Type 0
Begun p = Stated p.sofar p.cursor.starts p.cursor.errs p.cursor.statement

-- What holds besides in a label.
abbrev pub AtLabel : Label → State → Type 0
AtLabel labels.Begin p = Begun p
AtLabel labels.Star p = Begun p
AtLabel labels.Becomes p = Returned p.sofar p.cursor
AtLabel labels.Equals p = Returned p.sofar p.cursor
AtLabel labels.Callee p = Returned p.sofar p.cursor
AtLabel labels.Open p = Called p.sofar p.cursor
AtLabel labels.Comma p = Called p.sofar p.cursor
AtLabel labels.End p = Begun p × (1 ≤ p.cursor.statement.span)

-- What holds besides in a pattern: after `!` and `<` the name that comes in the bytes s has a register, or there is room for one.
abbrev pub AtInner : Inner → State → List ℕ → Type 0
AtInner inners.Returned p s = Amid p.sofar p.cursor
AtInner inners.First p s = Amid p.sofar p.cursor × Named p.sofar.methods p.cursor.label
AtInner inners.Param p s = Amid p.sofar p.cursor
AtInner (inners.Negated n) p s = Amid p.sofar p.cursor × (wants p.sofar false s ≡ false)
AtInner (inners.Quoted n) p s = Amid p.sofar p.cursor × (wants p.sofar true s ≡ false)
AtInner inners.Unquote p s = Returned p.sofar p.cursor × ((p.cursor.label.count ≡ 1) ⊎ Named p.sofar.methods p.cursor.label)

-- What holds besides at a spot, with the bytes s to come.
abbrev pub At : Spot → State → List ℕ → Type 0
At (spots.Head h) p s = Unit {0}
At (spots.Line l) p s = AtLine l p
At (spots.Route r) p s = Begun p
At (spots.Label l) p s = AtLabel l p
At (spots.Inner i) p s = AtInner i p s

-- What holds of a text as far as it was read, with the bytes s to come.
pub record Good (p : State) (s : List ℕ) : Type 0 where
  pub kept : Sofar p
  pub here : At p.cursor.spot p s

-- More methods, states and registers: those that were there stay.
pub record Grows (P Q : Property) : Type 0 where
  pub methods : (m : Declared) → m ∈ P.methods → m ∈ Q.methods
  pub states : length P.others ≤ length Q.others
  pub registers : (r : ℕ) → r < length P.registers → r < length Q.registers
  pub same : (r : ℕ) (d : Key) → r < length P.registers → get_or Q.registers r d ≡ get_or P.registers r d

module _ (P Q : Property) (g : Grows P Q) where
  -- Patterns, events, statements and labels that fit still fit.
  pattern_grows : (x : Pattern ℕ) → PatternFits P.registers x → PatternFits Q.registers x
  pattern_grows patterns.Any h = tt
  pattern_grows (patterns.Write r) h = (g.registers r h.0, λ d. ap (λ (k : Key). k.constant) (g.same r d h.0) ∙ h.1 d)
  pattern_grows (patterns.Same r) h = g.registers r h
  pattern_grows (patterns.Differs r) h = g.registers r h

  event_grows : (e : Event) → EventFits P.methods P.registers e → EventFits Q.methods Q.registers e
  event_grows events.Any h = tt
  event_grows (events.Calls c) h = record {
    declared = (h.declared.0, g.methods h.declared.0 h.declared.1, h.declared.2, h.declared.3);
    five = h.five;
    fit = λ k d l. pattern_grows _ (h.fit k d l);
    once = h.once;
  }
  event_grows (events.Returns a) h = record {
    declared = (h.declared.0, g.methods h.declared.0 h.declared.1, h.declared.2);
    fits = pattern_grows _ h.fits;
  }

  module _ (a b a' b' : Bool) (start : a ≡ true → a' ≡ true) (error : b ≡ true → b' ≡ true) where
    pub read_grows : (s : Statement) → Read P a b s → Read Q a' b' s
    read_grows s h =
        let m = g.states in
        let f = h.from in
        let t = h.to in
        let f' : s.source < states Q = omega arith in
        let t' : s.target < states Q = omega arith in
        record {
          few = h.few;
          four = h.four;
          from = f';
          to = t';
          leaves = h.leaves;
          fit = λ k d l. event_grows _ (h.fit k d l);
          starts = λ e. start (h.starts e);
          errs = λ e. error (h.errs e);
        }

    pub whole_grows : (s : Statement) → Whole P a b s → Whole Q a' b' s
    whole_grows s h = record { some = h.some; read = read_grows s h.read }

    pub all_grow : (ss : List Statement) → All (Whole P a b) ss → All (Whole Q a' b') ss
    all_grow ss h k d l = whole_grows _ (h k d l)

    pub stated_grows : length Q.statements ≡ length P.statements → (s : Statement) → Stated P a b s → Stated Q a' b' s
    stated_grows e s h = let r = h.room in let r' : length Q.statements < 64 = omega arith in record { room = r'; read = read_grows s h.read }

  pub labelled_grows : (l : Partial) → Labelled P.registers l → Labelled Q.registers l
  labelled_grows l h = record {
    eight = h.eight;
    slotted = record { five = h.slotted.five; fit = λ k d i. pattern_grows _ (h.slotted.fit k d i); once = h.slotted.once; flagged = h.slotted.flagged };
    returned = pattern_grows _ h.returned;
  }

  pub named_grows : (l : Partial) → Named P.methods l → Named Q.methods l
  named_grows l h = (h.0, g.methods h.0 h.1, h.2, h.3)

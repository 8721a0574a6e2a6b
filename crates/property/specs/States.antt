-- What a property text has written as far as it was read, and what each piece adds.
use Rattle.std.specs.Prelude.{ℕ, ◌+◌, Bool, true, false, cond, not, ◌&&◌, ◌||◌, List, [], ◌∷◌, ◌++◌, length, codes, ◌==◌, nat_eq, nat_le, nat_lt, slice_index_or}
use Rattle.std.specs.List.{list_any, position_or_len}
use Rattle.forms.specs.Bytes.{capital, value}
use Rattle.property.specs.Cursors.{opened, sourced, targeted, one_if, origin, to, labelled, stated, seen, naming, writing, filled, met, finished}
use Rattle.property.specs.Words.{same, lowered, first_byte}
use Rattle.property.specs.declared.cursor.Cursor.{Cursor}
use Rattle.property.specs.declared.spot.Head.{Head}
use Rattle.property.specs.declared.spot.Head.TheVariants as heads
use Rattle.property.specs.declared.spot.Inner.{Inner}
use Rattle.property.specs.declared.spot.Inner.TheVariants as inners
use Rattle.property.specs.declared.spot.Kind.{Kind}
use Rattle.property.specs.declared.spot.Kind.TheVariants as kinds
use Rattle.property.specs.declared.spot.Label.{Label}
use Rattle.property.specs.declared.spot.Label.TheVariants as labels
use Rattle.property.specs.declared.spot.Line.{Line}
use Rattle.property.specs.declared.spot.Line.TheVariants as lines
use Rattle.property.specs.declared.spot.Route.{Route}
use Rattle.property.specs.declared.spot.Route.TheVariants as routes
use Rattle.property.specs.declared.spot.Spot.{Spot}
use Rattle.property.specs.declared.spot.Spot.TheVariants as spots
use Rattle.property.specs.declared.table.Event.TheVariants as events
use Rattle.topl.specs.declared.pattern.Pattern.{Pattern}
use Rattle.topl.specs.declared.pattern.Pattern.TheVariants as patterns
use Rattle.property.specs.declared.table.Statement.{Statement}

-- A declared method.
pub record Declared : Type 0 where
  pub name : List ℕ
  pub number : ℕ
  pub arity : ℕ

-- A register: a constant, or a variable by its name without the case of its first letter.
pub record Key : Type 0 where
  pub constant : Bool
  pub name : List ℕ

-- A property: its name, its methods, its states but for `start` and `error`, its registers and its statements, each in the order of first appearance.
pub record Property : Type 0 where
  pub name : List ℕ
  pub methods : List Declared
  pub others : List (List ℕ)
  pub registers : List Key
  pub statements : List Statement

-- A property as far as its text was read: the cursor, a name that waits for its use, and the property so far.
pub record State : Type 0 where
  pub cursor : Cursor
  pub word : List ℕ
  pub sofar : Property

-- Before the text.
abbrev pub nothing_read : State
nothing_read = record { cursor = origin; word = []; sofar = record { name = []; methods = []; others = []; registers = []; statements = [] } }

-- Going on with a cursor.
abbrev pub at : Cursor → State → State
at c p = record { cursor = c; word = p.word; sofar = p.sofar }

abbrev pub turned : Spot → State → State
turned s p = at (to s p.cursor) p

-- The property with its name, a method, a state, a register, a statement more.
abbrev pub named : List ℕ → Property → Property
named w P = record { name = w; methods = P.methods; others = P.others; registers = P.registers; statements = P.statements }

abbrev pub with_method : Declared → Property → Property
with_method m P = record { name = P.name; methods = P.methods ++ m ∷ []; others = P.others; registers = P.registers; statements = P.statements }

abbrev pub with_state : List ℕ → Property → Property
with_state w P = record { name = P.name; methods = P.methods; others = P.others ++ w ∷ []; registers = P.registers; statements = P.statements }

abbrev pub with_register : Key → Property → Property
with_register k P = record { name = P.name; methods = P.methods; others = P.others; registers = P.registers ++ k ∷ []; statements = P.statements }

abbrev pub with_statement : Statement → Property → Property
with_statement s P = record { name = P.name; methods = P.methods; others = P.others; registers = P.registers; statements = P.statements ++ s ∷ [] }

-- STATES. `start` is 0, `error` is 1, and the others follow; all past the fifteenth have one number, since no text may have so many.
abbrev pub is_start : List ℕ → Bool
is_start w = same w (codes "start")

abbrev pub is_error : List ℕ → Bool
is_error w = same w (codes "error")

abbrev pub state_number : List (List ℕ) → List ℕ → ℕ
state_number ws w = cond (is_start w) 0 (cond (is_error w) 1 (cond (nat_lt (position_or_len (same w) ws) 14) (2 + position_or_len (same w) ws) 16))

-- A state that is neither `start` nor `error` and was not written yet.
abbrev pub fresh_other : List (List ℕ) → List ℕ → Bool
fresh_other ws w = not (is_start w) && (not (is_error w) && position_or_len (same w) ws == length ws)

-- The property with the state w written in it.
abbrev pub visited : List ℕ → Property → Property
visited w P = cond (fresh_other P.others w) (with_state w P) P

-- The cursor, where the state w is written.
abbrev pub visiting : List ℕ → Cursor → Cursor
visiting w c = seen (c.starts || is_start w) (c.errs || is_error w) c

-- How many states have been written.
abbrev pub state_count : State → ℕ
state_count p = length p.sofar.others + (one_if p.cursor.starts + one_if p.cursor.errs)

-- The state w would be the seventeenth.
abbrev pub crowded : State → List ℕ → Bool
crowded p w =
    nat_le 16 (state_count p) && (fresh_other p.sofar.others w || ((is_start w && not p.cursor.starts) || (is_error w && not p.cursor.errs)))

-- REGISTERS
abbrev pub same_key : Key → Key → Bool
same_key a b = cond a.constant (b.constant && same a.name b.name) (not b.constant && same a.name b.name)

abbrev pub constant_key : List ℕ → Key
constant_key w = record { constant = true; name = w }

abbrev pub variable_key : List ℕ → Key
variable_key w = record { constant = false; name = lowered w }

abbrev pub key : Bool → List ℕ → Key
key true w = constant_key w
key false w = variable_key w

-- The register of a key, and whether it has none yet.
abbrev pub register_of : Property → Key → ℕ
register_of P k = position_or_len (same_key k) P.registers

abbrev pub new_key : Property → Key → Bool
new_key P k = register_of P k == length P.registers

-- The property with a register for the key.
abbrev pub holding : Key → Property → Property
holding k P = cond (new_key P k) (with_register k P) P

-- The key needs a ninth register.
abbrev pub ninth : Property → Key → Bool
ninth P k = new_key P k && nat_le 8 (length P.registers)

-- METHODS
-- The place of the method of a name, or how many there are.
abbrev pub method_place : Property → List ℕ → ℕ
method_place P w = position_or_len (λ m. same w m.name) P.methods

abbrev pub method_in : List Declared → List ℕ → Declared
method_in ms w = slice_index_or ms (position_or_len (λ m. same w m.name) ms) (record { name = []; number = 0; arity = 0 })

abbrev pub method_of : Property → List ℕ → Declared
method_of P w = method_in P.methods w

-- PATTERNS
-- A pattern of a register is read, which began at place k.
abbrev pub patterned : Key → (ℕ → Pattern ℕ) → ℕ → State → State
patterned key f k p =
    record { cursor = filled (record { pattern = f (register_of p.sofar key); place = k }) p.cursor; word = p.word; sofar = holding key p.sofar }

-- A variable is read: with a capital first letter it is written.
abbrev pub variable : List ℕ → ℕ → State → State
variable w k p =
    cond (capital (first_byte w))
    (patterned (variable_key w) patterns.Write k (at (labelled (writing (register_of p.sofar (variable_key w)) p.cursor.label) p.cursor) p))
    (patterned (variable_key w) patterns.Same k p)

-- A pattern begins with the byte c at place k.
abbrev pub begins : List ℕ → ℕ → ℕ → State → State
begins w c k p =
    cond (c == 42) (at (filled (record { pattern = patterns.Any; place = k }) p.cursor) p)
    (cond (c == 33) (turned (spots.Inner (inners.Negated k)) p)
    (cond (c == 60) (turned (spots.Inner (inners.Quoted k)) p) (variable w k p)))

-- A label that stands for the call and the return begins, with its returned pattern.
abbrev pub whole_begins : List ℕ → ℕ → ℕ → State → State
whole_begins w c k p = begins w c k (at (labelled (opened kinds.Both 0) p.cursor) p)

-- LINES
-- A statement ends.
abbrev pub ends_statement : State → State
ends_statement p = record { cursor = to (spots.Line lines.Fresh) p.cursor; word = p.word; sofar = with_statement p.cursor.statement p.sofar }

-- The line declares a method: its first word is `method`, and no statement came before it.
abbrev pub declares : State → List ℕ → Bool
declares p w = same w (codes "method") && length p.sofar.statements == 0

-- The source and the target of a statement are read.
abbrev pub leaving : List ℕ → State → State
leaving w p = record {
  cursor = to (spots.Route routes.Minus) (stated (sourced (state_number p.sofar.others w)) (visiting w p.cursor));
  word = p.word;
  sofar = visited w p.sofar;
}

abbrev pub reaching : List ℕ → State → State
reaching w p = record {
  cursor = to (spots.Route routes.Colon) (stated (targeted (state_number p.sofar.others w) p.cursor.statement) (visiting w p.cursor));
  word = p.word;
  sofar = visited w p.sofar;
}

-- The method of a label is read.
abbrev pub callee_at : Kind → Cursor → Cursor
callee_at kinds.Call c = to (spots.Label labels.Open) c
callee_at kinds.Both c = to (spots.Label labels.Open) c
callee_at kinds.Return c = finished c

abbrev pub calling : List ℕ → State → State
calling w p =
    at (callee_at p.cursor.label.kind (labelled (naming (method_of p.sofar w).number (method_of p.sofar w).arity p.cursor.label) p.cursor)) p

-- Before the keyword of the first line, and in it.
abbrev pub margin : ℕ → Cursor → Cursor
margin c u = cond (c == 32) u (to (spots.Head (heads.Keyword 1)) u)

abbrev pub after_letter : ℕ → Head
after_letter n = cond (nat_lt n 7) (heads.Keyword (n + 1)) heads.Gap

-- The number that digits write; all over 65,535 stand as one, since no text may have them.
abbrev pub capped : List ℕ → ℕ
capped w = cond (nat_le (value w) 65535) (value w) 65536

-- WHAT A PIECE DOES at each spot: w are its bytes, c is the first of them, k its place.
abbrev pub head_moved : Head → State → List ℕ → ℕ → State
head_moved heads.Margin p w c = at (margin c p.cursor) p
head_moved (heads.Keyword n) p w c = turned (spots.Head (after_letter n)) p
head_moved heads.Gap p w c = turned (spots.Head heads.Title) p
head_moved heads.Title p w c = record { cursor = to (spots.Line lines.Ending) p.cursor; word = p.word; sofar = named w p.sofar }

abbrev pub line_moved : Line → State → List ℕ → State
line_moved lines.Ending p w = turned (spots.Line lines.Fresh) p
line_moved lines.Fresh p w = cond (declares p w) (turned (spots.Line lines.MethodName) p) (leaving w p)
line_moved lines.MethodName p w = record { cursor = to (spots.Line lines.MethodNumber) p.cursor; word = w; sofar = p.sofar }
line_moved lines.MethodNumber p w = turned (spots.Line (lines.MethodArity (capped w))) p
line_moved (lines.MethodArity n) p w = record {
  cursor = to (spots.Line lines.Ending) p.cursor;
  word = p.word;
  sofar = with_method (record { name = p.word; number = n; arity = capped w }) p.sofar;
}

abbrev pub route_moved : Route → State → List ℕ → State
route_moved routes.Minus p w = turned (spots.Route routes.Greater) p
route_moved routes.Greater p w = turned (spots.Route routes.Target) p
route_moved routes.Target p w = reaching w p
route_moved routes.Colon p w = turned (spots.Label labels.Begin) p

abbrev pub label_moved : Label → State → List ℕ → ℕ → ℕ → State
label_moved labels.Begin p w c k =
    cond (c == 42) (turned (spots.Label labels.Star) p)
    (cond (same w (codes "call")) (at (to (spots.Label labels.Callee) (labelled (opened kinds.Call 1) p.cursor)) p)
    (cond (same w (codes "ret")) (at (to (spots.Inner inners.Returned) (labelled (opened kinds.Return 0) p.cursor)) p)
    (whole_begins w c k p)))
label_moved labels.Star p w c k =
    cond (c == 58) (at (to (spots.Label labels.Equals) (labelled (opened kinds.Both 1) p.cursor)) p)
    (cond (c == 59) (at (to (spots.Label labels.Begin) (met events.Any p.cursor)) p) (ends_statement (at (met events.Any p.cursor) p)))
label_moved labels.Becomes p w c k = turned (spots.Label labels.Equals) p
label_moved labels.Equals p w c k = turned (spots.Label labels.Callee) p
label_moved labels.Callee p w c k = calling w p
label_moved labels.Open p w c k = turned (spots.Inner inners.First) p
label_moved labels.Comma p w c k = at (cond (c == 44) (to (spots.Inner inners.Param) p.cursor) (finished p.cursor)) p
label_moved labels.End p w c k = cond (c == 59) (turned (spots.Label labels.Begin) p) (ends_statement p)

abbrev pub inner_moved : Inner → State → List ℕ → ℕ → ℕ → State
inner_moved inners.Returned p w c k = begins w c k p
inner_moved inners.First p w c k = cond (c == 41) (at (finished p.cursor) p) (begins w c k p)
inner_moved inners.Param p w c k = begins w c k p
inner_moved (inners.Negated n) p w c k = patterned (variable_key w) patterns.Differs n p
inner_moved (inners.Quoted n) p w c k = turned (spots.Inner inners.Unquote) (patterned (constant_key w) patterns.Same n p)
inner_moved inners.Unquote p w c k = turned (spots.Label (cond (p.cursor.label.count == 1) labels.Becomes labels.Comma)) p

abbrev pub moved_at : Spot → State → List ℕ → ℕ → ℕ → State
moved_at (spots.Head h) p w c k = head_moved h p w c
moved_at (spots.Line l) p w c k = line_moved l p w
moved_at (spots.Route r) p w c k = route_moved r p w
moved_at (spots.Label l) p w c k = label_moved l p w c k
moved_at (spots.Inner i) p w c k = inner_moved i p w c k

abbrev pub moved : State → List ℕ → ℕ → ℕ → State
moved p w c k = moved_at p.cursor.spot p w c k

-- Where the text ends: a statement that was being read ends with it.
abbrev pub closing_at : Spot → State → State
closing_at (spots.Head h) p = p
closing_at (spots.Line l) p = p
closing_at (spots.Route r) p = p
closing_at (spots.Label labels.Begin) p = p
closing_at (spots.Label labels.Star) p = ends_statement (at (met events.Any p.cursor) p)
closing_at (spots.Label labels.Becomes) p = p
closing_at (spots.Label labels.Equals) p = p
closing_at (spots.Label labels.Callee) p = p
closing_at (spots.Label labels.Open) p = p
closing_at (spots.Label labels.Comma) p = p
closing_at (spots.Label labels.End) p = ends_statement p
closing_at (spots.Inner i) p = p

abbrev pub closing : State → Property
closing p = (closing_at p.cursor.spot p).sofar

-- Some statement leaves `start`, and some leads to `error`.
abbrev pub routed : List Statement → Bool
routed ss = list_any (λ s. nat_eq s.source 0) ss && list_any (λ s. nat_eq s.target 1) ss

-- A property as a table: the methods that it declares, its constants and its statements.
use Rattle.std.specs.Prelude.{◌≡◌, ℕ, suc, ◌+◌, ◌*◌, ◌/◌, ◌%◌, ◌<◌, ◌≤◌, Bool, true, false, cond, not, ◌&&◌, ltb, List, [], ◌∷◌, ◌++◌, map, length, ◌==◌, nat_eq, nat_le, nat_lt, slice_index_or}
use Rattle.topl.specs.Lists.{Class, nothing, ◌∈◌, each, every, holds, Distinct, apart}

-- EVENTS
-- An event: its id, and the classes of the values that it carries.
pub record Event : Type 0 where
  pub id : ℕ
  pub values : List Class

-- the id of a call of the method with the number m: twice the number
abbrev pub call_id : ℕ → ℕ
call_id m = 2 * m

-- the id of its return: one more
abbrev pub return_id : ℕ → ℕ
return_id m = 2 * m + 1

-- is this the id of a call
abbrev pub calls : ℕ → Bool
calls id = id % 2 == 0

-- is the event a call
abbrev pub is_call : Event → Bool
is_call e = calls e.id

-- the class at a place, nothing where the list is shorter
abbrev pub at : List Class → ℕ → Class
at s i = slice_index_or s i nothing

-- The six places: 0 the returned value, 1 to 5 the parameters, nothing where none was given.
abbrev pub places : Event → List Class
places e = map (at (cond (is_call e) (nothing ∷ e.values) e.values)) (0 ∷ 1 ∷ 2 ∷ 3 ∷ 4 ∷ 5 ∷ [])

-- at most so many values has a lawful event: a call 5, a return 1
abbrev pub most_values : ℕ → ℕ
most_values id = cond (calls id) 5 1

-- A lawful event: the id of a method numbered 0 to 65,535, and no more values than it may have.
pub record LawfulEvent (e : Event) : Type 0 where
  pub known : e.id ≤ 131071
  pub carries : length e.values ≤ most_values e.id

-- STATEMENTS
-- A pattern: any value; any value, which it writes; only the value of a register; any other value. A constant is read as its register.
pub data Pattern : Type 0 where
  Any : Pattern
  Write Same Differs : ℕ → Pattern

-- What one event has to meet: nothing at all, or an id and a pattern for each place from 0 on.
pub data Matcher : Type 0 where
  any_event : Matcher
  event_of : ℕ → List Pattern → Matcher

-- A statement: where it starts and ends, and what the events that it spans have to meet; there is at least one.
pub record Statement : Type 0 where
  pub source : ℕ
  pub target : ℕ
  pub head : Matcher
  pub rest : List Matcher

-- all its matchers
abbrev pub matchers : Statement → List Matcher
matchers t = t.head ∷ t.rest

-- how many events a statement spans
abbrev pub span : Statement → ℕ
span t = length (matchers t)

-- the state in which a run begins
abbrev pub start : ℕ
start = 0

-- the state that no run may reach
abbrev pub error : ℕ
error = 1

-- LABELS, as a statement is written. Methods stand by their numbers.
pub data Label : Type 0 where
  any_label : Label  -- *
  call_label : ℕ → List Pattern → Label  -- call m(p, ..)
  return_label : Pattern → ℕ → Label  -- ret p := m
  whole_label : Pattern → ℕ → List Pattern → Label  -- p := m(p, ..)

-- a call of m with these parameters, whatever it returns
abbrev pub called : ℕ → List Pattern → Matcher
called m ps = event_of (call_id m) (Any ∷ ps)

-- a return of m with this value
abbrev pub returned : Pattern → ℕ → Matcher
returned p m = event_of (return_id m) (p ∷ [])

-- what the first event of a label has to meet
abbrev pub label_head : Label → Matcher
label_head any_label = any_event
label_head (call_label m ps) = called m ps
label_head (return_label p m) = returned p m
label_head (whole_label p m ps) = called m ps

-- and what the very next one: only p := m(p, ..) has a second event, the return
abbrev pub label_rest : Label → List Matcher
label_rest any_label = []
label_rest (call_label m ps) = []
label_rest (return_label p m) = []
label_rest (whole_label p m ps) = returned p m ∷ []

-- the matchers of a label
abbrev pub label_matchers : Label → List Matcher
label_matchers l = label_head l ∷ label_rest l

-- The statement source -> target: l; ls. Labels joined by `;` match consecutive events.
abbrev pub statement_of : ℕ → ℕ → Label → List Label → Statement
statement_of source target l ls = record { source = source; target = target; head = label_head l; rest = label_rest l ++ each label_matchers ls }

-- TABLES
-- Every property has eight registers; those that it does not use hold nothing for ever.
abbrev pub register_count : ℕ
register_count = 8

-- A table: the declared methods, each with its number and its arity, the registers of the constants in the order of their first appearance, and the
-- written statements.
pub record Table : Type 0 where
  pub methods : List (ℕ × ℕ)
  pub constants : List ℕ
  pub statements : List Statement

-- the table that no text has filled yet
abbrev pub empty_table : Table
empty_table = record { methods = []; constants = []; statements = [] }

-- the statement start -> start: *
abbrev pub implied : Statement
implied = statement_of start start any_label []

-- statements numbered from n on, and last the implied one, numbered 65
abbrev pub count_from : ℕ → List Statement → List (ℕ × Statement)
count_from n [] = (65, implied) ∷ []
count_from n (t ∷ ts) = (n, t) ∷ count_from (suc n) ts

-- all statements of a property with their numbers: the written ones from 1 on, and 65
abbrev pub numbered : Table → List (ℕ × Statement)
numbered P = count_from 1 P.statements

-- LAWFUL TABLES
-- the register that a pattern names, in a list
abbrev pub names : Pattern → List ℕ
names Any = []
names (Write r) = r ∷ []
names (Same r) = r ∷ []
names (Differs r) = r ∷ []

-- the register that a pattern writes, in a list
abbrev pub overwrites : Pattern → List ℕ
overwrites Any = []
overwrites (Write r) = r ∷ []
overwrites (Same r) = []
overwrites (Differs r) = []

-- the patterns of a matcher
abbrev pub patterns : Matcher → List Pattern
patterns any_event = []
patterns (event_of i ps) = ps

-- A matcher of a property: any event; a call of a declared method, with any returned value and one pattern for each parameter; or its return, with one
-- pattern.
pub data Shaped (P : Table) : Matcher → Type 0 where
  any_shaped : Shaped P any_event
  call_shaped : (m : ℕ × ℕ) (ps : List Pattern) → m ∈ P.methods → length ps ≡ m.1 → Shaped P (called m.0 ps)
  return_shaped : (m : ℕ × ℕ) (p : Pattern) → m ∈ P.methods → Shaped P (returned p m.0)

-- A lawful matcher: so shaped; its registers are among the eight; it writes none twice, and none that holds a constant.
pub record LawfulMatcher (P : Table) (m : Matcher) : Type 0 where
  pub shaped : Shaped P m
  pub in_range : (r : ℕ) → r ∈ each names (patterns m) → r < register_count
  pub once_written : Distinct (each overwrites (patterns m))
  pub constants_stay : (r : ℕ) → r ∈ each overwrites (patterns m) → ¬ (r ∈ P.constants)

-- A lawful statement: at most four events, at most sixteen states, it does not leave `error`, and its matchers are lawful.
pub record LawfulStatement (P : Table) (t : Statement) : Type 0 where
  pub short : span t ≤ 4
  pub from : t.source < 16
  pub to : t.target < 16
  pub not_from_error : ¬ (t.source ≡ error)
  pub matched : (m : Matcher) → m ∈ matchers t → LawfulMatcher P m

-- A lawful table: at most 32 methods with numbers up to 65,535, no number twice, and arities up to 5; constants in distinct registers among the eight; at
-- most 64 statements, all lawful.
pub record Lawful (P : Table) : Type 0 where
  pub few_methods : length P.methods ≤ 32
  pub numbers : (m : ℕ × ℕ) → m ∈ P.methods → (m.0 ≤ 65535) × (m.1 ≤ 5)
  pub numbers_distinct : Distinct (map (λ m. m.0) P.methods)
  pub constants_held : (r : ℕ) → r ∈ P.constants → r < register_count
  pub constants_distinct : Distinct P.constants
  pub few_statements : length P.statements ≤ 64
  pub statements_lawful : (t : Statement) → t ∈ P.statements → LawfulStatement P t

-- THE TEST of a lawful table, as code can run it or keep it.
-- are number and arity the same
abbrev pub same_method : ℕ × ℕ → ℕ × ℕ → Bool
same_method a b = a.0 == b.0 && a.1 == b.1

-- do the patterns fit a call of the method m
abbrev pub fits_call : Table → ℕ → List Pattern → Bool
fits_call P m [] = false
fits_call P m (Any ∷ ps) = holds same_method P.methods (m, length ps)
fits_call P m (Write r ∷ ps) = false
fits_call P m (Same r ∷ ps) = false
fits_call P m (Differs r ∷ ps) = false

-- do the patterns fit a return of the method m
abbrev pub fits_return : Table → ℕ → List Pattern → Bool
fits_return P m [] = false
fits_return P m (p ∷ []) = holds nat_eq (map (λ d. d.0) P.methods) m
fits_return P m (p ∷ q ∷ ps) = false

-- is it a matcher of the property
abbrev pub is_shaped : Table → Matcher → Bool
is_shaped P any_event = true
is_shaped P (event_of i ps) = cond (calls i) (fits_call P (i / 2) ps) (fits_return P (i / 2) ps)

-- is it a lawful matcher
abbrev pub is_lawful_matcher : Table → Matcher → Bool
is_lawful_matcher P m =
    is_shaped P m && (every (λ r. ltb r register_count) (each names (patterns m)) &&
    (apart nat_eq (each overwrites (patterns m)) && every (λ r. not (holds nat_eq P.constants r)) (each overwrites (patterns m))))

-- is it a lawful statement
abbrev pub is_lawful_statement : Table → Statement → Bool
is_lawful_statement P t = nat_le (span t) 4 && (nat_lt t.source 16 && (nat_lt t.target 16 && (not (t.source == error) && every (is_lawful_matcher P) (matchers t))))

-- are number and arity in their ranges
abbrev pub is_lawful_method : ℕ × ℕ → Bool
is_lawful_method m = nat_le m.0 65535 && nat_le m.1 5

-- is it a lawful table
abbrev pub is_lawful : Table → Bool
is_lawful P =
    nat_le (length P.methods) 32 && (every is_lawful_method P.methods && (apart nat_eq (map (λ m. m.0) P.methods) &&
    (every (λ r. ltb r register_count) P.constants && (apart nat_eq P.constants &&
    (nat_le (length P.statements) 64 && every (is_lawful_statement P) P.statements)))))

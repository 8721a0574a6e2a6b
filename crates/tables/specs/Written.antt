-- A table as its text would be written.
use Rattle.std.specs.Prelude.{ℕ, ◌/◌, cond, List, [], ◌∷◌, ◌++◌, map, drop, codes, flat_map, decimal}
use Rattle.std.specs.Option.{option_map_or, unwrap_or}
use Rattle.property.specs.States.{Declared}
use Rattle.topl.specs.Table as T
use Rattle.tables.specs.Called.{method_name, state_name, register_key}
use Rattle.tables.specs.Keys.{key_words}
use Rattle.tables.specs.Letters.{raised}
use Rattle.tables.specs.Meant.{Names}

-- Words with the same before each of them.
abbrev pub each_after : List ℕ → List (List ℕ) → List ℕ
each_after sep ws = flat_map (λ w. sep ++ w) ws

-- Words with the same between them.
abbrev pub joined : List ℕ → List (List ℕ) → List ℕ
joined sep [] = []
joined sep (w ∷ ws) = w ++ each_after sep ws

-- A line ends with 0A.
abbrev pub line : List ℕ → List ℕ
line w = w ++ 10 ∷ []

module _ (N : Names) where
  -- A register where it is read.
  abbrev pub read : ℕ → List ℕ
  read r = option_map_or key_words (register_key N r) []

  -- A register where it is written: a constant never is.
  abbrev pub written_to : ℕ → List ℕ
  written_to r = option_map_or (λ k. cond k.constant [] (raised k.name)) (register_key N r) []

  -- A pattern: any value, one that is written, only that of a register, or any other.
  abbrev pub pattern : T.Pattern → List ℕ
  pattern T.Any = codes "*"
  pattern (T.Write r) = written_to r
  pattern (T.Same r) = read r
  pattern (T.Differs r) = codes "!" ++ read r

  -- Patterns with commas between them.
  abbrev pub patterns : List T.Pattern → List ℕ
  patterns ps = joined (codes ", ") (map pattern ps)

  -- The method with a number, nothing where there is none.
  abbrev pub method : ℕ → List ℕ
  method m = unwrap_or (method_name N m) []

  -- A call: its first pattern stands for the returned value, which is not written.
  abbrev pub call : ℕ → List T.Pattern → List ℕ
  call m ps = codes "call " ++ (method m ++ (codes "(" ++ (patterns (drop 1 ps) ++ codes ")")))

  -- A return: its one pattern comes first.
  abbrev pub answer : ℕ → List T.Pattern → List ℕ
  answer m ps = codes "ret " ++ (patterns ps ++ (codes " := " ++ method m))

  -- What one event has to meet.
  abbrev pub label : T.Matcher → List ℕ
  label T.any_event = codes "*"
  label (T.event_of id ps) = cond (T.calls id) (call (id / 2) ps) (answer (id / 2) ps)

  -- A state by its number, nothing where there is none.
  abbrev pub state : ℕ → List ℕ
  state q = unwrap_or (state_name N q) []

  -- Labels with semicolons between them.
  abbrev pub labels : List T.Matcher → List ℕ
  labels ms = joined (codes "; ") (map label ms)

  -- The line of a statement.
  abbrev pub statement_line : T.Statement → List ℕ
  statement_line s = line (state s.source ++ (codes " -> " ++ (state s.target ++ (codes ": " ++ labels (T.matchers s)))))

-- The line that declares a method.
abbrev pub method_line : Declared → List ℕ
method_line d = line (codes "method " ++ (d.name ++ (codes " " ++ (decimal d.number ++ (codes " " ++ decimal d.arity)))))

-- The first line, a line for each method, and one for each statement.
abbrev pub written : Names → T.Table → List ℕ
written N P = line (codes "property " ++ N.name) ++ (flat_map method_line N.methods ++ flat_map (statement_line N) P.statements)

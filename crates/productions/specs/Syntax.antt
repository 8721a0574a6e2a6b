-- What a property text writes, as a tree. Names stand by their bytes, as they are written.
use Rattle.std.specs.Prelude.{ℕ, List}
use Rattle.property.specs.States.{Declared}

-- A pattern: `*`, a variable, `!` and a variable, or a constant in `<` and `>`.
pub data Pattern : Type 0 where
  anything : Pattern
  variable unlike constant : List ℕ → Pattern

-- A label: `*`, `call m(ps)`, `ret p := m`, or `p := m(ps)`.
pub data Label : Type 0 where
  any_event : Label
  calls : List ℕ → List Pattern → Label
  returns : Pattern → List ℕ → Label
  whole : Pattern → List ℕ → List Pattern → Label

-- A statement leads from a state to a state, by a first label and others.
pub record Statement : Type 0 where
  pub source : List ℕ
  pub target : List ℕ
  pub first : Label
  pub others : List Label

-- A text: the property's name, its declared methods, and its statements.
pub record Tree : Type 0 where
  pub name : List ℕ
  pub methods : List Declared
  pub statements : List Statement

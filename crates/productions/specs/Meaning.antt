-- What a tree means: states, methods and registers by their numbers, and the statements of the theory.
use Rattle.std.specs.Prelude.{◌≡◌, ℕ, ◌+◌, Bool, cond, List, [], ◌∷◌, ◌++◌, map, length, All}
use Rattle.std.specs.List.{position_or_len}
use Rattle.topl.specs.Lists.{◌∈◌, each, holds}
use Rattle.topl.specs.Table as T
use Rattle.limits.specs.Tables.{table_of}
use Rattle.property.specs.States.{Declared, Key, Property, is_start, is_error, method_in, same_key, constant_key, variable_key}
use Rattle.property.specs.Words.{same, first_byte}
use Rattle.forms.specs.Bytes.{capital}
use Rattle.productions.specs.Syntax.{Pattern, anything, variable, unlike, constant, Label, any_event, calls, returns, whole, Statement, Tree}

-- FIRST APPEARANCES
-- The elements that stand nowhere before, by a test of two; some stand before them all.
abbrev pub firsts_after : {X : Type 0} → (X → X → Bool) → List X → List X → List X
firsts_after test before [] = []
firsts_after test before (x ∷ xs) = cond (holds test before x) (firsts_after test (x ∷ before) xs) (x ∷ firsts_after test (x ∷ before) xs)

-- The elements in the order of first appearance.
abbrev pub firsts : {X : Type 0} → (X → X → Bool) → List X → List X
firsts test xs = firsts_after test [] xs

-- A state as a list, empty for `start` and `error`.
abbrev pub other_state : List ℕ → List (List ℕ)
other_state w = cond (is_start w) [] (cond (is_error w) [] (w ∷ []))

-- The states of a statement but for these two, the source first.
abbrev pub statement_states : Statement → List (List ℕ)
statement_states x = other_state x.source ++ other_state x.target

-- The states of a tree but for these two.
abbrev pub states : Tree → List (List ℕ)
states A = firsts same (each statement_states A.statements)

-- The variable or the constant of a pattern.
abbrev pub pattern_keys : Pattern → List Key
pattern_keys anything = []
pattern_keys (variable w) = variable_key w ∷ []
pattern_keys (unlike w) = variable_key w ∷ []
pattern_keys (constant w) = constant_key w ∷ []

-- Those of a label, in the order in which it writes them.
abbrev pub label_keys : Label → List Key
label_keys any_event = []
label_keys (calls m ps) = each pattern_keys ps
label_keys (returns p m) = pattern_keys p
label_keys (whole p m ps) = pattern_keys p ++ each pattern_keys ps

-- Those of a statement.
abbrev pub statement_keys : Statement → List Key
statement_keys x = label_keys x.first ++ each label_keys x.others

-- Those of a tree.
abbrev pub keys : Tree → List Key
keys A = firsts same_key (each statement_keys A.statements)

-- NUMBERS, in the lists ws of the other states, ms of the methods and gs of the registers.
-- The number of a state.
abbrev pub state : List (List ℕ) → List ℕ → ℕ
state ws w = cond (is_start w) 0 (cond (is_error w) 1 (2 + position_or_len (same w) ws))

-- The number of a method.
abbrev pub method : List Declared → List ℕ → ℕ
method ms w = (method_in ms w).number

-- The number of a register.
abbrev pub register : List Key → Key → ℕ
register gs k = position_or_len (same_key k) gs

-- MEANINGS
-- A variable with a capital first letter is written, and any other is read.
abbrev pub pattern_of : List Key → Pattern → T.Pattern
pattern_of gs anything = T.Any
pattern_of gs (variable w) = cond (capital (first_byte w)) (T.Write (register gs (variable_key w))) (T.Same (register gs (variable_key w)))
pattern_of gs (unlike w) = T.Differs (register gs (variable_key w))
pattern_of gs (constant w) = T.Same (register gs (constant_key w))

-- What a label stands for.
abbrev pub label_of : List Declared → List Key → Label → T.Label
label_of ms gs any_event = T.any_label
label_of ms gs (calls m ps) = T.call_label (method ms m) (map (pattern_of gs) ps)
label_of ms gs (returns p m) = T.return_label (pattern_of gs p) (method ms m)
label_of ms gs (whole p m ps) = T.whole_label (pattern_of gs p) (method ms m) (map (pattern_of gs) ps)

-- What a statement stands for.
abbrev pub statement_of : List (List ℕ) → List Declared → List Key → Statement → T.Statement
statement_of ws ms gs x = T.statement_of (state ws x.source) (state ws x.target) (label_of ms gs x.first) (map (label_of ms gs) x.others)

-- DECLARED METHODS
-- The method m is declared.
abbrev pub Known : List Declared → List ℕ → Type 0
Known ms m = (method_in ms m ∈ ms) × ((method_in ms m).name ≡ m)

-- The method m is declared with n parameters.
abbrev pub Has : List Declared → List ℕ → ℕ → Type 0
Has ms m n = Known ms m × ((method_in ms m).arity ≡ n)

-- The method of a label is declared, and a call has a pattern for each of its parameters.
abbrev pub LabelFits : List Declared → Label → Type 0
LabelFits ms any_event = Unit {0}
LabelFits ms (calls m ps) = Has ms m (length ps)
LabelFits ms (returns p m) = Known ms m
LabelFits ms (whole p m ps) = Has ms m (length ps)

-- That is so for each label of a statement.
abbrev pub StatementFits : List Declared → Statement → Type 0
StatementFits ms x = LabelFits ms x.first × All (LabelFits ms) x.others

-- The property is what the tree means.
pub record Means (A : Tree) (P : Property) : Type 0 where
  pub name : P.name ≡ A.name
  pub methods : P.methods ≡ A.methods
  pub others : P.others ≡ states A
  pub registers : P.registers ≡ keys A
  pub declared : All (StatementFits A.methods) A.statements
  pub statements : (table_of P).statements ≡ map (statement_of P.others P.methods P.registers) A.statements

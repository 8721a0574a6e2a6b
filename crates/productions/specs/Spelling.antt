-- How a property text is spelled: the productions.
use Rattle.std.specs.Prelude.{◌≡◌, ℕ, true, false, ◌⊎◌, List, [], ◌∷◌, ◌++◌, codes}
use Prim.Native.String.{String}
use Rattle.forms.specs.Bytes.{space, small, value, Every}
use Rattle.forms.specs.Pieces.{Piece, Next}
use Rattle.forms.specs.Pieces as pieces
use Rattle.property.specs.States.{Declared}
use Rattle.property.specs.Words.{same, first_byte}
use Rattle.productions.specs.Syntax.{Pattern, anything, variable, unlike, constant, Label, any_event, calls, returns, whole, Statement, Tree}

-- X s r: the bytes s begin with something that is spelled so, and r is left.
abbrev pub Spelling : Type 1
Spelling = List ℕ → List ℕ → Type 0

-- What X spells, and behind it what Y spells.
infixr 60 ◌⨾◌
abbrev pub ◌⨾◌ : Spelling → Spelling → Spelling
X ⨾ Y = λ s r. (u : List ℕ) × X s u × Y u r

-- PIECES
-- Nothing.
abbrev pub nothing : Spelling
nothing s r = s ≡ r

-- Just these bytes.
abbrev pub bytes : List ℕ → Spelling
bytes w s r = s ≡ w ++ r

-- Any number of spaces.
abbrev pub spaces : Spelling
spaces s r = (sp : List ℕ) × Every space sp × (s ≡ sp ++ r)

-- A piece of these bytes, with any number of spaces before it.
abbrev pub piece : Piece → List ℕ → Spelling
piece x b s r = (sp : List ℕ) × Next false x s sp b r

-- A word, all of it.
abbrev pub word : List ℕ → Spelling
word w = piece (pieces.word w) w

-- A word with a small first letter.
abbrev pub small_word : List ℕ → Spelling
small_word w s r = (small (first_byte w) ≡ true) × word w s r

-- Digits that write the number n.
abbrev pub number : ℕ → Spelling
number n s r = (d : List ℕ) × (value d ≡ n) × piece (pieces.number d) d s r

-- The mark with the code c.
abbrev pub mark : ℕ → Spelling
mark c = piece (pieces.mark c) (c ∷ [])

-- A line's end.
abbrev pub newline : Spelling
newline = mark 10

-- The mark m, in quotes.
abbrev pub sign : String → Spelling
sign m = mark (first_byte (codes m))

-- `:=`, with no space inside.
abbrev pub becomes : Spelling
becomes = sign ":" ⨾ bytes (codes "=")

-- PATTERNS AND LABELS
-- `*`, `name`, `!name` or `<name>`.
abbrev pub pattern : Pattern → Spelling
pattern anything = sign "*"
pattern (variable w) = word w
pattern (unlike w) = sign "!" ⨾ small_word w
pattern (constant w) = sign "<" ⨾ word w ⨾ sign ">"

-- Further patterns, each behind a comma, and the closing bracket.
abbrev pub more_parameters : List Pattern → Spelling
more_parameters [] = sign ")"
more_parameters (p ∷ ps) = sign "," ⨾ pattern p ⨾ more_parameters ps

-- Patterns parted by commas, or none, and the closing bracket.
abbrev pub inside : List Pattern → Spelling
inside [] = sign ")"
inside (p ∷ ps) = pattern p ⨾ more_parameters ps

-- Parameters in brackets.
abbrev pub parameters : List Pattern → Spelling
parameters ps = sign "(" ⨾ inside ps

-- The pattern is not the variable `call` or `ret`, which are keywords where a label begins.
abbrev pub NoKeyword : Pattern → Type 0
NoKeyword anything = Unit {0}
NoKeyword (variable w) = (same w (codes "call") ≡ false) × (same w (codes "ret") ≡ false)
NoKeyword (unlike w) = Unit {0}
NoKeyword (constant w) = Unit {0}

-- The pattern that a label begins with.
abbrev pub leading : Pattern → Spelling
leading p s r = NoKeyword p × pattern p s r

-- `*`, `call m(ps)`, `ret p := m` or `p := m(ps)`.
abbrev pub label : Label → Spelling
label any_event = sign "*"
label (calls m ps) = word (codes "call") ⨾ word m ⨾ parameters ps
label (returns p m) = word (codes "ret") ⨾ pattern p ⨾ becomes ⨾ word m
label (whole p m ps) = leading p ⨾ becomes ⨾ word m ⨾ parameters ps

-- Further labels, each behind a semicolon.
abbrev pub more_labels : List Label → Spelling
more_labels [] = nothing
more_labels (l ∷ ls) = sign ";" ⨾ label l ⨾ more_labels ls

-- LINES
-- `property` stands after spaces alone, with a space right behind it; further spaces may follow, as before any word.
abbrev pub first_line : List ℕ → Spelling
first_line w = spaces ⨾ bytes (codes "property ") ⨾ word w

-- `method NAME NUMBER ARITY`.
abbrev pub method_line : Declared → Spelling
method_line m = word (codes "method") ⨾ word m.name ⨾ number m.number ⨾ number m.arity

-- `SOURCE -> TARGET: LABEL; LABEL; ..`.
abbrev pub statement_line : Statement → Spelling
statement_line x = word x.source ⨾ sign "-" ⨾ bytes (codes ">") ⨾ word x.target ⨾ sign ":" ⨾ label x.first ⨾ more_labels x.others

-- Further lines of methods: each begins behind the end of the line before it.
abbrev pub method_lines : List Declared → Spelling
method_lines [] = nothing
method_lines (m ∷ ms) = newline ⨾ method_line m ⨾ method_lines ms

-- Further lines of statements.
abbrev pub statement_lines : List Statement → Spelling
statement_lines [] = nothing
statement_lines (x ∷ xs) = newline ⨾ statement_line x ⨾ statement_lines xs

-- The first statement does not begin with the word `method`: that would begin a method's line.
abbrev pub NoMethod : List Statement → Type 0
NoMethod [] = Unit {0}
NoMethod (x ∷ xs) = same x.source (codes "method") ≡ false

-- The end of the last line, which may lack its newline.
abbrev pub ending : Spelling
ending s r = newline s r ⊎ spaces s r

-- THE TEXT
-- All lines of a tree.
abbrev pub lines : Tree → Spelling
lines A = first_line A.name ⨾ method_lines A.methods ⨾ statement_lines A.statements ⨾ ending

-- The text t spells the tree.
abbrev pub Spells : Tree → List ℕ → Type 0
Spells A t = NoMethod A.statements × lines A t []

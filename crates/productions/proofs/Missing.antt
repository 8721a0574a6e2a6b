-- What is still missing of a text at each spot, by the productions.
use Rattle.std.proofs.Common.{◌≡◌, ℕ, ◌≤◌, Bool, true, false, ◌⊎◌, eqb, List, [], length, drop, codes}
use Rattle.property.specs.Words.{same}
use Rattle.property.specs.States.{Declared, State}
use Rattle.property.specs.declared.spot.Head.TheVariants as heads
use Rattle.property.specs.declared.spot.Inner.TheVariants as inners
use Rattle.property.specs.declared.spot.Kind.{Kind}
use Rattle.property.specs.declared.spot.Kind.TheVariants as kinds
use Rattle.property.specs.declared.spot.Label.TheVariants as labels
use Rattle.property.specs.declared.spot.Line.TheVariants as lines
use Rattle.property.specs.declared.spot.Route.TheVariants as routes
use Rattle.property.specs.declared.spot.Spot.{Spot}
use Rattle.property.specs.declared.spot.Spot.TheVariants as spots
use Rattle.productions.specs.Syntax.{Pattern, Label, Statement}
use Rattle.productions.specs.Spelling.{Spelling, ◌⨾◌, bytes, spaces, word, small_word, number, sign, pattern, more_parameters, inside, parameters, label, more_labels, method_lines, statement_lines, NoMethod, ending}

-- What X spells, and behind it bytes of the kind K.
infixr 55 ◌▹◌
abbrev pub ◌▹◌ : Spelling → (List ℕ → Type 0) → List ℕ → Type 0
X ▹ K = λ s. (u : List ℕ) × X s u × K u

-- Behind a line: further lines and the end. No statement has come, or some have.
abbrev pub Further : Bool → List ℕ → Type 0
Further true s = (ms : List Declared) × (xs : List Statement) × NoMethod xs × (method_lines ms ⨾ statement_lines xs ⨾ ending) s []
Further false s = (xs : List Statement) × (statement_lines xs ⨾ ending) s []

-- Behind a label.
abbrev pub Labels : List ℕ → Type 0
Labels s = (ls : List Label) × (more_labels ls ▹ Further false) s

-- Where a label begins.
abbrev pub Beginning : List ℕ → Type 0
Beginning s = (l : Label) × (label l ▹ Labels) s

-- From a label's parameters on.
abbrev pub Opening : List ℕ → Type 0
Opening s = (ps : List Pattern) × (parameters ps ▹ Labels) s

-- Behind the opening bracket.
abbrev pub Inside : List ℕ → Type 0
Inside s = (ps : List Pattern) × (inside ps ▹ Labels) s

-- Behind a parameter.
abbrev pub Closing : List ℕ → Type 0
Closing s = (ps : List Pattern) × (more_parameters ps ▹ Labels) s

-- From a label's method on, by the kind of the label.
abbrev pub Callee : Kind → List ℕ → Type 0
Callee kinds.Call s = (m : List ℕ) × (word m ▹ Opening) s
Callee kinds.Both s = (m : List ℕ) × (word m ▹ Opening) s
Callee kinds.Return s = (m : List ℕ) × (word m ▹ Labels) s

-- Inside `:=`.
abbrev pub Equal : Kind → List ℕ → Type 0
Equal d s = (bytes (codes "=") ▹ Callee d) s

-- From `:=` on.
abbrev pub Becoming : Kind → List ℕ → Type 0
Becoming d s = (sign ":" ▹ Equal d) s

-- Behind a pattern, of which b says that it is the returned one.
abbrev pub Behind : Bool → Kind → List ℕ → Type 0
Behind true d s = Becoming d s
Behind false d s = Closing s

-- From a pattern on.
abbrev pub Patterns : Bool → Kind → List ℕ → Type 0
Patterns b d s = (x : Pattern) × (pattern x ▹ Behind b d) s

-- From a statement's `:` on.
abbrev pub Colon : List ℕ → Type 0
Colon s = (sign ":" ▹ Beginning) s

-- From its target on.
abbrev pub Target : List ℕ → Type 0
Target s = (w : List ℕ) × (word w ▹ Colon) s

-- Inside `->`.
abbrev pub Greater : List ℕ → Type 0
Greater s = (bytes (codes ">") ▹ Target) s

-- From `->` on.
abbrev pub Minus : List ℕ → Type 0
Minus s = (sign "-" ▹ Greater) s

-- From a method's arity on.
abbrev pub Arity : Bool → List ℕ → Type 0
Arity b s = (n : ℕ) × (number n ▹ Further b) s

-- From its number on.
abbrev pub Number : Bool → List ℕ → Type 0
Number b s = (n : ℕ) × (number n ▹ Arity b) s

-- From its name on.
abbrev pub Name : Bool → List ℕ → Type 0
Name b s = (w : List ℕ) × (word w ▹ Number b) s

-- Where a line begins, after a newline.
abbrev pub Fresh : Bool → List ℕ → Type 0
Fresh true s =
    (s ≡ []) ⊎ (((w : List ℕ) × (same w (codes "method") ≡ false) × (word w ▹ Minus) s) ⊎ ((word (codes "method") ▹ Name true) s))
Fresh false s = (s ≡ []) ⊎ ((w : List ℕ) × (word w ▹ Minus) s)

-- From the property's name on.
abbrev pub Title : Bool → List ℕ → Type 0
Title b s = (w : List ℕ) × (word w ▹ Further b) s

-- With n letters of the keyword read.
abbrev pub Keyword : ℕ → Bool → List ℕ → Type 0
Keyword n b s = (bytes (drop n (codes "property ")) ▹ Title b) s

-- Before the keyword.
abbrev pub Margin : Bool → List ℕ → Type 0
Margin b s = (spaces ▹ Keyword 0 b) s

-- What is missing at a spot, in a label of a kind with n patterns; b says that no statement has come.
abbrev pub missing : Spot → Kind → ℕ → Bool → List ℕ → Type 0
missing (spots.Head heads.Margin) d n b s = Margin b s
missing (spots.Head (heads.Keyword k)) d n b s = k ≤ 7 → Keyword k b s
missing (spots.Head heads.Gap) d n b s = Keyword 8 b s
missing (spots.Head heads.Title) d n b s = Title b s
missing (spots.Line lines.Ending) d n b s = Further b s
missing (spots.Line lines.Fresh) d n b s = Fresh b s
missing (spots.Line lines.MethodName) d n b s = Name b s
missing (spots.Line lines.MethodNumber) d n b s = Number b s
missing (spots.Line (lines.MethodArity k)) d n b s = Arity b s
missing (spots.Route routes.Minus) d n b s = Minus s
missing (spots.Route routes.Greater) d n b s = Greater s
missing (spots.Route routes.Target) d n b s = Target s
missing (spots.Route routes.Colon) d n b s = Colon s
missing (spots.Label labels.Begin) d n b s = Beginning s
missing (spots.Label labels.Star) d n b s = Becoming kinds.Both s ⊎ Labels s
missing (spots.Label labels.Becomes) d n b s = n ≡ 1 → Becoming d s
missing (spots.Label labels.Equals) d n b s = n ≡ 1 → Equal d s
missing (spots.Label labels.Callee) d n b s = n ≡ 1 → Callee d s
missing (spots.Label labels.Open) d n b s = eqb n 0 ≡ false → Opening s
missing (spots.Label labels.Comma) d n b s = eqb n 0 ≡ false → Closing s
missing (spots.Label labels.End) d n b s = Labels s
missing (spots.Inner inners.Returned) d n b s = n ≡ 0 → Patterns true d s
missing (spots.Inner inners.First) d n b s = eqb n 0 ≡ false → Inside s
missing (spots.Inner inners.Param) d n b s = eqb n 0 ≡ false → Patterns false d s
missing (spots.Inner (inners.Negated k)) d n b s = (w : List ℕ) × (small_word w ▹ Behind (eqb n 0) d) s
missing (spots.Inner (inners.Quoted k)) d n b s = (w : List ℕ) × (word w ▹ (sign ">" ▹ Behind (eqb n 0) d)) s
missing (spots.Inner inners.Unquote) d n b s = eqb n 0 ≡ false → (sign ">" ▹ Behind (eqb n 1) d) s

-- What is missing at a position.
abbrev pub Missing : State → List ℕ → Type 0
Missing p s = missing p.cursor.spot p.cursor.label.kind p.cursor.label.count (eqb (length p.sofar.statements) 0) s

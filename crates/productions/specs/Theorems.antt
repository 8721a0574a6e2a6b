-- What the productions and the table of spots have to do with each other.
use Rattle.std.specs.Prelude.{◌≡◌, ℕ, ◌↔◌, List}
use Rattle.forms.specs.Forms.{Accepted}
use Rattle.property.specs.Grammar.{any_text, property_text}
use Rattle.property.specs.States.{Property}
use Rattle.productions.specs.Meaning.{Means}
use Rattle.productions.specs.Spelling.{Spells}
use Rattle.productions.specs.Syntax.{Tree}

-- A text writes some property exactly if it spells some tree.
abbrev pub NestedProductions : Type 0
NestedProductions = (t : List ℕ) → ((P : Property) × any_text.takes P t) ↔ ((A : Tree) × Spells A t)

-- It spells no other tree.
abbrev pub OneTree : Type 0
OneTree = (t : List ℕ) (A B : Tree) → Spells A t → Spells B t → A ≡ B

-- What an accepted text writes is what its tree means.
abbrev pub TreesMean : Type 0
TreesMean = (t : List ℕ) (P : Property) (A : Tree) → Accepted property_text t P → Spells A t → Means A P

-- The productions and the table of spots agree.
use Rattle.std.proofs.Common.{ℕ, ◌≤◌, List, length, sym, inr, subst, arith}
use Rattle.limits.proofs.Accepted.{accepted_within}
use Rattle.property.specs.Grammar.{any_text}
use Rattle.property.specs.States.{Property, nothing_read}
use Rattle.productions.specs.Meaning.{Means}
use Rattle.productions.specs.Spelling.{Spells}
use Rattle.productions.specs.Syntax.{Tree}
use Rattle.productions.specs.Theorems.{NestedProductions, TreesMean}
use Rattle.productions.proofs.Lines.{taken}
use Rattle.productions.proofs.Reading.{reads}

-- The tree of a text that the table takes.
tree_of : (t : List ℕ) → (P : Property) × any_text.takes P t → (A : Tree) × Spells A t
tree_of t (P, h) =
    let n = reads nothing_read 0 P t h in
    let line = n.2.2 in
    let rest = line.1.2 in
    (record { name = line.0; methods = rest.0; statements = rest.1 }, (rest.2, (line.1.0, (n.0, n.1, (n.2.0, n.2.1, line.1.1)), rest.3)))

-- A text that the table takes spells a tree, and back.
pub nested_productions : NestedProductions
nested_productions t = (tree_of t, λ x. let y = taken x.0 t x.1 in (y.value, y.takes))

-- The property that is taken from a tree is the only one, so an accepted one.
pub trees_mean : TreesMean
trees_mean t P A h s =
    let y = taken A t s in
    let e = h.only y.value y.takes in
    let few = (accepted_within t P h).few_states in
    let k : length y.value.others ≤ 14 = subst (λ (Q : Property). length Q.others ≤ 14) (sym e) (omega arith) in
    subst (Means A) e (y.means (λ n i f. h.sound n i (inr (inr f))) k)

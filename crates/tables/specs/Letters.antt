-- The first letter of a name.
use Rattle.std.specs.Prelude.{ℕ, ◌-◌, cond, List, [], ◌∷◌}
use Rattle.forms.specs.Bytes.{small}

-- A name with a capital first letter.
abbrev pub raised : List ℕ → List ℕ
raised [] = []
raised (b ∷ w) = cond (small b) (b - 32) b ∷ w

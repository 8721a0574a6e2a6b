-- The fields of a line, as code holds them.
use Rattle.std.specs.Prelude.{ℕ, List}
use Rattle.vectors.specs.Days.{Parts}
use Rattle.vectors.specs.declared.fields.Fields.{Fields}

-- They are those of the line.
abbrev pub HasFields : List ℕ → Fields → Type 0
HasFields line f = Parts line f.text.now f.journal.now f.constants.now f.expected.now

-- The theorems on the properties that accepted texts write.
use Rattle.std.specs.Prelude.{ℕ, List}
use Rattle.forms.specs.Forms.{Accepted}
use Rattle.property.specs.Grammar.{property_text}
use Rattle.property.specs.States.{Property}
use Rattle.topl.specs.Table.{Lawful}
use Rattle.limits.specs.Limits.{Within}
use Rattle.limits.specs.Tables.{table_of}

-- Every property that an accepted text writes is within the limits.
abbrev pub AcceptedWithin : Type 0
AcceptedWithin = (t : List ℕ) (P : Property) → Accepted property_text t P → Within P

-- The table of a property within the limits is lawful.
abbrev pub WithinLawful : Type 0
WithinLawful = (P : Property) → Within P → Lawful (table_of P)

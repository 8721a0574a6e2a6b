-- The line of what is told of a property.
use Rattle.std.proofs.Common.{◌≡◌}
use Rattle.property.specs.States.{Property}
use Rattle.day.specs.Checking.{counted, property_line}
use Rattle.day.specs.Counting.{Tells, counts_line}
use Rattle.day.specs.declared.check.Counts.{Counts}

-- It is the property's.
pub line_of : (k : Counts) (P : Property) → Tells k P → counts_line k ≡ property_line P
line_of k P t = λ i. counted (t.name i) (t.methods i) (t.states i) (t.statements i) (t.registers i)

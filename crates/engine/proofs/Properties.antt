-- What a lawful table gives to code.
use Rattle.topl.specs.Table as T
use Rattle.topl.proofs.Lawful.{tested}
use Rattle.tables.specs.declared.table.Table.{Table}
use Rattle.tables.specs.Meant.{meant}

pub lawful : (t : Table) → T.Lawful (meant t)
lawful t = (tested (meant t)).0 t.lawful

-- The theory's table of methods, constants and statements as code holds them.
use Rattle.std.specs.Prelude.{ℕ, List, map}
use Rattle.topl.specs.Table as T
use Rattle.property.specs.declared.table.Method.{Method}
use Rattle.tables.specs.declared.parts.Statement.{Statement}
use Rattle.tables.specs.declared.parts.Register.{Register}
use Rattle.tables.specs.Views.{number, statement}

abbrev pub method : Method → ℕ × ℕ
method m = (m.number, m.arity)

abbrev pub table : List Method → List Register → List Statement → T.Table
table ms cs ts = record { methods = map method ms; constants = map number cs; statements = map statement ts }

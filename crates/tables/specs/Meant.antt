-- What a table of the code stands for: the theory's table, and the names in it.
use Rattle.std.specs.Prelude.{◌≡◌, List, [], ℕ, map, vec_items}
use Rattle.topl.specs.Table as T
use Rattle.property.specs.States.{Declared, Key, Property}
use Rattle.property.specs.Views.{spelled, declared, key_of}
use Rattle.limits.specs.Tables.{table_of}
use Rattle.tables.specs.declared.table.Table.{Table}
use Rattle.tables.specs.Properties.{table}

abbrev pub meant : Table → T.Table
meant t = table (vec_items t.methods) (vec_items t.constants) (vec_items t.statements)

-- The names of a property: its own, those of its methods, of its states but for `start` and `error`, and of the constants and variables of its registers.
pub record Names : Type 0 where
  pub name : List ℕ
  pub methods : List Declared
  pub others : List (List ℕ)
  pub registers : List Key

abbrev pub names_of : Property → Names
names_of P = record { name = P.name; methods = P.methods; others = P.others; registers = P.registers }

abbrev pub no_names : Names
no_names = record { name = []; methods = []; others = []; registers = [] }

-- The names in a table, by the text that was read into it.
abbrev pub names : Table → Names
names t = record {
  name = spelled (vec_items t.text) t.name;
  methods = map (declared (vec_items t.text)) (vec_items t.methods);
  others = map (spelled (vec_items t.text)) (vec_items t.others);
  registers = map (key_of (vec_items t.text)) (vec_items t.registers);
}

-- The table holds the property.
abbrev pub Holds : Table → Property → Type 0
Holds t P = (meant t ≡ table_of P) × (names t ≡ names_of P)

-- What a register is called.
use Rattle.std.specs.Prelude.{ℕ, true, false, cond, List, ◌++◌, codes}
use Rattle.property.specs.States as of
use Rattle.property.specs.States.{Key}
use Rattle.tables.specs.declared.table.names.RegisterName.{RegisterName}
use Rattle.tables.specs.declared.table.names.RegisterName.TheVariants.{Constant, Variable}

-- A constant, or a variable without the case of its first letter.
abbrev pub key : RegisterName → Key
key (Constant w) = of.key true w.now
key (Variable w) = of.key false w.now

-- A register where it is read: a constant in its brackets, or a variable.
abbrev pub key_words : Key → List ℕ
key_words k = cond k.constant (codes "<" ++ (k.name ++ codes ">")) k.name

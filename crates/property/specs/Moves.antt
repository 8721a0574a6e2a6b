-- Parts of what a piece adds.
use Rattle.std.specs.Prelude.{ℕ, List, Some, None, Option}
use Rattle.property.specs.States.{State, Key, holding, visiting, with_method}
use Rattle.property.specs.States.{visited as with_visit}
use Rattle.property.specs.declared.table.Method.{Method}

-- A state is written.
abbrev pub visit : List ℕ → State → State
visit w p = record { cursor = visiting w p.cursor; word = p.word; sofar = with_visit w p.sofar }

-- A key has a register.
abbrev pub hold : Key → State → State
hold k p = record { cursor = p.cursor; word = p.word; sofar = holding k p.sofar }

-- The method of a line is declared, with a number and an arity.
abbrev pub declare : ℕ → ℕ → State → State
declare n a p = record { cursor = p.cursor; word = p.word; sofar = with_method (record { name = p.word; number = n; arity = a }) p.sofar }

-- The number and the arity of a method, 0 where there is none.
abbrev pub number_of : Option Method → ℕ
number_of None = 0
number_of (Some m) = m.number

abbrev pub arity_of : Option Method → ℕ
arity_of None = 0
arity_of (Some m) = m.arity

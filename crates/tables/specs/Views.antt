-- What the statements of a table stand for in the theory.
use Rattle.std.specs.Prelude.{ℕ, List, map}
use Rattle.topl.specs.Table as T
use Rattle.topl.specs.declared.pattern.Pattern.{Pattern}
use Rattle.topl.specs.declared.pattern.Pattern.TheVariants.{Any, Write, Same, Differs}
use Rattle.limits.specs.Tables as by
use Rattle.tables.specs.Few.{few_items}
use Rattle.tables.specs.declared.parts.Register.{Register}
use Rattle.tables.specs.declared.parts.Matcher as M
use Rattle.tables.specs.declared.parts.Matcher.TheVariants as MV
use Rattle.tables.specs.declared.parts.Statement.{Statement}

-- the number of a register
abbrev pub number : Register → ℕ
number r = r.at

abbrev pub pattern : Pattern Register → T.Pattern
pattern Any = T.Any
pattern (Write r) = T.Write (number r)
pattern (Same r) = T.Same (number r)
pattern (Differs r) = T.Differs (number r)

abbrev pub matcher : M.Matcher → T.Matcher
matcher MV.Any = T.any_event
matcher (MV.Event g) = T.event_of g.id (map pattern (few_items g.patterns))

-- the statement from one state to another over events that meet these
abbrev pub over : ℕ → ℕ → List M.Matcher → T.Statement
over source target ms = by.over source target (map matcher ms)

abbrev pub statement : Statement → T.Statement
statement t = over t.source t.target (few_items t.events)

use Rattle.std.proofs.Common.{◌≡◌, List, map, drop}
use Rattle.topl.specs.Table.{Event}
use Rattle.topl.specs.Runs.{fares}
use Rattle.tables.specs.Views.{matcher}
use Rattle.engine.specs.Views.{Seen}
use Rattle.engine.proofs.attempt.attempt_statement.Given as goal

abbrev pub invariant-loop-j : goal.invariant-loop-j
invariant-loop-j g l = (es : List Event) → Seen g.K.Kind.class l.events es →
    fares (map matcher l.matchers) (map g.K.Kind.class l.registers) es
    ≡ fares (drop l.j (map matcher l.matchers)) (map g.K.Kind.class l.held) (drop l.j es)

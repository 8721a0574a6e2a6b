use Rattle.std.proofs.Common.{◌≡◌, ◌*◌, map, take, drop}
use Rattle.topl.specs.Lists.{holds, alike, same_class}
use Rattle.topl.specs.Runs.{alikeᶜ}
use Rattle.engine.specs.Fronts.{stands_for, row}
use Rattle.engine.proofs.row.find.Given as goal

abbrev pub invariant-configurations : goal.invariant-configurations
invariant-configurations g l =
    holds alikeᶜ (row g.K.Kind.class l.states l.values) (stands_for g.K.Kind.class l.c)
    ≡ holds alikeᶜ (row g.K.Kind.class (drop l.i l.states) (drop (8 * l.i) l.values)) (stands_for g.K.Kind.class l.c)

abbrev pub invariant-loop-r : goal.invariant-loop-r
invariant-loop-r g l =
    alike same_class (map g.K.Kind.class l.c.registers) (map g.K.Kind.class (take 8 (drop (8 * l.i) l.values)))
    ≡ alike same_class (drop l.r (map g.K.Kind.class l.c.registers)) (drop l.r (map g.K.Kind.class (take 8 (drop (8 * l.i) l.values))))

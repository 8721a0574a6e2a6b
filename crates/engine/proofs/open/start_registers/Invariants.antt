use Rattle.std.proofs.Common.{◌≡◌, [], map, length, drop, replicate}
use Rattle.topl.specs.Ledger.{sets}
use Rattle.tables.specs.Views.{number}
use Rattle.engine.proofs.open.start_registers.Given as goal

abbrev pub invariant-loop-r : goal.invariant-loop-r
invariant-loop-r g l =
    (sets (replicate 8 []) (map number l.constants) (map g.K.Kind.class l.values)
    ≡ sets (map g.K.Kind.class l.registers) (drop (length l.yielded) (map number l.constants)) (drop (length l.yielded) (map g.K.Kind.class l.values)))
    × (length l.registers ≡ 8)

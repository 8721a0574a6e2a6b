use Rattle.std.proofs.Common.{◌≡◌, map, length, drop}
use Rattle.topl.specs.Runs.{written_all}
use Rattle.tables.specs.Views.{pattern}
use Rattle.engine.proofs.Fits.{patterns_of}
use Rattle.engine.proofs.attempt.write_matcher.Given as goal

abbrev pub invariant-loop-p : goal.invariant-loop-p
invariant-loop-p g l =
    written_all (map g.K.Kind.class l.initial.registers) (map g.K.Kind.class l.event.places) 0 (map pattern (patterns_of l.m))
    ≡ written_all (map g.K.Kind.class l.registers) (map g.K.Kind.class l.event.places) (length l.yielded) (drop (length l.yielded) (map pattern (patterns_of l.m)))

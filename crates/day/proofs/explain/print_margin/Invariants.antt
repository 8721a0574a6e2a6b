use Rattle.std.proofs.Common.{◌≡◌, ◌++◌, map, take}
use Rattle.day.specs.Lines.{written}
use Rattle.day.proofs.explain.print_margin.Given as goal

-- a space is written for each of the bytes so far
abbrev pub invariant-loop-byte : goal.invariant-loop-byte
invariant-loop-byte l = written l.page ≡ written l.initial.page ++ map (λ _. 32) (take l._byte-index l.bytes)

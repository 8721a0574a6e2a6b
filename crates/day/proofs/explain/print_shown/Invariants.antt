use Rattle.std.proofs.Common.{◌≡◌, ◌++◌, map, take}
use Rattle.day.specs.Explaining.{shown_byte}
use Rattle.day.specs.Lines.{written}
use Rattle.day.proofs.explain.print_shown.Given as goal

-- the bytes so far are written as they are shown
abbrev pub invariant-loop-byte : goal.invariant-loop-byte
invariant-loop-byte l = written l.page ≡ written l.initial.page ++ map shown_byte (take l.byte-index l.bytes)

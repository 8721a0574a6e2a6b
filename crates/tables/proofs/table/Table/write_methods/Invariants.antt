use Rattle.std.proofs.Common.{map, take, flat_map, vec_items}
use Rattle.std.specs.Fmt.{HasWritten, IsPlainFormatter}
use Rattle.property.specs.Views.{declared}
use Rattle.tables.specs.Written as by
use Rattle.tables.proofs.table.Table.write_methods.Given as goal

-- The methods so far.
abbrev pub invariant-loop-method : goal.invariant-loop-method
invariant-loop-method g l =
    IsPlainFormatter l.fn.f
    → HasWritten g.W.Write.write_str_gives l.fn.f (flat_map by.method_line (map (declared (vec_items l.self.text)) (take l.method-index (vec_items l.self.methods)))) l.f

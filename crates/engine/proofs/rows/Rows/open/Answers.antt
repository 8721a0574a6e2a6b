use Rattle.std.proofs.Common.{map, sym, ap}
use Rattle.tables.specs.Views.{number}
use Rattle.tables.specs.Meant.{meant}
use Rattle.engine.proofs.rows.Rows.open.Goals as goal

pub returns : goal.returns
returns g c =
    let o = c.open_rows.ensures in
    (o.cap, o.board, o.book, o.follows (meant c.args.table.now) (ap (map number) (sym c.constants-constants.ensures)))

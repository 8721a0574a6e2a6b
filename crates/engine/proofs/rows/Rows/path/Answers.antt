use Rattle.std.proofs.Common.{vec_items}
use Rattle.engine.specs.Trails.{steps_to}
use Rattle.engine.proofs.Trails.{page_written}
use Rattle.engine.proofs.rows.Rows.path.Goals as goal

pub returns : goal.returns
returns g c =
    let ss = steps_to (vec_items c.args.self.now.state.grid.book.entries) c.args.from.parent in
    page_written ss c.args.page.now c.write.new.page c.args.from.step c.depth-before.result c.depth-before.ensures c.if-before-page.false c.write.ensures

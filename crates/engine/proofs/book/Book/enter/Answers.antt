use Rattle.std.proofs.Common.{vec_items, refl, arith}
use Rattle.engine.proofs.Trails.{entered}
use Rattle.engine.proofs.book.Book.enter.Goals as goal

pub returns : goal.returns
returns c =
    let b = c.args.self.now in
    entered (vec_items b.entries) b.used c.args.from b.linked (omega (arith, c.room.ensures, c.if-at-room.false)) c.requires _ refl

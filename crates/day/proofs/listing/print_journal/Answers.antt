use Rattle.std.proofs.Common.{None}
use Rattle.day.proofs.Opens.{narrow_lists, open_lists}
use Rattle.day.specs.Listing.{unopened}
use Rattle.day.proofs.listing.print_journal.Goals as goal

pub returns-in-Some : goal.returns-in-Some
returns-in-Some g c = (
  _,
  rw c.in-Some.is (narrow_lists g.K.Kind.NUMBER g.K.Kind.reads g.K.Kind.LONGEST g.K.Shown.title g.K.Shown.shown c.args.bytes.now c.in-Ok.journal c.in-Ok.ensures c.new.result _ c.new.ensures.0 c.new.ensures.1),
  c.print_source.ensures,
)

pub returns-in-None : goal.returns-in-None
returns-in-None g c = (
  _,
  rw c.in-None.is (open_lists g.K.Kind.NUMBER g.K.Kind.reads g.K.Kind.LONGEST g.K.Shown.title g.K.Shown.shown c.args.bytes.now c.in-Ok.journal c.in-Ok.ensures None),
  c.print_source-in-None.ensures,
)

pub returns-in-Err : goal.returns-in-Err
returns-in-Err g c = (_, unopened c.in-Err.refusal c.in-Err.ensures, c.write_refusal.ensures)

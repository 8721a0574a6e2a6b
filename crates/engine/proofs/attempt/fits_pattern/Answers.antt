use Rattle.std.proofs.Common.{not, get_or, ap, rules}
use Rattle.engine.proofs.Fits.{same_at}
use Rattle.engine.proofs.attempt.fits_pattern.Goals as goal

pub returns-in-Same : goal.returns-in-Same
returns-in-Same g c =
    let rs = c.args.registers.now in
    simp c.in-Same.is (same_at g.K.Kind.class rs c.in-Same.r.at (get_or rs c.place.result c.index-registers-place.result) c.args.v c.same.result (search rules) (search rules) c.same.ensures)

pub returns-in-Differs : goal.returns-in-Differs
returns-in-Differs g c =
    let rs = c.args.registers.now in
    simp c.in-Differs.is (ap not (same_at g.K.Kind.class rs c.in-Differs.r.at (get_or rs c.place-in-Differs.result c.index-registers-place-in-Differs.result) c.args.v c.same-in-Differs.result (search rules) (search rules) c.same-in-Differs.ensures))

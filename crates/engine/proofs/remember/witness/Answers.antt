use Rattle.std.proofs.Common.{map, refl, sym, ap, ◌∙◌, arith}
use Rattle.topl.specs.Theorems.{seen}
use Rattle.topl.proofs.Placed.{placed}
use Rattle.engine.proofs.Windows.{witnessed}
use Rattle.engine.proofs.remember.witness.Goals as goal

pub returns-clause-last : goal.returns-clause-last
returns-clause-last g c es S =
    let W = c.args.window.now in
    let class = g.K.Kind.class in
    let id = c.args.id in
    let vs = c.args.values.now in
    witnessed class W.events W.seen _ es (seen class id vs) (omega (arith, W.four, c.requires)) (refl, ap (map class) c.places_for-places.ensures ∙ sym (placed class g.K.Kind.nothing g.met.K.Kind.empty g.met.K.Kind.lone id vs).0) S

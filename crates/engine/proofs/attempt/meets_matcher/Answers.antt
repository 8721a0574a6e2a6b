use Rattle.std.proofs.Common.{◌∙◌, rules}
use Rattle.std.proofs.lemmas.Iterator.{YieldsList-from_slice, YieldsList-from_zip}
use Rattle.std.proofs.lemmas.Iterator.Search.{all_from_yields_List}
use Rattle.tables.specs.Few.{few_items}
use Rattle.engine.proofs.Fits.{meets_zip}
use Rattle.engine.proofs.attempt.meets_matcher.Goals as goal

pub returns-then-guard-event : goal.returns-then-guard-event
returns-then-guard-event g c e S =
    let u = c.in-Event.guard in
    let x = c.args.event.now in
    simp c.in-Event.is (all_from_yields_List _ c.all.new.self _ c.all.result c.all.ensures.ran (YieldsList-from_zip (YieldsList-from_slice (few_items u.patterns) cc) (YieldsList-from_slice x.places cc)) (λ p b q k. search (rules, k))
    ∙ meets_zip g.K.Kind.class c.args.registers.now u x e S u.six c.if-guard-event.true)

use Rattle.std.proofs.Common.{◌≡◌, [], ◌∷◌, map, length, replicate, drop, set, sym, ◌∙◌, subst, rules, length-set, length-append}
use Rattle.std.proofs.lemmas.Slice.Zip.{zip_turn}
use Rattle.topl.specs.Ledger.{sets}
use Rattle.tables.specs.Views.{number}
use Rattle.engine.proofs.Opens.{sets_more}
use Rattle.engine.proofs.open.start_registers.Goals as goal

pub loop-r-preserved : goal.loop-r-preserved
loop-r-preserved g c =
    let cs = c.args.constants.now in
    let vs = c.args.values.now in
    let class = g.K.Kind.class in
    let rs = c.loop-r.registers in
    let r = c.in-Some.r.now in
    let x = c.in-Some.v.now in
    let j = length c.loop-r.yielded in
    let t = zip_turn cs vs c.loop-r.yielded c.into_iter-r-iterator.result c.loop-r.r-iterator c.next.new.self c.next.result (search rules) (search rules) c.loop-r.yielded_by (c.in-Some.r, c.in-Some.v) c.in-Some.is c.next.ensures.steps in (
      subst (λ k. sets (replicate 8 []) (map number cs) (map class vs) ≡ sets (map class (set rs c.place.result x)) (drop k (map number cs)) (drop k (map class vs))) (sym (length-append c.loop-r.yielded ((c.in-Some.r, c.in-Some.v) ∷ [])))
          (c.loop-r.invariant.0 ∙ sets_more class cs vs rs j c.place.result r x t.0 c.requires c.place.ensures.is (t.2 r) (t.3 x)),
      length-set rs c.place.result x ∙ c.loop-r.invariant.1,
    )

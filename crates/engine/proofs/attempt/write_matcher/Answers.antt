use Rattle.std.proofs.Common.{◌≡◌, [], ◌∷◌, map, length, drop, sym, ap, ◌∙◌, subst, rules, length-append}
use Rattle.std.proofs.lemmas.Slice.Zip.{zip_turn}
use Rattle.topl.specs.Runs.{written, written_all}
use Rattle.topl.specs.declared.pattern.Pattern.TheVariants.{Any}
use Rattle.tables.specs.Views.{pattern}
use Rattle.engine.proofs.Fits.{patterns_of, write_step}
use Rattle.engine.proofs.attempt.write_matcher.Goals as goal

pub loop-p-preserved : goal.loop-p-preserved
loop-p-preserved g c =
    let class = g.K.Kind.class in
    let xs = c.args.event.now.places in
    let ps = patterns_of c.args.m.now in
    let rs = c.loop-p.registers in
    let v = c.in-Some.v.now in
    let first = written_all (map class c.args.registers.now) (map class xs) 0 (map pattern ps) in
    let is : c.deref.result.now ≡ ps = c.deref.ensures ∙ ap patterns_of (sym c.in-Event.is) in
    let t = zip_turn ps xs c.loop-p.yielded c.into_iter-p-iterator.result c.loop-p.p-iterator c.next.new.self c.next.result (search (rules, is)) (search rules) c.loop-p.yielded_by (c.in-Some.p, c.in-Some.v) c.in-Some.is c.next.ensures.steps in
    subst (λ k. first ≡ written_all (map class c.write_pattern.new.registers) (map class xs) k (drop k (map pattern ps))) (sym (length-append c.loop-p.yielded ((c.in-Some.p, c.in-Some.v) ∷ [])))
    (write_step class rs xs ps first (length c.loop-p.yielded) v c.write_pattern.new.registers t.0 t.1 (t.3 v) (c.write_pattern.ensures ∙ ap (λ z. written (map class rs) (class v) (pattern z)) (t.2 Any)) c.loop-p.invariant)

use Rattle.std.proofs.Common.{◌<◌, length, Ok, Err, Option, sym, ap, ◌∙◌, subst, arith}
use Rattle.std.proofs.lemmas.List.{length-map}
use Rattle.std.proofs.lemmas.Result.{err_from_is_err_and}
use Rattle.watch.specs.Answers.{drew}
use Rattle.watch.specs.Shows.{Shows}
use Rattle.watch.specs.declared.standing.Standing.{Standing}
use Rattle.topl.specs.Theorems.{seen}
use Rattle.topl.specs.Ledger.{refused}
use Rattle.judging.specs.Ways.{Drawn, events, running_on}
use Rattle.judging.proofs.Draws.{Drew, left, stands_on, breaks_by, none_left}
use Rattle.judging.proofs.turns.draw_all.Goals as goal

pub returns-in_err-standing : goal.returns-in_err-standing
returns-in_err-standing g c P ks sh =
    let class = g.K.Kind.class in
    let es = events class (g.S.Source.waiting c.args.source.now) in
    let n = g.S.Source.ending c.args.source.now in
    let ws = events class (g.S.Source.waiting c.loop-standing.source) in
    let m = g.S.Source.ending c.loop-standing.source in
    let ws' = events class (g.S.Source.waiting c.draw.new.source) in
    let m' = g.S.Source.ending c.draw.new.source in
    let S = c.loop-standing.invariant P ks sh in
    let f = c.in_err-standing.field-0.0 in
    let d = c.in_err-standing.ensures (running_on P ks S.0) S.1 in
    let p = err_from_is_err_and c.from_residual.result c.from_residual.ensures.1 in
    subst (λ r. Drawn P ks es n r c.draw.new.self) (sym (p.1 ∙ ap Err p.2))
    (left P ks es n sh.lawful (Shows c.loop-standing.watch) (Shows c.draw.new.self) ws ws' m m' S (refused f) d)

pub returns-in-Broken : goal.returns-in-Broken
returns-in-Broken g c P ks sh =
    let class = g.K.Kind.class in
    let es = events class (g.S.Source.waiting c.args.source.now) in
    let n = g.S.Source.ending c.args.source.now in
    let ws = events class (g.S.Source.waiting c.loop-standing.source) in
    let m = g.S.Source.ending c.loop-standing.source in
    let ws' = events class (g.S.Source.waiting c.draw.new.source) in
    let m' = g.S.Source.ending c.draw.new.source in
    let S = c.loop-standing.invariant P ks sh in
    let d = subst (λ (o : Option Standing). Drew P ks es n (Shows c.draw.new.self) S.0 ws m (drew (Ok o)) ws' m') c.in-Some.is (c.in_ok-standing.ensures (running_on P ks S.0) S.1) in
    breaks_by P ks es n sh.lawful (Shows c.loop-standing.watch) (Shows c.draw.new.self) ws ws' m m' S c.in-Some.standing c.in-Broken.position c.in-Broken.is d

pub loop-standing-preserved : goal.loop-standing-preserved
loop-standing-preserved g c P ks sh =
    let class = g.K.Kind.class in
    let es = events class (g.S.Source.waiting c.args.source.now) in
    let n = g.S.Source.ending c.args.source.now in
    let ws = events class (g.S.Source.waiting c.loop-standing.source) in
    let m = g.S.Source.ending c.loop-standing.source in
    let ws' = events class (g.S.Source.waiting c.draw.new.source) in
    let m' = g.S.Source.ending c.draw.new.source in
    let S = c.loop-standing.invariant P ks sh in
    let d = subst (λ (o : Option Standing). Drew P ks es n (Shows c.draw.new.self) S.0 ws m (drew (Ok o)) ws' m') c.in-Some.is (c.in_ok-standing.ensures (running_on P ks S.0) S.1) in
    (stands_on P ks es n sh.lawful (Shows c.loop-standing.watch) (Shows c.draw.new.self) ws ws' m m' S c.in-Some.standing c.in_default-standing.not-Broken d).0

pub loop-standing-smaller : goal.loop-standing-smaller
loop-standing-smaller g c =
    let class = g.K.Kind.class in
    let (P, ks, sh) = c.requires in
    let es = events class (g.S.Source.waiting c.args.source.now) in
    let n = g.S.Source.ending c.args.source.now in
    let ws = events class (g.S.Source.waiting c.loop-standing.source) in
    let m = g.S.Source.ending c.loop-standing.source in
    let ws' = events class (g.S.Source.waiting c.draw.new.source) in
    let m' = g.S.Source.ending c.draw.new.source in
    let S = c.loop-standing.invariant P ks sh in
    let d = subst (λ (o : Option Standing). Drew P ks es n (Shows c.draw.new.self) S.0 ws m (drew (Ok o)) ws' m') c.in-Some.is (c.in_ok-standing.ensures (running_on P ks S.0) S.1) in
    let less : length ws' < length ws = (stands_on P ks es n sh.lawful (Shows c.loop-standing.watch) (Shows c.draw.new.self) ws ws' m m' S c.in-Some.standing c.in_default-standing.not-Broken d).1 in
    let a = length-map (g.S.Source.waiting c.loop-standing.source) (λ h. seen class h.id h.values) in
    let b = length-map (g.S.Source.waiting c.draw.new.source) (λ h. seen class h.id h.values) in
    let fewer : length (g.S.Source.waiting c.draw.new.source) < length (g.S.Source.waiting c.loop-standing.source) = omega arith in
    fewer

pub returns : goal.returns
returns g c P ks sh =
    let class = g.K.Kind.class in
    let es = events class (g.S.Source.waiting c.args.source.now) in
    let n = g.S.Source.ending c.args.source.now in
    let ws = events class (g.S.Source.waiting c.loop-standing.source) in
    let m = g.S.Source.ending c.loop-standing.source in
    let ws' = events class (g.S.Source.waiting c.draw.new.source) in
    let m' = g.S.Source.ending c.draw.new.source in
    let S = c.loop-standing.invariant P ks sh in
    let d = subst (λ (o : Option Standing). Drew P ks es n (Shows c.draw.new.self) S.0 ws m (drew (Ok o)) ws' m') c.in_default.is (c.in_ok-standing.ensures (running_on P ks S.0) S.1) in
    none_left P ks es n sh.lawful (Shows c.loop-standing.watch) (Shows c.draw.new.self) ws ws' m m' S d

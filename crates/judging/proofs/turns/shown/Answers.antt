use Rattle.std.proofs.Common.{◌≡◌, ◌≤◌, length, take, vec_items, ap, ◌∙◌, arith}
use Rattle.std.specs.Vec.{with_items}
use Rattle.std.proofs.lemmas.List.{with_items_is}
use Rattle.judging.specs.Outcomes.{broken}
use Rattle.judging.proofs.Paths.{shown_fits, cut, never_small}
use Rattle.judging.proofs.turns.shown.Goals as goal

pub returns-in_err-count : goal.returns-in_err-count
returns-in_err-count g c l sh b =
    let w = c.args.watch.now in
    let few : length l.shown ≤ 16384 = shown_fits g.K.Kind.class w.rows.state w.held l sh w.few b in
    let size : length c.deref_mut.result.now ≡ 16384 = let len = c.in_ok-steps.ensures.len in let all = c.deref_mut.ensures.len in omega arith in
    absurd (never_small l c.deref_mut.result.now c.path.new.page c.in_err-count.field-0.0 b (omega arith) (c.in_err-count.ensures l sh))

pub returns : goal.returns
returns g c l sh b =
    let w = c.args.watch.now in
    let few : length l.shown ≤ 16384 = shown_fits g.K.Kind.class w.rows.state w.held l sh w.few b in
    let size : length c.deref_mut.result.now ≡ 16384 = let len = c.in_ok-steps.ensures.len in let all = c.deref_mut.ensures.len in omega arith in
    let n = c.in_ok-count.count in
    let front : take n c.path.new.page ≡ l.shown = cut l c.deref_mut.result.now c.path.new.page n b (omega arith) (c.in_ok-count.ensures l sh) in
    let page = with_items c.in_ok-steps.steps c.path.new.page in
    let e : vec_items page ≡ c.path.new.page = with_items_is c.in_ok-steps.steps c.path.new.page (omega arith) in
    let steps : vec_items c.truncate.new.self ≡ l.shown = c.truncate.ensures.items ∙ ap (take n) e ∙ front in
    let told = c.verdict.ensures l sh in
    let count : c.verdict.result.judged ≡ length l.judged = cc in
    (λ j. broken (count j) c.args.position (steps j))

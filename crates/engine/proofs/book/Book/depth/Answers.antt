use Rattle.std.proofs.Common.{◌≡◌, ℕ, get_or, length, vec_items, sym, ap, ◌∙◌, arith}
use Rattle.engine.specs.Trails.{steps_to}
use Rattle.engine.proofs.Trails.{steps_few, steps_none, read_low, read_count}
use Rattle.engine.proofs.book.Book.depth.Goals as goal

pub overflow_add-count : goal.overflow_add-count
overflow_add-count c =
    let few = steps_few (vec_items c.args.self.now.entries) c.args.entry in
    omega arith

pub loop-at-preserved : goal.loop-at-preserved
loop-at-preserved c =
    let b = c.args.self.now in
    let is = c.index.ensures ∙ ap (λ (z : ℕ). get_or (vec_items b.entries) z c.index.result.now) c.from.ensures in (
      λ h. read_low (vec_items b.entries) b.used c.loop-at.at c.index.result.now b.linked is (omega arith) c.loop-at-test.true c.loop-at.invariant.0,
      sym (read_count (vec_items b.entries) b.used c.loop-at.at c.index.result.now b.linked is (omega arith) c.loop-at-test.true c.loop-at.invariant.0 c.loop-at.count) ∙ c.loop-at.invariant.1,
    )

pub returns : goal.returns
returns c =
    let e = steps_none (vec_items c.args.self.now.entries) in
    let z : c.loop-at.at ≡ 0 = omega arith in
    let f : length (steps_to (vec_items c.args.self.now.entries) c.loop-at.at) ≡ 0 = ap (λ n. length (steps_to (vec_items c.args.self.now.entries) n)) z ∙ ap length e in
    omega arith

use Rattle.std.proofs.Common.{◌≡◌, ℕ, get_or, ◌+◌, ◌≤◌, [], ◌∷◌, length, drop, vec_items, ap, ◌∙◌, arith, length-append}
use Rattle.engine.specs.Trails.{steps_to}
use Rattle.engine.proofs.Trails.{steps_none, steps_some, read_low, read_steps, fill_back, filled_page}
use Rattle.engine.proofs.book.Book.write.Goals as goal

pub overflow_sub-left : goal.overflow_sub-left
overflow_sub-left c =
    let b = c.args.self.now in
    let h : 1 ≤ length (steps_to (vec_items b.entries) c.loop-at.at) = steps_some (vec_items b.entries) b.used b.linked c.loop-at.at c.loop-at-test.true c.loop-at.invariant.0 in
    omega (arith, c.loop-at.invariant.1)

pub bounds-page-left : goal.bounds-page-left
bounds-page-left c =
    let b = c.args.self.now in
    let h : 1 ≤ length (steps_to (vec_items b.entries) c.loop-at.at) = steps_some (vec_items b.entries) b.used b.linked c.loop-at.at c.loop-at-test.true c.loop-at.invariant.0 in
    let e = ap length c.loop-at.invariant.2.1 ∙ length-append (steps_to (vec_items b.entries) c.loop-at.at) c.loop-at.invariant.2.0 in
    omega (arith, c.loop-at.invariant.1, c.loop-at.auto.page, c.requires.1)

pub loop-at-preserved : goal.loop-at-preserved
loop-at-preserved c =
    let b = c.args.self.now in
    let x = c.index-line.result.now in
    let es = vec_items b.entries in
    let T = steps_to es c.args.entry in
    let inv = c.loop-at.invariant in
    let is = c.index-line.ensures ∙ ap (λ (z : ℕ). get_or es z x) c.from.ensures in
    let more = read_steps es b.used c.loop-at.at x b.linked is (omega arith) c.loop-at-test.true inv.0 in
    let count : length (steps_to es c.loop-at.at) ≡ length (steps_to es x.parent) + 1 = ap length more ∙ length-append (steps_to es x.parent) (x.step ∷ []) in
    let whole : length T ≡ length (steps_to es c.loop-at.at) + length inv.2.0 = ap length inv.2.1 ∙ length-append (steps_to es c.loop-at.at) inv.2.0 in
    let room : c.loop-at.left ≤ length c.args.page.now = omega (arith, inv.1, c.requires.1) in
    let f = fill_back (steps_to es x.parent) T inv.2.0 c.loop-at.page c.args.page.now (drop (length T) c.args.page.now) c.loop-at.left x.step (steps_to es c.loop-at.at) more inv.1 inv.2.1 room inv.2.2 in (
      λ h. read_low es b.used c.loop-at.at x b.linked is (omega arith) c.loop-at-test.true inv.0,
      omega (arith, inv.1),
      (x.step ∷ inv.2.0, f.0, f.1),
    )

pub returns : goal.returns
returns c =
    let es = vec_items c.args.self.now.entries in
    let T = steps_to es c.args.entry in
    let inv = c.loop-at.invariant in
    let z : c.loop-at.at ≡ 0 = omega arith in
    let none : steps_to es c.loop-at.at ≡ [] = ap (steps_to es) z ∙ steps_none es in
    filled_page (steps_to es c.loop-at.at) T inv.2.0 c.loop-at.page c.args.page.now (drop (length T) c.args.page.now) c.loop-at.left none inv.1 inv.2.1 inv.2.2

use Rattle.std.proofs.Common.{ℕ, ◌+◌, ◌%◌, ◌<◌, ◌≤◌, [], get_or, Ok, Err, refl, subst, arith}
use Rattle.std.proofs.lemmas.Result.{err_from_is_err_and}
use Rattle.topl.specs.Runs.{first_configuration}
use Rattle.engine.specs.Fronts.{count_at, entries_at}
use Rattle.engine.specs.Grids.{row_of}
use Rattle.engine.proofs.Fills.{safe_on}
use Rattle.engine.proofs.Steps.{brought_from, had_row, row_first, row_more, row_end, row_error}
use Rattle.engine.proofs.Cases.{never}
use Rattle.engine.proofs.fill.step_row.Goals as goal

pub returns-in_err-step_from-clause-brings : goal.returns-in_err-step_from-clause-brings
returns-in_err-step_from-clause-brings g c P k w W T K =
    let told = err_from_is_err_and c.from_residual.result c.from_residual.ensures.1 in
    let class = g.K.Kind.class in
    let s = c.args.grid.now in
    let position = c.args.position.now in
    let base = position.scene.now.base in
    let p = position.number in
    let i = c.loop-i.i in
    let x = c.in_err-step_from.field-0.0 in
    let at = base % 5 in
    let l = subst (λ (z : ℕ). i < count_at s.front z) c.of-source.ensures (let n = c.count_at-count.ensures.is in omega (arith, c.loop-i-test.true)) in
    let near : p ≤ base + 4 = let few = position.scene.now.short in omega (arith, position.to) in
    let B = c.loop-i.invariant.brings P k w W T K in
    rw (told.1, told.2)
    (row_error P w base p class s k c.step_from.new.grid (i + 1) x
    (row_more P w base p class s k c.loop-i.grid c.step_from.new.grid c.loop-i.invariant.safe c.requires near i at refl
    (get_or (row_of class c.loop-i.grid at) i (first_configuration [])) (get_or (entries_at c.loop-i.grid.front at) i 0) (Err x) l refl refl T B
    (λ R. c.in_err-step_from.ensures.brings P k w W R (had_row class position P k w s c.loop-i.grid c.loop-i.invariant.safe c.requires near (brought_from P w base p class s i) B K i at refl
    (get_or (row_of class c.loop-i.grid at) i (first_configuration [])) c.decided-decided.result refl c.decided-decided.ensures))))

pub loop-i-init : goal.loop-i-init
loop-i-init g c =
    let s = c.args.grid.now in
    let position = c.args.position.now in
    let base = position.scene.now.base in record {
      safe = record { cap = refl; board = refl; more = omega arith; spares = λ _ _. (refl, refl); long = refl; known = λ x e. absurd (never cc) };
      brings = λ P k w W T K. row_first P w base position.number g.K.Kind.class s k c.first_tried-i.result (λ i l. let d = c.first_tried-i.ensures.decided i l in (c.first_tried-i.ensures.far (omega arith), (K d.0 i d.1).1));
    }

pub loop-i-preserved : goal.loop-i-preserved
loop-i-preserved g c =
    let class = g.K.Kind.class in
    let s = c.args.grid.now in
    let position = c.args.position.now in
    let base = position.scene.now.base in
    let p = position.number in
    let i = c.loop-i.i in
    let at = base % 5 in
    let l = subst (λ (z : ℕ). i < count_at s.front z) c.of-source.ensures (let n = c.count_at-count.ensures.is in omega (arith, c.loop-i-test.true)) in
    let near : p ≤ base + 4 = let few = position.scene.now.short in omega (arith, position.to) in
    record {
      safe = safe_on (p % 5) s c.loop-i.grid c.step_from.new.grid (Ok tt) c.loop-i.invariant.safe c.in_ok-step_from.ensures.safe;
      brings = λ P k w W T K.
          let B = c.loop-i.invariant.brings P k w W T K in
          row_more P w base p class s k c.loop-i.grid c.step_from.new.grid c.loop-i.invariant.safe c.requires near i at refl
          (get_or (row_of class c.loop-i.grid at) i (first_configuration [])) (get_or (entries_at c.loop-i.grid.front at) i 0) (Ok tt) l refl refl T B
          (λ R. c.in_ok-step_from.ensures.brings P k w W R (had_row class position P k w s c.loop-i.grid c.loop-i.invariant.safe c.requires near (brought_from P w base p class s i) B K i at refl
          (get_or (row_of class c.loop-i.grid at) i (first_configuration [])) c.decided-decided.result refl c.decided-decided.ensures));
    }

pub returns-clause-brings : goal.returns-clause-brings
returns-clause-brings g c P k w W T K =
    let s = c.args.grid.now in
    let base = c.args.position.now.scene.now.base in
    let p = c.args.position.now.number in
    let l = subst (λ (z : ℕ). count_at s.front z ≤ c.loop-i.i) c.of-source.ensures (let n = c.count_at-count.ensures.is in omega (arith, c.loop-i-test.false)) in
    row_end P w base p g.K.Kind.class s k c.loop-i.grid c.loop-i.i l (c.loop-i.invariant.brings P k w W T K)

use Rattle.std.proofs.Common.{◌≡◌, ℕ, ◌+◌, ◌-◌, ◌%◌, ◌<◌, ◌≤◌, Ok, Err, subst, arith}
use Rattle.std.proofs.lemmas.Result.{err_from_is_err_and}
use Rattle.engine.specs.Fills.{Brings}
use Rattle.engine.proofs.Fills.{safe_on}
use Rattle.engine.proofs.Steps.{brought_to, known_later, known_past, rows_more, rows_error, watched_past}
use Rattle.engine.proofs.fill.step_rows.Goals as goal

pub returns-in_err-step_row-clause-brings : goal.returns-in_err-step_row-clause-brings
returns-in_err-step_row-clause-brings g c P k w W T K =
    let told = err_from_is_err_and c.from_residual.result c.from_residual.ensures.1 in
    let class = g.K.Kind.class in
    let s = c.args.grid.now in
    let j = c.step_row.new.grid in
    let p = c.args.position.now.number in
    let scene = c.args.position.now.scene.now in
    let past = c.past-scene in
    let q = c.loop-q.q in
    let x = c.in_err-step_row.field-0.0 in
    let l : q < p = c.loop-q-test.true in
    let low : scene.base ≤ q = c.loop-q.auto.q in
    let to = c.args.position.now.to in
    let few = scene.short in
    let W' = watched_past class scene past.result P w (q - scene.base) past.ensures.statements past.ensures.base past.ensures.events past.ensures.mode W in
    let e : past.result.base ≡ q = omega (arith, past.ensures.base) in
    let B = c.loop-q.invariant.brings P k w W T K in
    rw (told.1, told.2)
    (rows_error P w scene.base p class s k j (q + 1) x (omega arith)
    (rows_more P w scene.base p class s k c.loop-q.grid j c.loop-q.invariant.safe q low l (omega arith) past.result.base e (Err x) (T q low l) B
    (λ U. c.in_err-step_row.ensures.brings P k w W' U (known_past class c.args.position.now past.result P w q c.loop-q.grid e past.ensures.judged past.ensures.before
    (known_later class c.args.position.now P k w q s c.loop-q.grid c.loop-q.invariant.safe l (omega arith) (brought_to P w scene.base p class s q) B (K q low l))))))

pub loop-q-preserved : goal.loop-q-preserved
loop-q-preserved g c =
    let class = g.K.Kind.class in
    let s = c.args.grid.now in
    let j = c.step_row.new.grid in
    let p = c.args.position.now.number in
    let scene = c.args.position.now.scene.now in
    let past = c.past-scene in
    let q = c.loop-q.q in
    let l : q < p = c.loop-q-test.true in
    let low : scene.base ≤ q = c.loop-q.auto.q in
    let to = c.args.position.now.to in
    let few = scene.short in
    let e : past.result.base ≡ q = omega (arith, past.ensures.base) in
    record {
      safe = safe_on (p % 5) s c.loop-q.grid j (Ok tt) c.loop-q.invariant.safe c.in_ok-step_row.ensures.safe;
      brings = λ P k w W T K.
          let B = c.loop-q.invariant.brings P k w W T K in
          let W' = watched_past class scene past.result P w (q - scene.base) past.ensures.statements past.ensures.base past.ensures.events past.ensures.mode W in
          rows_more P w scene.base p class s k c.loop-q.grid j c.loop-q.invariant.safe q low l (omega arith) past.result.base e (Ok tt) (T q low l) B
          (λ U. c.in_ok-step_row.ensures.brings P k w W' U (known_past class c.args.position.now past.result P w q c.loop-q.grid e past.ensures.judged past.ensures.before
          (known_later class c.args.position.now P k w q s c.loop-q.grid c.loop-q.invariant.safe l (omega arith) (brought_to P w scene.base p class s q) B (K q low l))));
    }

pub returns-clause-brings : goal.returns-clause-brings
returns-clause-brings g c P k w W T K =
    let s = c.args.grid.now in
    let p = c.args.position.now.number in
    let base = c.args.position.now.scene.now.base in
    let e : c.loop-q.q ≡ p = omega arith in
    subst (λ (z : ℕ). Brings g.K.Kind.class (p % 5) P k w p s c.loop-q.grid (brought_to P w base p g.K.Kind.class s z) (Ok tt)) e (c.loop-q.invariant.brings P k w W T K)

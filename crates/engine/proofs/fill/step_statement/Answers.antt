use Rattle.std.proofs.Common.{◌≡◌, ℕ, ◌+◌, ◌%◌, [], ◌∷◌, map, drop, vec_items, sym, ap, ◌∙◌, subst, ap₂, arith}
use Rattle.topl.specs.Table.{span}
use Rattle.topl.specs.Runs.{Reach, onward, pass, landing_of}
use Rattle.topl.proofs.Moves.{lands_passes, lands_elsewhere, lands_not}
use Rattle.engine.specs.Views.{stated}
use Rattle.engine.specs.Trails.{steps_by}
use Rattle.engine.specs.Fronts.{configuration, stands_for}
use Rattle.engine.specs.Fills.{Brings}
use Rattle.engine.proofs.Matchers.{span_is, outcome_is}
use Rattle.engine.proofs.Attempts.{leads_nowhere}
use Rattle.engine.proofs.Fills.{brings_none}
use Rattle.engine.proofs.fill.step_statement.Goals as goal

pub returns-then-scene-t-clause-brings : goal.returns-then-scene-t-clause-brings
returns-then-scene-t-clause-brings g c P k w W m r =
    let class = g.K.Kind.class in
    let t = c.args.t.now in
    let T = stated t in
    let d = stands_for class c.args.at.now.configuration in
    let base = c.args.position.now.scene.now.base in
    let p = c.args.position.now.number in
    let long = span_is t.source t.target t.events.now t.some in
    brings_none class (p % 5) P k w p (omega arith) c.args.grid.now _ (lands_elsewhere w base d (t.number, T) p (λ (e : base + span T ≡ p). c.if-scene-t.true (omega arith)))

pub returns-in-Passes-clause-brings : goal.returns-in-Passes-clause-brings
returns-in-Passes-clause-brings g c P k w W m r =
    let class = g.K.Kind.class in
    let s = c.args.grid.now in
    let t = c.args.t.now in
    let T = stated t in
    let at = c.args.at.now in
    let d = stands_for class at.configuration in
    let base = c.args.position.now.scene.now.base in
    let p = c.args.position.now.number in
    let long = span_is t.source t.target t.events.now t.some in
    let e = c.if-scene-t.false in
    let n : base + span T ≡ p = omega arith in
    let regs = map class c.in-Passes.registers in
    let next = c.new-next in
    let is = ap₂ (configuration class) (sym next.ensures.state) (sym next.ensures.registers) in
    let h = outcome_is t.source t.target t.events.now t.some _ d.registers _ (c.in-Passes.ensures (drop base w.events) W.events) in
    let move = onward r (pass (t.number, T) regs (m, c.if-t-c.false) (sym h)) in
    let path = steps_by (vec_items s.book.entries) (record { parent = at.entry; step = t.number }) in
    let r' = subst (λ x. Reach P k w p x path) is (subst (λ (z : ℕ). Reach P k w z (configuration class t.target c.in-Passes.registers) path) n move) in
    let lands = lands_passes w base d (t.number, T) p c.if-t-c.false n regs h ∙ ap (λ x. x ∷ []) is in
    subst (λ z. Brings class (p % 5) P k w p s c.land.new.grid z c.land.result) (sym lands) (subst (λ (z : ℕ). Brings class z P k w p s c.land.new.grid (stands_for class next.result ∷ []) c.land.result) c.of.ensures (c.land.ensures.brings P k w p r'))

pub returns-in-Fails-clause-brings : goal.returns-in-Fails-clause-brings
returns-in-Fails-clause-brings g c P k w W m r =
    let class = g.K.Kind.class in
    let t = c.args.t.now in
    let T = stated t in
    let d = stands_for class c.args.at.now.configuration in
    let base = c.args.position.now.scene.now.base in
    let p = c.args.position.now.number in
    let h = outcome_is t.source t.target t.events.now t.some _ d.registers _ (c.attempt_statement.ensures (drop base w.events) W.events) in
    brings_none class (p % 5) P k w p (omega arith) c.args.grid.now _ (lands_not w base d (t.number, T) p (ap (landing_of base (t.number, T)) (sym h) ∙ leads_nowhere class base (t.number, T) c.attempt_statement.result c.in-Fails.is))

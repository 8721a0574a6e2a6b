use Rattle.std.proofs.Common.{◌≡◌, ℕ, suc, ◌%◌, ◌<◌, [], ◌∷◌, length, drop, vec_items, sym, ◌∙◌, subst, arith, length-drop}
use Rattle.topl.specs.Runs.{Reach, onward, skip}
use Rattle.topl.proofs.Moves.{skips_here}
use Rattle.topl.proofs.Enumerate.{quiet_sound}
use Rattle.engine.specs.Trails.{steps_by}
use Rattle.engine.specs.Fronts.{stands_for}
use Rattle.engine.specs.Fills.{Brings}
use Rattle.engine.proofs.Windows.{seen_long}
use Rattle.engine.proofs.fill.step_skip.Goals as goal

pub returns-clause-brings : goal.returns-clause-brings
returns-clause-brings g c P k w W r =
    let class = g.K.Kind.class in
    let s = c.args.grid.now in
    let at = c.args.at.now in
    let d = stands_for class at.configuration in
    let scene = c.args.position.now.scene.now in
    let base = scene.base in
    let p = c.args.position.now.number in
    let to = c.args.position.now.to in
    let n = seen_long class scene.events.now (drop base w.events) W.events in
    let m = length-drop base w.events in
    let e : suc base ≡ p = omega (arith, c.if-scene-position.false) in
    let l : base < length w.events = omega arith in
    let h = sym (c.is_quiet.ensures P w W) ∙ c.if-not-is_quiet.false in
    let move = onward r (skip l (λ t v. quiet_sound w base d h v.0 v.1)) in
    let r' = subst (λ (z : ℕ). Reach P k w z d (steps_by (vec_items s.book.entries) (record { parent = at.entry; step = 0 }))) e move in
    subst (λ z. Brings class (p % 5) P k w p s c.land.new.grid z c.land.result) (sym (skips_here P w base d l h p e)) (subst (λ (z : ℕ). Brings class z P k w p s c.land.new.grid (d ∷ []) c.land.result) c.of.ensures (c.land.ensures.brings P k w p r'))

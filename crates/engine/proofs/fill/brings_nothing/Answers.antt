use Rattle.std.proofs.Common.{ℕ, ◌-◌, sym, ap, ◌∙◌, arith}
use Rattle.std.specs.List.{list_all}
use Rattle.engine.specs.Fills.{is_away, is_near}
use Rattle.engine.proofs.Since.{had_away, had_near, had_start}
use Rattle.engine.proofs.fill.brings_nothing.Goals as goal

pub returns-then-state-eq-START : goal.returns-then-state-eq-START
returns-then-state-eq-START g c P w d row s n had t =
    let x = c.args.position.now in
    had_start row P w x.scene.now.base d x.number (n ∙ c.if-state-eq-START.true) (had c.if-is_decided.true).1

pub returns-else-state-eq-START : goal.returns-else-state-eq-START
returns-else-state-eq-START g c P w d row s n had t =
    let x = c.args.position.now in
    had_near row P w x.scene.now.base d x.number x.scene.now.judged x.scene.now.statements.now s c.requires
    (ap (λ (z : ℕ). list_all (is_near z (x.scene.now.judged - x.scene.now.base)) x.scene.now.statements.now) n ∙ (sym c.are_written_near.ensures ∙ t)) (had c.if-is_decided.true)

pub returns : goal.returns
returns g c P w d row s n had t =
    let x = c.args.position.now in
    had_away w x.scene.now.base d x.number (x.number - x.scene.now.base) c.if-position.false (let l = c.requires in omega arith) row P x.scene.now.statements.now s
    (ap (λ (z : ℕ). list_all (is_away z (x.number - x.scene.now.base)) x.scene.now.statements.now) n ∙ (sym c.are_written_away.ensures ∙ t))

use Rattle.std.proofs.Common.{refl, arith, ◌∙◌}
use Rattle.engine.specs.Grids.{grid_of}
use Rattle.engine.proofs.Judging.{came_errors, came_spills, came_stands}
use Rattle.engine.proofs.Since.{known_since}
use Rattle.engine.proofs.fill.fill_position.Goals as goal

pub returns-in-Err-clause-fills : goal.returns-in-Err-clause-fills
returns-in-Err-clause-fills g c P k L w W R S =
    let s = c.args.grid.now in
    let position = c.args.position.now in
    let h = c.in-Err.ensures.brings P k w W (λ q l m. R.tracked q l (omega arith)) (λ q l m. known_since g.K.Kind.class position P k L w s R S q l m) in
    (refl, came_errors g.K.Kind.class s.cap (grid_of s) (grid_of c.step_rows.new.grid) position.scene.now.base position.number P k L w R ∙ h.0, h.1)

pub returns-then-grid-clause-fills : goal.returns-then-grid-clause-fills
returns-then-grid-clause-fills g c P k L w W R S =
    let s = c.args.grid.now in
    let position = c.args.position.now in
    let h = c.in_default.ensures.brings P k w W (λ q l m. R.tracked q l (omega arith)) (λ q l m. known_since g.K.Kind.class position P k L w s R S q l m) in (
      came_errors g.K.Kind.class s.cap (grid_of s) (grid_of c.step_rows.new.grid) position.scene.now.base position.number P k L w R ∙ h.0,
      came_spills g.K.Kind.class s.cap (grid_of s) (grid_of c.step_rows.new.grid) position.scene.now.base position.number P k L w R _ _ _ h.1 c.if-grid.true,
    )

pub returns-clause-fills : goal.returns-clause-fills
returns-clause-fills g c P k L w W R S =
    let s = c.args.grid.now in
    let position = c.args.position.now in
    let h = c.in_default.ensures.brings P k w W (λ q l m. R.tracked q l (omega arith)) (λ q l m. known_since g.K.Kind.class position P k L w s R S q l m) in
    came_stands g.K.Kind.class s.cap (grid_of s) (grid_of c.step_rows.new.grid) position.scene.now.base position.number P k L w R _ _ _ position.from h.0 h.1 c.if-grid.false

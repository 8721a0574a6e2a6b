use Rattle.std.proofs.Common.{◌≡◌, ℕ, ◌%◌, [], get_or, vec_items, sym, ap, ◌∙◌, subst, arith}
use Rattle.topl.specs.Runs.{Reach, first_configuration, moves}
use Rattle.topl.specs.Rows.{landed}
use Rattle.engine.specs.Trails.{steps_to}
use Rattle.engine.specs.Fronts.{stands_for, entries_at}
use Rattle.engine.specs.Grids.{row_of}
use Rattle.engine.specs.Fills.{Told, Brings}
use Rattle.engine.proofs.Fills.{brings_had}
use Rattle.engine.proofs.Since.{state_is}
use Rattle.engine.proofs.fill.step_from.Goals as goal

pub returns-then-brings_nothing-clause-brings : goal.returns-then-brings_nothing-clause-brings
returns-then-brings_nothing-clause-brings g c P k w W r had =
    let class = g.K.Kind.class in
    let s = c.args.grid.now in
    let p = c.args.position.now.number in
    let q = c.args.position.now.scene.now.base in
    let i = c.args.i in
    let d = get_or (row_of class s (q % 5)) i (first_configuration []) in
    let source = c.of-source in
    brings_had class (p % 5) P k w p (omega arith) s (landed p (moves P w q d))
    (c.brings_nothing.ensures P w d (row_of class s (p % 5)) W.statements (state_is class s source.result.at i (q % 5) c.mark_at.result source.result.five source.ensures c.requires.0 c.mark_at.ensures) had c.if-brings_nothing.true)

pub returns-clause-brings : goal.returns-clause-brings
returns-clause-brings g c P k w W r had =
    let class = g.K.Kind.class in
    let s = c.args.grid.now in
    let p = c.args.position.now.number in
    let q = c.args.position.now.scene.now.base in
    let i = c.args.i in
    let d = get_or (row_of class s (q % 5)) i (first_configuration []) in
    let at = c.entered_at-at in
    let e = c.of-source.ensures in
    let is : stands_for class at.result.configuration ≡ d = at.ensures.stands ∙ ap (λ (z : ℕ). get_or (row_of class s z) i (first_configuration [])) e in
    let entry : at.result.entry ≡ get_or (entries_at s.front (q % 5)) i 0 = at.ensures.entry ∙ ap (λ (z : ℕ). get_or (entries_at s.front z) i 0) e in
    let r' = subst (λ z. Reach P k w q z (steps_to (vec_items s.book.entries) at.result.entry)) (sym is) (subst (λ (z : ℕ). Reach P k w q d (steps_to (vec_items s.book.entries) z)) (sym entry) r) in
    subst (λ z. Brings class (p % 5) P k w p s c.step_configuration.new.grid (landed p (moves P w q z)) c.step_configuration.result) is (c.step_configuration.ensures.brings P k w W r'
    (λ t. subst (Told (row_of class s (p % 5)) P w q p c.args.position.now.scene.now.judged) (sym is) (had t)))

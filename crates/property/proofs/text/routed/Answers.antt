use Rattle.std.proofs.Common.{◌&&◌, eqb, sym, ap, ◌∙◌, rules, tests}
use Rattle.std.proofs.lemmas.Iterator.{YieldsList-from_slice}
use Rattle.std.proofs.lemmas.Iterator.Search.{any_from_yields_List}
use Rattle.std.specs.List.{list_any}
use Rattle.property.specs.declared.table.Statement.{Statement}
use Rattle.property.proofs.text.routed.Goals as goal

pub returns-then-any : goal.returns-then-any
returns-then-any c =
    let ss = c.args.statements.now in
    let leaves = λ (s : Statement). eqb s.source 0 in
    let reaches = λ (s : Statement). eqb s.target 1 in
    let a = any_from_yields_List leaves _ _ c.any.result c.any.ensures.ran (YieldsList-from_slice ss cc) (λ x b q k. search (rules, tests)) in
    let b = any_from_yields_List reaches _ _ c.any-then-any.result c.any-then-any.ensures.ran (YieldsList-from_slice ss cc) (λ x b q k. search (rules, tests)) in
    b ∙ ap (λ t. t && list_any reaches ss) (sym c.if-any.true ∙ a)

pub returns-else-any : goal.returns-else-any
returns-else-any c =
    let ss = c.args.statements.now in
    let leaves = λ (s : Statement). eqb s.source 0 in
    let reaches = λ (s : Statement). eqb s.target 1 in
    let a = any_from_yields_List leaves _ _ c.any.result c.any.ensures.ran (YieldsList-from_slice ss cc) (λ x b q k. search (rules, tests)) in
    c.if-any.false ∙ ap (λ t. t && list_any reaches ss) (sym c.if-any.false ∙ a)

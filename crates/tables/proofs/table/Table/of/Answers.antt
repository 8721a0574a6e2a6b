use Rattle.std.proofs.Common.{◌+◌, ◌≤◌, List, All, ap, sym, ◌∙◌, subst}
use Rattle.std.proofs.lemmas.List.{length-map}
use Rattle.property.specs.Views.{key_of, sofar, spelled}
use Rattle.property.specs.declared.table.Statement.{Statement}
use Rattle.topl.specs.Table.{is_lawful}
use Rattle.tables.specs.Fits.{StatementFits}
use Rattle.limits.proofs.Lawful.{within_tested}
use Rattle.tables.proofs.Fitted.{statements_fit}
use Rattle.tables.proofs.Held.{held, named}
use Rattle.tables.proofs.table.Table.of.Goals as goal

pub statements-requires : goal.statements-requires
statements-requires c =
    let Fit : List Statement → Type 0 = λ ss. All StatementFits ss in
    subst Fit (sym c.deref-2.ensures.value) (statements_fit (sofar c.args.text.now c.args.draft) c.requires)

pub invariant_of-result : goal.invariant_of-result
invariant_of-result c =
    let P = sofar c.args.text.now c.args.draft in
    let e = held c.args.text.now c.args.draft _ _ _ _ c.deref.ensures.value c.deref-2.ensures.value c.in_ok-constants.ensures c.in_ok-statements.ensures in
    record {
      few_states = subst (λ n. 2 + n ≤ 16) (length-map _ (spelled c.args.text.now)) c.requires.few_states;
      few_registers = subst (λ n. n ≤ 8) (length-map _ (key_of c.args.text.now)) c.requires.few_registers;
      lawful = ap is_lawful e ∙ within_tested P c.requires;
    }

pub returns : goal.returns
returns c = (
  held c.args.text.now c.args.draft _ _ _ _ c.deref.ensures.value c.deref-2.ensures.value c.in_ok-constants.ensures c.in_ok-statements.ensures,
  named _ c.args.text.now c.args.draft c.in_ok-from_slice.ensures.items,
)

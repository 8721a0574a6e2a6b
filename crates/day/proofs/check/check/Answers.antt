use Rattle.std.proofs.Common.{Option, ap, ◌∙◌, subst}
use Rattle.property.specs.declared.reader.Flaw.{Flaw}
use Rattle.day.specs.Counting.{PrintsFirst}
use Rattle.day.specs.Lines.{written}
use Rattle.day.specs.declared.page.Page.{Page}
use Rattle.day.proofs.Checking.{accepted_alone, explained_alone}
use Rattle.day.proofs.check.check.Goals as goal
use Rattle.day.proofs.check.check.Goals.{in-Some+in_ok-explain, in_default}

pub returns : goal.returns
returns c =
    let First : Option Flaw → Type 0 = λ f. PrintsFirst c.args.text.now c.new-page.result c.print_first_line.new.page f in
    let first : First c.in_ok-flaw.field-0 = c.in_ok-flaw.ensures in
    elim c.match-branch-2.branch [
      | in-Some+in_ok-explain w ↦
          explained_alone c.args.text.now c.new-page.result c.print_first_line.new.page w.explain.new.page w.in-Some.flaw c.into_bytes.result.items
          (subst First w.in-Some.is first) c.new-page.ensures w.in_ok-explain.ensures.so (c.into_bytes.ensures ∙ ap (λ (p : Page). written p) w.page-is)
      | in_default w ↦
          accepted_alone c.args.text.now c.new-page.result c.print_first_line.new.page c.into_bytes.result.items
          (subst First w.in_default.is first) c.new-page.ensures (c.into_bytes.ensures ∙ ap (λ (p : Page). written p) w.page-is)
    ]

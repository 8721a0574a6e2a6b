use Rattle.std.proofs.Common.{List, ℕ, ◌++◌, ap, ◌∙◌, subst}
use Rattle.paths.specs.Outcomes.{Refuses}
use Rattle.day.specs.Counting.{accepted, refused}
use Rattle.day.specs.Lines.{written}
use Rattle.day.proofs.Counting.{line_of}
use Rattle.day.proofs.check.print_first_line.Goals as goal

pub returns-in-Ok : goal.returns-in-Ok
returns-in-Ok c =
    let (P, writes, holds) = c.in-Ok.ensures in
    accepted P writes (c.in_ok-print-in-Ok.ensures.so ∙ ap (λ (z : List ℕ). written c.args.page.now ++ z) (line_of _ P (c.of.ensures P holds)))

pub returns-in-Err-At : goal.returns-in-Err-At
returns-in-Err-At c =
    refused c.in-Err-At.flaw (subst (Refuses c.args.text.now) c.in-Err-At.field-0-is c.in-Err-At.ensures.0) c.in_ok-print_flaw-in-Err-At.ensures.so

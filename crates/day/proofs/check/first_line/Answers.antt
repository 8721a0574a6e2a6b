use Rattle.day.proofs.Checking.{first_alone}
use Rattle.day.proofs.check.first_line.Goals as goal

pub returns : goal.returns
returns c =
    first_alone c.args.text.now c.new-page.result c.print_first_line.new.page _ c.into_bytes.result.items c.in_ok-print_first_line.ensures c.new-page.ensures c.into_bytes.ensures

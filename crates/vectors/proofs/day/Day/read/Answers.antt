use Rattle.std.proofs.lemmas.Result.{err_from_is_err_and}
use Rattle.vectors.specs.Read.{few, memory}
use Rattle.vectors.proofs.Cutting.{text_unread, journal_unread, constants_unread}
use Rattle.vectors.proofs.day.Day.read.Goals as goal

pub returns-in_default : goal.returns-in_default
returns-in_default c = few c.in_default.ensures

pub returns-in_err-text : goal.returns-in_err-text
returns-in_err-text c =
    let p = err_from_is_err_and c.from_residual.result c.from_residual.ensures.1 in
    rw (p.1, p.2) (text_unread _ _ _ _ _ _ c.in-Some.ensures c.in_err-text.ensures)

pub returns-in_err-journal : goal.returns-in_err-journal
returns-in_err-journal c =
    let p = err_from_is_err_and c.from_residual-in_err-journal.result c.from_residual-in_err-journal.ensures.1 in
    rw (p.1, p.2) (journal_unread _ _ _ _ _ _ c.in-Some.ensures c.in_err-journal.ensures)

pub returns-in_err-constants : goal.returns-in_err-constants
returns-in_err-constants c =
    let p = err_from_is_err_and c.from_residual-in_err-constants.result c.from_residual-in_err-constants.ensures.1 in
    rw (p.1, p.2) (constants_unread _ _ _ _ _ _ c.in-Some.ensures c.in_err-constants.ensures)

pub returns-in_err-expected : goal.returns-in_err-expected
returns-in_err-expected c =
    let p = err_from_is_err_and c.from_residual-in_err-expected.result c.from_residual-in_err-expected.ensures.1 in
    rw (p.1, p.2) memory

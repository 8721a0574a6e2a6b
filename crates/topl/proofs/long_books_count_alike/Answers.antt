use Rattle.topl.proofs.long_books_count_alike.Goals as goal
use Rattle.topl.proofs.Ruled.{books_count}

pub returns : goal.returns
returns c = books_count

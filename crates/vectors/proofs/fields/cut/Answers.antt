use Rattle.std.proofs.Common.{lit<}
use Rattle.std.proofs.lemmas.Str.Pattern.{split_once_first}
use Rattle.vectors.proofs.Cutting.{cut_of}
use Rattle.vectors.proofs.fields.cut.Goals as goal

pub returns : goal.returns
returns c = cut_of c.args.line.now c.split_once.result (split_once_first 9 c.args.line.now c.split_once.result c.split_once.ensures.cases (lit< tt))

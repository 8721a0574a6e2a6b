use Rattle.std.proofs.Common.{rules}
use Rattle.kinds.specs.Trims.{label_same, padded_is}
use Rattle.kinds.proofs.labels.spell.Goals as goal

pub returns : goal.returns
returns c = label_same _ _ (let e = padded_is c.args.text.now c.requires in search rules)

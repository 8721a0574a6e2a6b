use Rattle.property.specs.Views.{spelled}
use Rattle.property.specs.Words.{same}
use Rattle.property.proofs.Searching.{not_held}
use Rattle.property.proofs.draft.Reading.lacks.Goals as goal

pub returns : goal.returns
returns c = not_held (spelled c.args.self.now.text.now) (same c.args.w.now) c.args.self.now.draft.now.others.items _ _ c.other.ensures c.is_none.ensures

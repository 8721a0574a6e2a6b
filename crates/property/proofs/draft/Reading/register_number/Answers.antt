use Rattle.std.proofs.Common.{◌∙◌}
use Rattle.property.specs.States.{same_key}
use Rattle.property.specs.Views.{key_of}
use Rattle.property.proofs.Searching.{next_number}
use Rattle.property.proofs.draft.Reading.register_number.Goals as goal

pub returns : goal.returns
returns c =
    let t = c.args.self.now.text.now in
    next_number (key_of t) (same_key (key_of t c.args.register)) c.args.self.now.draft.now.registers.items _ _ _ c.register.ensures (c.len.ensures ∙ c.args.self.now.draft.now.registers.ok.0) c.unwrap_or.ensures

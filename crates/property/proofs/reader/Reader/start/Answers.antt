use Rattle.std.proofs.Common.{Bool, sym, ◌∙◌, subst}
use Rattle.forms.specs.Bytes.{space}
use Rattle.property.specs.Reads.{Gapped}
use Rattle.property.proofs.Readings.{gap_loose}
use Rattle.property.proofs.Texts.{passed_in}
use Rattle.property.proofs.reader.Reader.start.Goals as goal

pub returns : goal.returns
returns c =
    subst (λ (b : Bool). Gapped b c.args.self.now.text.now c.args.self.now.place c.skip_spaces.result) (sym (sym c.tight.ensures ∙ c.if-tight.false))
    (gap_loose c.args.self.now.text.now c.args.self.now.place c.skip_spaces.result (passed_in space c.args.self.now.text.now c.args.self.now.place c.skip_spaces.result c.requires c.skip_spaces.ensures))

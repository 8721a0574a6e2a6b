use Rattle.std.proofs.Common.{sym, ap, ◌∙◌}
use Rattle.forms.specs.Bytes.{space, wordy}
use Rattle.property.specs.Words.{front}
use Rattle.property.proofs.Texts.{past_passed, passed_in, front_passed, spelled_slice}
use Rattle.property.proofs.words.next_word.Goals as goal

pub returns : goal.returns
returns c =
    let t = c.args.text.now in
    let f = c.skip_spaces-from.result in
    let q = c.skip.result in
    let x = passed_in wordy t f q c.skip_spaces-from.ensures.high c.skip.ensures in
    spelled_slice t f q x.low x.high ∙ sym (ap (front wordy) (past_passed space t c.args.at f c.skip_spaces-from.ensures) ∙ front_passed wordy t f q x)

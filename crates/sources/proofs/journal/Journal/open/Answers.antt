use Rattle.std.proofs.Common.{sym, refl, ap, ◌∙◌}
use Rattle.sources.proofs.Recorded.{short_records}
use Rattle.sources.proofs.Walked.{recorded}
use Rattle.sources.specs.Opening.{head_refusal}
use Rattle.sources.proofs.journal.Journal.open.Goals as goal

pub returns : goal.returns
returns g c =
    let k = g.K.Kind in
    let bytes = c.args.bytes.now in
    record {
      head = ap (λ n. head_refusal n bytes) (sym c.NUMBER.ensures) ∙ c.in_ok-check_head.ensures;
      bytes_are = refl;
      place_is = refl;
      holds = recorded k.reads k.LONGEST g.met.K.Kind.bounded bytes 2;
      short = short_records k.reads k.LONGEST g.met.K.Kind.bounded bytes;
    }

use Rattle.std.proofs.Common.{◌≡◌, ◌+◌, length, rules, Ok, ap, ◌∙◌}
use Rattle.std.proofs.lemmas.List.{length_push}
use Rattle.sources.specs.Format.{at, values_at}
use Rattle.sources.specs.Sayings.{says}
use Rattle.sources.proofs.Gathered.{one_read}
use Rattle.sources.proofs.journal.read.take_event.Goals as goal

pub loop-i-preserved : goal.loop-i-preserved
loop-i-preserved g c =
    let reads = g.K.Kind.reads in
    let bytes = c.args.place.now.bytes.now in
    let i = c.loop-i.invariant in
    let told : Ok (c.in_ok-take.field-0, c.take.new.self.at) ≡ at reads bytes c.loop-i.place.at = search rules in
    let n = c.push.ensures in (
      search rules,
      ap (λ e. length e.values) n ∙ length_push (says c.loop-i.event).values c.in_ok-take.field-0 ∙ ap (λ k. k + 1) i.1,
      ap (λ e. e.id) n ∙ i.2,
      one_read reads bytes (values_at reads bytes c.args.place.now.at c.args.count) c.loop-i.place.at c.args.count c.loop-i._i (says c.loop-i.event).values c.loop-i-test.true i.3 c.in_ok-take.field-0 c.take.new.self.at (says c.push.new.self).values told (ap (λ e. e.values) n),
    )

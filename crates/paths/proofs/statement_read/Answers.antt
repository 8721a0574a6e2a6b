use Rattle.std.proofs.Common.{◌≡◌, List, sym, ap, ◌∙◌, rules, tests}
use Rattle.std.proofs.lemmas.Iterator.{YieldsList-from_slice}
use Rattle.std.proofs.lemmas.Iterator.Consumers.{YieldsList-from_filter_map, min_from_yields_List}
use Rattle.std.proofs.lemmas.Iterator.Adapters.{option_map_id}
use Rattle.std.specs.List.{filter_map, flat_map}
use Rattle.property.specs.declared.table.Event.{Event}
use Rattle.paths.specs.Paths.{slots_of, through, event_writes}
use Rattle.paths.specs.Reads.{reads_in, least}
use Rattle.paths.proofs.Minima.{least_flat}
use Rattle.paths.proofs.statement_read.Goals as goal

pub returns : goal.returns
returns c =
    let x = c.args.x in
    let heard = c.until_written-heard.result.now in
    let read = λ (e : Event). reads_in x (slots_of e) in
    let e : c.min.result ≡ least (filter_map (λ e. least (read e)) heard) =
    sym (option_map_id c.min.result)
    ∙ min_from_yields_List _ _ c.min.ensures.ran (YieldsList-from_filter_map _ (λ e. least (read e)) (YieldsList-from_slice heard cc) c.filter_map.ensures.closure (λ x r q k. search (rules, tests))) in
    e ∙ (least_flat read heard ∙ ap (λ (es : List Event). least (flat_map read es)) (c.until_written-heard.ensures ∙ ap (through (event_writes x)) c.events.ensures))

use Rattle.std.proofs.Common.{◌≡◌, vec_items, refl, ap, ◌∙◌, arith}
use Rattle.std.specs.Vec.{with_items}
use Rattle.std.proofs.lemmas.List.{with_items_is}
use Rattle.topl.specs.Ledger.{wrote, unwritten, path_on}
use Rattle.watch.specs.Answers.{began, told, drew, tells}
use Rattle.watch.specs.Shows.{Shows}
use Rattle.history.specs.declared.call.Call.TheVariants.{Begin, Feed, Close, Verdict, Path}
use Rattle.history.specs.declared.call.Answer.TheVariants.{Tells, Wrote, Unwritten}
use Rattle.history.specs.Calls.{meant, moment}
use Rattle.history.proofs.Steps.{turned, draw_at}
use Rattle.history.proofs.run.answer.Goals as goal

pub returns-in-Begin : goal.returns-in-Begin
returns-in-Begin g c l sh =
    let W = meant g.K.Kind.class g.S.Source.waiting g.S.Source.ending c.args.sources.now in
    let d = c.begin.ensures l sh in
    turned g.K.Kind.class (Shows c.begin.new.self) (moment l W) W c.args.call (Begin c.in-Begin.table c.in-Begin.constants c.in-Begin.cap) c.from.result (began c.begin.result)
    c.in-Begin.is c.from.ensures (d.0, d.1, (d.2, refl))

pub returns-in-Feed : goal.returns-in-Feed
returns-in-Feed g c l sh =
    let W = meant g.K.Kind.class g.S.Source.waiting g.S.Source.ending c.args.sources.now in
    let d = c.feed.ensures l sh in
    turned g.K.Kind.class (Shows c.feed.new.self) (moment l W) W c.args.call (Feed c.in-Feed.id c.in-Feed.values) c.from-in-Feed.result (told c.feed.result)
    c.in-Feed.is c.from-in-Feed.ensures (d.0, d.1, (d.2, refl))

pub returns-else-k-sources : goal.returns-else-k-sources
returns-else-k-sources g c l sh =
    let d = c.draw.ensures l sh in (
      d.0,
      d.1,
      draw_at g.K.Kind.class g.S.Source.waiting g.S.Source.ending l d.0 c.args.sources.now c.args.call c.in-Draw.k c.index-sources-k.result c.draw.new.source
          (drew c.draw.result) c.from-in-Draw.result c.in-Draw.is c.if-k-sources.false d.2 c.from-in-Draw.ensures,
    )

pub returns-in-Close : goal.returns-in-Close
returns-in-Close g c l sh =
    let W = meant g.K.Kind.class g.S.Source.waiting g.S.Source.ending c.args.sources.now in
    let d = c.close.ensures l sh in
    turned g.K.Kind.class (Shows c.close.new.self) (moment l W) W c.args.call Close c.from-in-Close.result (told c.close.result) c.in-Close.is c.from-in-Close.ensures (d.0, d.1, (d.2, refl))

pub returns-in-Verdict : goal.returns-in-Verdict
returns-in-Verdict g c l sh =
    let W = meant g.K.Kind.class g.S.Source.waiting g.S.Source.ending c.args.sources.now in
    turned g.K.Kind.class (Shows c.args.watch.now) (moment l W) W c.args.call Verdict (Tells c.verdict.result) (tells c.verdict.result) c.in-Verdict.is refl (l, sh, (refl, c.verdict.ensures l sh))

pub returns-in-Ok : goal.returns-in-Ok
returns-in-Ok g c l sh =
    let W = meant g.K.Kind.class g.S.Source.waiting g.S.Source.ending c.args.sources.now in
    let page = with_items c.in_ok-page-in-Path.page c.path.new.page in
    let e : vec_items page ≡ c.path.new.page = with_items_is c.in_ok-page-in-Path.page c.path.new.page (omega arith) in
    turned g.K.Kind.class (Shows c.args.watch.now) (moment l W) W c.args.call (Path c.in-Path.bytes) (Wrote c.in-Ok.steps page) (wrote c.in-Ok.steps c.path.new.page) c.in-Path.is (ap (wrote c.in-Ok.steps) e)
    (l, sh, (refl, c.in-Ok.ensures l sh ∙ ap (path_on l) (c.deref_mut.ensures.value ∙ c.in_ok-page-in-Path.ensures.items)))

pub returns-in-Err : goal.returns-in-Err
returns-in-Err g c l sh =
    let W = meant g.K.Kind.class g.S.Source.waiting g.S.Source.ending c.args.sources.now in
    let page = with_items c.in_ok-page-in-Path.page c.path.new.page in
    let e : vec_items page ≡ c.path.new.page = with_items_is c.in_ok-page-in-Path.page c.path.new.page (omega arith) in
    turned g.K.Kind.class (Shows c.args.watch.now) (moment l W) W c.args.call (Path c.in-Path.bytes) (Unwritten c.in-Err.refusal page) (unwritten c.in-Err.refusal c.path.new.page) c.in-Path.is (ap (unwritten c.in-Err.refusal) e)
    (l, sh, (refl, c.in-Err.ensures l sh ∙ ap (path_on l) (c.deref_mut.ensures.value ∙ c.in_ok-page-in-Path.ensures.items)))

use Rattle.std.proofs.Common.{◌+◌, [], ◌∷◌, ◌++◌, take, vec_items, vec_len, sym, refl, subst, arith}
use Rattle.std.proofs.lemmas.List.{take_all}
use Rattle.std.proofs.lemmas.Result.{MatchResult-from_err}
use Rattle.watch.specs.Shows.{Shows}
use Rattle.history.specs.Calls.{meant}
use Rattle.history.specs.Whole.{Told}
use Rattle.history.proofs.Steps.{Led, led_more, led_told}
use Rattle.history.proofs.run.history.Goals as goal

pub returns-in_err-answer : goal.returns-in_err-answer
returns-in_err-answer g c =
    let class = g.K.Kind.class in
    let means = meant class g.S.Source.waiting g.S.Source.ending in
    let done = take c.loop-call.call-index c.args.calls.now in
    let answers = vec_items c.loop-call.answers in
    MatchResult-from_err c.from_residual.result _ _ c.from_residual.ensures.0 (λ y. (
      c.loop-call.call-index,
      answers,
      subst (λ ss. Told class (vec_len c.args.board) (vec_len c.args.book) (means c.args.sources.now) done answers (means ss)) (sym c.in_err-answer.ensures)
          (led_told class (vec_len c.args.board) (vec_len c.args.book) (means c.args.sources.now) (means c.loop-call.sources) (Shows c.loop-call.watch) done answers c.loop-call.invariant),
    ))

pub returns-in_err-push : goal.returns-in_err-push
returns-in_err-push g c =
    let class = g.K.Kind.class in
    let means = meant class g.S.Source.waiting g.S.Source.ending in
    let i = c.loop-call.call-index in
    let all = vec_items c.loop-call.answers ++ (c.in_ok-answer.answer ∷ []) in
    let led = led_more class (vec_len c.args.board) (vec_len c.args.book) (means c.args.sources.now) (means c.loop-call.sources) (Shows c.loop-call.watch) (Shows c.answer.new.watch) (means c.answer.new.sources) c.args.calls.now
    (vec_items c.loop-call.answers) i c.call-item.result c.in_ok-answer.answer all c.loop-call.invariant (omega arith) c.call-item.is refl c.in_ok-answer.ensures in
    MatchResult-from_err c.from_residual-in_err-push.result _ _ c.from_residual-in_err-push.ensures.0 (λ y. (
      i + 1,
      all,
      led_told class (vec_len c.args.board) (vec_len c.args.book) (means c.args.sources.now) (means c.answer.new.sources) (Shows c.answer.new.watch) (take (i + 1) c.args.calls.now) all led,
    ))

pub loop-call-preserved : goal.loop-call-preserved
loop-call-preserved g c =
    let class = g.K.Kind.class in
    let means = meant class g.S.Source.waiting g.S.Source.ending in
    led_more class (vec_len c.args.board) (vec_len c.args.book) (means c.args.sources.now) (means c.loop-call.sources) (Shows c.loop-call.watch) (Shows c.answer.new.watch) (means c.answer.new.sources) c.args.calls.now
    (vec_items c.loop-call.answers) c.loop-call.call-index c.call-item.result c.in_ok-answer.answer (vec_items c.push.new.self) c.loop-call.invariant (omega arith) c.call-item.is c.in_ok-push.ensures.items c.in_ok-answer.ensures

pub returns : goal.returns
returns g c =
    let class = g.K.Kind.class in
    let means = meant class g.S.Source.waiting g.S.Source.ending in
    led_told class (vec_len c.args.board) (vec_len c.args.book) (means c.args.sources.now) (means c.loop-call.sources) (Shows c.loop-call.watch) c.args.calls.now (vec_items c.loop-call.answers)
    (subst (λ cs. Led class (Shows c.loop-call.watch) (vec_len c.args.board) (vec_len c.args.book) (means c.args.sources.now) cs (vec_items c.loop-call.answers) (means c.loop-call.sources)) (take_all c.loop-call.call-index c.args.calls.now (omega arith)) c.loop-call.invariant)

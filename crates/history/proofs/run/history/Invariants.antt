use Rattle.std.proofs.Common.{take, vec_items, vec_len}
use Rattle.watch.specs.Shows.{Shows}
use Rattle.history.specs.Calls.{meant}
use Rattle.history.proofs.Steps.{Led}
use Rattle.history.proofs.run.history.Given as goal

-- the calls so far have their answers
abbrev pub invariant-loop-call : goal.invariant-loop-call
invariant-loop-call g l =
    let means = meant g.K.Kind.class g.S.Source.waiting g.S.Source.ending in
    Led g.K.Kind.class (Shows l.watch) (vec_len l.fn.board) (vec_len l.fn.book) (means l.fn.sources) (take l.call-index l.calls) (vec_items l.answers) (means l.sources)

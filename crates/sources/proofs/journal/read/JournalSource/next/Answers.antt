use Rattle.std.proofs.Common.{Err, sym, ap, ◌∙◌, subst}
use Rattle.std.proofs.lemmas.Result.{err_from_is_err_and}
use Rattle.sources.proofs.Walked.{next_end, next_refused, next_taken}
use Rattle.sources.specs.Format.{means}
use Rattle.sources.specs.Sources.{Next}
use Rattle.sources.proofs.journal.read.JournalSource.next.Goals as goal

pub returns-then-self-clause-hands : goal.returns-then-self-clause-hands
returns-then-self-clause-hands g c =
    let s = c.args.self.now in
    next_end g.K.Kind.reads g.K.Kind.LONGEST g.met.K.Kind.bounded s.place.bytes.now s.place.at c.if-self.true

pub returns-in_err-record-clause-hands : goal.returns-in_err-record-clause-hands
returns-in_err-record-clause-hands g c =
    let s = c.args.self.now in
    let t = c.record.new.self in
    let m = means g.K.Kind.reads in
    let p = err_from_is_err_and c.from_residual.result c.from_residual.ensures.1 in
    let h = c.in_err-record.ensures in
    subst (λ r. Next (m s.place.bytes.now s.place.at).waits (m s.place.bytes.now s.place.at).ends r (m t.place.bytes.now t.place.at).waits (m t.place.bytes.now t.place.at).ends) (sym (p.1 ∙ ap Err p.2))
    (next_refused g.K.Kind.reads g.K.Kind.LONGEST g.met.K.Kind.bounded s.place.bytes.now t.place.bytes.now s.place.at t.place.at _ c.if-self.false (ap (λ b. b.now) h.same) h.back h.tells)

pub returns-clause-hands : goal.returns-clause-hands
returns-clause-hands g c =
    let s = c.args.self.now in
    let t = c.record.new.self in
    let h = c.in_ok-record.ensures in
    next_taken g.K.Kind.reads g.K.Kind.LONGEST g.met.K.Kind.bounded s.place.bytes.now t.place.bytes.now s.place.at t.place.at c.in_ok-record.field-0 c.if-self.false (ap (λ b. b.now) h.same) h.tells

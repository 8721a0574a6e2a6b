use Rattle.std.proofs.Common.{length, vec_items, vec_len, sym, ap, ◌∙◌, subst, arith}
use Rattle.topl.specs.Ledger.{fresh}
use Rattle.watch.specs.Shows.{Agrees}
use Rattle.watch.proofs.Beginning.{made}
use Rattle.watch.proofs.watch.Watch.new.Goals as goal

pub returns : goal.returns
returns g c =
    subst (λ h. Agrees g.K.Kind.class c.new.result.state h (fresh (vec_len c.args.board) (vec_len c.args.book))) (sym c.blank.ensures)
    (made g.K.Kind.class c.new.result.state (vec_len c.args.board) (vec_len c.args.book) (ap vec_len c.new.ensures.board) (ap (λ v. length (vec_items v)) c.new.ensures.book ∙ omega arith))

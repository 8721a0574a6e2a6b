use Rattle.std.proofs.Common.{ℕ, List, subst}
use Rattle.paths.specs.Reads.{FirstOpen}
use Rattle.property.specs.declared.table.Statement.{Statement}
use Rattle.paths.proofs.Minima.{first_open}
use Rattle.paths.proofs.first_read.Goals as goal

pub returns : goal.returns
returns c =
    let r = c.all.result in
    let s = c.all.ensures.searched in
    subst (λ (n : ℕ). FirstOpen c.args.statements.now n c.least_read.result) s.1
    (subst (λ (ss : List Statement). FirstOpen ss r.register c.least_read.result) s.0
    (first_open r.statements.now r.register r.seen c.all.ensures.exact c.least_read.result c.least_read.ensures))

use Rattle.std.proofs.Common.{◌≡◌, ℕ, List, codes, ap, ◌∙◌}
use Rattle.vectors.proofs.Hex.{unwritten}
use Rattle.vectors.proofs.hex_field.field_bytes.Goals as goal
use lib.Dec.{eqb}
use lib.Pointwise.{pointwise}

pub returns-in-Err : goal.returns-in-Err
returns-in-Err c =
    let other : c.args.field.now ≡ codes "-" → ⊥ = λ e. cc (c.if-eq.ensures ∙ ap (λ (z : List ℕ). pointwise eqb z (codes "-")) e) in
    rw c.why.ensures (unwritten c.args.field.now c.in-Err.error other c.in-Err.ensures.err)

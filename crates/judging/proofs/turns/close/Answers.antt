use Rattle.std.proofs.Common.{Err, sym, ap, ◌∙◌, subst}
use Rattle.std.proofs.lemmas.Result.{err_from_is_err_and}
use Rattle.watch.specs.Answers.{stands_for, told}
use Rattle.judging.specs.Ways.{Stood, running_on}
use Rattle.judging.proofs.Ledgers.{AtEnd, closed, keeps}
use Rattle.judging.proofs.turns.close.Goals as goal

pub returns-in_err-position : goal.returns-in_err-position
returns-in_err-position g c P ks es n (e, q, sh) =
    let d = c.in_err-position.ensures (running_on P ks es) sh in
    let p = err_from_is_err_and c.from_residual.result c.from_residual.ensures.1 in
    let end = closed P ks sh.lawful es n e q (d.0, told (Err c.in_err-position.field-0.0)) d.2 in
    subst (λ r. Stood P ks es n r c.close.new.self) (sym (p.1 ∙ ap Err p.2)) end

pub returns-in-Broken : goal.returns-in-Broken
returns-in-Broken g c P ks es n (e, q, sh) =
    let d = c.in_ok-position.ensures (running_on P ks es) sh in
    let end = closed P ks sh.lawful es n e q (d.0, stands_for c.in_ok-position.field-0) d.2 in
    let broke = subst (λ s. AtEnd P ks sh.lawful es n (stands_for s) d.0) c.in-Broken.is end in
    (d.0, d.1, broke.0, broke.1)

pub returns-in_default : goal.returns-in_default
returns-in_default g c P ks es n (e, q, sh) =
    let d = c.in_ok-position.ensures (running_on P ks es) sh in
    let end = closed P ks sh.lawful es n e q (d.0, stands_for c.in_ok-position.field-0) d.2 in
    (d.0, d.1, keeps P ks sh.lawful es n c.in_ok-position.field-0 c.in_default.not-Broken d.0 end)

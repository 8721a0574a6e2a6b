use Rattle.std.proofs.Common.{◌≡◌, ◌+◌, ◌<◌, [], ◌∷◌, ◌++◌, length, vec_items, Ok, Err, sym, ap, ◌∙◌, subst, arith}
use Rattle.std.proofs.lemmas.Bool.Decides.{not_from_Decides}
use Rattle.std.proofs.lemmas.List.{length_push}
use Rattle.std.proofs.lemmas.Result.{err_from_is_err_and}
use Rattle.sources.specs.Records.{Values, none}
use Rattle.judging.specs.Outcomes.{ConstantsRead, read, unread}
use Rattle.judging.specs.Ways.{Gives}
use Rattle.judging.proofs.Values.{stops_at, values_more}
use Rattle.judging.proofs.constants.read_constants.Goals as goal

pub loop-values-init : goal.loop-values-init
loop-values-init g c =
    let e = c.new-values.ensures.items in
    (subst (λ vs. Values g.K.Kind.reads c.args.bytes.now 0 vs 0) (sym e) (none 0), omega arith, omega (arith, ap length e))

pub returns-in_err-value : goal.returns-in_err-value
returns-in_err-value g c =
    let I = c.loop-values.invariant in
    let bytes = c.args.bytes.now in
    let p = err_from_is_err_and c.from_residual.result c.from_residual.ensures.1 in
    subst (λ r. Gives (λ vs. ConstantsRead g.K.Kind.reads bytes (Ok (vec_items vs))) (λ f. ConstantsRead g.K.Kind.reads bytes (Err f)) r) (sym (p.1 ∙ ap Err p.2))
    (unread (vec_items c.loop-values.values) c.loop-values.place c.in_err-value.field-0.0 I.0 (omega arith) (c.has_another.ensures.0 c.loop-values-test.true).0 (sym c.in_err-value.ensures.value))

pub loop-values-preserved : goal.loop-values-preserved
loop-values-preserved g c =
    let I = c.loop-values.invariant in
    let bytes = c.args.bytes.now in
    let old = vec_items c.loop-values.values in
    let v = c.in_ok-value.value in
    let e = c.in_ok-push.ensures.items in
    let all : Values g.K.Kind.reads bytes 0 (old ++ v ∷ []) c.in_ok-value.next = values_more g.K.Kind.reads bytes v c.in_ok-value.next I.0 (sym c.in_ok-value.ensures.value) in
    let one : length (vec_items c.push.new.self) ≡ length old + 1 = ap length e ∙ length_push old v in
    (subst (λ vs. Values g.K.Kind.reads bytes 0 vs c.in_ok-value.next) (sym e) all, c.in_ok-value.ensures.onward.1, omega arith)

pub returns : goal.returns
returns g c =
    let I = c.loop-values.invariant in
    let vs = vec_items c.loop-values.values in
    let bytes = c.args.bytes.now in
    let other = not_from_Decides c.has_another.result c.has_another.ensures c.loop-values-test.false in
    let count : c.len.result ≡ length vs = omega arith in
    let here : ¬ ((c.loop-values.place < length bytes) × (length vs < 9)) = subst (λ n. ¬ ((c.loop-values.place < length bytes) × (n < 9))) count other in
    read vs c.loop-values.place I.0 I.2 (stops_at c.loop-values.place (length bytes) (length vs) here I.2)

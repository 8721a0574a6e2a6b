use Rattle.std.proofs.Common.{ℕ, List, drop, ap, ◌+◌, ◌≤◌, get_or, sym, refl, ◌∙◌, arith}
use Rattle.kinds.specs.Refusals.{text_number}
use Rattle.kinds.specs.declared.text_reason.TextReason.TheVariants as reasons
use Rattle.property.specs.Grammar.{worst, flaws}
use Rattle.property.specs.Views.{view}
use Rattle.property.proofs.Exits.{off, padded, flawed, read, out, at_flaw}
use Rattle.property.proofs.Texts.{spelled_slice}
use Rattle.property.proofs.reader.Reader.piece.Goals as goal

pub returns-then-not-opens : goal.returns-then-not-opens
returns-then-not-opens c =
    let t = c.args.self.now.text.now in
    let p = view t c.args.draft.now in
    let a = c.args.self.now.place in
    at_flaw p t a c.no_form.result reasons.NoForm c.args.from c.no_form.ensures.reason c.no_form.ensures.place
    (off t p a c.args.from c.requires.gap c.requires.within (sym c.opens.ensures ∙ c.if-not-opens.true))

pub returns-in_err-to : goal.returns-in_err-to
returns-in_err-to c =
    let t = c.args.self.now.text.now in
    let p = view t c.args.draft.now in
    let a = c.args.self.now.place in
    let f = c.args.from in
    let e = c.in_err-to.field-0.0 in
    let x = c.in_err-to.ensures in
    out _ _ _ e c.from_residual.ensures.1
    (at_flaw p t a e reasons.NoForm (f + 1) x.0 x.1
    (padded t p a f c.requires.gap x.3 x.2 x.4 x.5 (sym c.opens.ensures ∙ c.if-not-opens.false)))

pub returns-in-Some : goal.returns-in-Some
returns-in-Some c =
    let t = c.args.self.now.text.now in
    let p = view t c.args.draft.now in
    let q = c.in_ok-to.to in
    let f = c.args.from in
    flawed t p c.args.self.now.place f c.requires.gap q c.in_ok-to.ensures
    (sym c.opens.ensures ∙ c.if-not-opens.false) (text_number c.in-Some.reason)
    (ap (λ (w : List ℕ). worst (flaws p w (get_or t f 0) (drop q t))) (sym (spelled_slice t f q (let l = c.in_ok-to.ensures.low in omega arith) c.in_ok-to.ensures.high))
    ∙ sym c.in-Some.ensures)

pub returns-in-None : goal.returns-in-None
returns-in-None c =
    let t = c.args.self.now.text.now in
    let p = view t c.args.draft.now in
    let q = c.in_ok-to.to in
    let f = c.args.from in
    let x = c.in_ok-to.ensures in
    let l = x.low in
    let h : f ≤ q = omega arith in
    read t p c.args.self.now.place f c.requires.gap q x (sym c.opens.ensures ∙ c.if-not-opens.false)
    (record { name = record { from = f; to = q }; byte = get_or t f 0 }) refl refl refl (spelled_slice t f q h x.high)
    (ap (λ (w : List ℕ). worst (flaws p w (get_or t f 0) (drop q t))) (sym (spelled_slice t f q h x.high)) ∙ sym c.in-None.ensures)

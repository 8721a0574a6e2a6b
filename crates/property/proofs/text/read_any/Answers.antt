use Rattle.std.proofs.Common.{◌≡◌, ℕ, ◌≤◌, Bool, true, false, List, length, sym, refl, ap, ◌∙◌, subst, Bor}
use Rattle.forms.specs.Forms.{Accepted, Refused}
use Rattle.forms.specs.Grammars.{form}
use Rattle.forms.specs.Steps.{Carries}
use Rattle.kinds.specs.Refusals.{text_number}
use Rattle.property.specs.Grammar.{any_text, text}
use Rattle.property.specs.Outcomes.{Explains}
use Rattle.property.specs.Reads.{ComesNext, Read, Finished}
use Rattle.property.specs.States.{State, Property, moved, routed, closing}
use Rattle.property.specs.declared.draft.Draft.{Draft}
use Rattle.property.specs.declared.table.Statement.{Statement}
use Rattle.property.specs.Views.{view, sofar, spelled}
use Rattle.property.proofs.Wholes.{carries_margin, carries_on, carries_halt, ends_well, ends_lost, outward}
use Rattle.property.proofs.text.read_any.Goals as goal

pub loop-draft-init : goal.loop-draft-init
loop-draft-init c =
    let t = c.args.text.now in
    let x = c.margin-place.ensures in
    (refl, x.high, carries_margin t (view t c.new-draft.result) c.margin-place.result (c.new-draft.ensures t) x)

pub returns-in_err-found : goal.returns-in_err-found
returns-in_err-found c =
    let t = c.loop-draft.reader.text.now in
    let f = c.in_err-found.field-0.0 in
    let e = ap (λ (r : Bor (List ℕ)). r.now) c.loop-draft.invariant.0 in
    outward _ _ _ f c.from_residual.ensures.1
    (subst (λ (u : List ℕ). Refused any_text u (text_number f.reason) f.place) e
    (carries_halt t (view t c.loop-draft.draft) c.loop-draft.reader.place _ _ c.loop-draft.invariant.2 c.in_err-found.ensures))

pub loop-draft-preserved : goal.loop-draft-preserved
loop-draft-preserved c =
    let t = c.loop-draft.reader.text.now in
    let u = c.args.text.now in
    let d = c.loop-draft.draft in
    let a = c.loop-draft.reader.place in
    let x = c.in-Some.found in
    let e : t ≡ u = ap (λ (r : Bor (List ℕ)). r.now) c.loop-draft.invariant.0 in
    let r : Read (view t d) t a x = subst (ComesNext (view t d) t a) c.in-Some.is c.in_ok-found.ensures in
    let last = c.advance.new.self in
    let g = subst (λ (z : List ℕ). view z last ≡ moved (view z d) (spelled z x.name) x.byte x.name.from) (sym e) c.in_ok-advance.ensures in (
      c.loop-draft.invariant.0,
      r.high,
      subst (λ (q : State). Carries any_text (form text q x.name.to) t x.name.to) (sym g) (carries_on t (view t d) a x c.loop-draft.invariant.2 r),
    )

routed_by : (P Q : Property) (ss : List Statement) (b r : Bool) → P ≡ Q → ss ≡ P.statements → b ≡ routed ss → b ≡ r → routed Q.statements ≡ r
routed_by P Q ss b r e f g h = sym (ap (λ (R : Property). routed R.statements) e) ∙ (sym (ap routed f) ∙ (sym g ∙ h))

-- At the end of the text.
module _ (t u : List ℕ) (d : Draft) (a : ℕ) (e : t ≡ u) (c : Carries any_text (form text (view t d) a) t a) (o : Finished (view t d) t a) where
  well : routed (closing (view u d)).statements ≡ true → Accepted any_text u (closing (view u d))
  well = ends_well u (view u d) a (subst (λ (z : List ℕ). Carries any_text (form text (view z d) a) z a) e c) (subst (λ (z : List ℕ). Finished (view z d) z a) e o)

  lost : a ≤ length t → routed (closing (view u d)).statements ≡ false → Refused any_text u 17 (length u)
  lost h =
      ends_lost u (view u d) a (subst (λ (z : List ℕ). Carries any_text (form text (view z d) a) z a) e c) (subst (λ (z : List ℕ). Finished (view z d) z a) e o)
      (subst (λ (z : List ℕ). a ≤ length z) e h)

pub returns-then-not-routed : goal.returns-then-not-routed
returns-then-not-routed c =
    let t = c.loop-draft.reader.text.now in
    let u = c.args.text.now in
    let d = c.loop-draft.draft in
    let a = c.loop-draft.reader.place in
    let last = c.close.new.self in
    subst (Explains u) (sym c.into.ensures)
    (lost t u d a (ap (λ (r : Bor (List ℕ)). r.now) c.loop-draft.invariant.0) c.loop-draft.invariant.2
    (subst (ComesNext (view t d) t a) c.in_default.is c.in_ok-found.ensures) c.loop-draft.invariant.1
    (routed_by (sofar u last) (closing (view u d)) c.as_slice.result.now c.routed.result false (c.in_ok-close.ensures u) c.as_slice.ensures.value c.routed.ensures c.if-not-routed.true))

pub returns : goal.returns
returns c =
    let t = c.loop-draft.reader.text.now in
    let u = c.args.text.now in
    let d = c.loop-draft.draft in
    let a = c.loop-draft.reader.place in
    let last = c.close.new.self in
    subst (λ (P : Property). Accepted any_text u P) (sym (c.in_ok-close.ensures u))
    (well t u d a (ap (λ (r : Bor (List ℕ)). r.now) c.loop-draft.invariant.0) c.loop-draft.invariant.2
    (subst (ComesNext (view t d) t a) c.in_default.is c.in_ok-found.ensures)
    (routed_by (sofar u last) (closing (view u d)) c.as_slice.result.now c.routed.result true (c.in_ok-close.ensures u) c.as_slice.ensures.value c.routed.ensures c.if-not-routed.false))

-- Every property that an accepted text writes is within the limits.
use Rattle.std.proofs.Common.{◌≡◌, ℕ, ◌+◌, ◌≤◌, Bool, true, false, cond, eqb, List, [], ◌∷◌, ◌++◌, length, Some, None, refl, ap, subst, inl, inr, ⊎_elim, arith, eqb-true}
use Rattle.std.specs.Prelude.{All}
use Rattle.std.specs.List.{list_any}
use Rattle.std.proofs.lemmas.Bool.{cases_Bool, and_parts, or_cases}
use Rattle.std.proofs.lemmas.List.Elements.{All-head, All-tail}
use Rattle.forms.specs.Forms.{Accepted}
use Rattle.forms.specs.Grammars.{Takes, stop, go, Faults, here, later, short}
use Rattle.forms.specs.Pieces.{head_of}
use Rattle.forms.proofs.Laws.{apart}
use Rattle.property.specs.Grammar.{Marked, text, opens, flaws, bytes, ends_at, label_ends, property_text}
use Rattle.property.specs.States.{Property, State, nothing_read, moved, closing, closing_at, routed}
use Rattle.property.specs.Cursors.{met, one_if}
use Rattle.property.specs.declared.spot.Label.{Label}
use Rattle.property.specs.declared.spot.Label.TheVariants as labels
use Rattle.property.specs.declared.spot.Spot.{Spot}
use Rattle.property.specs.declared.spot.Spot.TheVariants as spots
use Rattle.property.specs.declared.table.Event.TheVariants as events
use Rattle.property.specs.declared.table.Statement.{Statement}
use Rattle.limits.specs.Limits.{StatementFits, states, Within}
use Rattle.limits.proofs.Kept.{Whole, Kept, At, AtLabel, Good, Sofar}
use Rattle.limits.proofs.Lines.{Unmarked}
use Rattle.limits.proofs.Labels.{met_one, ended_kept}
use Rattle.limits.proofs.Steps.{step_good}

-- Where none is marked, no test holds.
unmarked : (fs : List (Bool × ℕ)) → ((n : ℕ) → Marked fs n → ⊥) → Unmarked fs
unmarked [] h = tt
unmarked (f ∷ fs) h = (elim (cases_Bool f.0) [ inl e ↦ absurd (h f.1 (inl (e, refl))) | inr e ↦ e ], unmarked fs (λ n m. h n (inr m)))

-- A choice of something or nothing that is something.
some_inv : {A : Type 0} (b : Bool) (x y : A) → cond b (Some x) None ≡ Some y → (b ≡ true) × (x ≡ y)
some_inv true x y e = (refl, cc)
some_inv false x y e = absurd (let z : ◌≡◌ {A = ℕ} 0 1 = cc in omega arith)

-- THE END
-- A property read whole, as its cursor says whether `start` and `error` have been written.
record Done (P : Property) : Type 0 where
  starts : Bool
  errs : Bool
  kept : Kept P starts errs

-- A text that ends in a label.
label_done : (l : Label) (p : State) → label_ends l ≡ true → Sofar p → AtLabel l p → Done (closing_at (spots.Label l) p).sofar
label_done labels.Begin p e h a = apart false e refl
label_done labels.Star p e h a =
    let m = met_one p.sofar p.cursor events.Any h a tt in
    let u = met events.Any p.cursor in
    record { starts = u.starts; errs = u.errs; kept = ended_kept p.sofar u m }
label_done labels.Becomes p e h a = apart false e refl
label_done labels.Equals p e h a = apart false e refl
label_done labels.Callee p e h a = apart false e refl
label_done labels.Open p e h a = apart false e refl
label_done labels.Comma p e h a = apart false e refl
label_done labels.End p e h a =
    record { starts = p.cursor.starts; errs = p.cursor.errs; kept = ended_kept p.sofar p.cursor (record { kept = h; stated = a.0; some = a.1 }) }

-- A text that ends at a spot where it may end.
done_at : (t : Spot) (p : State) (s : List ℕ) → ends_at t s ≡ true → Sofar p → At t p s → Done (closing_at t p).sofar
done_at (spots.Head t) p s e h a = apart false e refl
done_at (spots.Line t) p s e h a = record { starts = p.cursor.starts; errs = p.cursor.errs; kept = h }
done_at (spots.Route t) p s e h a = apart false e refl
done_at (spots.Label t) p s e h a = label_done t p e h a
done_at (spots.Inner t) p s e h a = apart false e refl

-- Some statement leaves `start`, so that `start` has been written.
some_source : (P : Property) (a b : Bool) (ss : List Statement) → list_any (λ s. eqb s.source 0) ss ≡ true → All (Whole P a b) ss → a ≡ true
some_source P a b [] e h = apart false e refl
some_source P a b (s ∷ ss) e h =
    ⊎_elim (λ z. (All-head (Whole P a b) s ss h).read.starts (eqb-true s.source 0 z)) (λ z. some_source P a b ss z (All-tail (Whole P a b) s ss h))
    (or_cases (eqb s.source 0) _ e)

-- Some leads to `error`, so that `error` has been written.
some_target : (P : Property) (a b : Bool) (ss : List Statement) → list_any (λ s. eqb s.target 1) ss ≡ true → All (Whole P a b) ss → b ≡ true
some_target P a b [] e h = apart false e refl
some_target P a b (s ∷ ss) e h =
    ⊎_elim (λ z. (All-head (Whole P a b) s ss h).read.errs (eqb-true s.target 1 z)) (λ z. some_target P a b ss z (All-tail (Whole P a b) s ss h))
    (or_cases (eqb s.target 1) _ e)

-- A statement that was read whole fits.
whole_fits : (P : Property) (a b : Bool) (s : Statement) → Whole P a b s → StatementFits P.methods (states P) P.registers s
whole_fits P a b s h = record {
  some = h.some;
  few = h.read.few;
  four = h.read.four;
  from = h.read.from;
  to = h.read.to;
  leaves = h.read.leaves;
  fit = h.read.fit;
}

-- There is some statement.
some_statement : (ss : List Statement) → list_any (λ s. eqb s.source 0) ss ≡ true → 1 ≤ length ss
some_statement [] e = apart false e refl
some_statement (s ∷ ss) e = omega arith

-- A property read whole, with a statement from `start` and one to `error`, is within the limits.
within : (P : Property) → Done P → routed P.statements ≡ true → Within P
within P d e =
    let k = d.kept in
    let r = and_parts (list_any (λ s. eqb s.source 0) P.statements) (list_any (λ s. eqb s.target 1) P.statements) e in
    let a = some_source P d.starts d.errs P.statements r.0 k.statements_fit in
    let b = some_target P d.starts d.errs P.statements r.1 k.statements_fit in
    let n = k.states.few in
    let x : one_if d.starts ≡ 1 = ap one_if a in
    let y : one_if d.errs ≡ 1 = ap one_if b in
    let few : states P ≤ 16 = omega arith in
    record {
      few_methods = k.methods.few;
      methods_fit = k.methods.fit;
      names_apart = k.methods.names_apart;
      numbers_apart = k.methods.numbers_apart;
      few_states = few;
      states_apart = k.states.apart;
      few_registers = k.registers.few;
      registers_apart = k.registers.apart;
      some_statement = some_statement P.statements r.0;
      few_statements = k.few_statements;
      statements_fit = λ i s l. whole_fits P d.starts d.errs _ (k.statements_fit i s l);
    }

-- THE WHOLE TEXT
-- What goes on from a good text without a fault ends within the limits.
goes_on : (p : State) (a : ℕ) (v : Property) (s : List ℕ) → Takes text p a v s → Good p s → ((n k : ℕ) → Faults text p a n k s → ⊥) → Within v
goes_on p a v s (stop _ _ _ _ e f) g c =
    let y = some_inv (ends_at p.cursor.spot s) (closing p) v f in
    let d = done_at p.cursor.spot p s y.0 g.kept g.here in
    let r : routed (closing p).statements ≡ true = elim (cases_Bool (routed (closing p).statements)) [ inl z ↦ z | inr z ↦ absurd (c 17 (length s) (short p a 17 v s e f (refl, z))) ] in
    subst Within y.1 (within (closing p) d r)
goes_on p a v s (go _ q _ _ x _ sp b r n f t) g c =
    let y = some_inv (opens p.cursor (head_of x)) (moved p (bytes x) (head_of x) (a + length sp)) q f in
    let u = unmarked (flaws p (bytes x) (head_of x) r) (λ m h. c m (length sp) (here p q a m x s sp b r n f h)) in
    let h = step_good p.cursor.spot p x s sp b r (a + length sp) refl n y.0 g.kept g.here u in
    goes_on q (a + length (sp ++ b)) v r t (subst (λ (q : State). Good q r) y.1 h) (λ m k h. c m (length (sp ++ b) + k) (later p q a m k x s sp b r n f h))

-- Before the text.
nothing_good : (s : List ℕ) → Good nothing_read s
nothing_good s = record {
  kept = record {
    methods = record { few = omega arith; fit = λ k d h. absurd (omega arith); names_apart = tt; numbers_apart = tt };
    states = record { few = omega arith; apart = tt };
    registers = record { few = omega arith; apart = tt };
    few_statements = omega arith;
    statements_fit = λ k d h. absurd (omega arith);
  };
  here = tt;
}

-- Every property that an accepted text writes is within the limits.
pub accepted_within : (t : List ℕ) (P : Property) → Accepted property_text t P → Within P
accepted_within t P h = goes_on nothing_read 0 P t h.writes (nothing_good t) (λ n k f. h.sound n k (inr (inr f)))

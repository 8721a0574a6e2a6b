-- Every piece with no fault leaves a good text good.
use Rattle.std.proofs.Common.{◌≡◌, ℕ, zero, suc, ◌<◌, Bool, true, false, cond, not, ◌&&◌, ◌||◌, eqb, ltb, leb, List, [], ◌∷◌, length, get_or, codes, refl, ap, ◌∙◌, inl, inr, ⊎_elim, arith}
use Rattle.std.proofs.lemmas.Bool.{cond_both, eqb-false, ltb-true, not-false}
use mathlib.Core.List.Memᴰ
use Rattle.topl.specs.Lists.{◌∈◌}
use Rattle.forms.specs.Bytes.{space}
use Rattle.forms.specs.Pieces.{Piece, word, number, mark, head_of, Next}
use Rattle.property.specs.Cursors.{opened, naming, labelled, finished, met, to}
use Rattle.property.specs.Grammar.{bytes, opens_at, tight_at, flaws_at, label_flaws, inner_flaws, begun_flaws, pattern_flaws, closing_flaws}
use Rattle.property.specs.States.{State, at, turned, method_of, method_place, callee_at, calling, whole_begins, begins, ends_statement, moved_at, label_moved, inner_moved}
use Rattle.property.specs.Words.{same, past, first_byte}
use Rattle.property.specs.declared.spot.Inner.{Inner}
use Rattle.property.specs.declared.spot.Inner.TheVariants as inners
use Rattle.property.specs.declared.spot.Kind.{Kind}
use Rattle.property.specs.declared.spot.Kind.TheVariants as kinds
use Rattle.property.specs.declared.spot.Label.{Label}
use Rattle.property.specs.declared.spot.Label.TheVariants as labels
use Rattle.property.specs.declared.spot.Spot.{Spot}
use Rattle.property.specs.declared.spot.Spot.TheVariants as spots
use Rattle.property.specs.declared.table.Event.TheVariants as events
use Rattle.limits.proofs.Kept.{Sofar, Named, Amid, Returned, Called, Begun, At, AtLabel, AtInner, Good}
use Rattle.limits.proofs.Lines.{Unmarked, unmarked_else, head_good, line_good, route_good}
use Rattle.limits.proofs.Labels.{Met, met_one, opened_labelled, naming_labelled, finished_good, ended_good}
use Rattle.limits.proofs.Patterns.{begins_good, opening_pattern, anew_pattern, opening_begun, negated_room, quoted_room, negated_good, constant_good}

-- LABELS
-- An event of any kind.
any_met : (p : State) → Sofar p → Begun p → Met p.sofar (met events.Any p.cursor)
any_met p k h = met_one p.sofar p.cursor events.Any k h tt

-- The beginning of a label.
begin_good : (p : State) (w : List ℕ) (c k : ℕ) (r : List ℕ) → Sofar p → Begun p → Unmarked (label_flaws labels.Begin p w c r)
    → Good (label_moved labels.Begin p w c k) r
begin_good p w c k r h b u =
    let span = p.cursor.statement.span in
    let fs = (leb 4 span || (leb 3 span && eqb (first_byte (past space r)) 58), 11) ∷ [] in
    let gs = (leb 4 span, 11) ∷ [] in
    let vs = begun_flaws (leb 3 span) p w c r in
    let call = same w (codes "call") in
    let ret = same w (codes "ret") in
    let x = at (to (spots.Label labels.Callee) (labelled (opened kinds.Call 1) p.cursor)) p in
    let y = at (to (spots.Inner inners.Returned) (labelled (opened kinds.Return 0) p.cursor)) p in
    let z = at (labelled (opened kinds.Both 0) p.cursor) p in
    cond_both (eqb c 42) (turned (spots.Label labels.Star) p) (cond call x (cond ret y (whole_begins w c k p))) (λ q. Good q r)
    (λ _. record { kept = h; here = b }) (λ d.
    cond_both call x (cond ret y (whole_begins w c k p)) (λ q. Good q r)
    (λ _. record { kept = h; here = record { stated = b; labelled = opened_labelled p.sofar.registers kinds.Call 1 } }) (λ e.
    cond_both ret y (whole_begins w c k p) (λ q. Good q r)
    (λ _. record { kept = h; here = record { stated = b; labelled = opened_labelled p.sofar.registers kinds.Return 0; called = inl refl } }) (λ f.
    let other : call || ret ≡ false = ap (λ (b : Bool). b || ret) e ∙ f in
    let v = unmarked_else (call || ret) gs vs other (unmarked_else (eqb c 42) fs (cond (call || ret) gs vs) d u) in
    begins_good w k z r h (record { stated = b; labelled = opened_labelled p.sofar.registers kinds.Both 0; called = inl refl }) c
    (opening_begun (leb 3 span) p w c r v) (λ _ _ _ _ m. absurd (Memᴰ.not-nil m)))))

-- After `*`.
star_good : (p : State) (w : List ℕ) (c k : ℕ) (r : List ℕ) → Sofar p → Begun p → Good (label_moved labels.Star p w c k) r
star_good p w c k r h b =
    let m = any_met p h b in
    let x = at (to (spots.Label labels.Equals) (labelled (opened kinds.Both 1) p.cursor)) p in
    let y = at (to (spots.Label labels.Begin) (met events.Any p.cursor)) p in
    let z = at (met events.Any p.cursor) p in
    cond_both (eqb c 58) x (cond (eqb c 59) y (ends_statement z)) (λ q. Good q r)
    (λ _. record { kept = h; here = record { stated = b; labelled = opened_labelled p.sofar.registers kinds.Both 1 } }) (λ _.
    cond_both (eqb c 59) y (ends_statement z) (λ q. Good q r) (λ _. record { kept = m.kept; here = m.stated }) (λ _. ended_good z r m))

-- An element at a place of a list is one of it.
at_place : {X : Type 0} (xs : List X) (i : ℕ) (d : X) → i < length xs → get_or xs i d ∈ xs
at_place [] i d h = absurd (omega arith)
at_place (x ∷ xs) zero d h = Memᴰ.head refl
at_place (x ∷ xs) (suc i) d h = Memᴰ.tail (at_place xs i d (omega arith))

-- A label whose method is named goes on.
callee_good : (d : Kind) (p : State) (r : List ℕ) → Sofar p → Called p.sofar p.cursor → Good (at (callee_at d p.cursor) p) r
callee_good kinds.Call p r h c = record { kept = h; here = c }
callee_good kinds.Both p r h c = record { kept = h; here = c }
callee_good kinds.Return p r h c = finished_good p r h c

-- The method of a label.
calling_good : (p : State) (w r : List ℕ) → Sofar p → Returned p.sofar p.cursor
    → not (ltb (method_place p.sofar w) (length p.sofar.methods)) ≡ false → Good (calling w p) r
calling_good p w r h c e =
    let m = method_of p.sofar w in
    let l = naming m.number m.arity p.cursor.label in
    let place = ltb-true (method_place p.sofar w) (length p.sofar.methods) (not-false _ e) in
    let named : Named p.sofar.methods l = (m, at_place p.sofar.methods (method_place p.sofar w) _ place, refl, refl) in
    callee_good p.cursor.label.kind (at (labelled l p.cursor) p) r h
    (record { stated = c.stated; labelled = naming_labelled p.sofar.registers m.number m.arity p.cursor.label c.labelled; named = named })

-- After a parameter.
comma_good : (p : State) (c : ℕ) (r : List ℕ) → Sofar p → Called p.sofar p.cursor
    → Good (at (cond (eqb c 44) (to (spots.Inner inners.Param) p.cursor) (finished p.cursor)) p) r
comma_good p c r h a =
    cond_both (eqb c 44) (to (spots.Inner inners.Param) p.cursor) (finished p.cursor) (λ u. Good (at u p) r)
    (λ _. record { kept = h; here = record { stated = a.stated; labelled = a.labelled; called = inr a.named } }) (λ _. finished_good p r h a)

-- A piece of a label.
label_good : (l : Label) (p : State) (w : List ℕ) (c k : ℕ) (r : List ℕ) → Sofar p → AtLabel l p → Unmarked (label_flaws l p w c r)
    → Good (label_moved l p w c k) r
label_good labels.Begin p w c k r h a u = begin_good p w c k r h a u
label_good labels.Star p w c k r h a u = star_good p w c k r h a
label_good labels.Becomes p w c k r h a u = record { kept = h; here = a }
label_good labels.Equals p w c k r h a u = record { kept = h; here = a }
label_good labels.Callee p w c k r h a u = calling_good p w r h a u.1.1.0
label_good labels.Open p w c k r h a u = record { kept = h; here = (record { stated = a.stated; labelled = a.labelled; called = inr a.named }, a.named) }
label_good labels.Comma p w c k r h a u = comma_good p c r h a
label_good labels.End p w c k r h a u =
    cond_both (eqb c 59) (turned (spots.Label labels.Begin) p) (ends_statement p) (λ q. Good q r) (λ _. record { kept = h; here = a.0 }) (λ _.
    ended_good p r (record { kept = h; stated = a.0; some = a.1 }))

-- PATTERNS
-- The beginning of a pattern.
pattern_good : (p : State) (w : List ℕ) (c k : ℕ) (r : List ℕ) → c ≡ first_byte w → Sofar p → Amid p.sofar p.cursor
    → Unmarked (pattern_flaws false p w c r) → Good (begins w c k p) r
pattern_good p w c k r e h a u = begins_good w k p r h a c (opening_pattern false p w c r u) (anew_pattern false p w c r e a.labelled u)

-- The first parameter, or a closing bracket.
first_good : (p : State) (w : List ℕ) (c k : ℕ) (r : List ℕ) → c ≡ first_byte w → Sofar p → AtInner inners.First p r
    → Unmarked (inner_flaws inners.First p w c r) → Good (inner_moved inners.First p w c k) r
first_good p w c k r e h a u =
    cond_both (eqb c 41) (at (finished p.cursor) p) (begins w c k p) (λ q. Good q r)
    (λ _. finished_good p r h (record { stated = a.0.stated; labelled = a.0.labelled; named = a.1 })) (λ f.
    pattern_good p w c k r e h a.0 (unmarked_else (eqb c 41) (closing_flaws p.cursor) (pattern_flaws false p w c r) f u))

-- The end of a constant.
unquote_good : (p : State) (r : List ℕ) → Sofar p → AtInner inners.Unquote p r
    → Good (turned (spots.Label (cond (eqb p.cursor.label.count 1) labels.Becomes labels.Comma)) p) r
unquote_good p r h a =
    cond_both (eqb p.cursor.label.count 1) labels.Becomes labels.Comma (λ l. Good (turned (spots.Label l) p) r) (λ _. record { kept = h; here = a.0 }) (λ e.
    record {
      kept = h;
      here = record {
        stated = a.0.stated;
        labelled = a.0.labelled;
        named = ⊎_elim (λ z. absurd (eqb-false p.cursor.label.count 1 e z)) (λ m. m) a.1;
      };
    })

-- A piece begins with the first of its bytes.
first_of_bytes : (x : Piece) → head_of x ≡ first_byte (bytes x)
first_of_bytes (word []) = refl
first_of_bytes (word (b ∷ w)) = refl
first_of_bytes (number []) = refl
first_of_bytes (number (b ∷ d)) = refl
first_of_bytes (mark m) = refl

-- A piece of a pattern.
inner_good : (i : Inner) (p : State) (x : Piece) (s sp b r : List ℕ) (k : ℕ) → Next false x s sp b r → opens_at (spots.Inner i) (head_of x) ≡ true
    → Sofar p → AtInner i p s → Unmarked (inner_flaws i p (bytes x) (head_of x) r) → Good (inner_moved i p (bytes x) (head_of x) k) r
inner_good inners.Returned p x s sp b r k n o h a u = pattern_good p (bytes x) (head_of x) k r (first_of_bytes x) h a u
inner_good inners.First p x s sp b r k n o h a u = first_good p (bytes x) (head_of x) k r (first_of_bytes x) h a u
inner_good inners.Param p x s sp b r k n o h a u = pattern_good p (bytes x) (head_of x) k r (first_of_bytes x) h a u
inner_good (inners.Negated m) p x s sp b r k n o h a u =
    negated_good p (bytes x) m r h a.0 (negated_room p x s sp b r (first_of_bytes x) n o u.0 u.1.0 a.1)
inner_good (inners.Quoted m) p x s sp b r k n o h a u =
    constant_good p (bytes x) m r h a.0 (quoted_room p x s sp b r (first_of_bytes x) n o u.0 u.1.0 a.1)
inner_good inners.Unquote p x s sp b r k n o h a u = unquote_good p r h a

-- At each spot.
pub step_good : (t : Spot) (p : State) (x : Piece) (s sp b r : List ℕ) (k : ℕ) → p.cursor.spot ≡ t → Next (tight_at t) x s sp b r → opens_at t (head_of x) ≡ true
    → Sofar p → At t p s → Unmarked (flaws_at t p (bytes x) (head_of x) r) → Good (moved_at t p (bytes x) (head_of x) k) r
step_good (spots.Head t) p x s sp b r k e n o h a u = head_good t p (bytes x) (head_of x) r e h
step_good (spots.Line t) p x s sp b r k e n o h a u = line_good t p (bytes x) r h a u
step_good (spots.Route t) p x s sp b r k e n o h a u = route_good t p (bytes x) r h a u
step_good (spots.Label t) p x s sp b r k e n o h a u = label_good t p (bytes x) (head_of x) k r h a u
step_good (spots.Inner t) p x s sp b r k e n o h a u = inner_good t p x s sp b r k n o h a u

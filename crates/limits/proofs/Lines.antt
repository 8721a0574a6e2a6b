-- A piece of a first line, of a method's line, or between a statement's source and its first label leaves a good text good.
use Rattle.std.proofs.Common.{◌≡◌, ℕ, ◌<◌, ◌≤◌, Bool, true, false, cond, ◌||◌, eqb, ltb, leb, List, [], ◌∷◌, length, sym, refl, subst, arith}
use Rattle.std.proofs.lemmas.Bool.{or_parts, or_left, or_right, cond_both, eq-eqb, leb-false, ltb-false}
use mathlib.Core.List.Memᴰ
use Rattle.forms.specs.Bytes.{value}
use Rattle.forms.proofs.Laws.{apart}
use Rattle.property.specs.Cursors.{sourced, targeted, to}
use Rattle.property.specs.Grammar.{line_flaws, route_flaws, source_flaws, full}
use Rattle.property.specs.States.{Declared, Property, State, at, turned, named, is_start, is_error, state_number, visited, crowded, declares, leaving, reaching, capped, head_moved, line_moved, route_moved, method_place}
use Rattle.property.specs.Words.{same, long}
use Rattle.property.specs.declared.spot.Head.{Head}
use Rattle.property.specs.declared.spot.Head.TheVariants as heads
use Rattle.property.specs.declared.spot.Line.{Line}
use Rattle.property.specs.declared.spot.Line.TheVariants as lines
use Rattle.property.specs.declared.spot.Route.{Route}
use Rattle.property.specs.declared.spot.Route.TheVariants as routes
use Rattle.property.specs.declared.spot.Spot.TheVariants as spots
use Rattle.property.specs.declared.table.Statement.{Statement}
use Rattle.limits.specs.Limits.{states}
use Rattle.limits.proofs.Lists.{none_passes, not_any}
use Rattle.limits.proofs.Kept.{Read, Kept, NewName, NewNumber, AtLine, Begun, At, Good, Grows, all_grow, read_grows, Sofar}
use Rattle.limits.proofs.Growing.{Visits, visits, same_self, number_start, number_error, declared_kept}

-- No test for a fault holds.
abbrev pub Unmarked : List (Bool × ℕ) → Type 0
Unmarked [] = Unit {0}
Unmarked (f ∷ fs) = (f.0 ≡ false) × Unmarked fs

-- Of a choice of tests, where it is known which.
pub unmarked_then : (b : Bool) (fs gs : List (Bool × ℕ)) → b ≡ true → Unmarked (cond b fs gs) → Unmarked fs
unmarked_then b fs gs e h = subst (λ (x : Bool). Unmarked (cond x fs gs)) e h

pub unmarked_else : (b : Bool) (fs gs : List (Bool × ℕ)) → b ≡ false → Unmarked (cond b fs gs) → Unmarked gs
unmarked_else b fs gs e h = subst (λ (x : Bool). Unmarked (cond x fs gs)) e h

-- THE FIRST LINE
-- The name of a property is no limit.
named_kept : (w : List ℕ) (P : Property) (a b : Bool) → Kept P a b → Kept (named w P) a b
named_kept w P a b h =
    let g : Grows P (named w P) = record { methods = λ m x. x; states = omega arith; registers = λ r x. x; same = λ r d x. refl } in
    record { methods = h.methods; states = h.states; registers = h.registers; few_statements = h.few_statements; statements_fit = all_grow P (named w P) g a b a b (λ x. x) (λ x. x) P.statements h.statements_fit }

-- A piece of the first line.
pub head_good : (h : Head) (p : State) (w : List ℕ) (c : ℕ) (r : List ℕ) → p.cursor.spot ≡ spots.Head h → Sofar p
    → Good (head_moved h p w c) r
head_good heads.Margin p w c r e k =
    cond_both (eqb c 32) p.cursor (to (spots.Head (heads.Keyword 1)) p.cursor) (λ u. Good (at u p) r)
    (λ _. record { kept = k; here = subst (λ s. At s (at p.cursor p) r) (sym e) tt }) (λ _. record { kept = k; here = tt })
head_good (heads.Keyword n) p w c r e k = record { kept = k; here = tt }
head_good heads.Gap p w c r e k = record { kept = k; here = tt }
head_good heads.Title p w c r e k = record { kept = named_kept w p.sofar p.cursor.starts p.cursor.errs k; here = tt }

-- STATEMENTS
-- A statement that begins, from a state.
sourced_read : (p : State) (w : List ℕ) (Q : Property) → Visits p Q w → is_error w ≡ false
    → Read Q (p.cursor.starts || is_start w) (p.cursor.errs || is_error w) (sourced (state_number p.sofar.others w))
sourced_read p w Q v e =
    let f = v.number in
    let few : 0 ≤ 4 = omega arith in
    let t : 0 < states Q = omega arith in
    record {
      few = few;
      four = refl;
      from = f;
      to = t;
      leaves = λ x. apart (is_error w) (number_error p.sofar.others w x) e;
      fit = λ k d l. absurd (omega arith);
      starts = λ x. or_right p.cursor.starts (is_start w) (number_start p.sofar.others w x);
      errs = λ x. absurd (omega arith);
    }

-- The source of a statement.
leaving_good : (p : State) (w r : List ℕ) → Sofar p → Unmarked (source_flaws p w) → Good (leaving w p) r
leaving_good p w r k u =
    let y = or_parts (long w) (full p w) u.1.0 in
    let z = or_parts (leb 64 (length p.sofar.statements)) (crowded p w) y.1 in
    let v = visits p w k z.1 in
    let s = v.statements in
    let l = leb-false 64 (length p.sofar.statements) z.0 in
    let room : length (visited w p.sofar).statements < 64 = omega arith in
    record { kept = v.kept; here = record { room = room; read = sourced_read p w (visited w p.sofar) v u.1.1.0 } }

-- A statement that leads to a state.
targeted_read : (p : State) (w : List ℕ) (Q : Property) → Visits p Q w → (s : Statement) → Read Q (p.cursor.starts || is_start w) (p.cursor.errs || is_error w) s
    → Read Q (p.cursor.starts || is_start w) (p.cursor.errs || is_error w) (targeted (state_number p.sofar.others w) s)
targeted_read p w Q v s h =
    record {
      few = h.few;
      four = h.four;
      from = h.from;
      to = v.number;
      leaves = h.leaves;
      fit = h.fit;
      starts = h.starts;
      errs = λ x. or_right p.cursor.errs (is_error w) (number_error p.sofar.others w x);
    }

-- The target of a statement.
reaching_good : (p : State) (w r : List ℕ) → Sofar p → Begun p → crowded p w ≡ false → Good (reaching w p) r
reaching_good p w r k h c =
    let v = visits p w k c in
    let s = v.statements in
    let l = h.room in
    let room : length (visited w p.sofar).statements < 64 = omega arith in
    let a = p.cursor.starts in
    let b = p.cursor.errs in
    let read = read_grows p.sofar (visited w p.sofar) v.grows a b (a || is_start w) (b || is_error w) (or_left a (is_start w)) (or_left b (is_error w)) p.cursor.statement h.read in
    record { kept = v.kept; here = record { room = room; read = targeted_read p w (visited w p.sofar) v p.cursor.statement read } }

-- A piece between a source and a first label.
pub route_good : (t : Route) (p : State) (w r : List ℕ) → Sofar p → Begun p → Unmarked (route_flaws t p w) → Good (route_moved t p w) r
route_good routes.Minus p w r k h u = record { kept = k; here = h }
route_good routes.Greater p w r k h u = record { kept = k; here = h }
route_good routes.Target p w r k h u = reaching_good p w r k h (or_parts (long w) (crowded p w) u.1.0).1
route_good routes.Colon p w r k h u = record { kept = k; here = h }

-- METHODS
-- The first word of a line.
fresh_good : (p : State) (w r : List ℕ) → Sofar p → Unmarked (line_flaws lines.Fresh p w) → Good (line_moved lines.Fresh p w) r
fresh_good p w r k u =
    let full = leb 32 (length p.sofar.methods) in
    cond_both (declares p w) (turned (spots.Line lines.MethodName) p) (leaving w p) (λ q. Good q r)
    (λ e. record { kept = k; here = leb-false 32 (length p.sofar.methods) (unmarked_then (declares p w) ((full, 11) ∷ []) (source_flaws p w) e u).0 })
    (λ e. leaving_good p w r k (unmarked_else (declares p w) ((full, 11) ∷ []) (source_flaws p w) e u))

-- A name that no method has.
new_name : (P : Property) (w : List ℕ) → length P.methods < 32 → ltb (method_place P w) (length P.methods) ≡ false → NewName P.methods w
new_name P w h e = record {
  room = h;
  other = λ m.
      let x = Memᴰ.of_map (λ (m : Declared). m.name) P.methods m in
      apart (same w x.0.name) (subst (λ (v : List ℕ). same w v ≡ true) (sym x.2) (same_self w))
      (none_passes (λ (m : Declared). same w m.name) P.methods (ltb-false (method_place P w) (length P.methods) e) x.0 x.1);
}

-- A number that no method has.
new_number : (p : State) (w : List ℕ) → Unmarked (line_flaws lines.MethodNumber p w) → NewNumber p.sofar.methods (capped w)
new_number p w u =
    let s = ltb-false 65535 (value w) u.0 in
    cond_both (leb (value w) 65535) (value w) 65536 (NewNumber p.sofar.methods)
    (λ _. record {
      small = s;
      other = λ m.
          let x = Memᴰ.of_map (λ (m : Declared). m.number) p.sofar.methods m in
          apart (eqb (value w) x.0.number) (eq-eqb (value w) x.0.number (sym x.2)) (not_any (λ (m : Declared). eqb (value w) m.number) p.sofar.methods u.1.0 x.0 x.1);
    })
    (λ e. let l = leb-false (value w) 65535 e in absurd (omega arith))

-- An arity of five at most.
few_parameters : (w : List ℕ) → ltb 5 (value w) ≡ false → capped w ≤ 5
few_parameters w e =
    let s = ltb-false 5 (value w) e in
    cond_both (leb (value w) 65535) (value w) 65536 (λ (n : ℕ). n ≤ 5) (λ _. s) (λ x. let l = leb-false (value w) 65535 x in absurd (omega arith))

-- A piece of a method's line, or of a line's end.
pub line_good : (l : Line) (p : State) (w r : List ℕ) → Sofar p → AtLine l p → Unmarked (line_flaws l p w) → Good (line_moved l p w) r
line_good lines.Ending p w r k h u = record { kept = k; here = tt }
line_good lines.Fresh p w r k h u = fresh_good p w r k u
line_good lines.MethodName p w r k h u = record { kept = k; here = new_name p.sofar w h u.1.1.0 }
line_good lines.MethodNumber p w r k h u = record { kept = k; here = (h, new_number p w u) }
line_good (lines.MethodArity n) p w r k h u = record {
  kept = declared_kept p.sofar p.cursor.starts p.cursor.errs (record { name = p.word; number = n; arity = capped w }) h.0 h.1 (few_parameters w u.0) k;
  here = tt;
}

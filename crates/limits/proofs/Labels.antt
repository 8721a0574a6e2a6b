-- What the pieces of a label make of it.
use Rattle.std.proofs.Common.{◌≡◌, ℕ, ◌+◌, ◌-◌, ◌<◌, ◌≤◌, true, false, ◌⊎◌, eqb, ltb, leb, List, [], ◌∷◌, ◌++◌, length, set, take, sym, refl, ◌∙◌, subst, inl, inr, ⊎_elim, arith}
use Rattle.std.proofs.lemmas.Bool.{cases_eq, and_from, and_parts, cond_both, eqb-false, lt-ltb, ltb-true, ltb-false}
use Rattle.std.proofs.lemmas.List.{length-set, length_push, take_more_set, get_or-set_same, get_or-set_other}
use Rattle.std.proofs.lemmas.List.Elements.{All-push, All-set, All-take, All-replicate}
use Rattle.std.specs.Prelude.{All}
use mathlib.Core.List.Memᴰ
use Rattle.topl.specs.Lists.{◌∈◌, each, Distinct}
use Rattle.topl.specs.declared.pattern.Pattern.{Pattern}
use Rattle.topl.specs.declared.pattern.Pattern.TheVariants as patterns
use Rattle.property.specs.Cursors.{blank, opened, naming, returning, taking, writing, filled, met, call_of, return_of, events_of, finished, labelled, to, wrote}
use Rattle.property.specs.States.{Declared, Key, Property, State, Key, at, with_statement, ends_statement, patterned, register_of, holding}
use Rattle.property.specs.declared.cursor.Cursor.{Cursor}
use Rattle.property.specs.declared.cursor.Partial.{Partial}
use Rattle.property.specs.declared.spot.Inner.TheVariants as inners
use Rattle.property.specs.declared.spot.Kind.{Kind}
use Rattle.property.specs.declared.spot.Kind.TheVariants as kinds
use Rattle.property.specs.declared.spot.Label.TheVariants as labels
use Rattle.property.specs.declared.spot.Spot.TheVariants as spots
use Rattle.property.specs.declared.table.Event.{Event}
use Rattle.property.specs.declared.table.Slot.{Slot}
use Rattle.limits.specs.Limits.{written_by, writes, PatternFits, SlotFits, EventFits}
use Rattle.limits.proofs.Lists.{distinct_set, distinct_take, set_each}
use Rattle.limits.proofs.Kept.{Whole, Kept, Stated, Slotted, Labelled, Named, Amid, Returned, Called, Good, Grows, all_grow, stated_grows, labelled_grows, named_grows, Sofar}
use Rattle.limits.proofs.Growing.{Holds}

-- LABELS
-- A label that begins.
pub opened_labelled : (gs : List Key) (d : Kind) (n : ℕ) → Labelled gs (opened d n)
opened_labelled gs d n = record {
  eight = refl;
  slotted = record { five = refl; fit = All-replicate (SlotFits gs) 5 blank tt; once = tt; flagged = λ r m. absurd (Memᴰ.not-nil m) };
  returned = tt;
}

-- A label with its method.
pub naming_labelled : (gs : List Key) (n a : ℕ) (l : Partial) → Labelled gs l → Labelled gs (naming n a l)
naming_labelled gs n a l h = record { eight = h.eight; slotted = h.slotted; returned = h.returned }

-- A label with its returned pattern.
pub returning_labelled : (gs : List Key) (x : Slot) (l : Partial) → Labelled gs l → SlotFits gs x → Labelled gs (returning x l)
returning_labelled gs x l h f = record { eight = h.eight; slotted = h.slotted; returned = f }

-- The pattern x writes no register that a parameter writes, and what it writes is flagged.
abbrev pub Fresh : Pattern ℕ → Partial → Type 0
Fresh x l = (r : ℕ) → r ∈ written_by x → (¬ (r ∈ each writes l.slots)) × (wrote l.written r ≡ true)

-- A pattern writes one register at most.
one_written : (x : Pattern ℕ) → Distinct (written_by x)
one_written patterns.Any = tt
one_written (patterns.Write r) = ((λ m. Memᴰ.not-nil m), tt)
one_written (patterns.Same r) = tt
one_written (patterns.Differs r) = tt

-- A label with its next parameter.
pub taking_labelled : (gs : List Key) (x : Slot) (l : Partial) → Labelled gs l → SlotFits gs x → Fresh x.pattern l → Labelled gs (taking x l)
taking_labelled gs x l h f n = record {
  eight = h.eight;
  slotted = cond_both (leb l.count 5) (set l.slots (l.count - 1) x) l.slots (λ ss. Slotted gs l.written ss) (λ _. record {
    five = length-set l.slots (l.count - 1) x ∙ s.five;
    fit = All-set (SlotFits gs) l.slots (l.count - 1) x f s.fit;
    once = distinct_set writes l.slots (l.count - 1) x s.once (one_written x.pattern) (λ r m. (n r m).0);
    flagged = λ r m. ⊎_elim (λ y. (n r y).1) (λ y. s.flagged r y) (set_each writes l.slots (l.count - 1) x r m);
  }) (λ _. s);
  returned = h.returned;
}
  where
    s : Slotted gs l.written l.slots
    s = h.slotted

-- A label that writes the register r.
pub record Flagging (ms : List Declared) (gs : List Key) (r : ℕ) (l : Partial) : Type 0 where
  pub labelled : Labelled gs l
  pub called : (l.count ≡ 0) ⊎ Named ms l
  pub fresh : Fresh (patterns.Write r) l

-- A variable that is written gets its flag.
pub writing_flags : (ms : List Declared) (gs : List Key) (r : ℕ) (l : Partial) → r < 8 → Labelled gs l → (l.count ≡ 0) ⊎ Named ms l → ¬ (r ∈ each writes l.slots)
    → Flagging ms gs r (writing r l)
writing_flags ms gs r l b h c n =
    cond_both (ltb r 8)
    (record { kind = l.kind; number = l.number; arity = l.arity; count = l.count; returned = l.returned; slots = l.slots; written = set l.written r true }) l
    (λ y. Flagging ms gs r y) (λ _. record {
      labelled = record {
        eight = length-set l.written r true ∙ h.eight;
        slotted = record { five = s.five; fit = s.fit; once = s.once; flagged = λ j m. kept j (s.flagged j m) };
        returned = h.returned;
      };
      called = c;
      fresh = λ j m.
          let e = Memᴰ.eq_of_singleton m in
          (λ y. n (subst (λ (z : ℕ). z ∈ each writes l.slots) e y), subst (λ (z : ℕ). wrote (set l.written r true) z ≡ true) (sym e) flag);
    }) (λ e. let k = ltb-false r 8 e in absurd (omega arith))
  where
    s : Slotted gs l.written l.slots
    s = h.slotted

    inside : r < length l.written
    inside = let e = h.eight in omega arith

    flag : wrote (set l.written r true) r ≡ true
    flag = and_from (ltb r 8) _ (lt-ltb r 8 b) (get_or-set_same l.written r true false inside)

    kept : (j : ℕ) → wrote l.written j ≡ true → wrote (set l.written r true) j ≡ true
    kept j w = elim (cases_eq j r) [
      | inl e ↦ subst (λ (z : ℕ). wrote (set l.written r true) z ≡ true) (sym e) flag
      | inr e ↦ (let p = and_parts (ltb j 8) _ w in and_from (ltb j 8) _ p.0 (get_or-set_other l.written r j true false e ∙ p.1))
    ]

-- STATEMENTS
-- A statement with one event more.
pub record Met (P : Property) (v : Cursor) : Type 0 where
  pub kept : Kept P v.starts v.errs
  pub stated : Stated P v.starts v.errs v.statement
  pub some : 1 ≤ v.statement.span

-- One event more.
pub met_one : (P : Property) (u : Cursor) (e : Event) → Kept P u.starts u.errs → Stated P u.starts u.errs u.statement → EventFits P.methods P.registers e → Met P (met e u)
met_one P u e k h f =
    let s = u.statement in
    let fits = EventFits P.methods P.registers in
    let four = h.read.four in
    cond_both (ltb s.span 4) _ u (Met P) (λ l.
    let b = ltb-true s.span 4 l in
    let few : s.span + 1 ≤ 4 = omega arith in
    let some : 1 ≤ s.span + 1 = omega arith in
    let inside : s.span < length s.events = omega arith in
    record {
      kept = k;
      stated = record {
        room = h.room;
        read = record {
          few = few;
          four = length-set s.events s.span e ∙ four;
          from = h.read.from;
          to = h.read.to;
          leaves = h.read.leaves;
          fit = subst (All fits) (sym (take_more_set s.events s.span e inside)) (All-push fits (take s.span s.events) e h.read.fit f);
          starts = h.read.starts;
          errs = h.read.errs;
        };
      };
      some = some;
    }) (λ l.
    let b = ltb-false s.span 4 l in
    let some : 1 ≤ s.span = omega arith in
    record { kept = k; stated = h; some = some })

-- The call of a label.
call_fits : (ms : List Declared) (gs : List Key) (l : Partial) → Labelled gs l → Named ms l → EventFits ms gs (call_of l)
call_fits ms gs l h n = record {
  declared = n;
  five = h.slotted.five;
  fit = All-take (SlotFits gs) l.arity l.slots h.slotted.fit;
  once = distinct_take writes l.arity l.slots h.slotted.once;
}

-- The return of a label.
return_fits : (ms : List Declared) (gs : List Key) (l : Partial) → Labelled gs l → Named ms l → EventFits ms gs (return_of l)
return_fits ms gs l h n = record { declared = (n.0, n.1, n.2); fits = h.returned }

-- The events of a label.
events_met : (d : Kind) (P : Property) (u : Cursor) → Kept P u.starts u.errs → Called P u → Met P (events_of d u)
events_met kinds.Call P u k h = met_one P u (call_of u.label) k h.stated (call_fits P.methods P.registers u.label h.labelled h.named)
events_met kinds.Return P u k h = met_one P u (return_of u.label) k h.stated (return_fits P.methods P.registers u.label h.labelled h.named)
events_met kinds.Both P u k h =
    let m = met_one P u (call_of u.label) k h.stated (call_fits P.methods P.registers u.label h.labelled h.named) in
    met_one P (met (call_of u.label) u) (return_of u.label) m.kept m.stated (return_fits P.methods P.registers u.label h.labelled h.named)

-- A label ends.
pub finished_good : (p : State) (r : List ℕ) → Sofar p → Called p.sofar p.cursor → Good (at (finished p.cursor) p) r
finished_good p r k h = let m = events_met p.cursor.label.kind p.sofar p.cursor k h in record { kept = m.kept; here = (m.stated, m.some) }

-- A statement ends.
pub ended_kept : (P : Property) (u : Cursor) → Met P u → Kept (with_statement u.statement P) u.starts u.errs
ended_kept P u m =
    let s = u.statement in
    let Q = with_statement s P in
    let g : Grows P Q = record { methods = λ m x. x; states = omega arith; registers = λ r x. x; same = λ r d x. refl } in
    let e = length_push P.statements s in
    let l = m.stated.room in
    let few : length (P.statements ++ s ∷ []) ≤ 64 = omega arith in
    record {
      methods = m.kept.methods;
      states = m.kept.states;
      registers = m.kept.registers;
      few_statements = few;
      statements_fit = All-push (Whole Q u.starts u.errs) P.statements s
          (all_grow P Q g u.starts u.errs u.starts u.errs (λ x. x) (λ x. x) P.statements m.kept.statements_fit) (record { some = m.some; read = m.stated.read });
    }

-- The same of a text.
pub ended_good : (p : State) (r : List ℕ) → Met p.sofar p.cursor → Good (ends_statement p) r
ended_good p r m = record { kept = ended_kept p.sofar p.cursor m; here = tt }

-- PATTERNS
module _ (P : Property) (u : Cursor) (x : Slot) (h : Amid P u) (f : SlotFits P.registers x) (n : Fresh x.pattern u.label) where
  -- The returned pattern is read.
  given : Returned P (labelled (returning x u.label) u)
  given = record { stated = h.stated; labelled = returning_labelled P.registers x u.label h.labelled f }

  -- A parameter is read.
  taken : eqb u.label.count 0 ≡ false → Called P (labelled (taking x u.label) u)
  taken e = record {
    stated = h.stated;
    labelled = taking_labelled P.registers x u.label h.labelled f n;
    named = ⊎_elim (λ z. absurd (eqb-false u.label.count 0 e z)) (λ m. m) h.called;
  }

-- A pattern is read.
pub filled_good : (p : State) (x : Slot) (r : List ℕ) → Sofar p → Amid p.sofar p.cursor → SlotFits p.sofar.registers x
    → Fresh x.pattern p.cursor.label → Good (at (filled x p.cursor) p) r
filled_good p x r k h f n =
    let u = p.cursor in
    cond_both (eqb u.label.count 0) (to (spots.Label labels.Becomes) (labelled (returning x u.label) u)) (to (spots.Label labels.Comma) (labelled (taking x u.label) u))
    (λ v. Good (at v p) r) (λ e. record { kept = k; here = given p.sofar u x h f n }) (λ e. record { kept = k; here = taken p.sofar u x h f n e })

-- A constant is read, but for its `>`.
pub quoted_good : (p : State) (x : Slot) (r : List ℕ) → Sofar p → Amid p.sofar p.cursor → SlotFits p.sofar.registers x
    → Fresh x.pattern p.cursor.label → Good (at (to (spots.Inner inners.Unquote) (filled x p.cursor)) p) r
quoted_good p x r k h f n =
    let u = p.cursor in
    cond_both (eqb u.label.count 0) (to (spots.Label labels.Becomes) (labelled (returning x u.label) u)) (to (spots.Label labels.Comma) (labelled (taking x u.label) u))
    (λ v. Good (at (to (spots.Inner inners.Unquote) v) p) r) (λ e. record { kept = k; here = (given p.sofar u x h f n, inl refl) }) (λ e.
    let c = taken p.sofar u x h f n e in
    record { kept = k; here = (record { stated = c.stated; labelled = c.labelled }, inr c.named) })

-- What holds of a label still holds where a key has a register.
pub holding_amid : (P Q : Property) (k : Key) (u : Cursor) → Holds P Q k → Amid P u → Amid Q u
holding_amid P Q k u g h = record {
  stated = stated_grows P Q g.grows u.starts u.errs u.starts u.errs (λ x. x) (λ x. x) g.statements u.statement h.stated;
  labelled = labelled_grows P Q g.grows u.label h.labelled;
  called = ⊎_elim (λ z. inl z) (λ m. inr (named_grows P Q g.grows u.label m)) h.called;
}

-- A pattern of a register is read.
pub patterned_good : (p : State) (k : Key) (f : ℕ → Pattern ℕ) (i : ℕ) (r : List ℕ) → Sofar p → Amid p.sofar p.cursor
    → Holds p.sofar (holding k p.sofar) k → PatternFits (holding k p.sofar).registers (f (register_of p.sofar k)) → Fresh (f (register_of p.sofar k)) p.cursor.label
    → Good (patterned k f i p) r
patterned_good p k f i r h a g t n =
    filled_good (record { cursor = p.cursor; word = p.word; sofar = holding k p.sofar }) (record { pattern = f (register_of p.sofar k); place = i }) r
    (g.kept p.cursor.starts p.cursor.errs h) (holding_amid p.sofar (holding k p.sofar) k p.cursor g a) t n

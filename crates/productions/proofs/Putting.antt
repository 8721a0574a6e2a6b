-- A pattern in a label: the position behind it, and what has changed there.
use Rattle.std.proofs.Common.{◌≡◌, ℕ, Bool, true, false, cond, eqb, ◌==◌, nat_lt, List, [], ◌∷◌, ◌++◌, sym, refl, ap, ◌∙◌, subst, inl, inr, arith}
use Rattle.std.proofs.lemmas.Bool.{cases_Bool}
use Rattle.std.proofs.lemmas.Bool.Decides.{nat_tests}
use Rattle.std.specs.List.{position_or_len}
use Rattle.forms.specs.Bytes.{capital}
use Rattle.limits.specs.Tables.{placed, pattern}
use Rattle.topl.specs.Table as T
use Rattle.property.specs.Cursors.{to, filled, labelled, one_more, parameters, returning, taking, writing}
use Rattle.property.specs.States.{State, Property, Key, at, turned, holding, new_key, with_register, same_key, variable, variable_key, constant_key, register_of, patterned}
use Rattle.property.specs.Words.{first_byte}
use Rattle.property.specs.declared.cursor.Cursor.{Cursor}
use Rattle.property.specs.declared.cursor.Partial.{Partial}
use Rattle.property.specs.declared.spot.Inner.TheVariants as inners
use Rattle.property.specs.declared.spot.Label.TheVariants as labels
use Rattle.property.specs.declared.spot.Spot.TheVariants as spots
use Rattle.property.specs.declared.table.Slot.{Slot}
use Rattle.topl.specs.declared.pattern.Pattern.{Pattern as Holes}
use Rattle.topl.specs.declared.pattern.Pattern.TheVariants as patterns
use Rattle.productions.specs.Meaning.{pattern_keys, pattern_of}
use Rattle.productions.specs.Syntax.{Pattern, anything, unlike, constant}
use Rattle.productions.specs.Syntax.{variable as a_variable}
use Rattle.productions.proofs.Places.{grow, Goes, keys_tell, place_stays}

-- The property with these registers.
abbrev pub with_registers : List Key → Property → Property
with_registers gs P = record { name = P.name; methods = P.methods; others = P.others; registers = gs; statements = P.statements }

-- The property with a register for each of these keys.
abbrev pub holds_keys : List Key → Property → Property
holds_keys ks P = with_registers (grow same_key ks P.registers) P

-- A key has a register or gets one.
held_by : (t : Bool) (k : Key) (P : Property) → cond t (with_register k P) P ≡ with_registers (cond t (P.registers ++ k ∷ []) P.registers) P
held_by true k P = refl
held_by false k P = refl

-- The property with a register for one key.
pub held : (k : Key) (P : Property) → holding k P ≡ holds_keys (k ∷ []) P
held k P = held_by (new_key P k) k P

-- A slot with a pattern of the theory, once the registers are all known.
abbrev Stands : Slot → List Key → Pattern → Type 0
Stands x gs p = (g : List Key) → Goes gs g → placed x ≡ pattern_of g p

-- A label with one pattern more, which stands in a slot.
pub record Grown (l m : Partial) (x : Slot) : Type 0 where
  pub kind : m.kind ≡ l.kind
  pub number : m.number ≡ l.number
  pub arity : m.arity ≡ l.arity
  pub count : m.count ≡ cond (eqb l.count 0) 1 (one_more l.count)
  pub returned : m.returned ≡ cond (eqb l.count 0) x l.returned
  pub slots : m.slots ≡ cond (eqb l.count 0) l.slots (parameters l.count x l.slots)

-- Behind the pattern x at q, as it began at p.
pub record Put (p q : State) (x : Pattern) : Type 0 where
  pub spot : q.cursor.spot ≡ spots.Label (cond (eqb p.cursor.label.count 0) labels.Becomes labels.Comma)
  pub slot : Slot
  pub label : Grown p.cursor.label q.cursor.label slot
  pub statement : q.cursor.statement ≡ p.cursor.statement
  pub sofar : q.sofar ≡ holds_keys (pattern_keys x) p.sofar
  pub stands : Stands slot q.sofar.registers x

-- A cursor with a pattern more.
record Filled (u v : Cursor) (x : Slot) : Type 0 where
  spot : v.spot ≡ spots.Label (cond (eqb u.label.count 0) labels.Becomes labels.Comma)
  label : Grown u.label v.label x
  statement : v.statement ≡ u.statement

-- The returned pattern, or a parameter.
fills_by : (t : Bool) (x : Slot) (u : Cursor) → eqb u.label.count 0 ≡ t
    → Filled u (cond t (to (spots.Label labels.Becomes) (labelled (returning x u.label) u)) (to (spots.Label labels.Comma) (labelled (taking x u.label) u))) x
fills_by true x u e = record {
  spot = ap (λ (b : Bool). spots.Label (cond b labels.Becomes labels.Comma)) (sym e);
  label = record {
    kind = refl;
    number = refl;
    arity = refl;
    count = ap (λ (b : Bool). cond b 1 (one_more u.label.count)) (sym e);
    returned = ap (λ (b : Bool). cond b x u.label.returned) (sym e);
    slots = ap (λ (b : Bool). cond b u.label.slots (parameters u.label.count x u.label.slots)) (sym e);
  };
  statement = refl;
}
fills_by false x u e = record {
  spot = ap (λ (b : Bool). spots.Label (cond b labels.Becomes labels.Comma)) (sym e);
  label = record {
    kind = refl;
    number = refl;
    arity = refl;
    count = ap (λ (b : Bool). cond b 1 (one_more u.label.count)) (sym e);
    returned = ap (λ (b : Bool). cond b x u.label.returned) (sym e);
    slots = ap (λ (b : Bool). cond b u.label.slots (parameters u.label.count x u.label.slots)) (sym e);
  };
  statement = refl;
}

-- A pattern more.
fills : (x : Slot) (u : Cursor) → Filled u (filled x u) x
fills x u = fills_by (eqb u.label.count 0) x u refl

-- A pattern of a register.
stands_on : (f : ℕ → Holes ℕ) (h : ℕ → T.Pattern) (x : Pattern) (k : Key) (n : ℕ) (P : Property) → ((i : ℕ) → pattern (f i) ≡ h i)
    → ((g : List Key) → pattern_of g x ≡ h (position_or_len (same_key k) g)) → Stands (record { pattern = f (register_of P k); place = n }) (grow same_key (k ∷ []) P.registers) x
stands_on f h x k n P e i g j = e (register_of P k) ∙ (ap h (place_stays same_key keys_tell k P.registers g j) ∙ sym (i g))

-- The position behind a pattern that began at place k.
abbrev pub put : Pattern → ℕ → State → State
put anything k p = at (filled (record { pattern = patterns.Any; place = k }) p.cursor) p
put (a_variable w) k p = variable w k p
put (unlike w) k p = patterned (variable_key w) patterns.Differs k (turned (spots.Inner (inners.Negated k)) p)
put (constant w) k p =
    turned (spots.Label (cond ((patterned (constant_key w) patterns.Same k (turned (spots.Inner (inners.Quoted k)) p)).cursor.label.count == 1) labels.Becomes labels.Comma))
    (turned (spots.Inner inners.Unquote) (patterned (constant_key w) patterns.Same k (turned (spots.Inner (inners.Quoted k)) p)))

-- A pattern that names a register.
put_patterned : (x : Pattern) (k : Key) (f : ℕ → Holes ℕ) (h : ℕ → T.Pattern) (n : ℕ) (p : State) → pattern_keys x ≡ k ∷ [] → ((i : ℕ) → pattern (f i) ≡ h i)
    → ((g : List Key) → pattern_of g x ≡ h (position_or_len (same_key k) g)) → Put p (patterned k f n p) x
put_patterned x k f h n p a e i =
    let s : Slot = record { pattern = f (register_of p.sofar k); place = n } in
    let v = fills s p.cursor in
    let b : holding k p.sofar ≡ holds_keys (pattern_keys x) p.sofar = held k p.sofar ∙ ap (λ (ks : List Key). holds_keys ks p.sofar) (sym a) in
    record {
      spot = v.spot;
      slot = s;
      label = v.label;
      statement = v.statement;
      sofar = b;
      stands = subst (λ (gs : List Key). Stands s gs x) (ap (λ (P : Property). P.registers) (sym (held k p.sofar))) (stands_on f h x k n p.sofar e i);
    }

-- A label that writes a register is otherwise the same.
unwritten : (t : Bool) (ws : List Bool) (p q : State) (x : Pattern)
    → Put (at (labelled (cond t (record { kind = p.cursor.label.kind; number = p.cursor.label.number; arity = p.cursor.label.arity; count = p.cursor.label.count; returned = p.cursor.label.returned; slots = p.cursor.label.slots; written = ws }) p.cursor.label) p.cursor) p) q x
    → Put p q x
unwritten true ws p q x g = record {
  spot = g.spot;
  slot = g.slot;
  label = record { kind = g.label.kind; number = g.label.number; arity = g.label.arity; count = g.label.count; returned = g.label.returned; slots = g.label.slots };
  statement = g.statement;
  sofar = g.sofar;
  stands = g.stands;
}
unwritten false ws p q x g = g

-- A variable is written or read.
chosen : (t : Bool) (w : List ℕ) (p A B : State) → capital (first_byte w) ≡ t → (t ≡ true → Put p A (a_variable w)) → (t ≡ false → Put p B (a_variable w))
    → Put p (cond t A B) (a_variable w)
chosen true w p A B e f g = f refl
chosen false w p A B e f g = g refl

-- A variable.
puts_variable : (w : List ℕ) (k : ℕ) (p : State) → Put p (variable w k p) (a_variable w)
puts_variable w k p =
    chosen (capital (first_byte w)) w p (patterned (variable_key w) patterns.Write k q) (patterned (variable_key w) patterns.Same k p) refl
    (λ e. unwritten (nat_lt (register_of p.sofar (variable_key w)) 8) _ p _ (a_variable w)
    (put_patterned (a_variable w) (variable_key w) patterns.Write T.Write k q refl (λ i. refl)
    (λ g. ap (λ (b : Bool). cond b (T.Write (position_or_len (same_key (variable_key w)) g)) (T.Same (position_or_len (same_key (variable_key w)) g))) e)))
    (λ e. put_patterned (a_variable w) (variable_key w) patterns.Same T.Same k p refl (λ i. refl)
    (λ g. ap (λ (b : Bool). cond b (T.Write (position_or_len (same_key (variable_key w)) g)) (T.Same (position_or_len (same_key (variable_key w)) g))) e))
  where
    q : State
    q = at (labelled (writing (register_of p.sofar (variable_key w)) p.cursor.label) p.cursor) p

-- One pattern comes after none, and only then.
one_after : (c n : ℕ) → n ≡ cond (eqb c 0) 1 (one_more c) → (n == 1) ≡ eqb c 0
one_after c n e = elim (cases_Bool (eqb c 0)) [
  | inl f ↦ (let g : n ≡ 1 = e ∙ ap (λ (b : Bool). cond b 1 (one_more c)) f in ap (λ (m : ℕ). eqb m 1) g ∙ sym f)
  | inr f ↦ (let g : n ≡ one_more c = e ∙ ap (λ (b : Bool). cond b 1 (one_more c)) f in ap (λ (m : ℕ). eqb m 1) g ∙ (more c f ∙ sym f))
]
  where
    more : (c : ℕ) → eqb c 0 ≡ false → eqb (one_more c) 1 ≡ false
    more c f = grind (arith, nat_tests)

-- Each pattern.
pub puts : (x : Pattern) (k : ℕ) (p : State) → Put p (put x k p) x
puts anything k p =
    let s : Slot = record { pattern = patterns.Any; place = k } in
    let v = fills s p.cursor in
    record { spot = v.spot; slot = s; label = v.label; statement = v.statement; sofar = refl; stands = λ g j. refl }
puts (a_variable w) k p = puts_variable w k p
puts (unlike w) k p =
    let v = put_patterned (unlike w) (variable_key w) patterns.Differs T.Differs k (turned (spots.Inner (inners.Negated k)) p) refl (λ i. refl) (λ g. refl) in
    record { spot = v.spot; slot = v.slot; label = v.label; statement = v.statement; sofar = v.sofar; stands = v.stands }
puts (constant w) k p =
    let v = put_patterned (constant w) (constant_key w) patterns.Same T.Same k (turned (spots.Inner (inners.Quoted k)) p) refl (λ i. refl) (λ g. refl) in
    record {
      spot = ap (λ (b : Bool). spots.Label (cond b labels.Becomes labels.Comma)) (one_after p.cursor.label.count (patterned (constant_key w) patterns.Same k (turned (spots.Inner (inners.Quoted k)) p)).cursor.label.count v.label.count);
      slot = v.slot;
      label = v.label;
      statement = v.statement;
      sofar = v.sofar;
      stands = v.stands;
    }

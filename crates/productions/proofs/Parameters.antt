-- Patterns and parameters: from their spelling to the positions of the table.
use Rattle.std.proofs.Common.{◌≡◌, ℕ, suc, ◌+◌, ◌≤◌, ◌||◌, Bool, true, false, cond, eqb, nat_le, List, [], ◌∷◌, ◌++◌, map, take, length, not, ◌-◌, set, sym, refl, ap, ◌∙◌, subst, inl, inr, arith, append-nil, append_assoc, eqb-true}
use Rattle.std.proofs.lemmas.Bool.{cases_Bool}
use Rattle.std.proofs.lemmas.Bool.Decides.{nat_tests}
use Rattle.std.proofs.Math.Seq.{take-suc-set}
use Rattle.std.proofs.lemmas.List.{map-append, length-set}
use Rattle.forms.specs.Bytes.{letter, small}
use Rattle.forms.specs.Pieces.{Piece, head_of}
use Rattle.forms.specs.Pieces as pieces
use Rattle.forms.proofs.Laws.{apart}
use Rattle.limits.specs.Tables.{placed}
use Rattle.topl.specs.Lists.{each}
use Rattle.property.specs.Cursors.{finished, one_more, parameters}
use Rattle.property.specs.Grammar.{Marked, opens_at, pattern_opens, tight_at}
use Rattle.property.specs.States.{Key, State, Property, at, turned, moved, begins, variable, same_key}
use Rattle.property.specs.Words.{first_byte}
use Rattle.property.specs.declared.spot.Inner.TheVariants as inners
use Rattle.property.specs.declared.spot.Label.TheVariants as labels
use Rattle.property.specs.declared.spot.Spot.{Spot}
use Rattle.property.specs.declared.spot.Spot.TheVariants as spots
use Rattle.property.specs.declared.table.Slot.{Slot}
use Rattle.productions.specs.Meaning.{pattern_keys, pattern_of}
use Rattle.productions.specs.Spelling.{word, sign, pattern, more_parameters, inside}
use Rattle.productions.specs.Spelling.{becomes as becoming, parameters as bracketed}
use Rattle.productions.specs.Syntax.{Pattern, anything, unlike, constant}
use Rattle.productions.specs.Syntax.{variable as a_variable}
use Rattle.productions.proofs.Leading.{Clean, Leads, along, Fine, word_letter, by_word, by_mark, by_byte, at_spot}
use Rattle.productions.proofs.Places.{Goes, goes_along, goes_grow, grow_append}
use Rattle.productions.proofs.Putting.{holds_keys, Put, put, puts}
use Rattle.productions.proofs.Reading.{not_mark}

-- PATTERNS
-- The piece that a pattern begins with.
abbrev pub lead : Pattern → Piece
lead anything = pieces.mark 42
lead (a_variable w) = pieces.word w
lead (unlike w) = pieces.mark 33
lead (constant w) = pieces.mark 60

-- At p a pattern may begin, of which the first bytes are good; then it goes on as from o.
pub record Admits (p o : State) (Good : List ℕ → Type 0) : Type 0 where
  pub loose : tight_at p.cursor.spot ≡ false
  pub opens : (c : ℕ) → pattern_opens c ≡ true → opens_at p.cursor.spot c ≡ true
  pub begin : (w : List ℕ) (c k : ℕ) → Good w → pattern_opens c ≡ true → eqb c 42 ≡ false → moved p w c k ≡ begins w c k o

-- A pattern was read at p, as from o.
pub record Reads (p o : State) (a : ℕ) (x : Pattern) (s r : List ℕ) : Type 0 where
  pub at : ℕ
  pub place : ℕ
  pub leads : Leads p a s (put x at o) place r
  pub fine : Clean p a s → (u : List ℕ) × Fine p (lead x) u

-- A pattern that is not `*`, and its first bytes.
abbrev pub Named : Pattern → (List ℕ → Type 0) → Type 0
Named anything Good = ⊥
Named (a_variable w) Good = Good w
Named (unlike w) Good = Good (33 ∷ [])
Named (constant w) Good = Good (60 ∷ [])

-- A letter may begin a pattern.
letter_opens : (c : ℕ) → letter c ≡ true → pattern_opens c ≡ true
letter_opens c h = ap (λ (b : Bool). b || (eqb c 42 || (eqb c 33 || eqb c 60))) h

-- A choice whose test says no.
pub if_false : {A : Type 0} (t : Bool) (x y : A) → t ≡ false → cond t x y ≡ y
if_false true x y e = apart true refl e
if_false false x y e = refl

-- A pattern that begins with a letter is a variable.
begins_variable : (w : List ℕ) (c k : ℕ) (p : State) → letter c ≡ true → begins w c k p ≡ variable w k p
begins_variable w c k p h =
    if_false (eqb c 42) _ (cond (eqb c 33) (turned (spots.Inner (inners.Negated k)) p) (cond (eqb c 60) (turned (spots.Inner (inners.Quoted k)) p) (variable w k p))) (not_mark c 42 h refl)
    ∙ (if_false (eqb c 33) _ (cond (eqb c 60) (turned (spots.Inner (inners.Quoted k)) p) (variable w k p)) (not_mark c 33 h refl)
    ∙ if_false (eqb c 60) _ (variable w k p) (not_mark c 60 h refl))

-- The first byte of a word with a small first letter.
small_head : (w s r : List ℕ) → word w s r → small (first_byte w) ≡ true → small (head_of (pieces.word w)) ≡ true
small_head [] s r h e = absurd h.1.2.2
small_head (c ∷ w) s r h e = e

-- A pattern that is not `*` is read.
pub named : (x : Pattern) (p o : State) (a : ℕ) (s r : List ℕ) (Good : List ℕ → Type 0) → Admits p o Good → Named x Good → pattern x s r → Reads p o a x s r
named anything p o a s r Good m n h = absurd n
named (a_variable w) p o a s r Good m n h =
    let l = word_letter w s r h in
    let x = by_word p a w s r m.loose (m.opens (head_of (pieces.word w)) (letter_opens (head_of (pieces.word w)) l)) h in
    let e = m.begin w (head_of (pieces.word w)) x.at n (letter_opens (head_of (pieces.word w)) l) (not_mark (head_of (pieces.word w)) 42 l refl) ∙ begins_variable w (head_of (pieces.word w)) x.at o l in
    record { at = x.at; place = x.place; leads = subst (λ (q : State). Leads p a s q x.place r) e x.leads; fine = λ c. (r, x.fine c) }
named (unlike w) p o a s r Good m n (u, h, (g, i)) =
    let x = by_mark p a 33 s u m.loose (m.opens 33 refl) h in
    let e = m.begin (33 ∷ []) 33 x.at n refl refl in
    let q = turned (spots.Inner (inners.Negated x.at)) o in
    let y = by_word q x.place w u r refl (small_head w u r i g) i in
    record {
      at = x.at;
      place = y.place;
      leads = along (subst (λ (z : State). Leads p a s z x.place u) e x.leads) y.leads;
      fine = λ c. (u, x.fine c);
    }
named (constant w) p o a s r Good m n (u, h, (v, i, j)) =
    let x = by_mark p a 60 s u m.loose (m.opens 60 refl) h in
    let e = m.begin (60 ∷ []) 60 x.at n refl refl in
    let q = turned (spots.Inner (inners.Quoted x.at)) o in
    let y = by_word q x.place w u v refl (word_letter w u v i) i in
    let q' = moved q w (head_of (pieces.word w)) y.at in
    let z = by_mark q' y.place 62 v r refl refl j in
    record {
      at = x.at;
      place = z.place;
      leads = along (subst (λ (b : State). Leads p a s b x.place u) e x.leads) (along y.leads z.leads);
      fine = λ c. (u, x.fine c);
    }

-- Where a returned pattern or a parameter is read.
abbrev Any : List ℕ → Type 0
Any w = Unit {0}

-- No pattern begins with a closing bracket.
not_close : (c : ℕ) → pattern_opens c ≡ true → eqb c 41 ≡ false
not_close c h = grind (arith, nat_tests)

-- A returned pattern is read.
pub returned : (x : Pattern) (p : State) (a : ℕ) (s r : List ℕ) → pattern x s r → Reads (turned (spots.Inner inners.Returned) p) (turned (spots.Inner inners.Returned) p) a x s r
returned anything p a s r h =
    let x = by_mark (turned (spots.Inner inners.Returned) p) a 42 s r refl refl h in
    record { at = x.at; place = x.place; leads = x.leads; fine = λ c. (r, x.fine c) }
returned (a_variable w) p a s r h = named (a_variable w) _ _ a s r Any (record { loose = refl; opens = λ c e. e; begin = λ w c k g o e. refl }) tt h
returned (unlike w) p a s r h = named (unlike w) _ _ a s r Any (record { loose = refl; opens = λ c e. e; begin = λ w c k g o e. refl }) tt h
returned (constant w) p a s r h = named (constant w) _ _ a s r Any (record { loose = refl; opens = λ c e. e; begin = λ w c k g o e. refl }) tt h

-- A parameter behind a comma is read.
pub param : (x : Pattern) (p : State) (a : ℕ) (s r : List ℕ) → pattern x s r → Reads (turned (spots.Inner inners.Param) p) (turned (spots.Inner inners.Param) p) a x s r
param anything p a s r h =
    let x = by_mark (turned (spots.Inner inners.Param) p) a 42 s r refl refl h in
    record { at = x.at; place = x.place; leads = x.leads; fine = λ c. (r, x.fine c) }
param (a_variable w) p a s r h = named (a_variable w) _ _ a s r Any (record { loose = refl; opens = λ c e. e; begin = λ w c k g o e. refl }) tt h
param (unlike w) p a s r h = named (unlike w) _ _ a s r Any (record { loose = refl; opens = λ c e. e; begin = λ w c k g o e. refl }) tt h
param (constant w) p a s r h = named (constant w) _ _ a s r Any (record { loose = refl; opens = λ c e. e; begin = λ w c k g o e. refl }) tt h

-- A pattern may begin behind the opening bracket.
first_admits : (p : State) → Admits (turned (spots.Inner inners.First) p) (turned (spots.Inner inners.First) p) Any
first_admits p = record {
  loose = refl;
  opens = λ c e. ap (λ (b : Bool). eqb c 41 || b) e ∙ or_true (eqb c 41);
  begin = λ w c k g o e. if_false (eqb c 41) (at (finished (turned (spots.Inner inners.First) p).cursor) (turned (spots.Inner inners.First) p)) (begins w c k (turned (spots.Inner inners.First) p)) (not_close c o);
}
  where
    or_true : (b : Bool) → (b || true) ≡ true
    or_true true = refl
    or_true false = refl

-- The first parameter is read.
pub first : (x : Pattern) (p : State) (a : ℕ) (s r : List ℕ) → pattern x s r → Reads (turned (spots.Inner inners.First) p) (turned (spots.Inner inners.First) p) a x s r
first anything p a s r h =
    let x = by_mark (turned (spots.Inner inners.First) p) a 42 s r refl refl h in
    record { at = x.at; place = x.place; leads = x.leads; fine = λ c. (r, x.fine c) }
first (a_variable w) p a s r h = named (a_variable w) _ _ a s r Any (first_admits p) tt h
first (unlike w) p a s r h = named (unlike w) _ _ a s r Any (first_admits p) tt h
first (constant w) p a s r h = named (constant w) _ _ a s r Any (first_admits p) tt h

-- PARAMETERS
-- The patterns ps were read since p.
pub record Given (p q : State) (ps : List Pattern) : Type 0 where
  pub kind : q.cursor.label.kind ≡ p.cursor.label.kind
  pub number : q.cursor.label.number ≡ p.cursor.label.number
  pub arity : q.cursor.label.arity ≡ p.cursor.label.arity
  pub returned : q.cursor.label.returned ≡ p.cursor.label.returned
  pub statement : q.cursor.statement ≡ p.cursor.statement
  pub sofar : q.sofar ≡ holds_keys (each pattern_keys ps) p.sofar
  pub count : q.cursor.label.count ≤ 6 → q.cursor.label.count ≡ p.cursor.label.count + length ps
  pub slots : (n : ℕ) → p.cursor.label.count ≡ suc n → n + length ps ≤ 5 → length p.cursor.label.slots ≡ 5 → (g : List Key) → Goes q.sofar.registers g
      → map placed (take (n + length ps) q.cursor.label.slots) ≡ map placed (take n p.cursor.label.slots) ++ map (pattern_of g) ps

-- No pattern was read.
given_none : (p : State) → Given p p []
given_none p = record {
  kind = refl;
  number = refl;
  arity = refl;
  returned = refl;
  statement = refl;
  sofar = refl;
  count = λ h. omega arith;
  slots = λ n e h l g j.
      let z : n + 0 ≡ n = omega arith in
      ap (λ (i : ℕ). map placed (take i p.cursor.label.slots)) z ∙ sym (append-nil (map placed (take n p.cursor.label.slots)));
}

-- The registers only grow.
pub held_goes : (ks : List Key) (P Q : Property) → Q ≡ holds_keys ks P → Goes P.registers Q.registers
held_goes ks P Q e = subst (λ (gs : List Key). Goes P.registers gs) (ap (λ (O : Property). O.registers) (sym e)) (goes_grow same_key ks P.registers)

-- Some keys are held and then others.
pub held_along : (ks ls : List Key) (P Q O : Property) → Q ≡ holds_keys ks P → O ≡ holds_keys ls Q → O ≡ holds_keys (ks ++ ls) P
held_along ks ls P Q O e f =
    f ∙ (ap (λ (X : Property). holds_keys ls X) e ∙ ap (λ (gs : List Key). record { name = P.name; methods = P.methods; others = P.others; registers = gs; statements = P.statements }) (sym (grow_append same_key ks ls P.registers)))

-- One parameter more in its slot.
slot_more : (n : ℕ) (x : Slot) (ss : List Slot) → n ≤ 4 → length ss ≡ 5
    → (map placed (take (suc n) (parameters (suc n) x ss)) ≡ map placed (take n ss) ++ placed x ∷ []) × (length (parameters (suc n) x ss) ≡ 5)
slot_more n x ss h l =
    let a : suc n - 1 ≡ n = omega arith in
    let e : parameters (suc n) x ss ≡ set ss n x =
    ap (λ (b : Bool). cond b (set ss (suc n - 1) x) ss) (few n h) ∙ ap (λ (i : ℕ). set ss i x) a in (
      ap (λ (ys : List Slot). map placed (take (suc n) ys)) e ∙ (ap (map placed) (take-suc-set ss n x (omega arith)) ∙ map-append placed (take n ss) (x ∷ [])),
      ap length e ∙ (length-set ss n x ∙ l),
    )
  where
    few : (n : ℕ) → n ≤ 4 → nat_le (suc n) 5 ≡ true
    few n h = grind (arith, nat_tests)

-- A pattern was read, and then others.
given_more : (p q o : State) (x : Pattern) (ps : List Pattern) → eqb p.cursor.label.count 0 ≡ false → Put p q x → Given q o ps → Given p o (x ∷ ps)
given_more p q o x ps f u v = record {
  kind = v.kind ∙ u.label.kind;
  number = v.number ∙ u.label.number;
  arity = v.arity ∙ u.label.arity;
  returned = v.returned ∙ (u.label.returned ∙ if_false (eqb p.cursor.label.count 0) u.slot p.cursor.label.returned f);
  statement = v.statement ∙ u.statement;
  sofar = held_along (pattern_keys x) (each pattern_keys ps) p.sofar q.sofar o.sofar u.sofar v.sofar;
  count = λ h. (let a = v.count h in counted p.cursor.label.count (length ps) o.cursor.label.count h (a ∙ ap (λ (i : ℕ). i + length ps) more));
  slots = λ n e h l g j.
      let s = slot_more n u.slot p.cursor.label.slots (omega arith) l in
      let t : q.cursor.label.slots ≡ parameters (suc n) u.slot p.cursor.label.slots = u.label.slots ∙ (if_false (eqb p.cursor.label.count 0) p.cursor.label.slots (parameters p.cursor.label.count u.slot p.cursor.label.slots) f ∙ ap (λ (i : ℕ). parameters i u.slot p.cursor.label.slots) e) in
      let c : q.cursor.label.count ≡ suc (suc n) = more ∙ (ap one_more e ∙ one_up n (omega arith)) in
      let a = v.slots (suc n) c (omega arith) (ap length t ∙ s.1) g j in
      let b : map placed (take (suc n) q.cursor.label.slots) ≡ map placed (take n p.cursor.label.slots) ++ placed u.slot ∷ [] = ap (λ (ss : List Slot). map placed (take (suc n) ss)) t ∙ s.0 in
      let i : Goes q.sofar.registers g = goes_along q.sofar.registers o.sofar.registers g (held_goes (each pattern_keys ps) q.sofar o.sofar v.sofar) j in
      let z : n + length (x ∷ ps) ≡ suc n + length ps = omega arith in
      ap (λ (m : ℕ). map placed (take m o.cursor.label.slots)) z
      ∙ (a ∙ (ap (λ (y : List _). y ++ map (pattern_of g) ps) b
      ∙ (append_assoc (map placed (take n p.cursor.label.slots)) (placed u.slot ∷ []) (map (pattern_of g) ps)
      ∙ ap (λ (y : _). map placed (take n p.cursor.label.slots) ++ (y ∷ map (pattern_of g) ps)) (u.stands g i))));
}
  where
    more : q.cursor.label.count ≡ one_more p.cursor.label.count
    more = u.label.count ∙ if_false (eqb p.cursor.label.count 0) 1 (one_more p.cursor.label.count) f

    counted : (c l m : ℕ) → m ≤ 6 → m ≡ one_more c + l → m ≡ c + suc l
    counted c l m h e = grind (arith, nat_tests)

    one_up : (n : ℕ) → n ≤ 5 → one_more (suc n) ≡ suc (suc n)
    one_up n h = grind (arith, nat_tests)

-- Where the brackets close: the label has all its patterns, and, with no fault, as many as its method has parameters.
pub record Closed (p : State) (a : ℕ) (s r : List ℕ) (ps : List Pattern) : Type 0 where
  pub on : State
  pub place : ℕ
  pub leads : Leads p a s (at (finished on.cursor) on) place r
  pub given : Given p on ps
  pub full : Clean p a s → on.cursor.label.count ≡ on.cursor.label.arity + 1

-- A closing bracket without fault closes as many patterns as are wanted.
all_there : (c n : ℕ) → ((m : ℕ) → Marked ((not (eqb c n), 13) ∷ []) m → ⊥) → c ≡ n
all_there c n h = elim (cases_Bool (eqb c n)) [
  | inl e ↦ eqb-true c n e
  | inr e ↦ absurd (h 13 (inl (ap not e, refl)))
]

-- The spot does not matter to what was read since.
given_since : (y z : Spot) (p q : State) (ps : List Pattern) → Given (turned y p) q ps → Given (turned z p) q ps
given_since y z p q ps g = record {
  kind = g.kind;
  number = g.number;
  arity = g.arity;
  returned = g.returned;
  statement = g.statement;
  sofar = g.sofar;
  count = g.count;
  slots = g.slots;
}

-- A pattern more is one more.
pub counts_on : (c n : ℕ) → n ≡ cond (eqb c 0) 1 (one_more c) → eqb n 0 ≡ false
counts_on c n e = elim (cases_Bool (eqb c 0)) [
  | inl f ↦ ap (λ (m : ℕ). eqb m 0) (e ∙ ap (λ (b : Bool). cond b 1 (one_more c)) f)
  | inr f ↦ ap (λ (m : ℕ). eqb m 0) (e ∙ ap (λ (b : Bool). cond b 1 (one_more c)) f) ∙ more_than c f
]
  where
    more_than : (c : ℕ) → eqb c 0 ≡ false → eqb (one_more c) 0 ≡ false
    more_than c f = grind (arith, nat_tests)

-- By the closing bracket, behind a parameter.
close : (p : State) (a : ℕ) (s r : List ℕ) → sign ")" s r → Closed (turned (spots.Label labels.Comma) p) a s r []
close p a s r h =
    let q = turned (spots.Label labels.Comma) p in
    let x = by_mark q a 41 s r refl refl h in
    record { on = q; place = x.place; leads = x.leads; given = given_none q; full = λ c. all_there p.cursor.label.count (p.cursor.label.arity + 1) (x.fine c) }

-- Behind a parameter that began at o, where the bracket closes.
behind : (p o : State) (x : Pattern) (ps : List Pattern) (a b : ℕ) (s v r : List ℕ) (k : ℕ) → eqb o.cursor.label.count 0 ≡ false → Leads p a s (put x k o) b v
    → Closed (put x k o) b v r ps → (w : State) × (c : ℕ) × Leads p a s (at (finished w.cursor) w) c r × Given o w (x ∷ ps) × (Clean p a s → w.cursor.label.count ≡ w.cursor.label.arity + 1)
behind p o x ps a b s v r k f l c =
    (c.on, c.place, along l c.leads, given_more o (put x k o) c.on x ps f (puts x k o) c.given, λ e. c.full (l.clean e))

-- Behind a parameter a comma or a bracket comes.
comma_spot : (x : Pattern) (k : ℕ) (o : State) → eqb o.cursor.label.count 0 ≡ false → (put x k o).cursor.spot ≡ spots.Label labels.Comma
comma_spot x k o f = (puts x k o).spot ∙ ap (λ (b : Bool). spots.Label (cond b labels.Becomes labels.Comma)) f

-- Further parameters.
more : (ps : List Pattern) (p : State) (a : ℕ) (s r : List ℕ) → eqb p.cursor.label.count 0 ≡ false → more_parameters ps s r → Closed (turned (spots.Label labels.Comma) p) a s r ps
more [] p a s r f h = close p a s r h
more (x ∷ ps) p a s r f (u, h, (v, i, j)) =
    let q = turned (spots.Label labels.Comma) p in
    let y = by_mark q a 44 s u refl refl h in
    let o = turned (spots.Inner inners.Param) p in
    let z = param x p y.place u v i in
    let g = put x z.at o in
    let c = at_spot (λ (n : State). Closed n z.place v r ps) g (spots.Label labels.Comma) (comma_spot x z.at o f)
    (more ps g z.place v r (counts_on p.cursor.label.count g.cursor.label.count (puts x z.at o).label.count) j) in
    let w = behind q o x ps a z.place s v r z.at f (along y.leads z.leads) c in
    record { on = w.0; place = w.1; leads = w.2; given = given_since (spots.Inner inners.Param) (spots.Label labels.Comma) p w.0 (x ∷ ps) w.3; full = w.4 }

-- All that stands in brackets.
inner : (ps : List Pattern) (p : State) (a : ℕ) (s r : List ℕ) → eqb p.cursor.label.count 0 ≡ false → inside ps s r → Closed (turned (spots.Inner inners.First) p) a s r ps
inner [] p a s r f h =
    let q = turned (spots.Inner inners.First) p in
    let x = by_mark q a 41 s r refl refl h in
    record { on = q; place = x.place; leads = x.leads; given = given_none q; full = λ c. all_there p.cursor.label.count (p.cursor.label.arity + 1) (x.fine c) }
inner (x ∷ ps) p a s r f (v, i, j) =
    let o = turned (spots.Inner inners.First) p in
    let z = first x p a s v i in
    let g = put x z.at o in
    let c = at_spot (λ (n : State). Closed n z.place v r ps) g (spots.Label labels.Comma) (comma_spot x z.at o f)
    (more ps g z.place v r (counts_on p.cursor.label.count g.cursor.label.count (puts x z.at o).label.count) j) in
    let w = behind o o x ps a z.place s v r z.at f z.leads c in
    record { on = w.0; place = w.1; leads = w.2; given = w.3; full = w.4 }

-- Parameters in brackets.
pub brackets : (ps : List Pattern) (p : State) (a : ℕ) (s r : List ℕ) → eqb p.cursor.label.count 0 ≡ false → bracketed ps s r → Closed (turned (spots.Label labels.Open) p) a s r ps
brackets ps p a s r f (u, h, i) =
    let q = turned (spots.Label labels.Open) p in
    let y = by_mark q a 40 s u refl refl h in
    let c = inner ps p y.place u r f i in
    record {
      on = c.on;
      place = c.place;
      leads = along y.leads c.leads;
      given = given_since (spots.Inner inners.First) (spots.Label labels.Open) p c.on ps c.given;
      full = λ e. c.full (y.leads.clean e);
    }

-- `:=`.
pub becomes : (p : State) (a : ℕ) (s r : List ℕ) → becoming s r → (c : ℕ) × Leads (turned (spots.Label labels.Becomes) p) a s (turned (spots.Label labels.Callee) p) c r
becomes p a s r (u, h, i) =
    let x = by_mark (turned (spots.Label labels.Becomes) p) a 58 s u refl refl h in
    let y = by_byte (turned (spots.Label labels.Equals) p) x.place 61 u r refl refl i in
    (y.place, along x.leads y.leads)

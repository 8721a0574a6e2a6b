-- From every position of a property text some text goes on.
use Rattle.std.proofs.Common.{◌≡◌, ℕ, zero, suc, ◌+◌, ◌≤◌, Bool, true, false, cond, eqb, ltb, List, [], ◌∷◌, ◌++◌, get_or, Some, None, codes, sym, refl, ap, ◌∙◌, subst, inl, inr, arith, eq-eqb}
use Rattle.std.proofs.lemmas.Bool.{cases_Bool, le-ltb}
use Rattle.forms.specs.Bytes.{space, wordy}
use Rattle.forms.specs.Grammars.{Takes, stop, go, Lives}
use Rattle.forms.specs.Pieces.{word, number, mark, Next}
use Rattle.forms.proofs.Lexing.{digit_stops}
use Rattle.property.specs.Cursors.{to, filled, labelled, naming, finished, returning, taking}
use Rattle.property.specs.Grammar.{text, opens, tight_at}
use Rattle.property.specs.States.{State, Property, at, turned, moved, leaving, reaching, ends_statement, callee_at, method_of, variable_key, register_of}
use Rattle.property.specs.declared.cursor.Cursor.{Cursor}
use Rattle.property.specs.declared.spot.Head.TheVariants as heads
use Rattle.property.specs.declared.spot.Inner.TheVariants as inners
use Rattle.property.specs.declared.spot.Kind.{Kind}
use Rattle.property.specs.declared.spot.Kind.TheVariants as kinds
use Rattle.property.specs.declared.spot.Label.TheVariants as labels
use Rattle.property.specs.declared.spot.Line.TheVariants as lines
use Rattle.property.specs.declared.spot.Route.TheVariants as routes
use Rattle.property.specs.declared.spot.Spot.{Spot}
use Rattle.property.specs.declared.spot.Spot.TheVariants as spots
use Rattle.topl.specs.declared.pattern.Pattern.TheVariants as patterns
use Rattle.property.specs.declared.table.Slot.{Slot}

-- At every place some text goes on from p.
abbrev pub Living : State → Type 0
Living p = (a : ℕ) → Lives text p a

-- The text that goes on, and that it does.
abbrev rest_of : (p : State) (a : ℕ) → Lives text p a → List ℕ
rest_of p a l = l.gap ++ (l.body ++ l.rest)

goes_on : (p : State) (a : ℕ) (l : Lives text p a) → Takes text p a l.value (rest_of p a l)
goes_on p a l = go p l.on a l.value l.piece (rest_of p a l) l.gap l.body l.rest l.stands l.goes l.more

-- A choice of something or nothing, where its test holds.
pub opened_by : {A : Type 0} (b : Bool) (x : A) → b ≡ true → cond b (Some x) None ≡ Some x
opened_by b x e = ap (λ (y : Bool). cond y (Some x) None) e

-- By a mark whose place counts.
by_placed : (p : State) (q : ℕ → State) (m : ℕ) → tight_at p.cursor.spot ≡ false → opens p.cursor m ≡ true → space m ≡ false → wordy m ≡ false
    → ((k : ℕ) → moved p (m ∷ []) m k ≡ q k) → ((k : ℕ) → Living (q k)) → Living p
by_placed p q m tight may s w moves on a =
    let l = on (a + 1) (a + 2) in
    let r = rest_of (q (a + 1)) (a + 2) l in
    record {
      piece = mark m;
      on = q (a + 1);
      value = l.value;
      gap = 32 ∷ [];
      body = m ∷ [];
      rest = r;
      stands = subst (λ (t : Bool). Next t (mark m) (32 ∷ m ∷ r) (32 ∷ []) (m ∷ []) r) (sym tight) (refl, (refl, tt), (refl, s, w));
      goes = opened_by (opens p.cursor m) (moved p (m ∷ []) m (a + 1)) may ∙ ap Some (moves (a + 1));
      more = goes_on (q (a + 1)) (a + 2) l;
      free = λ _. refl;
    }

-- By a mark, where spaces are free.
by_mark : (p q : State) (m : ℕ) → tight_at p.cursor.spot ≡ false → opens p.cursor m ≡ true → space m ≡ false → wordy m ≡ false
    → ((k : ℕ) → moved p (m ∷ []) m k ≡ q) → Living q → Living p
by_mark p q m tight may s w moves on = by_placed p (λ _. q) m tight may s w moves (λ _. on)

-- By a mark after which the text may end.
by_end : (p q : State) (m : ℕ) (v : Property) → tight_at p.cursor.spot ≡ false → opens p.cursor m ≡ true → space m ≡ false → wordy m ≡ false
    → ((k : ℕ) → moved p (m ∷ []) m k ≡ q) → text.ends q [] ≡ Some v → Living p
by_end p q m v tight may s w moves end a =
    record {
      piece = mark m;
      on = q;
      value = v;
      gap = 32 ∷ [];
      body = m ∷ [];
      rest = [];
      stands = subst (λ (t : Bool). Next t (mark m) (32 ∷ m ∷ []) (32 ∷ []) (m ∷ []) []) (sym tight) (refl, (refl, tt), (refl, s, w));
      goes = opened_by (opens p.cursor m) (moved p (m ∷ []) m (a + 1)) may ∙ ap Some (moves (a + 1));
      more = stop q (a + 2) v [] tt end;
      free = λ _. refl;
    }

-- By a byte in a tight place.
by_byte : (p q : State) (m : ℕ) → tight_at p.cursor.spot ≡ true → opens p.cursor m ≡ true → ((k : ℕ) → moved p (m ∷ []) m k ≡ q) → Living q → Living p
by_byte p q m tight may moves on a =
    let l = on (a + 1) in
    let r = rest_of q (a + 1) l in
    record {
      piece = mark m;
      on = q;
      value = l.value;
      gap = [];
      body = m ∷ [];
      rest = r;
      stands = subst (λ (t : Bool). Next t (mark m) (m ∷ r) [] (m ∷ []) r) (sym tight) (refl, refl, refl);
      goes = opened_by (opens p.cursor m) (moved p (m ∷ []) m (a + 0)) may ∙ ap Some (moves (a + 0));
      more = goes_on q (a + 1) l;
      free = λ e. absurd (let z : ◌≡◌ {A = Bool} true false = sym tight ∙ e in let y : ◌≡◌ {A = ℕ} 0 1 = cc in omega arith);
    }

-- By the name `a`.
by_word : (p q : State) → tight_at p.cursor.spot ≡ false → tight_at q.cursor.spot ≡ false → opens p.cursor 97 ≡ true
    → ((k : ℕ) → moved p (97 ∷ []) 97 k ≡ q) → Living q → Living p
by_word p q tight loose may moves on a =
    let l = on (a + 2) in
    let r = rest_of q (a + 2) l in
    record {
      piece = word (97 ∷ []);
      on = q;
      value = l.value;
      gap = 32 ∷ [];
      body = 97 ∷ [];
      rest = r;
      stands = subst (λ (t : Bool). Next t (word (97 ∷ [])) (32 ∷ 97 ∷ r) (32 ∷ []) (97 ∷ []) r) (sym tight) (refl, (refl, tt), (refl, (refl, tt), refl, l.free loose));
      goes = opened_by (opens p.cursor 97) (moved p (97 ∷ []) 97 (a + 1)) may ∙ ap Some (moves (a + 1));
      more = goes_on q (a + 2) l;
      free = λ _. refl;
    }

-- By the number 0.
by_number : (p q : State) → tight_at p.cursor.spot ≡ false → tight_at q.cursor.spot ≡ false → opens p.cursor 48 ≡ true
    → ((k : ℕ) → moved p (48 ∷ []) 48 k ≡ q) → Living q → Living p
by_number p q tight loose may moves on a =
    let l = on (a + 2) in
    let r = rest_of q (a + 2) l in
    record {
      piece = number (48 ∷ []);
      on = q;
      value = l.value;
      gap = 32 ∷ [];
      body = 48 ∷ [];
      rest = r;
      stands = subst (λ (t : Bool). Next t (number (48 ∷ [])) (32 ∷ 48 ∷ r) (32 ∷ []) (48 ∷ []) r) (sym tight) (refl, (refl, tt), (refl, (refl, tt), tt, digit_stops r (l.free loose)));
      goes = opened_by (opens p.cursor 48) (moved p (48 ∷ []) 48 (a + 1)) may ∙ ap Some (moves (a + 1));
      more = goes_on q (a + 2) l;
      free = λ _. refl;
    }

-- The spots, from the ends of lines back.
ending : (p : State) → Living (turned (spots.Line lines.Ending) p)
ending p = by_end (turned (spots.Line lines.Ending) p) (turned (spots.Line lines.Fresh) p) 10 p.sofar refl refl refl refl (λ _. refl) refl

label_end : (p : State) → Living (turned (spots.Label labels.End) p)
label_end p = by_end (turned (spots.Label labels.End) p) (ends_statement p) 10 (ends_statement p).sofar refl refl refl refl (λ _. refl) refl

star : (p : State) → Living (turned (spots.Label labels.Star) p)
star p =
    by_end (turned (spots.Label labels.Star) p) (moved (turned (spots.Label labels.Star) p) (10 ∷ []) 10 0) 10
    (moved (turned (spots.Label labels.Star) p) (10 ∷ []) 10 0).sofar refl refl refl refl (λ _. refl) refl

begin : (p : State) → Living (turned (spots.Label labels.Begin) p)
begin p = by_mark (turned (spots.Label labels.Begin) p) (turned (spots.Label labels.Star) p) 42 refl refl refl refl (λ _. refl) (star p)

colon : (p : State) → Living (turned (spots.Route routes.Colon) p)
colon p = by_mark (turned (spots.Route routes.Colon) p) (turned (spots.Label labels.Begin) p) 58 refl refl refl refl (λ _. refl) (begin p)

target : (p : State) → Living (turned (spots.Route routes.Target) p)
target p = by_word (turned (spots.Route routes.Target) p) (reaching (97 ∷ []) p) refl refl refl (λ _. refl) (colon (reaching (97 ∷ []) p))

greater : (p : State) → Living (turned (spots.Route routes.Greater) p)
greater p = by_byte (turned (spots.Route routes.Greater) p) (turned (spots.Route routes.Target) p) 62 refl refl (λ _. refl) (target p)

minus : (p : State) → Living (turned (spots.Route routes.Minus) p)
minus p = by_mark (turned (spots.Route routes.Minus) p) (turned (spots.Route routes.Greater) p) 45 refl refl refl refl (λ _. refl) (greater p)

fresh : (p : State) → Living (turned (spots.Line lines.Fresh) p)
fresh p = by_word (turned (spots.Line lines.Fresh) p) (leaving (97 ∷ []) p) refl refl refl (λ _. refl) (minus (leaving (97 ∷ []) p))

arity : (n : ℕ) (p : State) → Living (turned (spots.Line (lines.MethodArity n)) p)
arity n p =
    let q = moved (turned (spots.Line (lines.MethodArity n)) p) (48 ∷ []) 48 0 in
    by_number (turned (spots.Line (lines.MethodArity n)) p) q refl refl refl (λ _. refl) (ending q)

method_number : (p : State) → Living (turned (spots.Line lines.MethodNumber) p)
method_number p =
    let q = moved (turned (spots.Line lines.MethodNumber) p) (48 ∷ []) 48 0 in
    by_number (turned (spots.Line lines.MethodNumber) p) q refl refl refl (λ _. refl) (arity 0 q)

method_name : (p : State) → Living (turned (spots.Line lines.MethodName) p)
method_name p =
    let q = moved (turned (spots.Line lines.MethodName) p) (97 ∷ []) 97 0 in
    by_word (turned (spots.Line lines.MethodName) p) q refl refl refl (λ _. refl) (method_number q)

title : (p : State) → Living (turned (spots.Head heads.Title) p)
title p =
    let q = moved (turned (spots.Head heads.Title) p) (97 ∷ []) 97 0 in
    by_word (turned (spots.Head heads.Title) p) q refl refl refl (λ _. refl) (ending q)

gap : (p : State) → Living (turned (spots.Head heads.Gap) p)
gap p = by_byte (turned (spots.Head heads.Gap) p) (turned (spots.Head heads.Title) p) 32 refl refl (λ _. refl) (title p)

-- In the keyword, at its last letter, and with at most f letters to come after the next.
last_letter : (n : ℕ) (p : State) → ltb n 7 ≡ false → Living (turned (spots.Head (heads.Keyword n)) p)
last_letter n p e =
    by_byte (turned (spots.Head (heads.Keyword n)) p) (turned (spots.Head heads.Gap) p) (get_or (codes "property") n 121) refl (eq-eqb _ _ refl)
    (λ _. ap (λ (b : Bool). turned (spots.Head (cond b (heads.Keyword (n + 1)) heads.Gap)) p) e) (gap p)

keyword : (f n : ℕ) (p : State) → 7 ≤ n + f → Living (turned (spots.Head (heads.Keyword n)) p)
keyword zero n p h = last_letter n p (le-ltb n 7 (omega arith))
keyword (suc f) n p h = elim (cases_Bool (ltb n 7)) [
  | inl e ↦
      by_byte (turned (spots.Head (heads.Keyword n)) p) (turned (spots.Head (heads.Keyword (n + 1))) p) (get_or (codes "property") n 121) refl (eq-eqb _ _ refl)
      (λ _. ap (λ (b : Bool). turned (spots.Head (cond b (heads.Keyword (n + 1)) heads.Gap)) p) e) (keyword f (n + 1) p (omega arith))
  | inr e ↦ last_letter n p e
]

margin : (p : State) → Living (turned (spots.Head heads.Margin) p)
margin p = by_byte (turned (spots.Head heads.Margin) p) (turned (spots.Head (heads.Keyword 1)) p) 112 refl refl (λ _. refl) (keyword 6 1 p (omega arith))

first : (p : State) → Living (turned (spots.Inner inners.First) p)
first p =
    let q = moved (turned (spots.Inner inners.First) p) (41 ∷ []) 41 0 in
    by_mark (turned (spots.Inner inners.First) p) q 41 refl refl refl refl (λ _. refl) (label_end q)

bracket : (p : State) → Living (turned (spots.Label labels.Open) p)
bracket p = by_mark (turned (spots.Label labels.Open) p) (turned (spots.Inner inners.First) p) 40 refl refl refl refl (λ _. refl) (first p)

comma : (p : State) → Living (turned (spots.Label labels.Comma) p)
comma p =
    let q = moved (turned (spots.Label labels.Comma) p) (41 ∷ []) 41 0 in
    by_mark (turned (spots.Label labels.Comma) p) q 41 refl refl refl refl (λ _. refl) (label_end q)

callee : (d : Kind) (p : State) → p.cursor.label.kind ≡ d → Living (turned (spots.Label labels.Callee) p)
callee d p e =
    let f : Kind → State = λ x. at (callee_at x (labelled (naming (method_of p.sofar (97 ∷ [])).number (method_of p.sofar (97 ∷ [])).arity p.cursor.label) (to (spots.Label labels.Callee) p.cursor))) p in
    by_word (turned (spots.Label labels.Callee) p) (f d) refl (loose d f refl) refl (λ _. ap f e) (on d f refl)
  where
    loose : (x : Kind) (f : Kind → State) → f ≡ (λ y. at (callee_at y (labelled (naming (method_of p.sofar (97 ∷ [])).number (method_of p.sofar (97 ∷ [])).arity p.cursor.label) (to (spots.Label labels.Callee) p.cursor))) p) → tight_at (f x).cursor.spot ≡ false
    loose kinds.Call f e = subst (λ (g : Kind → State). tight_at (g kinds.Call).cursor.spot ≡ false) (sym e) refl
    loose kinds.Return f e = subst (λ (g : Kind → State). tight_at (g kinds.Return).cursor.spot ≡ false) (sym e) refl
    loose kinds.Both f e = subst (λ (g : Kind → State). tight_at (g kinds.Both).cursor.spot ≡ false) (sym e) refl

    on : (x : Kind) (f : Kind → State) → f ≡ (λ y. at (callee_at y (labelled (naming (method_of p.sofar (97 ∷ [])).number (method_of p.sofar (97 ∷ [])).arity p.cursor.label) (to (spots.Label labels.Callee) p.cursor))) p) → Living (f x)
    on kinds.Call f e = subst (λ (g : Kind → State). Living (g kinds.Call)) (sym e) (bracket (at (labelled (naming (method_of p.sofar (97 ∷ [])).number (method_of p.sofar (97 ∷ [])).arity p.cursor.label) p.cursor) p))
    on kinds.Both f e = subst (λ (g : Kind → State). Living (g kinds.Both)) (sym e) (bracket (at (labelled (naming (method_of p.sofar (97 ∷ [])).number (method_of p.sofar (97 ∷ [])).arity p.cursor.label) p.cursor) p))
    on kinds.Return f e = subst (λ (g : Kind → State). Living (g kinds.Return)) (sym e) (label_end (at (finished (labelled (naming (method_of p.sofar (97 ∷ [])).number (method_of p.sofar (97 ∷ [])).arity p.cursor.label) (to (spots.Label labels.Callee) p.cursor))) p))

equals : (p : State) → Living (turned (spots.Label labels.Equals) p)
equals p = by_byte (turned (spots.Label labels.Equals) p) (turned (spots.Label labels.Callee) p) 61 refl refl (λ _. refl) (callee p.cursor.label.kind p refl)

becomes : (p : State) → Living (turned (spots.Label labels.Becomes) p)
becomes p = by_mark (turned (spots.Label labels.Becomes) p) (turned (spots.Label labels.Equals) p) 58 refl refl refl refl (λ _. refl) (equals p)

-- After a pattern.
either_way : (b : Bool) (p q : State) → Living (cond b (turned (spots.Label labels.Becomes) p) (turned (spots.Label labels.Comma) q))
either_way true p q = becomes p
either_way false p q = comma q

either_loose : (b : Bool) (p q : State) → tight_at (cond b (turned (spots.Label labels.Becomes) p) (turned (spots.Label labels.Comma) q)).cursor.spot ≡ false
either_loose true p q = refl
either_loose false p q = refl

at_cond : (b : Bool) (u v : Cursor) (p : State) → at (cond b u v) p ≡ cond b (at u p) (at v p)
at_cond true u v p = refl
at_cond false u v p = refl

after_pattern : (x : Slot) (u : Cursor) (p : State) → Living (at (filled x u) p)
after_pattern x u p =
    subst Living
    (sym (at_cond (eqb u.label.count 0) (to (spots.Label labels.Becomes) (labelled (returning x u.label) u)) (to (spots.Label labels.Comma) (labelled (taking x u.label) u)) p))
    (either_way (eqb u.label.count 0) (at (labelled (returning x u.label) u) p) (at (labelled (taking x u.label) u) p))

pub pattern_loose : (x : Slot) (u : Cursor) (p : State) → tight_at (at (filled x u) p).cursor.spot ≡ false
pattern_loose x u p =
    subst (λ (q : State). tight_at q.cursor.spot ≡ false)
    (sym (at_cond (eqb u.label.count 0) (to (spots.Label labels.Becomes) (labelled (returning x u.label) u)) (to (spots.Label labels.Comma) (labelled (taking x u.label) u)) p))
    (either_loose (eqb u.label.count 0) (at (labelled (returning x u.label) u) p) (at (labelled (taking x u.label) u) p))

returned : (p : State) → Living (turned (spots.Inner inners.Returned) p)
returned p =
    by_placed (turned (spots.Inner inners.Returned) p) (λ k. at (filled (record { pattern = patterns.Any; place = k }) (to (spots.Inner inners.Returned) p.cursor)) p) 42
    refl refl refl refl (λ _. refl) (λ k. after_pattern (record { pattern = patterns.Any; place = k }) (to (spots.Inner inners.Returned) p.cursor) p)

param : (p : State) → Living (turned (spots.Inner inners.Param) p)
param p =
    by_placed (turned (spots.Inner inners.Param) p) (λ k. at (filled (record { pattern = patterns.Any; place = k }) (to (spots.Inner inners.Param) p.cursor)) p) 42
    refl refl refl refl (λ _. refl) (λ k. after_pattern (record { pattern = patterns.Any; place = k }) (to (spots.Inner inners.Param) p.cursor) p)

negated : (n : ℕ) (p : State) → Living (turned (spots.Inner (inners.Negated n)) p)
negated n p =
    let q = moved (turned (spots.Inner (inners.Negated n)) p) (97 ∷ []) 97 0 in
    let x : Slot = record { pattern = patterns.Differs (register_of p.sofar (variable_key (97 ∷ []))); place = n } in
    by_word (turned (spots.Inner (inners.Negated n)) p) q refl (pattern_loose x (to (spots.Inner (inners.Negated n)) p.cursor) q) refl (λ _. refl)
    (after_pattern x (to (spots.Inner (inners.Negated n)) p.cursor) q)

unquote : (p : State) → Living (turned (spots.Inner inners.Unquote) p)
unquote p =
    by_mark (turned (spots.Inner inners.Unquote) p) (turned (spots.Label (cond (eqb p.cursor.label.count 1) labels.Becomes labels.Comma)) p) 62 refl refl refl refl (λ _. refl)
    (which (eqb p.cursor.label.count 1))
  where
    which : (b : Bool) → Living (turned (spots.Label (cond b labels.Becomes labels.Comma)) p)
    which true = becomes p
    which false = comma p

quoted : (n : ℕ) (p : State) → Living (turned (spots.Inner (inners.Quoted n)) p)
quoted n p =
    let q = moved (turned (spots.Inner (inners.Quoted n)) p) (97 ∷ []) 97 0 in
    by_word (turned (spots.Inner (inners.Quoted n)) p) q refl refl refl (λ _. refl) (unquote q)

pub lives_at : (s : Spot) (p : State) → Living (turned s p)
lives_at (spots.Head heads.Margin) p = margin p
lives_at (spots.Head (heads.Keyword n)) p = keyword 7 n p (omega arith)
lives_at (spots.Head heads.Gap) p = gap p
lives_at (spots.Head heads.Title) p = title p
lives_at (spots.Line lines.Ending) p = ending p
lives_at (spots.Line lines.Fresh) p = fresh p
lives_at (spots.Line lines.MethodName) p = method_name p
lives_at (spots.Line lines.MethodNumber) p = method_number p
lives_at (spots.Line (lines.MethodArity n)) p = arity n p
lives_at (spots.Route routes.Minus) p = minus p
lives_at (spots.Route routes.Greater) p = greater p
lives_at (spots.Route routes.Target) p = target p
lives_at (spots.Route routes.Colon) p = colon p
lives_at (spots.Label labels.Begin) p = begin p
lives_at (spots.Label labels.Star) p = star p
lives_at (spots.Label labels.Becomes) p = becomes p
lives_at (spots.Label labels.Equals) p = equals p
lives_at (spots.Label labels.Callee) p = callee p.cursor.label.kind p refl
lives_at (spots.Label labels.Open) p = bracket p
lives_at (spots.Label labels.Comma) p = comma p
lives_at (spots.Label labels.End) p = label_end p
lives_at (spots.Inner inners.Returned) p = returned p
lives_at (spots.Inner inners.First) p = first p
lives_at (spots.Inner inners.Param) p = param p
lives_at (spots.Inner (inners.Negated n)) p = negated n p
lives_at (spots.Inner (inners.Quoted n)) p = quoted n p
lives_at (spots.Inner inners.Unquote) p = unquote p

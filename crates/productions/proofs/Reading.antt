-- From the table of spots to the tree: what the table takes is what is missing by the productions.
use Rattle.std.proofs.Common.{◌≡◌, ℕ, zero, suc, ◌+◌, ◌≤◌, Bool, true, false, cond, ◌&&◌, eqb, List, [], ◌∷◌, ◌++◌, length, drop, get_or, codes, sym, refl, ap, ◌∙◌, subst, inl, inr, arith, append-nil, eqb-true, nat_lt}
use Rattle.std.proofs.lemmas.Bool.{cases_Bool}
use Rattle.std.proofs.lemmas.Bool.Decides.{nat_tests}
use Rattle.std.proofs.lemmas.Slice.Eq.{bytes_eq-Decides}
use Rattle.forms.specs.Bytes.{capital, small, letter, space, value, Every}
use Rattle.forms.specs.Grammars.{Takes, stop, go}
use Rattle.forms.specs.Pieces.{Piece, head_of, Next}
use Rattle.property.specs.Cursors.{to, filled, labelled, opened, met, returning, taking, writing, finished, naming}
use Rattle.property.specs.Grammar.{text, bytes as piece_bytes, opens_at, pattern_opens, tight_at, ends_at, none_left}
use Rattle.property.specs.States.{State, Property, at, turned, moved, begins, whole_begins, variable, variable_key, register_of, constant_key, patterned, callee_at, method_of, leaving, ends_statement, closing}
use Rattle.property.specs.Words.{same, first_byte}
use Rattle.property.specs.declared.cursor.Cursor.{Cursor}
use Rattle.property.specs.declared.cursor.Partial.{Partial}
use Rattle.property.specs.declared.spot.Head.TheVariants as heads
use Rattle.property.specs.declared.spot.Inner.TheVariants as inners
use Rattle.property.specs.declared.spot.Kind.{Kind}
use Rattle.property.specs.declared.spot.Kind.TheVariants as kinds
use Rattle.property.specs.declared.spot.Label.TheVariants as labels
use Rattle.property.specs.declared.spot.Line.TheVariants as lines
use Rattle.property.specs.declared.spot.Route.TheVariants as routes
use Rattle.property.specs.declared.spot.Spot.{Spot}
use Rattle.property.specs.declared.spot.Spot.TheVariants as spots
use Rattle.property.specs.declared.table.Event.TheVariants as events
use Rattle.property.specs.declared.table.Slot.{Slot}
use Rattle.property.proofs.Lawfulness.{opened_inv}
use Rattle.topl.specs.declared.pattern.Pattern.TheVariants as patterns
use Rattle.forms.proofs.Laws.{apart}
use Rattle.productions.specs.Syntax.{Pattern, anything, unlike, constant, any_event, calls, returns, whole, Statement}
use Rattle.productions.specs.Syntax.{variable as a_variable}
use Rattle.productions.specs.Spelling.{word, newline, NoKeyword, pattern, statement_line, ending}
use Rattle.productions.proofs.Missing.{◌▹◌, Further, Labels, Beginning, Callee, Becoming, Behind, Patterns, Minus, Name, Fresh, Keyword, Missing}
use Rattle.productions.proofs.Pieces.{either, from_letter, from_digit, from_mark, from_byte}

-- What is missing at p after a piece, which began at place k.
abbrev On : State → ℕ → List ℕ → Piece → Type 0
On p k r x = Missing (moved p (piece_bytes x) (head_of x) k) r

-- From position p on a piece that may stand there comes before what is missing behind it.
abbrev Steps : State → Type 0
Steps p =
    (x : Piece) (k : ℕ) (s sp b r : List ℕ) → Next (tight_at p.cursor.spot) x s sp b r → opens_at p.cursor.spot (head_of x) ≡ true → On p k r x → Missing p s

-- What is missing where a test says yes.
pick_true : (t : Bool) (A B : State) (r : List ℕ) → t ≡ true → Missing (cond t A B) r → Missing A r
pick_true true A B r e k = k
pick_true false A B r e k = apart false e refl

-- What is missing where a test says no.
pick_false : (t : Bool) (A B : State) (r : List ℕ) → t ≡ false → Missing (cond t A B) r → Missing B r
pick_false true A B r e k = apart true refl e
pick_false false A B r e k = k

-- THE FIRST LINE
-- In the margin a space, or the first letter of the keyword.
margin : (p : State) → Steps (turned (spots.Head heads.Margin) p)
margin p x k s sp b r h o m = elim (either (eqb (head_of x) 32) (eqb (head_of x) 112) o) [
  | inl e ↦
      (let y = from_byte 32 (On (turned (spots.Head heads.Margin) p) k r) x s sp b r h e m in
      let n = y.1 in
      let z : s ≡ (32 ∷ n.1.0) ++ n.0 = y.0 ∙ ap (λ (u : List ℕ). 32 ∷ u) n.1.2 in
      (n.0, (32 ∷ n.1.0, (refl, n.1.1), z), n.2))
  | inr e ↦
      (let y = from_byte 112 (On (turned (spots.Head heads.Margin) p) k r) x s sp b r h e m in
      let n = y.1 (omega arith) in
      (s, ([], tt, refl), (n.0, y.0 ∙ ap (λ (u : List ℕ). 112 ∷ u) n.1, n.2)))
]

-- The letters of the keyword, from each on.
letters : (n : ℕ) → n ≤ 7 → get_or (codes "property") n 121 ∷ drop (n + 1) (codes "property ") ≡ drop n (codes "property ")
letters zero h = refl
letters (suc zero) h = refl
letters (suc (suc zero)) h = refl
letters (suc (suc (suc zero))) h = refl
letters (suc (suc (suc (suc zero)))) h = refl
letters (suc (suc (suc (suc (suc zero))))) h = refl
letters (suc (suc (suc (suc (suc (suc zero)))))) h = refl
letters (suc (suc (suc (suc (suc (suc (suc zero))))))) h = refl
letters (suc (suc (suc (suc (suc (suc (suc (suc n)))))))) h = absurd (omega arith)

-- One letter of the keyword before the others.
letter_on : (n : ℕ) (b : Bool) (s r : List ℕ) → n ≤ 7 → s ≡ get_or (codes "property") n 121 ∷ r → Keyword (n + 1) b r → Keyword n b s
letter_on n b s r h e k =
    (k.0, e ∙ (ap (λ (u : List ℕ). get_or (codes "property") n 121 ∷ u) k.1 ∙ ap (λ (u : List ℕ). u ++ k.0) (letters n h)), k.2)

-- In the keyword.
keyword : (n : ℕ) (p : State) → Steps (turned (spots.Head (heads.Keyword n)) p)
keyword n p x k s sp b r h o m l =
    let y = from_byte (get_or (codes "property") n 121) (On (turned (spots.Head (heads.Keyword n)) p) k r) x s sp b r h o m in
    letter_on n (eqb (length p.sofar.statements) 0) s r l y.0 (next (nat_lt n 7) refl y.1)
  where
    next : (t : Bool) → t ≡ nat_lt n 7 → Missing (turned (spots.Head (cond t (heads.Keyword (n + 1)) heads.Gap)) p) r → Keyword (n + 1) (eqb (length p.sofar.statements) 0) r
    next true e j = j (grind (arith, nat_tests))
    next false e j = let z : n ≡ 7 = grind (arith, nat_tests) in subst (λ (i : ℕ). Keyword (i + 1) (eqb (length p.sofar.statements) 0) r) (sym z) j

gap : (p : State) → Steps (turned (spots.Head heads.Gap) p)
gap p x k s sp b r h o m =
    let y = from_byte 32 (On (turned (spots.Head heads.Gap) p) k r) x s sp b r h o m in
    (r, y.0, y.1)

title : (p : State) → Steps (turned (spots.Head heads.Title) p)
title p x k s sp b r h o m =
    let y = from_letter (On (turned (spots.Head heads.Title) p) k r) x s sp b r h o m in
    (y.0 ∷ y.1, (r, y.3, y.4))

-- THE OTHER LINES
-- A statement's line from its source on.
statement_on : (w s r : List ℕ) → word w s r → Minus r → (x : Statement) × (x.source ≡ w) × (statement_line x ▹ Further false) s
statement_on w s r h (u1, m, (u2, g, (t, (u3, ht, (u4, c, (l, (u5, hl, (ls, (u6, hs, f))))))))) =
    (record { source = w; target = t; first = l; others = ls }, refl, (u6, (r, h, (u1, m, (u2, g, (u3, ht, (u4, c, (u5, hl, hs)))))), f))

-- Behind the end of a line.
fresh_on : (b : Bool) (s r : List ℕ) → newline s r → Fresh b r → Further b s
fresh_on true s r n (inl e) = ([], [], tt, (s, refl, (s, refl, inl (subst (newline s) e n))))
fresh_on true s r n (inr (inl (w, e, (u, h, m)))) =
    let y = statement_on w r u h m in
    let f = y.2.2 in
    ([], y.0 ∷ f.0, subst (λ (v : List ℕ). same v (codes "method") ≡ false) (sym y.1) e, (s, refl, (f.1.0, (r, n, (y.2.0, y.2.1, f.1.1)), f.1.2)))
fresh_on true s r n (inr (inr (u, h, (w, (u1, h1, (i, (u2, h2, (j, (u3, h3, (ms, xs, e, (v, hm, t))))))))))) =
    (record { name = w; number = i; arity = j } ∷ ms, xs, e, (v, (r, n, (u3, (u, h, (u1, h1, (u2, h2, h3))), hm)), t))
fresh_on false s r n (inl e) = ([], (s, refl, inl (subst (newline s) e n)))
fresh_on false s r n (inr (w, (u, h, m))) =
    let y = statement_on w r u h m in
    let f = y.2.2 in
    (y.0 ∷ f.0, (f.1.0, (r, n, (y.2.0, y.2.1, f.1.1)), f.1.2))

line_end : (p : State) → Steps (turned (spots.Line lines.Ending) p)
line_end p x k s sp b r h o m =
    let y = from_mark 10 refl (On (turned (spots.Line lines.Ending) p) k r) x s sp b r h o m in
    fresh_on (eqb (length p.sofar.statements) 0) s r y.0 y.1

-- A first word is `method` or not, and no statement has come or some have.
fresh_by : (w s r : List ℕ) (m b : Bool) (P Q : State) → word w s r → same w (codes "method") ≡ m → (Missing P r → Name b r) → (Missing Q r → Minus r)
    → Missing (cond (m && b) P Q) r → Fresh b s
fresh_by w s r true true P Q h e f g k = inr (inr (r, subst (λ (v : List ℕ). word v s r) ((bytes_eq-Decides w (codes "method")).0 e) h, f k))
fresh_by w s r true false P Q h e f g k = inr (w, (r, h, g k))
fresh_by w s r false true P Q h e f g k = inr (inl (w, e, (r, h, g k)))
fresh_by w s r false false P Q h e f g k = inr (w, (r, h, g k))

-- No letter is another byte that is none.
no_letter : {A : Type 0} (c m : ℕ) → letter c ≡ true → letter m ≡ false → eqb c m ≡ true → A
no_letter c m h k e = apart (letter m) (subst (λ (y : ℕ). letter y ≡ true) (eqb-true c m e) h) k

-- The same, as a test.
pub not_mark : (c m : ℕ) → letter c ≡ true → letter m ≡ false → eqb c m ≡ false
not_mark c m h k = elim (cases_Bool (eqb c m)) [ inl e ↦ no_letter c m h k e | inr e ↦ e ]

fresh : (p : State) → Steps (turned (spots.Line lines.Fresh) p)
fresh p x k s sp b r h o m =
    let y = from_letter (On (turned (spots.Line lines.Fresh) p) k r) x s sp b r h o m in
    let w = y.0 ∷ y.1 in
    by (eqb (length p.sofar.statements) 0) refl w y.3 y.4
  where
    by : (t : Bool) → eqb (length p.sofar.statements) 0 ≡ t → (w : List ℕ) → word w s r
        → Missing (cond (same w (codes "method") && eqb (length p.sofar.statements) 0) (turned (spots.Line lines.MethodName) p) (leaving w (turned (spots.Line lines.Fresh) p))) r
        → Fresh (eqb (length p.sofar.statements) 0) s
    by t e w i n =
        subst (λ (v : Bool). Fresh v s) (sym e)
        (fresh_by w s r (same w (codes "method")) t (turned (spots.Line lines.MethodName) p) (leaving w (turned (spots.Line lines.Fresh) p)) i refl
        (λ (j : Name (eqb (length p.sofar.statements) 0) r). subst (λ (v : Bool). Name v r) e j) (λ j. j)
        (subst (λ (v : Bool). Missing (cond (same w (codes "method") && v) (turned (spots.Line lines.MethodName) p) (leaving w (turned (spots.Line lines.Fresh) p))) r) e n))

method_name : (p : State) → Steps (turned (spots.Line lines.MethodName) p)
method_name p x k s sp b r h o m =
    let y = from_letter (On (turned (spots.Line lines.MethodName) p) k r) x s sp b r h o m in
    (y.0 ∷ y.1, (r, y.3, y.4))

method_number : (p : State) → Steps (turned (spots.Line lines.MethodNumber) p)
method_number p x k s sp b r h o m =
    let y = from_digit (On (turned (spots.Line lines.MethodNumber) p) k r) x s sp b r h o m in
    (value y.0, (r, (y.0, refl, y.1), y.2))

arity : (n : ℕ) (p : State) → Steps (turned (spots.Line (lines.MethodArity n)) p)
arity n p x k s sp b r h o m =
    let y = from_digit (On (turned (spots.Line (lines.MethodArity n)) p) k r) x s sp b r h o m in
    (value y.0, (r, (y.0, refl, y.1), y.2))

-- BETWEEN SOURCE AND LABELS
minus : (p : State) → Steps (turned (spots.Route routes.Minus) p)
minus p x k s sp b r h o m =
    let y = from_mark 45 refl (On (turned (spots.Route routes.Minus) p) k r) x s sp b r h o m in
    (r, y.0, y.1)

greater : (p : State) → Steps (turned (spots.Route routes.Greater) p)
greater p x k s sp b r h o m =
    let y = from_byte 62 (On (turned (spots.Route routes.Greater) p) k r) x s sp b r h o m in
    (r, y.0, y.1)

target : (p : State) → Steps (turned (spots.Route routes.Target) p)
target p x k s sp b r h o m =
    let y = from_letter (On (turned (spots.Route routes.Target) p) k r) x s sp b r h o m in
    (y.0 ∷ y.1, (r, y.3, y.4))

colon : (p : State) → Steps (turned (spots.Route routes.Colon) p)
colon p x k s sp b r h o m =
    let y = from_mark 58 refl (On (turned (spots.Route routes.Colon) p) k r) x s sp b r h o m in
    (r, y.0, y.1)

-- PATTERNS
-- A pattern that was read: behind it stands what it counts for.
filled_by : (t : Bool) (x : Slot) (u : Cursor) (b : Bool) (p : State) (r : List ℕ) → eqb u.label.count 0 ≡ t
    → Missing (at (cond t (to (spots.Label labels.Becomes) (labelled (returning x u.label) u)) (to (spots.Label labels.Comma) (labelled (taking x u.label) u))) p) r
    → Behind t u.label.kind r
filled_by true x u b p r e k = k refl
filled_by false x u b p r e k = k (grind (arith, nat_tests))

-- A pattern was read.
filled_on : (x : Slot) (u : Cursor) (p : State) (r : List ℕ) → Missing (at (filled x u) p) r → Behind (eqb u.label.count 0) u.label.kind r
filled_on x u p r k = filled_by (eqb u.label.count 0) x u true p r refl k

-- A label that writes a register keeps its kind and its count.
kept : (t : Bool) (A B : Partial) → A.kind ≡ B.kind → A.count ≡ B.count → ((cond t A B).kind ≡ B.kind) × ((cond t A B).count ≡ B.count)
kept true A B e f = (e, f)
kept false A B e f = (refl, refl)

-- Writing a register keeps the kind and the count.
writing_keeps : (i : ℕ) (l : Partial) → ((writing i l).kind ≡ l.kind) × ((writing i l).count ≡ l.count)
writing_keeps i l = kept (nat_lt i 8) _ l refl refl

-- A variable was read.
variable_on : (w : List ℕ) (k : ℕ) (p : State) (r : List ℕ) → Missing (variable w k p) r → Behind (eqb p.cursor.label.count 0) p.cursor.label.kind r
variable_on w k p r n = elim (cases_Bool (capital (first_byte w))) [
  | inl e ↦
      (let j = pick_true (capital (first_byte w)) (patterned (variable_key w) patterns.Write k q) (patterned (variable_key w) patterns.Same k p) r e n in
      let i = filled_on (record { pattern = patterns.Write (register_of q.sofar (variable_key w)); place = k }) q.cursor (patterned (variable_key w) patterns.Write k q) r j in
      subst (λ (d : Kind). Behind (eqb p.cursor.label.count 0) d r) keeps.0 (subst (λ (c : ℕ). Behind (eqb c 0) q.cursor.label.kind r) keeps.1 i))
  | inr e ↦
      (let j = pick_false (capital (first_byte w)) (patterned (variable_key w) patterns.Write k q) (patterned (variable_key w) patterns.Same k p) r e n in
      filled_on (record { pattern = patterns.Same (register_of p.sofar (variable_key w)); place = k }) p.cursor (patterned (variable_key w) patterns.Same k p) r j)
]
  where
    q : State
    q = at (labelled (writing (register_of p.sofar (variable_key w)) p.cursor.label) p.cursor) p

    keeps : (q.cursor.label.kind ≡ p.cursor.label.kind) × (q.cursor.label.count ≡ p.cursor.label.count)
    keeps = writing_keeps (register_of p.sofar (variable_key w)) p.cursor.label

-- A pattern that begins with a letter is a variable.
begins_letter : (c : ℕ) (w : List ℕ) (k : ℕ) (p : State) (r : List ℕ) → letter c ≡ true → Missing (begins (c ∷ w) c k p) r
    → Behind (eqb p.cursor.label.count 0) p.cursor.label.kind r
begins_letter c w k p r h n =
    let x : Slot = record { pattern = patterns.Any; place = k } in
    let a = turned (spots.Inner (inners.Negated k)) p in
    let d = turned (spots.Inner (inners.Quoted k)) p in
    let v = variable (c ∷ w) k p in
    let n1 = pick_false (eqb c 42) (at (filled x p.cursor) p) (cond (eqb c 33) a (cond (eqb c 60) d v)) r (not_mark c 42 h refl) n in
    let n2 = pick_false (eqb c 33) a (cond (eqb c 60) d v) r (not_mark c 33 h refl) n1 in
    let n3 = pick_false (eqb c 60) d v r (not_mark c 60 h refl) n2 in
    variable_on (c ∷ w) k p r n3

-- A pattern, of which the first piece is read.
pattern_on : (x : Piece) (k : ℕ) (p : State) (s sp b r : List ℕ) → Next false x s sp b r → pattern_opens (head_of x) ≡ true
    → Missing (begins (piece_bytes x) (head_of x) k p) r → Patterns (eqb p.cursor.label.count 0) p.cursor.label.kind s
pattern_on x k p s sp b r h o m = elim (either (letter (head_of x)) _ o) [
  | inl e ↦
      (let y = from_letter K x s sp b r h e m in
      (a_variable (y.0 ∷ y.1), (r, y.3, begins_letter y.0 y.1 k p r y.2 y.4)))
  | inr o' ↦ elim (either (eqb (head_of x) 42) _ o') [
    | inl e ↦
        (let y = from_mark 42 refl K x s sp b r h e m in
        (anything, (r, y.0, filled_on (record { pattern = patterns.Any; place = k }) p.cursor p r y.1)))
    | inr o'' ↦ elim (either (eqb (head_of x) 33) _ o'') [
      | inl e ↦ (let y = from_mark 33 refl K x s sp b r h e m in let n = y.1 in (unlike n.0, (n.1.0, (r, y.0, n.1.1), n.1.2)))
      | inr e ↦
          (let y = from_mark 60 refl K x s sp b r h e m in
          let n = y.1 in
          let i = n.1.2 in
          (constant n.0, (i.0, (r, y.0, (n.1.0, n.1.1, i.1)), i.2)))
    ]
  ]
]
  where
    K : Piece → Type 0
    K y = Missing (begins (piece_bytes y) (head_of y) k p) r

-- LABELS
-- What stands behind `:=` in a label for the call and the return, and in a return.
whole_on : (x : Pattern) (s r : List ℕ) → NoKeyword x → pattern x s r → Becoming kinds.Both r → Beginning s
whole_on x s r f h (u1, c, (u2, e, (m, (u3, hm, (ps, (u4, hp, ls)))))) = (whole x m ps, (u4, (r, (f, h), (u2, (u1, c, e), (u3, hm, hp))), ls))

-- Behind the keyword `call`.
call_on : (s r : List ℕ) → word (codes "call") s r → Callee kinds.Call r → Beginning s
call_on s r h (m, (u, hm, (ps, (v, hp, ls)))) = (calls m ps, (v, (r, h, (u, hm, hp)), ls))

-- Behind the keyword `ret`.
return_on : (s r : List ℕ) → word (codes "ret") s r → Patterns true kinds.Return r → Beginning s
return_on s r h (x, (u, hx, (v1, c, (v2, e, (m, (v3, hm, ls)))))) = (returns x m, (v3, (r, h, (u, hx, (v2, (v1, c, e), hm))), ls))

-- A label that begins with a word.
begin_word : (c : ℕ) (w : List ℕ) (k : ℕ) (p : State) (s r : List ℕ) → letter c ≡ true → word (c ∷ w) s r
    → Missing (moved (turned (spots.Label labels.Begin) p) (c ∷ w) c k) r → Beginning s
begin_word c w k p' s r h i n =
    let n1 = pick_false (eqb c 42) (turned (spots.Label labels.Star) p) (cond (same (c ∷ w) (codes "call")) A (cond (same (c ∷ w) (codes "ret")) B C)) r (not_mark c 42 h refl) n in
    elim (cases_Bool (same (c ∷ w) (codes "call"))) [
      | inl e ↦
          (let n2 = pick_true (same (c ∷ w) (codes "call")) A (cond (same (c ∷ w) (codes "ret")) B C) r e n1 in
          call_on s r (subst (λ (v : List ℕ). word v s r) ((bytes_eq-Decides (c ∷ w) (codes "call")).0 e) i) (n2 refl))
      | inr e ↦
          (let n2 = pick_false (same (c ∷ w) (codes "call")) A (cond (same (c ∷ w) (codes "ret")) B C) r e n1 in
          elim (cases_Bool (same (c ∷ w) (codes "ret"))) [
            | inl f ↦
                (let n3 = pick_true (same (c ∷ w) (codes "ret")) B C r f n2 in
                return_on s r (subst (λ (v : List ℕ). word v s r) ((bytes_eq-Decides (c ∷ w) (codes "ret")).0 f) i) (n3 refl))
            | inr f ↦
                (let n3 = pick_false (same (c ∷ w) (codes "ret")) B C r f n2 in
                whole_on (a_variable (c ∷ w)) s r (e, f) i (begins_letter c w k (at (labelled (opened kinds.Both 0) p.cursor) p) r h n3))
          ])
    ]
  where
    p : State
    p = turned (spots.Label labels.Begin) p'

    A : State
    A = at (to (spots.Label labels.Callee) (labelled (opened kinds.Call 1) p.cursor)) p

    B : State
    B = at (to (spots.Inner inners.Returned) (labelled (opened kinds.Return 0) p.cursor)) p

    C : State
    C = whole_begins (c ∷ w) c k p

begin : (p : State) → Steps (turned (spots.Label labels.Begin) p)
begin p x k s sp b r h o m = elim (either (letter (head_of x)) _ o) [
  | inl e ↦ (let y = from_letter K x s sp b r h e m in begin_word y.0 y.1 k p s r y.2 y.3 y.4)
  | inr o' ↦ elim (either (eqb (head_of x) 42) _ o') [
    | inl e ↦
        (let y = from_mark 42 refl K x s sp b r h e m in
        elim y.1 [
          | inl n ↦ whole_on anything s r tt y.0 n
          | inr n ↦ (any_event, (r, y.0, n))
        ])
    | inr o'' ↦ elim (either (eqb (head_of x) 33) _ o'') [
      | inl e ↦ (let y = from_mark 33 refl K x s sp b r h e m in let n = y.1 in whole_on (unlike n.0) s n.1.0 tt (r, y.0, n.1.1) n.1.2)
      | inr e ↦
          (let y = from_mark 60 refl K x s sp b r h e m in
          let n = y.1 in
          let i = n.1.2 in
          whole_on (constant n.0) s i.0 tt (r, y.0, (n.1.0, n.1.1, i.1)) i.2)
    ]
  ]
]
  where
    K : Piece → Type 0
    K = On (turned (spots.Label labels.Begin) p) k r

-- Behind a statement some statement has come.
pub some_come : {A : Type 0} (xs : List A) (x : A) → eqb (length (xs ++ x ∷ [])) 0 ≡ false
some_come [] x = refl
some_come (y ∷ xs) x = grind (arith, nat_tests)

-- The end of a statement's line.
statement_end : (p : State) (s r : List ℕ) → newline s r → Missing (ends_statement p) r → Labels s
statement_end p s r h n =
    ([], (s, refl, fresh_on false s r h (subst (λ (t : Bool). Fresh t r) (some_come p.sofar.statements p.cursor.statement) n)))

star : (p : State) → Steps (turned (spots.Label labels.Star) p)
star p x k s sp b r h o m = elim (either (eqb (head_of x) 58) _ o) [
  | inl e ↦ (let y = from_mark 58 refl K x s sp b r h e m in inl (r, y.0, y.1 refl))
  | inr o' ↦ elim (either (eqb (head_of x) 59) _ o') [
    | inl e ↦
        (let y = from_mark 59 refl K x s sp b r h e m in
        let n = y.1 in
        let ls = n.1.2 in
        inr (n.0 ∷ ls.0, (ls.1.0, (r, y.0, (n.1.0, n.1.1, ls.1.1)), ls.1.2)))
    | inr e ↦ (let y = from_mark 10 refl K x s sp b r h e m in inr (statement_end (at (met events.Any q.cursor) q) s r y.0 y.1))
  ]
]
  where
    q : State
    q = turned (spots.Label labels.Star) p

    K : Piece → Type 0
    K = On q k r

label_end : (p : State) → Steps (turned (spots.Label labels.End) p)
label_end p x k s sp b r h o m = elim (either (eqb (head_of x) 59) _ o) [
  | inl e ↦
      (let y = from_mark 59 refl K x s sp b r h e m in
      let n = y.1 in
      let ls = n.1.2 in
      (n.0 ∷ ls.0, (ls.1.0, (r, y.0, (n.1.0, n.1.1, ls.1.1)), ls.1.2)))
  | inr e ↦ (let y = from_mark 10 refl K x s sp b r h e m in statement_end (turned (spots.Label labels.End) p) s r y.0 y.1)
]
  where
    K : Piece → Type 0
    K = On (turned (spots.Label labels.End) p) k r

becoming : (p : State) → Steps (turned (spots.Label labels.Becomes) p)
becoming p x k s sp b r h o m l =
    let y = from_mark 58 refl (On (turned (spots.Label labels.Becomes) p) k r) x s sp b r h o m in
    (r, y.0, y.1 l)

equals : (p : State) → Steps (turned (spots.Label labels.Equals) p)
equals p x k s sp b r h o m l =
    let y = from_byte 61 (On (turned (spots.Label labels.Equals) p) k r) x s sp b r h o m in
    (r, y.0, y.1 l)

-- Behind the method, by the kind of the label.
callee_by : (d : Kind) (u : Cursor) (p : State) (w s r : List ℕ) → eqb u.label.count 0 ≡ false → word w s r → Missing (at (callee_at d u) p) r → Callee d s
callee_by kinds.Call u p w s r l h n = (w, (r, h, n l))
callee_by kinds.Both u p w s r l h n = (w, (r, h, n l))
callee_by kinds.Return u p w s r l h n = (w, (r, h, n))

callee : (p : State) → Steps (turned (spots.Label labels.Callee) p)
callee p x k s sp b r h o m l =
    let q = turned (spots.Label labels.Callee) p in
    let y = from_letter (On q k r) x s sp b r h o m in
    let w = y.0 ∷ y.1 in
    callee_by p.cursor.label.kind (labelled (naming (method_of q.sofar w).number (method_of q.sofar w).arity q.cursor.label) q.cursor) q w s r (ap (λ (n : ℕ). eqb n 0) l) y.3 y.4

bracket : (p : State) → Steps (turned (spots.Label labels.Open) p)
bracket p x k s sp b r h o m l =
    let y = from_mark 40 refl (On (turned (spots.Label labels.Open) p) k r) x s sp b r h o m in
    let n = y.1 l in
    (n.0, (n.1.0, (r, y.0, n.1.1), n.1.2))

first : (p : State) → Steps (turned (spots.Inner inners.First) p)
first p x k s sp b r h o m l = elim (cases_Bool (eqb (head_of x) 41)) [
  | inl e ↦ (let y = from_mark 41 refl K x s sp b r h e m in ([], (r, y.0, y.1)))
  | inr e ↦
      (let n = pick_false (eqb (head_of x) 41) (at (finished q.cursor) q) (begins (piece_bytes x) (head_of x) k q) r e m in
      let o' = elim (either (eqb (head_of x) 41) _ o) as (λ _. pattern_opens (head_of x) ≡ true) [ inl f ↦ apart _ f e | inr f ↦ f ] in
      let y = pattern_on x k q s sp b r h o' n in
      let z = subst (λ (t : Bool). Behind t p.cursor.label.kind y.1.0) l y.1.2 in
      (y.0 ∷ z.0, (z.1.0, (y.1.0, y.1.1, z.1.1), z.1.2)))
]
  where
    q : State
    q = turned (spots.Inner inners.First) p

    K : Piece → Type 0
    K = On q k r

comma : (p : State) → Steps (turned (spots.Label labels.Comma) p)
comma p x k s sp b r h o m l = elim (either (eqb (head_of x) 44) _ o) [
  | inl e ↦
      (let y = from_mark 44 refl K x s sp b r h e m in
      let n = y.1 l in
      let z = n.1.2 in
      (n.0 ∷ z.0, (z.1.0, (r, y.0, (n.1.0, n.1.1, z.1.1)), z.1.2)))
  | inr e ↦ (let y = from_mark 41 refl K x s sp b r h e m in ([], (r, y.0, y.1)))
]
  where
    K : Piece → Type 0
    K = On (turned (spots.Label labels.Comma) p) k r

returned : (p : State) → Steps (turned (spots.Inner inners.Returned) p)
returned p x k s sp b r h o m l =
    subst (λ (t : Bool). Patterns t p.cursor.label.kind s) (ap (λ (n : ℕ). eqb n 0) l) (pattern_on x k (turned (spots.Inner inners.Returned) p) s sp b r h o m)

param : (p : State) → Steps (turned (spots.Inner inners.Param) p)
param p x k s sp b r h o m l =
    subst (λ (t : Bool). Patterns t p.cursor.label.kind s) l (pattern_on x k (turned (spots.Inner inners.Param) p) s sp b r h o m)

-- A small letter is a letter.
pub small_letter : (c : ℕ) → small c ≡ true → letter c ≡ true
small_letter c h = grind (arith, nat_tests)

negated : (n : ℕ) (p : State) → Steps (turned (spots.Inner (inners.Negated n)) p)
negated n p x k s sp b r h o m =
    let y = from_letter (λ y. (small (head_of y) ≡ true) × On q k r y) x s sp b r h (small_letter (head_of x) o) (o, m) in
    let w = y.0 ∷ y.1 in
    (w, (r, (y.4.0, y.3), filled_on (record { pattern = patterns.Differs (register_of q.sofar (variable_key w)); place = n }) q.cursor (patterned (variable_key w) patterns.Differs n q) r y.4.1))
  where
    q : State
    q = turned (spots.Inner (inners.Negated n)) p

-- How many patterns a label has after one more.
counts : (t : Bool) (x : Slot) (u : Cursor) → eqb u.label.count 0 ≡ t
    → let v = cond t (to (spots.Label labels.Becomes) (labelled (returning x u.label) u)) (to (spots.Label labels.Comma) (labelled (taking x u.label) u)) in
    (eqb v.label.count 0 ≡ false) × (eqb v.label.count 1 ≡ t) × (v.label.kind ≡ u.label.kind)
counts true x u e = (refl, refl, refl)
counts false x u e = (grind (arith, nat_tests), grind (arith, nat_tests), refl)

quoted : (n : ℕ) (p : State) → Steps (turned (spots.Inner (inners.Quoted n)) p)
quoted n p x k s sp b r h o m =
    let y = from_letter (On q k r) x s sp b r h o m in
    let w = y.0 ∷ y.1 in
    let i : Slot = record { pattern = patterns.Same (register_of q.sofar (constant_key w)); place = n } in
    let c = counts (eqb q.cursor.label.count 0) i q.cursor refl in
    let z = y.4 c.0 in
    (w, (r, y.3, (z.0, z.1, subst (λ (d : Kind). Behind (eqb p.cursor.label.count 0) d z.0) c.2 (subst (λ (t : Bool). Behind t (filled i q.cursor).label.kind z.0) c.1 z.2))))
  where
    q : State
    q = turned (spots.Inner (inners.Quoted n)) p

-- Behind a constant, by what it counts for.
unquote_by : (t : Bool) (p : State) (s r : List ℕ) → eqb p.cursor.label.count 1 ≡ t → eqb p.cursor.label.count 0 ≡ false
    → Missing (turned (spots.Label (cond t labels.Becomes labels.Comma)) p) r → Behind t p.cursor.label.kind r
unquote_by true p s r e f n = n (eqb-true p.cursor.label.count 1 e)
unquote_by false p s r e f n = n f

unquote : (p : State) → Steps (turned (spots.Inner inners.Unquote) p)
unquote p x k s sp b r h o m l =
    let y = from_mark 62 refl (On (turned (spots.Inner inners.Unquote) p) k r) x s sp b r h o m in
    (r, y.0, unquote_by (eqb p.cursor.label.count 1) p s r refl l y.1)

-- Each spot.
steps : (z : Spot) (p : State) → Steps (turned z p)
steps (spots.Head heads.Margin) p = margin p
steps (spots.Head (heads.Keyword n)) p = keyword n p
steps (spots.Head heads.Gap) p = gap p
steps (spots.Head heads.Title) p = title p
steps (spots.Line lines.Ending) p = line_end p
steps (spots.Line lines.Fresh) p = fresh p
steps (spots.Line lines.MethodName) p = method_name p
steps (spots.Line lines.MethodNumber) p = method_number p
steps (spots.Line (lines.MethodArity n)) p = arity n p
steps (spots.Route routes.Minus) p = minus p
steps (spots.Route routes.Greater) p = greater p
steps (spots.Route routes.Target) p = target p
steps (spots.Route routes.Colon) p = colon p
steps (spots.Label labels.Begin) p = begin p
steps (spots.Label labels.Star) p = star p
steps (spots.Label labels.Becomes) p = becoming p
steps (spots.Label labels.Equals) p = equals p
steps (spots.Label labels.Callee) p = callee p
steps (spots.Label labels.Open) p = bracket p
steps (spots.Label labels.Comma) p = comma p
steps (spots.Label labels.End) p = label_end p
steps (spots.Inner inners.Returned) p = returned p
steps (spots.Inner inners.First) p = first p
steps (spots.Inner inners.Param) p = param p
steps (spots.Inner (inners.Negated n)) p = negated n p
steps (spots.Inner (inners.Quoted n)) p = quoted n p
steps (spots.Inner inners.Unquote) p = unquote p

-- Where the text ends only spaces are missing.
all_left : (s : List ℕ) → Every space s → ending s []
all_left s h = inr (s, h, sym (append-nil s))

-- At the end of a line.
ended : (b : Bool) (s : List ℕ) → Every space s → Further b s
ended true s h = ([], [], tt, (s, refl, (s, refl, all_left s h)))
ended false s h = ([], (s, refl, all_left s h))

-- Behind the end of a line.
fresh_end : (b : Bool) (s : List ℕ) → none_left s ≡ true → Fresh b s
fresh_end true [] e = inl refl
fresh_end false [] e = inl refl
fresh_end b (c ∷ s) e = apart false e refl

-- At each spot where a text may end.
stops : (z : Spot) (p : State) (s : List ℕ) → Every space s → ends_at z s ≡ true → Missing (turned z p) s
stops (spots.Head h) p s g e = apart false e refl
stops (spots.Line lines.Ending) p s g e = ended (eqb (length p.sofar.statements) 0) s g
stops (spots.Line lines.Fresh) p s g e = fresh_end (eqb (length p.sofar.statements) 0) s e
stops (spots.Line lines.MethodName) p s g e = apart false e refl
stops (spots.Line lines.MethodNumber) p s g e = apart false e refl
stops (spots.Line (lines.MethodArity n)) p s g e = apart false e refl
stops (spots.Route t) p s g e = apart false e refl
stops (spots.Label labels.Begin) p s g e = apart false e refl
stops (spots.Label labels.Star) p s g e = inr ([], (s, refl, ended false s g))
stops (spots.Label labels.Becomes) p s g e = apart false e refl
stops (spots.Label labels.Equals) p s g e = apart false e refl
stops (spots.Label labels.Callee) p s g e = apart false e refl
stops (spots.Label labels.Open) p s g e = apart false e refl
stops (spots.Label labels.Comma) p s g e = apart false e refl
stops (spots.Label labels.End) p s g e = ([], (s, refl, ended false s g))
stops (spots.Inner i) p s g e = apart false e refl

-- What the table takes from a position on is what is missing there.
pub reads : (p : State) (a : ℕ) (v : Property) (s : List ℕ) → Takes text p a v s → Missing p s
reads p a v s (stop _ _ _ _ h e) = stops p.cursor.spot p s h (opened_inv (ends_at p.cursor.spot s) (closing p) v e).0
reads p a v s (go _ q _ _ x _ sp b r h e t) =
    let y = opened_inv (opens_at p.cursor.spot (head_of x)) (moved p (piece_bytes x) (head_of x) (a + length sp)) q e in
    steps p.cursor.spot p x (a + length sp) s sp b r h y.0 (subst (λ (n : State). Missing n r) (sym y.1) (reads q (a + length (sp ++ b)) v r t))

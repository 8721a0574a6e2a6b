-- A text spells one tree.
use Rattle.std.proofs.Common.{◌≡◌, ℕ, ◌+◌, false, List, [], ◌∷◌, ◌++◌, codes, sym, refl, ap, ◌∙◌, subst, inl, inr, arith, append-nil}
use Rattle.std.proofs.lemmas.Slice.Eq.{bytes_eq-Decides}
use Rattle.forms.specs.Bytes.{space, value, Every, Stops}
use Rattle.forms.specs.Pieces.{Piece, Next}
use Rattle.forms.specs.Pieces as pieces
use Rattle.forms.proofs.Laws.{apart, nil_cons, run_unique}
use Rattle.forms.proofs.Lexing.{begins, every_right, next_unique}
use Rattle.property.specs.States.{Declared}
use Rattle.property.specs.Words.{same}
use Rattle.productions.specs.Spelling.{ending, first_line, inside, label, leading, mark, method_line, method_lines, more_labels, more_parameters, newline, NoKeyword, NoMethod, number, pattern, piece, spaces, Spells, statement_line, statement_lines, word}
use Rattle.productions.specs.Spelling.{becomes as becoming, parameters as bracketed}
use Rattle.productions.specs.Syntax.{Pattern, anything, variable, unlike, constant, Label, any_event, calls, returns, whole, Statement, Tree}

-- PIECES
-- One piece stands at a place.
one_piece : (x y : Piece) (b c s r u : List ℕ) → piece x b s r → piece y c s u → (x ≡ y) × (r ≡ u)
one_piece x y b c s r u (sp, h) (sq, k) = let z = next_unique false x y s sp sq b c r u h k in (z.0, z.3)

-- The bytes of a piece.
abbrev letters : Piece → List ℕ
letters (pieces.word w) = w
letters (pieces.number d) = d
letters (pieces.mark m) = m ∷ []

-- The kinds of pieces, and a mark's code.
abbrev kind : Piece → ℕ
kind (pieces.word w) = 0
kind (pieces.number d) = 1
kind (pieces.mark m) = 2 + m

-- One word.
one_word : (w v s r u : List ℕ) → word w s r → word v s u → (w ≡ v) × (r ≡ u)
one_word w v s r u h k = let z = one_piece (pieces.word w) (pieces.word v) w v s r u h k in (ap letters z.0, z.1)

-- One number.
one_number : (m n : ℕ) (s r u : List ℕ) → number m s r → number n s u → (m ≡ n) × (r ≡ u)
one_number m n s r u (d, e, h) (c, f, k) =
    let z = one_piece (pieces.number d) (pieces.number c) d c s r u h k in
    (sym e ∙ (ap (λ (x : Piece). value (letters x)) z.0 ∙ f), z.1)

-- One mark.
one_mark : (m : ℕ) (s r u : List ℕ) → mark m s r → mark m s u → r ≡ u
one_mark m s r u h k = (one_piece (pieces.mark m) (pieces.mark m) (m ∷ []) (m ∷ []) s r u h k).1

-- Two different pieces do not stand at one place.
clash : {A : Type 0} (x y : Piece) (b c s r u : List ℕ) → (kind x ≡ kind y → ⊥) → piece x b s r → piece y c s u → A
clash x y b c s r u n h k = absurd (n (ap kind (one_piece x y b c s r u h k).0))

-- PATTERNS
-- The first piece of a pattern.
abbrev lead : Pattern → Piece
lead anything = pieces.mark 42
lead (variable w) = pieces.word w
lead (unlike w) = pieces.mark 33
lead (constant w) = pieces.mark 60

-- It stands where the pattern stands.
lead_of : (x : Pattern) (s r : List ℕ) → pattern x s r → (b : List ℕ) × (u : List ℕ) × piece (lead x) b s u
lead_of anything s r h = (42 ∷ [], r, h)
lead_of (variable w) s r h = (w, r, h)
lead_of (unlike w) s r (u, h, k) = (33 ∷ [], u, h)
lead_of (constant w) s r (u, h, k) = (60 ∷ [], u, h)

-- Patterns that begin with different pieces do not stand at one place.
two_leads : {A : Type 0} (x y : Pattern) (s r u : List ℕ) → (kind (lead x) ≡ kind (lead y) → ⊥) → pattern x s r → pattern y s u → A
two_leads x y s r u n h k =
    let a = lead_of x s r h in
    let b = lead_of y s u k in
    clash (lead x) (lead y) a.0 b.0 s a.1 b.1 n a.2 b.2

-- One pattern.
one_pattern : (x y : Pattern) (s r u : List ℕ) → pattern x s r → pattern y s u → (x ≡ y) × (r ≡ u)
one_pattern anything anything s r u h k = (refl, one_mark 42 s r u h k)
one_pattern (variable w) (variable v) s r u h k = let z = one_word w v s r u h k in (ap variable z.0, z.1)
one_pattern (unlike w) (unlike v) s r u (a, h, (i, j)) (b, k, (m, n)) =
    let e = one_mark 33 s a b h k in
    let z = one_word w v b r u (subst (λ (x : List ℕ). word w x r) e j) n in (ap unlike z.0, z.1)
one_pattern (constant w) (constant v) s r u (a, h, (c, i, j)) (b, k, (d, m, n)) =
    let e = one_mark 60 s a b h k in
    let z = one_word w v b c d (subst (λ (x : List ℕ). word w x c) e i) m in
    (ap constant z.0, one_mark 62 d r u (subst (λ (x : List ℕ). mark 62 x r) z.1 j) n)
one_pattern anything (variable v) s r u h k = two_leads anything (variable v) s r u (λ e. omega arith) h k
one_pattern anything (unlike v) s r u h k = two_leads anything (unlike v) s r u (λ e. omega arith) h k
one_pattern anything (constant v) s r u h k = two_leads anything (constant v) s r u (λ e. omega arith) h k
one_pattern (variable w) anything s r u h k = two_leads (variable w) anything s r u (λ e. omega arith) h k
one_pattern (variable w) (unlike v) s r u h k = two_leads (variable w) (unlike v) s r u (λ e. omega arith) h k
one_pattern (variable w) (constant v) s r u h k = two_leads (variable w) (constant v) s r u (λ e. omega arith) h k
one_pattern (unlike w) anything s r u h k = two_leads (unlike w) anything s r u (λ e. omega arith) h k
one_pattern (unlike w) (variable v) s r u h k = two_leads (unlike w) (variable v) s r u (λ e. omega arith) h k
one_pattern (unlike w) (constant v) s r u h k = two_leads (unlike w) (constant v) s r u (λ e. omega arith) h k
one_pattern (constant w) anything s r u h k = two_leads (constant w) anything s r u (λ e. omega arith) h k
one_pattern (constant w) (variable v) s r u h k = two_leads (constant w) (variable v) s r u (λ e. omega arith) h k
one_pattern (constant w) (unlike v) s r u h k = two_leads (constant w) (unlike v) s r u (λ e. omega arith) h k

-- Lists that begin with equal patterns.
pair : {x y : Pattern} {xs ys : List Pattern} → x ≡ y → xs ≡ ys → ◌≡◌ {A = List Pattern} (x ∷ xs) (y ∷ ys)
pair e f = λ i. e i ∷ f i

-- The same further parameters.
one_more : (xs ys : List Pattern) (s r u : List ℕ) → more_parameters xs s r → more_parameters ys s u → (xs ≡ ys) × (r ≡ u)
one_more [] [] s r u h k = (refl, one_mark 41 s r u h k)
one_more [] (y ∷ ys) s r u h (b, k, l) = clash (pieces.mark 41) (pieces.mark 44) (41 ∷ []) (44 ∷ []) s r b (λ e. omega arith) h k
one_more (x ∷ xs) [] s r u (a, h, l) k = clash (pieces.mark 44) (pieces.mark 41) (44 ∷ []) (41 ∷ []) s a u (λ e. omega arith) h k
one_more (x ∷ xs) (y ∷ ys) s r u (a, h, (c, i, j)) (b, k, (d, m, n)) =
    let e = one_mark 44 s a b h k in
    let p = one_pattern x y b c d (subst (λ (z : List ℕ). pattern x z c) e i) m in
    let q = one_more xs ys d r u (subst (λ (z : List ℕ). more_parameters xs z r) p.1 j) n in (pair p.0 q.0, q.1)

-- No pattern begins with a closing bracket.
no_bracket : {A : Type 0} (x : Pattern) (s r u : List ℕ) → mark 41 s r → pattern x s u → A
no_bracket {A} x s r u h k = let b = lead_of x s u k in clash (pieces.mark 41) (lead x) (41 ∷ []) b.0 s r b.1 (other x) h b.2
  where
    other : (x : Pattern) → kind (pieces.mark 41) ≡ kind (lead x) → ⊥
    other anything e = omega arith
    other (variable w) e = omega arith
    other (unlike w) e = omega arith
    other (constant w) e = omega arith

-- The same parameters.
one_inside : (xs ys : List Pattern) (s r u : List ℕ) → inside xs s r → inside ys s u → (xs ≡ ys) × (r ≡ u)
one_inside [] [] s r u h k = (refl, one_mark 41 s r u h k)
one_inside [] (y ∷ ys) s r u h (b, k, l) = no_bracket y s r b h k
one_inside (x ∷ xs) [] s r u (a, h, l) k = no_bracket x s u a k h
one_inside (x ∷ xs) (y ∷ ys) s r u (c, i, j) (d, m, n) =
    let p = one_pattern x y s c d i m in
    let q = one_more xs ys d r u (subst (λ (z : List ℕ). more_parameters xs z r) p.1 j) n in (pair p.0 q.0, q.1)

-- The same parameters in brackets.
one_brackets : (xs ys : List Pattern) (s r u : List ℕ) → bracketed xs s r → bracketed ys s u → (xs ≡ ys) × (r ≡ u)
one_brackets xs ys s r u (a, h, i) (b, k, l) =
    let e = one_mark 40 s a b h k in one_inside xs ys b r u (subst (λ (z : List ℕ). inside xs z r) e i) l

-- `:=` ends at one place.
one_becomes : (s r u : List ℕ) → becoming s r → becoming s u → r ≡ u
one_becomes s r u (a, h, i) (b, k, l) =
    let e = one_mark 58 s a b h k in
    let i' : b ≡ 61 ∷ r = sym e ∙ i in
    tail (sym i' ∙ l)
  where
    tail : 61 ∷ r ≡ 61 ∷ u → r ≡ u
    tail e = cc

-- LABELS
-- No `:` comes next.
abbrev NoColon : List ℕ → Type 0
NoColon r = (u : List ℕ) → mark 58 r u → ⊥

-- What stands behind the two patterns of a label for a call and a return.
one_whole : (x y : Pattern) (m n : List ℕ) (ps qs : List Pattern) (s r u : List ℕ) → label (whole x m ps) s r → label (whole y n qs) s u → (whole x m ps ≡ whole y n qs) × (r ≡ u)
one_whole x y m n ps qs s r u (a1, (f, h1), (a2, h2, (a3, h3, h4))) (b1, (g, k1), (b2, k2, (b3, k3, k4))) =
    let e1 = one_pattern x y s a1 b1 h1 k1 in
    let e2 = one_becomes b1 a2 b2 (subst (λ (z : List ℕ). becoming z a2) e1.1 h2) k2 in
    let e3 = one_word m n b2 a3 b3 (subst (λ (z : List ℕ). word m z a3) e2 h3) k3 in
    let e4 = one_brackets ps qs b3 r u (subst (λ (z : List ℕ). bracketed ps z r) e3.1 h4) k4 in
    let e10 = e1.0 in
    let e30 = e3.0 in
    let e40 = e4.0 in
    ((λ i. whole (e10 i) (e30 i) (e40 i)), e4.1)

-- One call.
one_call : (m n : List ℕ) (ps qs : List Pattern) (s r u : List ℕ) → label (calls m ps) s r → label (calls n qs) s u → (calls m ps ≡ calls n qs) × (r ≡ u)
one_call m n ps qs s r u (a1, h1, (a2, h2, h3)) (b1, k1, (b2, k2, k3)) =
    let e1 = one_word (codes "call") (codes "call") s a1 b1 h1 k1 in
    let e2 = one_word m n b1 a2 b2 (subst (λ (z : List ℕ). word m z a2) e1.1 h2) k2 in
    let e3 = one_brackets ps qs b2 r u (subst (λ (z : List ℕ). bracketed ps z r) e2.1 h3) k3 in
    let e20 = e2.0 in
    let e30 = e3.0 in
    ((λ i. calls (e20 i) (e30 i)), e3.1)

-- One return.
one_return : (x y : Pattern) (m n s r u : List ℕ) → label (returns x m) s r → label (returns y n) s u → (returns x m ≡ returns y n) × (r ≡ u)
one_return x y m n s r u (a1, h1, (a2, h2, (a3, h3, h4))) (b1, k1, (b2, k2, (b3, k3, k4))) =
    let e1 = one_word (codes "ret") (codes "ret") s a1 b1 h1 k1 in
    let e2 = one_pattern x y b1 a2 b2 (subst (λ (z : List ℕ). pattern x z a2) e1.1 h2) k2 in
    let e3 = one_becomes b2 a3 b3 (subst (λ (z : List ℕ). becoming z a3) e2.1 h3) k3 in
    let e4 = one_word m n b3 r u (subst (λ (z : List ℕ). word m z r) e3 h4) k4 in
    let e20 = e2.0 in
    let e40 = e4.0 in
    ((λ i. returns (e20 i) (e40 i)), e4.1)

-- A label that begins with a keyword is none that begins with a pattern, and the keywords differ.
no_keyword : {A : Type 0} (v : List ℕ) (x : Pattern) (s r u : List ℕ) → ((w : List ℕ) → NoKeyword (variable w) → same w v ≡ false) → word v s r → leading x s u → A
no_keyword v anything s r u n h (f, k) = clash (pieces.word v) (pieces.mark 42) v (42 ∷ []) s r u (λ e. omega arith) h k
no_keyword v (variable w) s r u n h (f, k) = apart (same w v) ((bytes_eq-Decides w v).1 (sym (one_word v w s r u h k).0)) (n w f)
no_keyword v (unlike w) s r u n h (f, (a, k, l)) = clash (pieces.word v) (pieces.mark 33) v (33 ∷ []) s r a (λ e. omega arith) h k
no_keyword v (constant w) s r u n h (f, (a, k, l)) = clash (pieces.word v) (pieces.mark 60) v (60 ∷ []) s r a (λ e. omega arith) h k

-- `call` is not `ret`.
two_keywords : {A : Type 0} (s r u : List ℕ) → word (codes "call") s r → word (codes "ret") s u → A
two_keywords s r u h k = apart (same (codes "call") (codes "ret")) ((bytes_eq-Decides (codes "call") (codes "ret")).1 (one_word (codes "call") (codes "ret") s r u h k).0) refl

-- `*` is no label by itself where `:` comes next.
star_whole : {A : Type 0} (x : Pattern) (s r u v : List ℕ) → NoColon r → mark 42 s r → leading x s u → becoming u v → A
star_whole anything s r u v n h (f, k) (b, l, m) = absurd (n b (subst (λ (z : List ℕ). mark 58 z b) (one_mark 42 s u r k h) l))
star_whole (variable w) s r u v n h (f, k) l = clash (pieces.mark 42) (pieces.word w) (42 ∷ []) w s r u (λ e. omega arith) h k
star_whole (unlike w) s r u v n h (f, (a, k, i)) l = clash (pieces.mark 42) (pieces.mark 33) (42 ∷ []) (33 ∷ []) s r a (λ e. omega arith) h k
star_whole (constant w) s r u v n h (f, (a, k, i)) l = clash (pieces.mark 42) (pieces.mark 60) (42 ∷ []) (60 ∷ []) s r a (λ e. omega arith) h k

-- `*` is no word.
star_word : {A : Type 0} (v s r u : List ℕ) → mark 42 s r → word v s u → A
star_word v s r u h k = clash (pieces.mark 42) (pieces.word v) (42 ∷ []) v s r u (λ e. omega arith) h k

-- One label.
one_label : (l m : Label) (s r u : List ℕ) → NoColon r → NoColon u → label l s r → label m s u → (l ≡ m) × (r ≡ u)
one_label any_event any_event s r u n o h k = (refl, one_mark 42 s r u h k)
one_label any_event (calls m ps) s r u n o h (b, k, i) = star_word (codes "call") s r b h k
one_label any_event (returns x m) s r u n o h (b, k, i) = star_word (codes "ret") s r b h k
one_label any_event (whole x m ps) s r u n o h (b, k, (c, i, j)) = star_whole x s r b c n h k i
one_label (calls m ps) any_event s r u n o (b, k, i) h = star_word (codes "call") s u b h k
one_label (calls m ps) (calls m' ps') s r u n o h k = one_call m m' ps ps' s r u h k
one_label (calls m ps) (returns x m') s r u n o (a, h, i) (b, k, j) = two_keywords s a b h k
one_label (calls m ps) (whole x m' ps') s r u n o (a, h, i) (b, k, j) = no_keyword (codes "call") x s a b (λ w f. f.0) h k
one_label (returns x m) any_event s r u n o (b, k, i) h = star_word (codes "ret") s u b h k
one_label (returns x m) (calls m' ps) s r u n o (a, h, i) (b, k, j) = two_keywords s b a k h
one_label (returns x m) (returns y m') s r u n o h k = one_return x y m m' s r u h k
one_label (returns x m) (whole y m' ps) s r u n o (a, h, i) (b, k, j) = no_keyword (codes "ret") y s a b (λ w f. f.1) h k
one_label (whole x m ps) any_event s r u n o (b, k, (c, i, j)) h = star_whole x s u b c o h k i
one_label (whole x m ps) (calls m' ps') s r u n o (a, h, i) (b, k, j) = no_keyword (codes "call") x s b a (λ w f. f.0) k h
one_label (whole x m ps) (returns y m') s r u n o (a, h, i) (b, k, j) = no_keyword (codes "ret") x s b a (λ w f. f.1) k h
one_label (whole x m ps) (whole y m' ps') s r u n o h k = one_whole x y m m' ps ps' s r u h k

-- WHAT COMES NEXT
-- Spaces alone have no piece in them.
spaces_only : {A : Type 0} (x : Piece) (b v u : List ℕ) → Every space v → piece x b v u → A
spaces_only x b v u g (sp, (e, i, j)) =
    let y = begins x b u j in
    let z : Every space (b ++ u) = every_right space sp (b ++ u) (subst (Every space) e g) in
    let w : Every space ((y.0 ∷ y.1) ++ u) = subst (λ (c : List ℕ). Every space (c ++ u)) y.2 z in
    apart (space y.0) w.0 y.4

-- Spaces up to the end.
all_spaces : (s : List ℕ) → spaces s [] → Every space s
all_spaces s h = subst (Every space) (sym (h.2 ∙ append-nil h.0)) h.1

-- A line's end has no other piece in its place.
line_end : {A : Type 0} (x : Piece) (b v u : List ℕ) → (kind (pieces.mark 10) ≡ kind x → ⊥) → ending v [] → piece x b v u → A
line_end x b v u n (inl h) k = clash (pieces.mark 10) x (10 ∷ []) b v [] u n h k
line_end x b v u n (inr h) k = spaces_only x b v u (all_spaces v h) k

-- Where a line may end no other piece stands.
lines_end : {A : Type 0} (xs : List Statement) (x : Piece) (b s v u : List ℕ) → (kind (pieces.mark 10) ≡ kind x → ⊥) → statement_lines xs s v → ending v [] → piece x b s u → A
lines_end [] x b s v u n h e k = line_end x b v u n e (subst (λ (z : List ℕ). piece x b z u) h k)
lines_end (y ∷ xs) x b s v u n (w, h, i) e k = clash (pieces.mark 10) x (10 ∷ []) b s w u n h k

-- Behind the last label no `:` stands.
no_colon : (ls : List Label) (xs : List Statement) (s u v : List ℕ) → more_labels ls s u → statement_lines xs u v → ending v [] → NoColon s
no_colon [] xs s u v h l e w k = lines_end xs (pieces.mark 58) (58 ∷ []) u v w (λ e. omega arith) l e (subst (λ (z : List ℕ). mark 58 z w) h k)
no_colon (y ∷ ls) xs s u v (a, h, i) l e w k = clash (pieces.mark 59) (pieces.mark 58) (59 ∷ []) (58 ∷ []) s a w (λ e. omega arith) h k

-- STATEMENTS
-- The same further labels.
one_series : (ls ks : List Label) (xs ys : List Statement) (s u u' v v' : List ℕ) → more_labels ls s u → more_labels ks s u' → statement_lines xs u v → ending v []
    → statement_lines ys u' v' → ending v' [] → (ls ≡ ks) × (u ≡ u')
one_series [] [] xs ys s u u' v v' h k l e l' e' = (refl, sym h ∙ k)
one_series [] (y ∷ ks) xs ys s u u' v v' h (b, k, i) l e l' e' =
    lines_end xs (pieces.mark 59) (59 ∷ []) u v b (λ e. omega arith) l e (subst (λ (z : List ℕ). mark 59 z b) h k)
one_series (x ∷ ls) [] xs ys s u u' v v' (b, h, i) k l e l' e' =
    lines_end ys (pieces.mark 59) (59 ∷ []) u' v' b (λ e. omega arith) l' e' (subst (λ (z : List ℕ). mark 59 z b) k h)
one_series (x ∷ ls) (y ∷ ks) xs ys s u u' v v' (a, h, (c, i, j)) (b, k, (d, m, n)) l e l' e' =
    let f = one_mark 59 s a b h k in
    let p = one_label x y b c d (no_colon ls xs c u v j l e) (no_colon ks ys d u' v' n l' e') (subst (λ (z : List ℕ). label x z c) f i) m in
    let q = one_series ls ks xs ys d u u' v v' (subst (λ (z : List ℕ). more_labels ls z u) p.1 j) n l e l' e' in
    let p0 = p.0 in
    let q0 = q.0 in
    ((λ i. p0 i ∷ q0 i), q.1)

-- One statement.
one_statement : (x y : Statement) (xs ys : List Statement) (s u u' v v' : List ℕ) → statement_line x s u → statement_line y s u' → statement_lines xs u v → ending v []
    → statement_lines ys u' v' → ending v' [] → (x ≡ y) × (u ≡ u')
one_statement x y xs ys s u u' v v' (a1, h1, (a2, h2, (a3, h3, (a4, h4, (a5, h5, (a6, h6, h7)))))) (b1, k1, (b2, k2, (b3, k3, (b4, k4, (b5, k5, (b6, k6, k7)))))) l e l' e' =
    let e1 = one_word x.source y.source s a1 b1 h1 k1 in
    let e2 = one_mark 45 b1 a2 b2 (subst (λ (z : List ℕ). mark 45 z a2) e1.1 h2) k2 in
    let e3 : a3 ≡ b3 = tail a3 b3 (sym h3 ∙ (e2 ∙ k3)) in
    let e4 = one_word x.target y.target b3 a4 b4 (subst (λ (z : List ℕ). word x.target z a4) e3 h4) k4 in
    let e5 = one_mark 58 b4 a5 b5 (subst (λ (z : List ℕ). mark 58 z a5) e4.1 h5) k5 in
    let e6 = one_label x.first y.first b5 a6 b6 (no_colon x.others xs a6 u v h7 l e) (no_colon y.others ys b6 u' v' k7 l' e') (subst (λ (z : List ℕ). label x.first z a6) e5 h6) k6 in
    let e7 = one_series x.others y.others xs ys b6 u u' v v' (subst (λ (z : List ℕ). more_labels x.others z u) e6.1 h7) k7 l e l' e' in
    let f1 = e1.0 in
    let f4 = e4.0 in
    let f6 = e6.0 in
    let f7 = e7.0 in
    ((λ i. record { source = f1 i; target = f4 i; first = f6 i; others = f7 i }), e7.1)
  where
    tail : (r u : List ℕ) → 62 ∷ r ≡ 62 ∷ u → r ≡ u
    tail r u e = cc

-- Behind the last newline no word stands.
no_word : {A : Type 0} (w s r : List ℕ) → [] ≡ s → word w s r → A
no_word [] s r e h = absurd h.1.2.2
no_word (c ∷ w) s r e (sp, h) = begun_with sp (e ∙ h.0)
  where
    begun_with : {A : Type 0} (sp : List ℕ) → [] ≡ sp ++ ((c ∷ w) ++ r) → A
    begun_with [] e = nil_cons c (w ++ r) e
    begun_with (d ∷ sp) e = nil_cons d (sp ++ ((c ∷ w) ++ r)) e

-- The end of the text is not the end of a line before another.
end_word : {A : Type 0} (s t w r : List ℕ) → ending s [] → newline s t → word w t r → A
end_word s t w r (inl h) k i = no_word w t r (one_mark 10 s [] t h k) i
end_word s t w r (inr h) k i = spaces_only (pieces.mark 10) (10 ∷ []) s t (all_spaces s h) k

-- The same statements.
one_rest : (xs ys : List Statement) (s v v' : List ℕ) → statement_lines xs s v → statement_lines ys s v' → ending v [] → ending v' [] → xs ≡ ys
one_rest [] [] s v v' h k e e' = refl
one_rest [] (y ∷ ys) s v v' h (b, k, (c, (d, i, j), l)) e e' = end_word s b y.source d (subst (λ (z : List ℕ). ending z []) (sym h) e) k i
one_rest (x ∷ xs) [] s v v' (b, k, (c, (d, i, j), l)) h e e' = end_word s b x.source d (subst (λ (z : List ℕ). ending z []) (sym h) e') k i
one_rest (x ∷ xs) (y ∷ ys) s v v' (a, h, (c, i, j)) (b, k, (d, m, n)) e e' =
    let f = one_mark 10 s a b h k in
    let p = one_statement x y xs ys b c d v v' (subst (λ (z : List ℕ). statement_line x z c) f i) m j e n e' in
    let q = one_rest xs ys d v v' (subst (λ (z : List ℕ). statement_lines xs z v) p.1 j) n e e' in
    let p0 = p.0 in
    λ i. p0 i ∷ q i

-- METHODS
-- One line of a method.
one_method : (m n : Declared) (s u u' : List ℕ) → method_line m s u → method_line n s u' → (m ≡ n) × (u ≡ u')
one_method m n s u u' (a1, h1, (a2, h2, (a3, h3, h4))) (b1, k1, (b2, k2, (b3, k3, k4))) =
    let e1 = one_word (codes "method") (codes "method") s a1 b1 h1 k1 in
    let e2 = one_word m.name n.name b1 a2 b2 (subst (λ (z : List ℕ). word m.name z a2) e1.1 h2) k2 in
    let e3 = one_number m.number n.number b2 a3 b3 (subst (λ (z : List ℕ). number m.number z a3) e2.1 h3) k3 in
    let e4 = one_number m.arity n.arity b3 u u' (subst (λ (z : List ℕ). number m.arity z u) e3.1 h4) k4 in
    let f2 = e2.0 in
    let f3 = e3.0 in
    let f4 = e4.0 in
    ((λ i. record { name = f2 i; number = f3 i; arity = f4 i }), e4.1)

-- A line of a method is none of a first statement.
no_statement : {A : Type 0} (xs : List Statement) (s b c v : List ℕ) → NoMethod xs → statement_lines xs s v → ending v [] → newline s b → word (codes "method") b c → A
no_statement [] s b c v n h e k i = end_word s b (codes "method") c (subst (λ (z : List ℕ). ending z []) (sym h) e) k i
no_statement (x ∷ xs) s b c v n (a, h, (d, (f, g, j), l)) e k i =
    let z = one_mark 10 s a b h k in
    let y = one_word x.source (codes "method") b f c (subst (λ (u : List ℕ). word x.source u f) z g) i in
    apart (same x.source (codes "method")) ((bytes_eq-Decides x.source (codes "method")).1 y.0) n

-- The same methods.
one_methods : (ms ns : List Declared) (xs ys : List Statement) (s u u' v v' : List ℕ) → NoMethod xs → NoMethod ys → method_lines ms s u → method_lines ns s u'
    → statement_lines xs u v → ending v [] → statement_lines ys u' v' → ending v' [] → (ms ≡ ns) × (u ≡ u')
one_methods [] [] xs ys s u u' v v' n o h k l e l' e' = (refl, sym h ∙ k)
one_methods [] (m ∷ ns) xs ys s u u' v v' n o h (b, k, (c, (d, i, j), g)) l e l' e' =
    no_statement xs u b d v n l e (subst (λ (z : List ℕ). newline z b) h k) i
one_methods (m ∷ ms) [] xs ys s u u' v v' n o (b, k, (c, (d, i, j), g)) h l e l' e' =
    no_statement ys u' b d v' o l' e' (subst (λ (z : List ℕ). newline z b) h k) i
one_methods (m ∷ ms) (m' ∷ ns) xs ys s u u' v v' n o (a, h, (c, i, j)) (b, k, (d, f, g)) l e l' e' =
    let z = one_mark 10 s a b h k in
    let p = one_method m m' b c d (subst (λ (w : List ℕ). method_line m w c) z i) f in
    let q = one_methods ms ns xs ys d u u' v v' n o (subst (λ (w : List ℕ). method_lines ms w u) p.1 j) g l e l' e' in
    let p0 = p.0 in
    let q0 = q.0 in
    ((λ i. p0 i ∷ q0 i), q.1)

-- THE TEXT
-- One name.
one_title : (w v s r u : List ℕ) → first_line w s r → first_line v s u → (w ≡ v) × (r ≡ u)
one_title w v s r u (a, (sp, g, h), (c, i, j)) (b, (sq, f, k), (d, m, n)) =
    let z = run_unique space sp sq a b g f (subst (Stops space) (sym i) refl) (subst (Stops space) (sym m) refl) (sym h ∙ k) in
    let y : c ≡ d = behind (sym i ∙ (z.1 ∙ m)) in
    one_word w v d r u (subst (λ (x : List ℕ). word w x r) y j) n
  where
    behind : codes "property " ++ c ≡ codes "property " ++ d → c ≡ d
    behind e = cc

-- One tree.
pub one_tree : (t : List ℕ) (A B : Tree) → Spells A t → Spells B t → A ≡ B
one_tree t A B (n, (a1, h1, (a2, h2, (a3, h3, h4)))) (o, (b1, k1, (b2, k2, (b3, k3, k4)))) =
    let e1 = one_title A.name B.name t a1 b1 h1 k1 in
    let e2 = one_methods A.methods B.methods A.statements B.statements b1 a2 b2 a3 b3 n o (subst (λ (z : List ℕ). method_lines A.methods z a2) e1.1 h2) k2 h3 h4 k3 k4 in
    let e3 = one_rest A.statements B.statements b2 a3 b3 (subst (λ (z : List ℕ). statement_lines A.statements z a3) e2.1 h3) k3 h4 k4 in
    let f1 = e1.0 in
    let f2 = e2.0 in
    λ i. record { name = f1 i; methods = f2 i; statements = e3 i }

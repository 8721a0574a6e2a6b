-- Each way on which the reading of a piece ends.
use Rattle.std.proofs.Common.{◌≡◌, ℕ, ◌+◌, ◌-◌, ◌<◌, ◌≤◌, Bool, true, false, cond, List, [], ◌∷◌, ◌++◌, length, get_or, drop, IsErrAnd, Some, None, Ok, Err, Result, sym, refl, ap, ◌∙◌, subst, append-nil, arith, MatchResult}
use Rattle.std.proofs.lemmas.List.{drop_more, drop_all}
use Rattle.forms.specs.Bytes.{digit}
use Rattle.forms.specs.Forms.{Refused}
use Rattle.forms.specs.Grammars.{form, Closed}
use Rattle.forms.specs.Pieces.{Piece, word, number, mark, head_of, Next}
use Rattle.forms.specs.Steps.{Step}
use Rattle.forms.proofs.Driver.{pass, bad_refused, off_refused, zero_refused, broken_refused}
use Rattle.property.specs.Grammar.{text, bytes, opens, tight_at, ends_at, flaws, worst, Marked}
use Rattle.property.specs.Reads.{Gapped, Lexed, Halts, Read}
use Rattle.property.specs.States.{State, moved}
use Rattle.property.specs.Views.{slice, spelled}
use Rattle.kinds.specs.Refusals.{text_number}
use Rattle.kinds.specs.declared.text_reason.TextReason.{TextReason}
use Rattle.property.specs.declared.reader.Flaw.{Flaw}
use Rattle.property.specs.declared.reader.Found.{Found}
use Rattle.property.proofs.Leasts.{least_marked, none_marked, rising_flaws}
use Rattle.property.proofs.Lawfulness.{lawful}
use Rattle.property.proofs.Living.{opened_by}
use Rattle.property.proofs.Texts.{split, length_slice, slices}

shut_by : {A : Type 0} (b : Bool) (x : A) → b ≡ false → cond b (Some x) None ≡ None
shut_by b x e = ap (λ (y : Bool). cond y (Some x) None) e

module _ (t : List ℕ) (p : State) (a f : ℕ) (g : Gapped (tight_at p.cursor.spot) t a f) where
  -- At the end of the text.
  module _ (end : f ≡ length t) where
    all : drop a t ≡ slice t a f
    all = split t a f g.low ∙ (ap (λ (x : List ℕ). slice t a f ++ x) (drop_all f t (omega arith)) ∙ append-nil (slice t a f))

    pub broken : ends_at p.cursor.spot (slice t a f) ≡ false → Halts p t a 10 f
    broken e =
        let l = g.low in
        let h = g.high in
        let i : length (slice t a f) ≡ f - a = length_slice t a f g.low g.high in
        let y = broken_refused text lawful p a (slice t a f) g.spaces g.none (shut_by (ends_at p.cursor.spot (slice t a f)) _ e) in
        record { low = l; refused = subst (λ (s : List ℕ). Refused (form text p a) s 10 (f - a)) (sym all) (subst (λ (k : ℕ). Refused (form text p a) (slice t a f) 10 k) i y) }

  -- At a byte that may not come.
  pub off : f < length t → opens p.cursor (get_or t f 0) ≡ false → Halts p t a 10 f
  off h e =
      let i : length (slice t a f) ≡ f - a = length_slice t a f g.low g.high in
      let w : drop a t ≡ slice t a f ++ (get_or t f 0 ∷ drop (f + 1) t) = split t a f g.low ∙ ap (λ (x : List ℕ). slice t a f ++ x) (drop_more t f 0 h) in
      let shut : Closed text p (get_or t f 0) = λ x k z. shut_by (opens p.cursor (head_of x)) _ (ap (opens p.cursor) z ∙ e) in
      let y = off_refused text lawful p (get_or t f 0) shut a (drop a t) (slice t a f) (drop (f + 1) t)
      (record { whole = w; gap = g.spaces; none = g.none; plain = λ q. g.plain q h }) in
      record { low = g.low; refused = subst (λ (k : ℕ). Refused (form text p a) (drop a t) 10 k) i y }

  -- At a number with a zero before its other digits.
  pub padded : f + 1 < length t → tight_at p.cursor.spot ≡ false → get_or t f 0 ≡ 48 → digit (get_or t (f + 1) 0) ≡ true → opens p.cursor (get_or t f 0) ≡ true
      → Halts p t a 10 (f + 1)
  padded h loose z d e =
      let l0 = g.low in
      let i : length (slice t a f) + 1 ≡ (f + 1) - a = (let j = length_slice t a f g.low g.high in omega arith) in
      let w : drop a t ≡ slice t a f ++ (48 ∷ get_or t (f + 1) 0 ∷ drop ((f + 1) + 1) t) =
      split t a f g.low ∙ ap (λ (x : List ℕ). slice t a f ++ x)
      (drop_more t f 0 (omega arith) ∙ (ap (λ (b : ℕ). b ∷ drop (f + 1) t) z ∙ ap (λ (x : List ℕ). 48 ∷ x) (drop_more t (f + 1) 0 h))) in
      let o : opens p.cursor 48 ≡ true = ap (opens p.cursor) (sym z) ∙ e in
      let y = zero_refused text lawful p (moved p (48 ∷ []) 48 (a + length (slice t a f))) a loose (slice t a f) g.spaces (opened_by (opens p.cursor 48) _ o)
      (get_or t (f + 1) 0) (drop a t) (drop ((f + 1) + 1) t) d w in
      let l : a ≤ f + 1 = omega arith in
      record { low = l; refused = subst (λ (k : ℕ). Refused (form text p a) (drop a t) 10 k) i y }

  -- At a piece.
  module _ (q : ℕ) (x : Lexed (tight_at p.cursor.spot) t f q) (may : opens p.cursor (get_or t f 0) ≡ true) where
    joined : (b : Bool) → Gapped b t a f → (y : Piece) → Next b y (drop f t) [] (slice t f q) (drop q t) → Next b y (drop a t) (slice t a f) (slice t f q) (drop q t)
    joined false k y n = (split t a f k.low ∙ ap (λ (s : List ℕ). slice t a f ++ s) n.0, k.spaces, n.2)
    joined true k (word w) n = absurd n
    joined true k (number w) n = absurd n
    joined true k (mark m) n = (split t a f k.low ∙ (ap (λ (s : List ℕ). s ++ drop f t) (k.none refl) ∙ n.0), k.none refl, n.2)

    next : Next (tight_at p.cursor.spot) x.piece (drop a t) (slice t a f) (slice t f q) (drop q t)
    next = joined (tight_at p.cursor.spot) g x.piece x.stands

    place : a + length (slice t a f) ≡ f
    place = let j = length_slice t a f g.low g.high in let k = g.low in omega arith

    goes : text.after p x.piece (a + length (slice t a f)) ≡ Some (moved p (slice t f q) (get_or t f 0) f)
    goes =
        opened_by (opens p.cursor (head_of x.piece)) (moved p (bytes x.piece) (head_of x.piece) (a + length (slice t a f))) (ap (opens p.cursor) x.begins ∙ may)
        ∙ (ap (λ (w : List ℕ). Some (moved p w (head_of x.piece) (a + length (slice t a f)))) x.spells
        ∙ (ap (λ (b : ℕ). Some (moved p (slice t f q) b (a + length (slice t a f)))) x.begins ∙ ap (λ (k : ℕ). Some (moved p (slice t f q) (get_or t f 0) k)) place))

    abbrev its : List (Bool × ℕ)
    its = flaws p (slice t f q) (get_or t f 0) (drop q t)

    same_flaws : flaws p (bytes x.piece) (head_of x.piece) (drop q t) ≡ its
    same_flaws =
        ap (λ (w : List ℕ). flaws p w (head_of x.piece) (drop q t)) x.spells ∙ ap (λ (b : ℕ). flaws p (slice t f q) b (drop q t)) x.begins

    pub flawed : (n : ℕ) → worst its ≡ Some n → Halts p t a n f
    flawed n e =
        let i : length (slice t a f) ≡ f - a = length_slice t a f g.low g.high in
        let l = least_marked n its (rising_flaws p.cursor.spot p (slice t f q) (get_or t f 0) (drop q t)) e in
        let y = bad_refused text lawful p (moved p (slice t f q) (get_or t f 0) f) a n x.piece (drop a t) (slice t a f) (slice t f q) (drop q t) next goes
        (subst (λ (fs : List (Bool × ℕ)). Marked fs n) (sym same_flaws) l.0) (λ m z. l.1 m (subst (λ (fs : List (Bool × ℕ)). Marked fs m) same_flaws z)) in
        record { low = g.low; refused = subst (λ (k : ℕ). Refused (form text p a) (drop a t) n k) i y }

    both : slice t a f ++ slice t f q ≡ slice t a q
    both = slices t a f q g.low (let z = x.low in omega arith)

    pub passes : worst its ≡ None → Step (form text p a) (form text (moved p (slice t f q) (get_or t f 0) f) q) (slice t a q) (drop q t)
    passes e =
        let y = pass text lawful p (moved p (slice t f q) (get_or t f 0) f) a x.piece (drop a t) (slice t a f) (slice t f q) (drop q t) next goes
        (λ m z. none_marked its e m (subst (λ (fs : List (Bool × ℕ)). Marked fs m) same_flaws z)) in
        let k : a + length (slice t a f ++ slice t f q) ≡ q =
        (let z = x.low in let v = x.high in let j = g.low in omega (arith, ap length both, length_slice t a q (omega arith) x.high)) in
        subst (λ (s : List ℕ). Step (form text p a) (form text (moved p (slice t f q) (get_or t f 0) f) q) s (drop q t)) both
        (subst (λ (n : ℕ). Step (form text p a) (form text (moved p (slice t f q) (get_or t f 0) f) n) (slice t a f ++ slice t f q) (drop q t)) k y)

    pub read : (n : Found) → n.name.from ≡ f → n.name.to ≡ q → n.byte ≡ get_or t f 0 → spelled t n.name ≡ slice t f q → worst its ≡ None → Read p t a n
    read n e1 e2 e3 e4 e =
        let z = x.low in
        let j = g.low in
        let l : a < n.name.to = omega arith in
        let h : n.name.to ≤ length t = (let v = x.high in omega arith) in
        let s0 = passes e in
        let s1 = subst (λ (w : List ℕ). Step (form text p a) (form text (moved p w (get_or t f 0) f) q) (slice t a q) (drop q t)) (sym e4) s0 in
        let s2 = subst (λ (b : ℕ). Step (form text p a) (form text (moved p (spelled t n.name) b f) q) (slice t a q) (drop q t)) (sym e3) s1 in
        let s3 = subst (λ (k : ℕ). Step (form text p a) (form text (moved p (spelled t n.name) n.byte k) q) (slice t a q) (drop q t)) (sym e1) s2 in
        let s4 = subst (λ (k : ℕ). Step (form text p a) (form text (moved p (spelled t n.name) n.byte n.name.from) k) (slice t a k) (drop k t)) (sym e2) s3 in
        record { low = l; high = h; step = s4 }

-- The exit of a `?` at a fault.
pub out : {T : Type 0} (r : Result T Flaw) (P : T → Type 0) (Q : Flaw → Type 0) (f : Flaw) → IsErrAnd r (λ y. y ≡ f) → Q f → MatchResult r P Q
out (Ok x) P Q f h q = absurd h
out (Err e) P Q f h q = subst Q (sym h) q

pub at_flaw : (p : State) (t : List ℕ) (a : ℕ) (f : Flaw) (r : TextReason) (x : ℕ) → f.reason ≡ r → f.place ≡ x → Halts p t a (text_number r) x → Halts p t a (text_number f.reason) f.place
at_flaw p t a f r x e l h =
    subst (λ (y : ℕ). Halts p t a (text_number f.reason) y) (sym l) (subst (λ (y : TextReason). Halts p t a (text_number y) x) (sym e) h)

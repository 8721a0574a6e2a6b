-- How a position of the table of spots leads to another over some bytes.
use Rattle.std.proofs.Common.{◌≡◌, ℕ, ◌+◌, Bool, true, false, List, [], ◌∷◌, ◌++◌, length, sym, refl, subst}
use Rattle.forms.specs.Bytes.{digit, letter}
use Rattle.forms.specs.Grammars.{Takes, go, Faults, here, later}
use Rattle.forms.specs.Pieces.{Piece, head_of, Next}
use Rattle.forms.specs.Pieces as pieces
use Rattle.property.specs.Grammar.{text, bytes as piece_bytes, flaws, Marked, opens_at, tight_at}
use Rattle.property.specs.States.{State, Property, turned, moved}
use Rattle.property.specs.declared.spot.Spot.{Spot}
use Rattle.property.proofs.Living.{opened_by}
use Rattle.productions.specs.Spelling.{piece, word, mark}

-- From p on the bytes s have no fault.
abbrev pub Clean : State → ℕ → List ℕ → Type 0
Clean p a s = (n k : ℕ) → Faults text p a n k s → ⊥

-- From p, at place a, the bytes s lead to q, at place c, where r is left: what goes on there goes on from p, and no fault is lost.
pub record Leads (p : State) (a : ℕ) (s : List ℕ) (q : State) (c : ℕ) (r : List ℕ) : Type 0 where
  pub ahead : (v : Property) → Takes text q c v r → Takes text p a v s
  pub clean : Clean p a s → Clean q c r

-- Over no bytes.
pub stay : (p : State) (a : ℕ) (s : List ℕ) → Leads p a s p a s
stay p a s = record { ahead = λ v t. t; clean = λ h. h }

-- Over some bytes and then over others.
pub along : {p q o : State} {a b c : ℕ} {s u r : List ℕ} → Leads p a s q b u → Leads q b u o c r → Leads p a s o c r
along x y = record { ahead = λ v t. x.ahead v (y.ahead v t); clean = λ h. y.clean (x.clean h) }

-- A piece has none of the faults for which it is tested.
abbrev pub Fine : State → Piece → List ℕ → Type 0
Fine p x r = (n : ℕ) → Marked (flaws p (piece_bytes x) (head_of x) r) n → ⊥

-- By one piece: the position after it, the place where it began, and that it leads there.
pub record After (p : State) (a : ℕ) (x : Piece) (s r : List ℕ) : Type 0 where
  pub at : ℕ
  pub place : ℕ
  pub leads : Leads p a s (moved p (piece_bytes x) (head_of x) at) place r
  pub fine : Clean p a s → Fine p x r

-- A piece that may stand leads on.
pub step : (p : State) (a : ℕ) (x : Piece) (s sp b r : List ℕ) → Next (tight_at p.cursor.spot) x s sp b r → opens_at p.cursor.spot (head_of x) ≡ true
    → After p a x s r
step p a x s sp b r h o =
    let q = moved p (piece_bytes x) (head_of x) (a + length sp) in
    let g = opened_by (opens_at p.cursor.spot (head_of x)) q o in
    record {
      at = a + length sp;
      place = a + length (sp ++ b);
      leads = record {
        ahead = λ v t. go p q a v x s sp b r h g t;
        clean = λ e n k f. e n (length (sp ++ b) + k) (later p q a n k x s sp b r h g f);
      };
      fine = λ e n f. e n (length sp) (here p q a n x s sp b r h g f);
    }

-- The first byte of a word and of a number.
pub word_letter : (w s r : List ℕ) → word w s r → letter (head_of (pieces.word w)) ≡ true
word_letter [] s r h = absurd h.1.2.2
word_letter (c ∷ w) s r h = h.1.2.2

-- A number begins with a digit.
pub number_digit : (d s r : List ℕ) → piece (pieces.number d) d s r → digit (head_of (pieces.number d)) ≡ true
number_digit [] s r h = absurd h.1.2.2
number_digit (c ∷ d) s r h = h.1.2.1.0

-- By a word, a number, a mark, and a byte in a tight place.
pub by_word : (p : State) (a : ℕ) (w s r : List ℕ) → tight_at p.cursor.spot ≡ false → opens_at p.cursor.spot (head_of (pieces.word w)) ≡ true → word w s r
    → After p a (pieces.word w) s r
by_word p a w s r t o h = step p a (pieces.word w) s h.0 w r (subst (λ (b : Bool). Next b (pieces.word w) s h.0 w r) (sym t) h.1) o

-- By a number.
pub by_number : (p : State) (a : ℕ) (d s r : List ℕ) → tight_at p.cursor.spot ≡ false → opens_at p.cursor.spot (head_of (pieces.number d)) ≡ true
    → piece (pieces.number d) d s r → After p a (pieces.number d) s r
by_number p a d s r t o h = step p a (pieces.number d) s h.0 d r (subst (λ (b : Bool). Next b (pieces.number d) s h.0 d r) (sym t) h.1) o

-- By a mark.
pub by_mark : (p : State) (a m : ℕ) (s r : List ℕ) → tight_at p.cursor.spot ≡ false → opens_at p.cursor.spot m ≡ true → mark m s r → After p a (pieces.mark m) s r
by_mark p a m s r t o h = step p a (pieces.mark m) s h.0 (m ∷ []) r (subst (λ (b : Bool). Next b (pieces.mark m) s h.0 (m ∷ []) r) (sym t) h.1) o

-- By a byte in a tight place.
pub by_byte : (p : State) (a m : ℕ) (s r : List ℕ) → tight_at p.cursor.spot ≡ true → opens_at p.cursor.spot m ≡ true → s ≡ m ∷ r → After p a (pieces.mark m) s r
by_byte p a m s r t o e =
    step p a (pieces.mark m) s [] (m ∷ []) r (subst (λ (b : Bool). Next b (pieces.mark m) s [] (m ∷ []) r) (sym t) (e, refl, refl)) o

-- A position at a known spot.
pub at_spot : (F : State → Type 0) (p : State) (z : Spot) → p.cursor.spot ≡ z → F (turned z p) → F p
at_spot F p z e f = subst (λ (y : Spot). F (turned y p)) (sym e) f

-- Pieces as the table of spots takes them, and as the productions spell them.
use Rattle.std.proofs.Common.{◌≡◌, ℕ, Bool, true, false, ◌||◌, ◌⊎◌, eqb, List, [], ◌∷◌, ◌++◌, refl, subst, inl, inr, eqb-true}
use Rattle.forms.specs.Bytes.{digit, letter, wordy}
use Rattle.forms.specs.Pieces.{Piece, head_of, Next}
use Rattle.forms.specs.Pieces as pieces
use Rattle.forms.proofs.Laws.{apart}
use Rattle.forms.proofs.Lexing.{digit_letter, letter_wordy, digit_wordy}
use Rattle.productions.specs.Spelling.{piece, word, mark}

-- One of two tests holds.
pub either : (a b : Bool) → (a || b) ≡ true → (a ≡ true) ⊎ (b ≡ true)
either true b e = inl refl
either false b e = inr e

-- A piece with its own bytes: a word.
as_word : (w s sp b r : List ℕ) → Next false (pieces.word w) s sp b r → word w s r
as_word w s sp b r h = (sp, subst (λ (c : List ℕ). Next false (pieces.word w) s sp c r) h.2.0 h)

-- A number.
as_number : (d s sp b r : List ℕ) → Next false (pieces.number d) s sp b r → piece (pieces.number d) d s r
as_number d s sp b r h = (sp, subst (λ (c : List ℕ). Next false (pieces.number d) s sp c r) h.2.0 h)

-- A mark.
as_mark : (m : ℕ) (s sp b r : List ℕ) → Next false (pieces.mark m) s sp b r → mark m s r
as_mark m s sp b r h = (sp, subst (λ (c : List ℕ). Next false (pieces.mark m) s sp c r) h.2.0 h)

-- A piece that begins with a letter is a word.
pub from_letter : (K : Piece → Type 0) (x : Piece) (s sp b r : List ℕ) → Next false x s sp b r → letter (head_of x) ≡ true → K x
    → (c : ℕ) × (w : List ℕ) × (letter c ≡ true) × word (c ∷ w) s r × K (pieces.word (c ∷ w))
from_letter K (pieces.word []) s sp b r h e k = absurd h.2.2
from_letter K (pieces.word (c ∷ w)) s sp b r h e k = (c, w, e, as_word (c ∷ w) s sp b r h, k)
from_letter K (pieces.number []) s sp b r h e k = absurd h.2.2
from_letter K (pieces.number (c ∷ d)) s sp b r h e k = apart (letter c) e (digit_letter c h.2.1.0)
from_letter K (pieces.mark m) s sp b r h e k = apart (wordy m) (letter_wordy m e) h.2.2

-- A piece that begins with a digit is a number.
pub from_digit : (K : Piece → Type 0) (x : Piece) (s sp b r : List ℕ) → Next false x s sp b r → digit (head_of x) ≡ true → K x
    → (d : List ℕ) × piece (pieces.number d) d s r × K (pieces.number d)
from_digit K (pieces.word []) s sp b r h e k = absurd h.2.2
from_digit K (pieces.word (c ∷ w)) s sp b r h e k = apart (letter c) h.2.2 (digit_letter c e)
from_digit K (pieces.number d) s sp b r h e k = (d, as_number d s sp b r h, k)
from_digit K (pieces.mark m) s sp b r h e k = apart (wordy m) (digit_wordy m e) h.2.2

-- A piece that begins with a mark is that mark.
pub from_mark : (m : ℕ) → wordy m ≡ false → (K : Piece → Type 0) (x : Piece) (s sp b r : List ℕ) → Next false x s sp b r → eqb (head_of x) m ≡ true → K x
    → mark m s r × K (pieces.mark m)
from_mark m f K (pieces.word []) s sp b r h e k = absurd h.2.2
from_mark m f K (pieces.word (c ∷ w)) s sp b r h e k = apart (wordy m) (subst (λ (y : ℕ). wordy y ≡ true) (eqb-true c m e) (letter_wordy c h.2.2)) f
from_mark m f K (pieces.number []) s sp b r h e k = absurd h.2.2
from_mark m f K (pieces.number (c ∷ d)) s sp b r h e k = apart (wordy m) (subst (λ (y : ℕ). wordy y ≡ true) (eqb-true c m e) (digit_wordy c h.2.1.0)) f
from_mark m f K (pieces.mark c) s sp b r h e k =
    let q = eqb-true c m e in
    (subst (λ (y : ℕ). mark y s r) q (as_mark c s sp b r h), subst (λ (y : ℕ). K (pieces.mark y)) q k)

-- In a tight place the next byte stands.
pub from_byte : (c : ℕ) (K : Piece → Type 0) (x : Piece) (s sp b r : List ℕ) → Next true x s sp b r → eqb (head_of x) c ≡ true → K x
    → (s ≡ c ∷ r) × K (pieces.mark c)
from_byte c K (pieces.word w) s sp b r h e k = absurd h
from_byte c K (pieces.number w) s sp b r h e k = absurd h
from_byte c K (pieces.mark m) s sp b r h e k =
    let q = eqb-true m c e in
    (subst (λ (y : ℕ). s ≡ y ∷ r) q (subst (λ (z : List ℕ). s ≡ z ++ r) h.2 h.0), subst (λ (y : ℕ). K (pieces.mark y)) q k)

-- The next piece of a text, found by computing.
use Rattle.std.proofs.Common.{◌≡◌, ℕ, Bool, true, false, cond, ◌||◌, ltb, List, [], ◌∷◌, ◌++◌, Some, None, Option, refl, ap, ◌∙◌, subst}
use Rattle.forms.specs.Bytes.{space, digit, letter, wordy, Every, Stops, Decimal}
use Rattle.forms.specs.Pieces.{Piece, word, number, mark, Next}
use Rattle.forms.proofs.Driver.{some_none, some_same}
use Rattle.forms.proofs.Laws.{apart}
use Rattle.forms.proofs.Lexing.{letter_wordy}
use Rattle.property.specs.Grammar.{bytes, none_left}
use Rattle.property.specs.Words.{front, past}
use Rattle.property.proofs.Readings.{wordless}

-- A piece, with the spaces before it and the bytes after it.
pub record Lexeme : Type 0 where
  pub piece : Piece
  pub gap : List ℕ
  pub rest : List ℕ

-- A word, a number and a mark that begin with the byte c, where spaces stand before it and u after it.
abbrev pub word_at : List ℕ → ℕ → List ℕ → Lexeme
word_at gap c u = record { piece = word (c ∷ front wordy u); gap = gap; rest = past wordy u }

abbrev pub number_at : List ℕ → ℕ → List ℕ → Lexeme
number_at gap c u = record { piece = number (c ∷ front digit u); gap = gap; rest = past digit u }

abbrev pub mark_at : List ℕ → ℕ → List ℕ → Lexeme
mark_at gap c u = record { piece = mark c; gap = gap; rest = u }

-- Whether no zero stands before other digits.
abbrev pub plain : ℕ → List ℕ → Bool
plain c u = ltb 48 c || none_left (front digit u)

-- The piece that begins with the byte c: a word, a number or a mark.
abbrev pub no_word : List ℕ → ℕ → List ℕ → Option Lexeme
no_word gap c u =
    cond (digit c) (cond (plain c u) (Some (number_at gap c u)) None) (cond (space c) None (Some (mark_at gap c u)))

abbrev pub begun : List ℕ → ℕ → List ℕ → Option Lexeme
begun gap c u = cond (letter c) (Some (word_at gap c u)) (no_word gap c u)

-- The spaces at the front of s, where they are free, and what stands after them.
abbrev pub spaces : Bool → List ℕ → List ℕ
spaces true s = []
spaces false s = front space s

abbrev pub after : Bool → List ℕ → List ℕ
after true s = s
after false s = past space s

-- The piece at the front of some bytes, after spaces: in a tight place it is the next byte.
abbrev pub next : Bool → List ℕ → List ℕ → Option Lexeme
next t gap [] = None
next true gap (c ∷ u) = Some (mark_at [] c u)
next false gap (c ∷ u) = begun gap c u

-- The bytes of a class that come first are of that class.
pub every_front : (c : ℕ → Bool) (s : List ℕ) → Every c (front c s)
every_front c [] = tt
every_front c (b ∷ s) = by (c b) refl (every_front c s)
  where
    by : (t : Bool) → c b ≡ t → Every c (front c s) → Every c (cond t (b ∷ front c s) [])
    by true e h = (e, h)
    by false e h = tt

-- They are all that come first.
stops_past : (c : ℕ → Bool) (s : List ℕ) → Stops c (past c s)
stops_past c [] = tt
stops_past c (b ∷ s) = by (c b) refl (stops_past c s)
  where
    by : (t : Bool) → c b ≡ t → Stops c (past c s) → Stops c (cond t (past c s) (b ∷ s))
    by true e h = h
    by false e h = e

-- They stand before the others.
pub front_past : (c : ℕ → Bool) (s : List ℕ) → s ≡ front c s ++ past c s
front_past c [] = refl
front_past c (b ∷ s) = by (c b) (front_past c s)
  where
    by : (t : Bool) → s ≡ front c s ++ past c s → b ∷ s ≡ cond t (b ∷ front c s) [] ++ cond t (past c s) (b ∷ s)
    by true h = ap (λ (x : List ℕ). b ∷ x) h
    by false h = refl

-- Such digits are a decimal number.
decimal : (c : ℕ) (d : List ℕ) → ltb 48 c || none_left d ≡ true → Decimal (c ∷ d)
decimal c [] e = tt
decimal c (b ∷ d) e = λ z. apart (ltb 48 c || false) e (ap (λ (n : ℕ). ltb 48 n || false) z)

-- The lexeme stands at the front of s.
abbrev pub Found : Bool → List ℕ → Lexeme → Type 0
Found t s x = Next t x.piece s x.gap (bytes x.piece) x.rest

-- So does the one that was answered.
answered : (t : Bool) (s : List ℕ) (x y : Lexeme) → Some x ≡ Some y → Found t s x → Found t s y
answered t s x y e h = subst (Found t s) (some_same (Some x) x y refl e) h

-- A piece that is found after free spaces stands there.
begun_stands : (s gap u : List ℕ) (c : ℕ) (x : Lexeme) → s ≡ gap ++ c ∷ u → Every space gap → begun gap c u ≡ Some x → Found false s x
begun_stands s gap u c x e g f = by_letter (letter c) refl f
  where
    whole : (k : ℕ → Bool) → s ≡ gap ++ ((c ∷ front k u) ++ past k u)
    whole k = e ∙ ap (λ (w : List ℕ). gap ++ c ∷ w) (front_past k u)

    by_space : (b : Bool) → space c ≡ b → letter c ≡ false → digit c ≡ false → cond b None (Some (mark_at gap c u)) ≡ Some x → Found false s x
    by_space true h l d f = some_none None x f refl
    by_space false h l d f = answered false s (mark_at gap c u) x f (e, g, (refl, h, wordless c l d))

    by_zero : (b : Bool) → plain c u ≡ b → digit c ≡ true → cond b (Some (number_at gap c u)) None ≡ Some x → Found false s x
    by_zero true z h f =
        answered false s (number_at gap c u) x f (whole digit, g, (refl, (h, every_front digit u), decimal c (front digit u) z, stops_past digit u))
    by_zero false z h f = some_none None x f refl

    by_digit : (b : Bool) → digit c ≡ b → letter c ≡ false
        → cond b (cond (plain c u) (Some (number_at gap c u)) None) (cond (space c) None (Some (mark_at gap c u))) ≡ Some x → Found false s x
    by_digit true h l f = by_zero (plain c u) refl h f
    by_digit false h l f = by_space (space c) refl l h f

    by_letter : (b : Bool) → letter c ≡ b → cond b (Some (word_at gap c u)) (no_word gap c u) ≡ Some x → Found false s x
    by_letter true h f = answered false s (word_at gap c u) x f (whole wordy, g, (refl, (letter_wordy c h, every_front wordy u), h, stops_past wordy u))
    by_letter false h f = by_digit (digit c) refl h f

-- What is found stands there.
pub stands : (t : Bool) (s : List ℕ) (x : Lexeme) → next t (spaces t s) (after t s) ≡ Some x → Found t s x
stands t s x f = by t (after t s) refl f
  where
    by : (t : Bool) (w : List ℕ) → after t s ≡ w → next t (spaces t s) w ≡ Some x → Found t s x
    by true [] e f = some_none None x f refl
    by false [] e f = some_none None x f refl
    by true (c ∷ u) e f = answered true s (mark_at [] c u) x f (e, refl, refl)
    by false (c ∷ u) e f =
        begun_stands s (front space s) u c x (front_past space s ∙ ap (λ (w : List ℕ). front space s ++ w) e) (every_front space s) f

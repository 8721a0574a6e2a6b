-- A text read piece by piece, by computing: where that finds a property the text is accepted as it.
use Rattle.std.proofs.Common.{◌≡◌, ℕ, zero, suc, ◌+◌, Bool, true, false, cond, ◌&&◌, List, [], ◌∷◌, ◌++◌, length, Some, None, Option, sym, refl, ap, ◌∙◌, subst, append-nil}
use Rattle.std.proofs.lemmas.Bool.{and_parts}
use Rattle.forms.specs.Bytes.{space, Every}
use Rattle.forms.specs.Forms.{Accepted}
use Rattle.forms.specs.Grammars.{form}
use Rattle.forms.specs.Pieces.{head_of}
use Rattle.forms.proofs.Driver.{end_accepted, next_whole, pass, some_none, some_same}
use Rattle.forms.proofs.Laws.{accepted_step, apart}
use Rattle.property.specs.Grammar.{text, bytes, opens, tight_at, ends_at, flaws, worst, none_left}
use Rattle.property.specs.States.{Property, State, moved, closing, routed}
use Rattle.property.specs.Words.{front}
use Rattle.property.proofs.Lawfulness.{lawful}
use Rattle.property.proofs.Leasts.{none_marked}
use Rattle.property.proofs.Living.{opened_by}
use Rattle.worked.proofs.Lexemes.{Lexeme, Found, after, every_front, front_past, next, spaces, stands}

-- Whether there is no fault.
abbrev pub fine : Option ℕ → Bool
fine None = true
fine (Some n) = false

-- The test is right.
no_fault : (o : Option ℕ) → fine o ≡ true → o ≡ None
no_fault None e = refl
no_fault (Some n) e = apart false e refl

-- The position after a piece.
abbrev pub moved_on : State → ℕ → Lexeme → State
moved_on p a x = moved p (bytes x.piece) (head_of x.piece) (a + length x.gap)

-- The place after it.
abbrev pub past_it : ℕ → Lexeme → ℕ
past_it a x = a + length (x.gap ++ bytes x.piece)

-- Whether the piece may stand at p, with no fault.
abbrev pub may : State → Lexeme → Bool
may p x = opens p.cursor (head_of x.piece) && fine (worst (flaws p (bytes x.piece) (head_of x.piece) x.rest))

-- What is read where s ends a text at p.
abbrev pub ended : State → List ℕ → Option Property
ended p s =
    cond (none_left (after (tight_at p.cursor.spot) s) && (ends_at p.cursor.spot s && routed (closing p).statements)) (Some (closing p)) None

-- What is read where a piece comes, or none; `on` reads what comes after it.
abbrev pub goes : (State → ℕ → List ℕ → Option Property) → State → ℕ → List ℕ → Option Lexeme → Option Property
goes on p a s None = ended p s
goes on p a s (Some x) = cond (may p x) (on (moved_on p a x) (past_it a x) x.rest) None

-- The next piece at p.
abbrev pub next_at : State → List ℕ → Option Lexeme
next_at p s = next (tight_at p.cursor.spot) (spaces (tight_at p.cursor.spot) s) (after (tight_at p.cursor.spot) s)

-- What is read of s from p on, at place a, in fewer than n pieces.
abbrev pub read : ℕ → State → ℕ → List ℕ → Option Property
read zero p a s = None
read (suc n) p a s = goes (read n) p a s (next_at p s)

-- A text that goes on by a piece is accepted where the rest of it is.
by_piece : (p : State) (a : ℕ) (s : List ℕ) (x : Lexeme) (P : Property) → Found (tight_at p.cursor.spot) s x → may p x ≡ true
    → Accepted (form text (moved_on p a x) (past_it a x)) x.rest P → Accepted (form text p a) s P
by_piece p a s x P h e k =
    let parts = and_parts (opens p.cursor (head_of x.piece)) (fine (worst (flaws p (bytes x.piece) (head_of x.piece) x.rest))) e in
    let g = opened_by (opens p.cursor (head_of x.piece)) (moved_on p a x) parts.0 in
    let sound = none_marked (flaws p (bytes x.piece) (head_of x.piece) x.rest) (no_fault _ parts.1) in
    let step = pass text lawful p (moved_on p a x) a x.piece s x.gap (bytes x.piece) x.rest h g sound in
    subst (λ (w : List ℕ). Accepted (form text p a) w P) (sym (next_whole (tight_at p.cursor.spot) x.piece s x.gap (bytes x.piece) x.rest h))
    (accepted_step (form text p a) (form text (moved_on p a x) (past_it a x)) (x.gap ++ bytes x.piece) x.rest step P k)

-- No byte is left.
nothing_left : (s : List ℕ) → none_left s ≡ true → s ≡ []
nothing_left [] e = refl
nothing_left (b ∷ s) e = apart false e refl

-- A text that ends here is accepted.
by_end : (p : State) (a : ℕ) (s : List ℕ) (P : Property) → ended p s ≡ Some P → Accepted (form text p a) s P
by_end p a s P f = by (none_left (after (tight_at p.cursor.spot) s) && (ends_at p.cursor.spot s && routed (closing p).statements)) refl f
  where
    gap : (t : Bool) → after t s ≡ [] → Every space s
    gap true e = subst (Every space) (sym e) tt
    gap false e = subst (Every space) (sym (front_past space s ∙ (ap (λ (w : List ℕ). front space s ++ w) e ∙ append-nil (front space s)))) (every_front space s)

    none : (t : Bool) → after t s ≡ [] → t ≡ true → s ≡ []
    none true e h = e
    none false e h = apart false h refl

    by : (b : Bool) → none_left (after (tight_at p.cursor.spot) s) && (ends_at p.cursor.spot s && routed (closing p).statements) ≡ b → cond b (Some (closing p)) None ≡ Some P
        → Accepted (form text p a) s P
    by false e f = some_none None P f refl
    by true e f =
        let parts = and_parts (none_left (after (tight_at p.cursor.spot) s)) _ e in
        let more = and_parts (ends_at p.cursor.spot s) (routed (closing p).statements) parts.1 in
        let w = nothing_left (after (tight_at p.cursor.spot) s) parts.0 in
        let x = end_accepted text lawful p a s (gap (tight_at p.cursor.spot) w) (none (tight_at p.cursor.spot) w) (closing p)
        (ap (λ (b : Bool). cond b (Some (closing p)) None) more.0) (λ n l. apart (routed (closing p).statements) more.1 l.1) in
        subst (Accepted (form text p a) s) (some_same (Some (closing p)) (closing p) P refl f) x

-- What a reading finds is accepted.
abbrev pub Sound : (State → ℕ → List ℕ → Option Property) → Type 0
Sound on = (p : State) (a : ℕ) (s : List ℕ) (P : Property) → on p a s ≡ Some P → Accepted (form text p a) s P

-- So is what it finds after one piece more.
sound_on : (on : State → ℕ → List ℕ → Option Property) → Sound on → Sound (λ p a s. goes on p a s (next_at p s))
sound_on on k p a s P f = by (next_at p s) refl f
  where
    by_test : (x : Lexeme) → next_at p s ≡ Some x → (b : Bool) → may p x ≡ b → cond b (on (moved_on p a x) (past_it a x) x.rest) None ≡ Some P
        → Accepted (form text p a) s P
    by_test x e false h f = some_none None P f refl
    by_test x e true h f = by_piece p a s x P (stands (tight_at p.cursor.spot) s x e) h (k (moved_on p a x) (past_it a x) x.rest P f)

    by : (o : Option Lexeme) → next_at p s ≡ o → goes on p a s o ≡ Some P → Accepted (form text p a) s P
    by None e f = by_end p a s P f
    by (Some x) e f = by_test x e (may p x) refl f

-- What is read to the end is accepted.
pub accepted : (n : ℕ) → Sound (read n)
accepted zero p a s P f = some_none None P f refl
accepted (suc n) p a s P f = sound_on (read n) (accepted n) p a s P f

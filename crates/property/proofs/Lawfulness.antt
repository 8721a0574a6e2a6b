-- The grammar of property texts is lawful.
use Rattle.std.proofs.Common.{◌≡◌, ℕ, Bool, true, false, cond, ◌||◌, eqb, List, [], ◌∷◌, Some, None, codes, refl, subst, arith, eqb-true}
use Rattle.std.proofs.lemmas.Bool.Decides.{nat_tests}
use Rattle.forms.specs.Bytes.{capital, digit, wordy, Every, Word, Decimal}
use Rattle.forms.specs.Grammars.{Lawful}
use Rattle.forms.specs.Pieces.{word, number}
use Rattle.forms.proofs.Laws.{apart}
use Rattle.forms.proofs.Lexing.{letter_wordy, digit_wordy}
use Rattle.property.specs.Cursors.{to, filled, labelled, finished, returning, taking, opened, writing}
use Rattle.property.specs.Grammar.{text, opens, opens_at, tight_at, ends_at}
use Rattle.property.specs.States.{State, at, turned, moved_at, moved, begins, whole_begins, callee_at, variable, variable_key, register_of, patterned, declares, leaving, ends_statement}
use Rattle.property.specs.Words.{same, first_byte}
use Rattle.property.specs.declared.cursor.Cursor.{Cursor}
use Rattle.property.specs.declared.spot.Head.TheVariants as heads
use Rattle.property.specs.declared.spot.Inner.TheVariants as inners
use Rattle.property.specs.declared.spot.Kind.{Kind}
use Rattle.property.specs.declared.spot.Kind.TheVariants as kinds
use Rattle.property.specs.declared.spot.Label.TheVariants as labels
use Rattle.property.specs.declared.spot.Line.TheVariants as lines
use Rattle.property.specs.declared.spot.Route.TheVariants as routes
use Rattle.property.specs.declared.spot.Spot.{Spot}
use Rattle.property.specs.declared.spot.Spot.TheVariants as spots
use Rattle.topl.specs.declared.pattern.Pattern.TheVariants as patterns
use Rattle.property.specs.declared.table.Slot.{Slot}
use Rattle.property.proofs.Living.{lives_at}

-- In a tight place no text ends.
whole_at : {A : Type 0} (s : Spot) (l : List ℕ) (v : A) → tight_at s ≡ true → cond (ends_at s l) (Some v) None ≡ None
whole_at (spots.Head h) l v e = refl
whole_at (spots.Line h) l v e = apart false e refl
whole_at (spots.Route h) l v e = refl
whole_at (spots.Label labels.Begin) l v e = refl
whole_at (spots.Label labels.Star) l v e = apart false e refl
whole_at (spots.Label labels.Becomes) l v e = refl
whole_at (spots.Label labels.Equals) l v e = refl
whole_at (spots.Label labels.Callee) l v e = refl
whole_at (spots.Label labels.Open) l v e = refl
whole_at (spots.Label labels.Comma) l v e = refl
whole_at (spots.Label labels.End) l v e = apart false e refl
whole_at (spots.Inner i) l v e = refl

-- The next place is loose.
record Loose (q : State) : Type 0 where
  free : tight_at q.cursor.spot ≡ false

loose : (q : State) → tight_at q.cursor.spot ≡ false → Loose q
loose q e = record { free = e }

loose_cond : (b : Bool) (p q : State) → Loose p → Loose q → Loose (cond b p q)
loose_cond true p q h k = h
loose_cond false p q h k = k

loose_at : (b : Bool) (u v : Cursor) → tight_at u.spot ≡ false → tight_at v.spot ≡ false → tight_at (cond b u v).spot ≡ false
loose_at true u v h k = h
loose_at false u v h k = k

loose_filled : (x : Slot) (u : Cursor) → tight_at (filled x u).spot ≡ false
loose_filled x u =
    loose_at (eqb u.label.count 0) (to (spots.Label labels.Becomes) (labelled (returning x u.label) u)) (to (spots.Label labels.Comma) (labelled (taking x u.label) u)) refl refl

loose_variable : (w : List ℕ) (k : ℕ) (p : State) → Loose (variable w k p)
loose_variable w k p =
    let u = at (labelled (writing (register_of p.sofar (variable_key w)) p.cursor.label) p.cursor) p in
    loose_cond (capital (first_byte w)) (patterned (variable_key w) patterns.Write k u) (patterned (variable_key w) patterns.Same k p)
    (loose _ (loose_filled (record { pattern = patterns.Write (register_of p.sofar (variable_key w)); place = k }) u.cursor))
    (loose _ (loose_filled (record { pattern = patterns.Same (register_of p.sofar (variable_key w)); place = k }) p.cursor))

loose_begins : (w : List ℕ) (c k : ℕ) (p : State) → Loose (begins w c k p)
loose_begins w c k p =
    let x : Slot = record { pattern = patterns.Any; place = k } in
    let n = turned (spots.Inner (inners.Negated k)) p in
    let q = turned (spots.Inner (inners.Quoted k)) p in
    loose_cond (eqb c 42) (at (filled x p.cursor) p) (cond (eqb c 33) n (cond (eqb c 60) q (variable w k p))) (loose _ (loose_filled x p.cursor))
    (loose_cond (eqb c 33) n (cond (eqb c 60) q (variable w k p)) (loose n refl) (loose_cond (eqb c 60) q (variable w k p) (loose q refl) (loose_variable w k p)))

loose_callee : (d : Kind) (u : Cursor) → tight_at (callee_at d u).spot ≡ false
loose_callee kinds.Call u = refl
loose_callee kinds.Both u = refl
loose_callee kinds.Return u = refl

-- No mark is a letter or a digit.
not_mark : {A : Type 0} (c m : ℕ) → wordy c ≡ true → wordy m ≡ false → eqb c m ≡ true → A
not_mark c m h k e = apart (wordy m) (subst (λ (x : ℕ). wordy x ≡ true) (eqb-true c m e) h) k

not_after_star : (c : ℕ) → wordy c ≡ true → eqb c 58 || (eqb c 59 || eqb c 10) ≡ false
not_after_star c h = grind (arith, nat_tests)

-- After a word or a number spaces are free.
loose_moved : (s : Spot) (p : State) (w : List ℕ) (c k : ℕ) → wordy c ≡ true → tight_at s ≡ false → opens_at s c ≡ true → Loose (moved_at s p w c k)
loose_moved (spots.Head heads.Margin) p w c k h e o = apart true refl e
loose_moved (spots.Head (heads.Keyword n)) p w c k h e o = apart true refl e
loose_moved (spots.Head heads.Gap) p w c k h e o = apart true refl e
loose_moved (spots.Head heads.Title) p w c k h e o = loose _ refl
loose_moved (spots.Line lines.Ending) p w c k h e o = loose _ refl
loose_moved (spots.Line lines.Fresh) p w c k h e o =
    loose_cond (declares p w) (turned (spots.Line lines.MethodName) p) (leaving w p) (loose _ refl) (loose _ refl)
loose_moved (spots.Line lines.MethodName) p w c k h e o = loose _ refl
loose_moved (spots.Line lines.MethodNumber) p w c k h e o = loose _ refl
loose_moved (spots.Line (lines.MethodArity n)) p w c k h e o = loose _ refl
loose_moved (spots.Route routes.Minus) p w c k h e o = not_mark c 45 h refl o
loose_moved (spots.Route routes.Greater) p w c k h e o = apart true refl e
loose_moved (spots.Route routes.Target) p w c k h e o = loose _ refl
loose_moved (spots.Route routes.Colon) p w c k h e o = loose _ refl
loose_moved (spots.Label labels.Begin) p w c k h e o =
    let a = turned (spots.Label labels.Star) p in
    let b = at (to (spots.Label labels.Callee) (labelled (opened kinds.Call 1) p.cursor)) p in
    let d = at (to (spots.Inner inners.Returned) (labelled (opened kinds.Return 0) p.cursor)) p in
    let f = whole_begins w c k p in
    loose_cond (eqb c 42) a (cond (same w (codes "call")) b (cond (same w (codes "ret")) d f)) (loose a refl)
    (loose_cond (same w (codes "call")) b (cond (same w (codes "ret")) d f) (loose b refl)
    (loose_cond (same w (codes "ret")) d f (loose d refl) (loose_begins w c k (at (labelled (opened kinds.Both 0) p.cursor) p))))
loose_moved (spots.Label labels.Star) p w c k h e o = apart (eqb c 58 || (eqb c 59 || eqb c 10)) o (not_after_star c h)
loose_moved (spots.Label labels.Becomes) p w c k h e o = not_mark c 58 h refl o
loose_moved (spots.Label labels.Equals) p w c k h e o = apart true refl e
loose_moved (spots.Label labels.Callee) p w c k h e o = loose _ (loose_callee p.cursor.label.kind _)
loose_moved (spots.Label labels.Open) p w c k h e o = loose _ refl
loose_moved (spots.Label labels.Comma) p w c k h e o =
    loose _ (loose_at (eqb c 44) (to (spots.Inner inners.Param) p.cursor) (finished p.cursor) refl refl)
loose_moved (spots.Label labels.End) p w c k h e o =
    loose_cond (eqb c 59) (turned (spots.Label labels.Begin) p) (ends_statement p) (loose _ refl) (loose _ refl)
loose_moved (spots.Inner inners.Returned) p w c k h e o = loose_begins w c k p
loose_moved (spots.Inner inners.First) p w c k h e o =
    loose_cond (eqb c 41) (at (finished p.cursor) p) (begins w c k p) (loose _ refl) (loose_begins w c k p)
loose_moved (spots.Inner inners.Param) p w c k h e o = loose_begins w c k p
loose_moved (spots.Inner (inners.Negated n)) p w c k h e o =
    loose _ (loose_filled (record { pattern = patterns.Differs (register_of p.sofar (variable_key w)); place = n }) p.cursor)
loose_moved (spots.Inner (inners.Quoted n)) p w c k h e o = loose _ refl
loose_moved (spots.Inner inners.Unquote) p w c k h e o = loose _ (which (eqb p.cursor.label.count 1))
  where
    which : (b : Bool) → tight_at (spots.Label (cond b labels.Becomes labels.Comma)) ≡ false
    which true = refl
    which false = refl

-- Where a piece may stand, its first byte opens, and the next position is known.
pub opened_inv : {A : Type 0} (b : Bool) (x y : A) → cond b (Some x) None ≡ Some y → (b ≡ true) × (x ≡ y)
opened_inv true x y e = (refl, cc)
opened_inv false x y e = absurd (let z : ◌≡◌ {A = ℕ} 0 1 = cc in omega arith)

loose_after : (p q : State) (w : List ℕ) (c k : ℕ) → wordy c ≡ true → tight_at p.cursor.spot ≡ false → cond (opens p.cursor c) (Some (moved p w c k)) None ≡ Some q
    → Loose q
loose_after p q w c k h e g =
    let y = opened_inv (opens p.cursor c) (moved p w c k) q g in
    subst Loose y.1 (loose_moved p.cursor.spot p w c k h e y.0)

word_head : (p q : State) (w : List ℕ) (k : ℕ) → tight_at p.cursor.spot ≡ false → Word w → text.after p (word w) k ≡ Some q → Loose q
word_head p q [] k e h g = absurd h
word_head p q (c ∷ w) k e h g = loose_after p q (c ∷ w) c k (letter_wordy c h) e g

number_head : (p q : State) (d : List ℕ) (k : ℕ) → tight_at p.cursor.spot ≡ false → Every digit d → Decimal d → text.after p (number d) k ≡ Some q → Loose q
number_head p q [] k e h n g = absurd n
number_head p q (c ∷ d) k e h n g = loose_after p q (c ∷ d) c k (digit_wordy c h.0) e g

pub lawful : Lawful text
lawful = record {
  lives = λ p a. lives_at p.cursor.spot p a;
  whole = λ p s e. whole_at p.cursor.spot s _ e;
  word_loose = λ p q w k e h g. (word_head p q w k e h g).free;
  number_loose = λ p q d k e h n g. (number_head p q d k e h n g).free;
}

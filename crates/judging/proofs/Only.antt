-- A day comes out in one way, but for the steps shown.
use Rattle.std.proofs.Common.{◌≡◌, ℕ, Bool, true, false, cond, ◌==◌, List, map, length, Some, None, Ok, Err, Option, Result, slice_index, sym, refl, ap, ◌∙◌, subst, arith}
use Rattle.kinds.specs.Groups.{within, within_given}
use Rattle.kinds.specs.Labels.{label_class, label_read}
use Rattle.kinds.specs.Meaning.{label_keeps}
use Rattle.kinds.specs.Numbers.{groups_read, number_class, number_value}
use Rattle.kinds.specs.Readings.{Reading}
use Rattle.kinds.specs.Refusals.{Ending}
use Rattle.kinds.specs.declared.refusal.Fault.{Fault}
use Rattle.kinds.specs.declared.refusal.Refusal.{Refusal}
use Rattle.topl.specs.Ledger.{initial}
use Rattle.topl.specs.Lists.{Class}
use Rattle.sources.specs.Events.{Happening}
use Rattle.sources.specs.Opening.{head_refusal}
use Rattle.property.specs.States.{Property}
use Rattle.limits.specs.Tables.{table_of}
use Rattle.judging.specs.Outcomes.{Outcome, refused, SameButSteps, Ends, ConstantsRead, ComesBy, Comes, Judged, text_refused, head_refused, constants_refused, begin_refused, judged}
use Rattle.judging.specs.Ways.{events}
use Rattle.judging.proofs.Fates.{one_end}
use Rattle.judging.proofs.Once.{same_property, not_both, same_flaw, one_reading}

some_one : (f g : Refusal) → ◌≡◌ {A = Option Refusal} (Some f) (Some g) → f ≡ g
some_one f g e = cc

some_none : (o : Option Refusal) (f : Refusal) → o ≡ Some f → o ≡ None → ⊥
some_none o f p q = let z : ◌≡◌ {A = ℕ} 0 1 = cc in omega arith

module _ {V : Type 0} where
  ok_one : (vs ws : List V) → ◌≡◌ {A = Result (List V) Refusal} (Ok vs) (Ok ws) → vs ≡ ws
  ok_one vs ws e = cc

  err_one : (f g : Refusal) → ◌≡◌ {A = Result (List V) Refusal} (Err f) (Err g) → f ≡ g
  err_one f g e = cc

  ok_err : (vs : List V) (f : Refusal) → ◌≡◌ {A = Result (List V) Refusal} (Ok vs) (Err f) → ⊥
  ok_err vs f e = let z : ◌≡◌ {A = ℕ} 0 1 = cc in omega arith

module _ {V : Type 0} (reads : List ℕ → Result (V × ℕ) Fault) (longest : ℕ) (bounded : (bs : List ℕ) → Reading longest bs (reads bs)) (number : ℕ) (class : V → Class)
    (text journal constants : List ℕ) where
  -- the day comes out so
  abbrev By : Outcome → Type 0
  By o = ComesBy reads number class text journal constants o

  same_refused : {f g : Refusal} → f ≡ g → SameButSteps (refused g) (refused f)
  same_refused e = ap refused (sym e)

  read_once : {u v : Result (List V) Refusal} → ConstantsRead reads constants u → ConstantsRead reads constants v → u ≡ v
  read_once r s = one_reading reads longest bounded constants r s

  counted : (P Q : Property) (vs ws : List V) → Q ≡ P → ws ≡ vs → length ws ≡ length (table_of Q).constants → length vs ≡ length (table_of P).constants
  counted P Q vs ws e d n = ap length (sym d) ∙ n ∙ ap (λ (z : Property). length (table_of z).constants) e

  one_day : (P Q : Property) (vs ws : List V) (hs gs : List (Happening V)) (n m : Ending) (o p : Outcome) → Q ≡ P → ws ≡ vs → gs ≡ hs → m ≡ n →
      Ends (table_of P) (initial (table_of P) (map class vs)) (events class hs) n o → Ends (table_of Q) (initial (table_of Q) (map class ws)) (events class gs) m p → SameButSteps p o
  one_day P Q vs ws hs gs n m o p e d h r a b =
      one_end (table_of P) (initial (table_of P) (map class vs)) n (events class hs) o p a
      (subst (λ (z : Property × List V × List (Happening V) × Ending). Ends (table_of z.0) (initial (table_of z.0) (map class z.1)) (events class z.2) z.3 p) (λ j. (e j, d j, h j, r j)) b)

  once : {o p : Outcome} → By o → By p → SameButSteps p o
  once (text_refused f r) (text_refused g s) = same_refused (same_flaw text f g r s)
  once (text_refused f r) (head_refused Q g w h) = absurd (not_both text Q f w r)
  once (text_refused f r) (constants_refused Q g w h c) = absurd (not_both text Q f w r)
  once (text_refused f r) (begin_refused Q ws w h c n) = absurd (not_both text Q f w r)
  once (text_refused f r) (judged Q ws gs m p w h c n s d) = absurd (not_both text Q f w r)
  once (head_refused P f w h) (text_refused g s) = absurd (not_both text P g w s)
  once (head_refused P f w h) (head_refused Q g v i) = same_refused (some_one f g (sym h ∙ i))
  once (head_refused P f w h) (constants_refused Q g v i c) = absurd (some_none (head_refusal number journal) f h i)
  once (head_refused P f w h) (begin_refused Q ws v i c n) = absurd (some_none (head_refusal number journal) f h i)
  once (head_refused P f w h) (judged Q ws gs m p v i c n s d) = absurd (some_none (head_refusal number journal) f h i)
  once (constants_refused P f w h b) (text_refused g s) = absurd (not_both text P g w s)
  once (constants_refused P f w h b) (head_refused Q g v i) = absurd (some_none (head_refusal number journal) g i h)
  once (constants_refused P f w h b) (constants_refused Q g v i c) = same_refused (err_one {V = V} f g (read_once b c))
  once (constants_refused P f w h b) (begin_refused Q ws v i c n) = absurd (ok_err ws f (read_once c b))
  once (constants_refused P f w h b) (judged Q ws gs m p v i c n s d) = absurd (ok_err ws f (read_once c b))
  once (begin_refused P vs w h b k) (text_refused g s) = absurd (not_both text P g w s)
  once (begin_refused P vs w h b k) (head_refused Q g v i) = absurd (some_none (head_refusal number journal) g i h)
  once (begin_refused P vs w h b k) (constants_refused Q g v i c) = absurd (ok_err vs g (read_once b c))
  once (begin_refused P vs w h b k) (begin_refused Q ws v i c n) = refl
  once (begin_refused P vs w h b k) (judged Q ws gs m p v i c n s d) = absurd (k (counted P Q vs ws (same_property text P Q w v) (ok_one ws vs (read_once c b)) n))
  once (judged P vs hs n o w h b k r a) (text_refused g s) = absurd (not_both text P g w s)
  once (judged P vs hs n o w h b k r a) (head_refused Q g v i) = absurd (some_none (head_refusal number journal) g i h)
  once (judged P vs hs n o w h b k r a) (constants_refused Q g v i c) = absurd (ok_err vs g (read_once b c))
  once (judged P vs hs n o w h b k r a) (begin_refused Q ws v i c j) = absurd (j (counted Q P ws vs (same_property text Q P v w) (ok_one vs ws (read_once b c)) k))
  once (judged P vs hs n o w h b k r a) (judged Q ws gs m p v i c l s d) =
      let e = r.only gs m s.so in
      one_day P Q vs ws hs gs n m o p (same_property text P Q w v) (ok_one ws vs (read_once c b)) e.0 e.1 a d

module _ (text journal constants : List ℕ) where
  by_kind : (b : Bool) (o p : Outcome) → cond b (ComesBy label_read 2 label_class text journal constants o) (ComesBy number_value 1 number_class text journal constants o) →
      cond b (ComesBy label_read 2 label_class text journal constants p) (ComesBy number_value 1 number_class text journal constants p) → SameButSteps p o
  by_kind true o p a b = once label_read 17 label_keeps 2 label_class text journal constants a b
  by_kind false o p a b = once number_value 9 (λ bytes. within_given bytes (groups_read 8 bytes) (within 8 bytes)) 1 number_class text journal constants a b

-- what comes out is judged
pub judged_so : (text journal constants : List ℕ) (o : Outcome) → Comes text journal constants o → Judged text journal constants o
judged_so text journal constants o a = record { comes = a; only = λ p b. by_kind text journal constants (slice_index journal 1 == 2) o p a b }

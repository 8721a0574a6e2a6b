-- Reading a text from its beginning to its end.
use Rattle.std.proofs.Common.{◌≡◌, ℕ, zero, suc, ◌+◌, ◌-◌, ◌<◌, ◌≤◌, Bool, true, false, cond, List, length, get_or, drop, IsErrAnd, Some, None, Ok, Err, Result, sym, refl, ap, subst, arith, length-drop, MatchResult}
use Rattle.std.proofs.lemmas.Bool.Decides.{nat_tests}
use Rattle.forms.specs.Bytes.{space, Every}
use Rattle.forms.specs.Forms.{Refused, Accepted}
use Rattle.forms.specs.Grammars.{form}
use Rattle.forms.specs.Steps.{Step, Carries}
use Rattle.forms.proofs.Driver.{end_accepted, end_refused}
use Rattle.forms.proofs.Laws.{apart, carries_step}
use Rattle.kinds.specs.Refusals.{text_number}
use Rattle.property.specs.Cursors.{origin}
use Rattle.property.specs.Grammar.{any_text, text, opens}
use Rattle.property.specs.Outcomes.{Explains}
use Rattle.property.specs.Reading.{Passed}
use Rattle.property.specs.Reads.{Gapped, Read, Halts, Finished}
use Rattle.property.specs.States.{State, nothing_read, at, margin, moved, closing, routed}
use Rattle.property.specs.Views.{slice, spelled}
use Rattle.property.specs.declared.reader.Flaw.{Flaw}
use Rattle.property.specs.declared.reader.Found.{Found}
use Rattle.property.specs.declared.text.Failure.{Failure}
use Rattle.property.specs.declared.text.Failure.TheVariants.{At}
use Rattle.property.proofs.Exits.{passes}
use Rattle.property.proofs.Lawfulness.{lawful}
use Rattle.property.proofs.Readings.{none_slice, lexed_byte}
use Rattle.property.proofs.Texts.{split, length_slice}

-- At the beginning.
pub carries_none : (t : List ℕ) (p : State) → p ≡ nothing_read → Carries any_text (form text p 0) t 0
carries_none t p e =
    subst (λ (q : State). Carries any_text (form text q 0) t 0) (sym e)
    (record {
      refused = λ n k x. let i : k ≡ 0 + k = omega arith in subst (λ (j : ℕ). Refused any_text t n j) i x;
      accepted = λ v x. x;
    })

-- After one piece more.
pub carries_on : (t : List ℕ) (p : State) (a : ℕ) (x : Found) → Carries any_text (form text p a) t a → Read p t a x
    → Carries any_text (form text (moved p (spelled t x.name) x.byte x.name.from) x.name.to) t x.name.to
carries_on t p a x c r =
    let l = r.low in
    let k : a ≤ x.name.to = omega arith in
    let i : x.name.to ≡ a + length (slice t a x.name.to) = (let j = length_slice t a x.name.to k r.high in omega arith) in
    carries_step any_text (form text p a) (form text (moved p (spelled t x.name) x.byte x.name.from) x.name.to) t a (slice t a x.name.to) x.name.to
    c (split t a x.name.to k) i r.step

-- After the spaces before the keyword.
margin_on : (t : List ℕ) (k : ℕ) → k < length t → space (get_or t k 0) ≡ true → Carries any_text (form text nothing_read k) t k
    → Carries any_text (form text nothing_read (k + 1)) t (k + 1)
margin_on t k h e c =
    let low : k ≤ k = omega arith in
    let high : k ≤ length t = omega arith in
    let none = none_slice t k in
    let g : Gapped true t k k =
    record { low = low; high = high; spaces = subst (Every space) (sym none) tt; none = λ _. none; plain = λ z. apart true refl z } in
    let b : get_or t k 0 ≡ 32 = grind (arith, nat_tests, e) in
    let s = passes t nothing_read k k g (k + 1) (lexed_byte t k h) (ap (opens origin) b) refl in
    let i : k + 1 ≡ k + length (slice t k (k + 1)) = (let j = length_slice t k (k + 1) (omega arith) (omega arith) in omega arith) in
    carries_step any_text (form text nothing_read k) (form text nothing_read (k + 1)) t k (slice t k (k + 1)) (k + 1) c (split t k (k + 1) (omega arith)) i
    (subst (λ (n : ℕ). Step (form text nothing_read k) (form text (at (margin n origin) nothing_read) (k + 1)) (slice t k (k + 1)) (drop (k + 1) t)) b s)

margin_to : (t : List ℕ) (m : ℕ) → m ≤ length t → ((k : ℕ) → k < m → space (get_or t k 0) ≡ true) → Carries any_text (form text nothing_read m) t m
margin_to t zero h f = carries_none t nothing_read refl
margin_to t (suc m) h f =
    let e : m + 1 ≡ suc m = omega arith in
    subst (λ (n : ℕ). Carries any_text (form text nothing_read n) t n) e
    (margin_on t m (omega arith) (f m (omega arith)) (margin_to t m (omega arith) (λ k l. f k (omega arith))))

pub carries_margin : (t : List ℕ) (p : State) (m : ℕ) → p ≡ nothing_read → Passed space t 0 m → Carries any_text (form text p m) t m
carries_margin t p m e x =
    subst (λ (q : State). Carries any_text (form text q m) t m) (sym e) (margin_to t m x.high (λ k l. x.every k (omega arith) l))

-- At a fault.
pub carries_halt : (t : List ℕ) (p : State) (a n x : ℕ) → Carries any_text (form text p a) t a → Halts p t a n x → Refused any_text t n x
carries_halt t p a n x c h =
    let l = h.low in
    let i : a + (x - a) ≡ x = omega arith in
    subst (λ (k : ℕ). Refused any_text t n k) i (c.refused n (x - a) h.refused)

module _ (t : List ℕ) (p : State) (a : ℕ) (c : Carries any_text (form text p a) t a) (e : Finished p t a) where
  closes : text.ends p (drop a t) ≡ Some (closing p)
  closes = ap (λ (b : Bool). cond b (Some (closing p)) None) e.ends

  -- At the end.
  pub ends_well : routed (closing p).statements ≡ true → Accepted any_text t (closing p)
  ends_well r = c.accepted (closing p) (end_accepted text lawful p a (drop a t) e.spaces e.none (closing p) closes (λ n l. apart (routed (closing p).statements) r l.1))

  pub ends_lost : a ≤ length t → routed (closing p).statements ≡ false → Refused any_text t 17 (length t)
  ends_lost h r =
      let i : a + length (drop a t) ≡ length t = omega (arith, length-drop a t) in
      subst (λ (k : ℕ). Refused any_text t 17 k) i
      (c.refused 17 (length (drop a t)) (end_refused text lawful p a (drop a t) e.spaces e.none (closing p) 17 closes (refl, r) (λ m l. let z = l.0 in omega arith)))

-- The exit of a `?` at a fault of the text.
pub outward : {T : Type 0} (r : Result T Failure) (P : T → Type 0) (t : List ℕ) (f : Flaw) → IsErrAnd r (λ y. y ≡ At f) → Refused any_text t (text_number f.reason) f.place
    → MatchResult r P (λ e. Explains t e)
outward (Ok x) P t f h s = absurd h
outward (Err y) P t f h s = subst (Explains t) (sym h) s

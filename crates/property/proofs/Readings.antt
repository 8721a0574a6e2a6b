-- What a reader finds, by place: the spaces before a piece, the piece, and every way to stop there.
use Rattle.std.proofs.Common.{◌≡◌, ℕ, ◌+◌, ◌-◌, ◌<◌, ◌≤◌, Bool, true, false, ◌&&◌, eqb, ltb, List, [], ◌∷◌, length, get_or, take, drop, sym, refl, ap, ◌∙◌, subst, inl, inr, arith}
use Rattle.std.proofs.lemmas.Bool.{cases_lt}
use Rattle.std.proofs.lemmas.Bool.Decides.{nat_tests}
use Rattle.forms.specs.Bytes.{space, digit, letter, wordy, Word, Decimal}
use Rattle.forms.specs.Pieces.{word, number, mark, head_of}
use Rattle.forms.proofs.Laws.{apart}
use Rattle.forms.proofs.Lexing.{letter_wordy}
use Rattle.property.specs.Reading.{Passed}
use Rattle.property.specs.Reads.{Gapped, Lexed}
use Rattle.property.specs.Views.{slice}
use Rattle.property.proofs.Texts.{split, every_slice, slice_cons, stops_drop}

pub none_slice : (t : List ℕ) (a : ℕ) → slice t a a ≡ []
none_slice t a = let z : a - a ≡ 0 = omega arith in ap (λ (n : ℕ). take n (drop a t)) z

pub gap_loose : (t : List ℕ) (a f : ℕ) → Passed space t a f → Gapped false t a f
gap_loose t a f x = record { low = x.low; high = x.high; spaces = every_slice space t a f x; none = λ e. apart false e refl; plain = λ _ h. x.stops h }

pub one_slice : (t : List ℕ) (f : ℕ) → f < length t → slice t f (f + 1) ≡ get_or t f 0 ∷ []
one_slice t f h = slice_cons t f (f + 1) (omega arith) (omega arith) ∙ ap (λ (x : List ℕ). get_or t f 0 ∷ x) (none_slice t (f + 1))

pub lexed_byte : (t : List ℕ) (f : ℕ) → f < length t → Lexed true t f (f + 1)
lexed_byte t f h =
    let l : f < f + 1 = omega arith in
    let u : f + 1 ≤ length t = omega arith in
    let e = one_slice t f h in
    record { piece = mark (get_or t f 0); low = l; high = u; stands = (split t f (f + 1) (omega arith), refl, e); spells = sym e; begins = refl }

pub lexed_mark : (t : List ℕ) (f : ℕ) → f < length t → space (get_or t f 0) ≡ false → wordy (get_or t f 0) ≡ false → Lexed false t f (f + 1)
lexed_mark t f h s w =
    let l : f < f + 1 = omega arith in
    let u : f + 1 ≤ length t = omega arith in
    let e = one_slice t f h in
    record { piece = mark (get_or t f 0); low = l; high = u; stands = (split t f (f + 1) (omega arith), tt, (e, s, w)); spells = sym e; begins = refl }

pub longer : (c : ℕ → Bool) (t : List ℕ) (f q : ℕ) → Passed c t f q → f < length t → c (get_or t f 0) ≡ true → f < q
longer c t f q x h e = elim (cases_lt f q) [
  | inl l ↦ l
  | inr l ↦ (let y = x.low in let z : q ≡ f = omega arith in apart (c (get_or t f 0)) e (ap (λ (n : ℕ). c (get_or t n 0)) (sym z) ∙ x.stops (omega arith)))
]

pub lexed_word : (t : List ℕ) (f q : ℕ) → Passed wordy t f q → f < length t → letter (get_or t f 0) ≡ true → Lexed false t f q
lexed_word t f q x h e =
    let l = longer wordy t f q x h (letter_wordy (get_or t f 0) e) in
    let i = slice_cons t f q l x.high in
    record {
      piece = word (slice t f q);
      low = l;
      high = x.high;
      stands = (split t f q x.low, tt, (refl, every_slice wordy t f q x, subst Word (sym i) e, stops_drop wordy t q x.stops));
      spells = refl;
      begins = ap (λ (w : List ℕ). head_of (word w)) i;
    }

plain_digits : (b : ℕ) (s : List ℕ) → (b ≡ 48 → s ≡ []) → Decimal (b ∷ s)
plain_digits b [] f = tt
plain_digits b (d ∷ s) f = λ e. let z = f e in let y : ◌≡◌ {A = ℕ} 0 1 = cc in omega arith

pub lexed_number : (t : List ℕ) (f q : ℕ) → Passed digit t f q → f < length t → digit (get_or t f 0) ≡ true → (get_or t f 0 ≡ 48 → q ≡ f + 1) → Lexed false t f q
lexed_number t f q x h e plain =
    let l = longer digit t f q x h e in
    let i = slice_cons t f q l x.high in
    record {
      piece = number (slice t f q);
      low = l;
      high = x.high;
      stands = (
        split t f q x.low,
        tt,
        (
          refl,
          every_slice digit t f q x,
          subst Decimal (sym i) (plain_digits (get_or t f 0) (slice t (f + 1) q) (λ z. ap (slice t (f + 1)) (plain z) ∙ none_slice t (f + 1))),
          stops_drop digit t q x.stops,
        ),
      );
      spells = refl;
      begins = ap (λ (w : List ℕ). head_of (number w)) i;
    }

pub not_padded : (b f q : ℕ) → f < q → eqb b 48 && ltb 1 (q - f) ≡ false → b ≡ 48 → q ≡ f + 1
not_padded b f q h e z = grind (arith, nat_tests)

pub wordless : (b : ℕ) → letter b ≡ false → digit b ≡ false → wordy b ≡ false
wordless b h k = grind (arith, nat_tests)

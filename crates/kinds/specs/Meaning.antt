-- What a label's reading means, and the laws of the kind of labels. Assumes nothing.
use Rattle.std.specs.Prelude.{◌≡◌, ℕ, suc, ◌+◌, ◌<◌, ◌≤◌, true, false, cond, ◌||◌, List, [], ◌∷◌, ◌++◌, length, take, drop, Ok, Err, Result, ◌==◌, ◌≢◌, nat_lt, slice_index, refl}
use Rattle.std.proofs.Common.{sym, ap, ap₂, subst, ◌∙◌, inl, inr, ⊎_elim, arith, length-take, length-append, take-append-drop}
use Rattle.std.proofs.Math.Seq.{take-append_seam}
use Rattle.std.proofs.lemmas.Bool.{or_cases, or_parts, cond_both, eqb-true, eqb-false, ltb-true, ltb-false, and_parts, both_ways}
use Rattle.kinds.specs.declared.refusal.Fault.{Fault}
use Rattle.kinds.specs.declared.label.Label.{Label}
use Rattle.kinds.specs.Refusals.{value_cut, value_bad}
use Rattle.kinds.specs.Readings.{Reading}
use Rattle.kinds.specs.Numbers.{number_read, Numbered}
use Rattle.kinds.specs.Labels.{label_byte, all_label, label_of, no_label, padded, label_read, sized_read, text_read, Fitting, Spelt, Short, Labelled}
use Rattle.kinds.specs.Groups.{Bytes, numbered, only, read_last, Single, single, whole_read, within}
use Rattle.kinds.specs.Texts.{read_bad, read_cut, read_fault, read_long, read_whole}

-- The length as a number between 1 and 16, and the one byte that it takes.
abbrev Sized : List ℕ → ℕ → ℕ → Type 0
Sized bytes n k = Fitting n × (k ≡ 1) × (bytes ≡ n ∷ drop k bytes)

sized : (bytes : List ℕ) (n k : ℕ) → Ok (n, k) ≡ number_read bytes → (n == 0 || nat_lt 16 n) ≡ false → Sized bytes n k
sized bytes n k e t =
    let p = or_parts (n == 0) (nat_lt 16 n) t in
    let pos : 1 ≤ n = omega (arith, eqb-false n 0 p.0) in
    let few : n ≤ 16 = ltb-false 16 n p.1 in
    let s : Single bytes (Ok (n, k)) = subst (Single bytes) (sym e) (single bytes) in
    let q = s (omega arith) in
    ((pos, few), q.0, rw q.0 q.1)

text_means : (bytes : List ℕ) (n k : ℕ) → Sized bytes n k → Labelled bytes (text_read n k (drop k bytes))
text_means bytes n k s =
    let rest = drop k bytes in
    cond_both (nat_lt (length rest) n) (Err value_cut) (cond (all_label (take n rest)) (Ok (label_of (take n rest), k + n)) (Err value_bad)) (Labelled bytes)
    (λ short. inr (inr (refl, (n, rest, s.0, s.2, ltb-true _ _ short))))
    (λ long.
    let len : length (take n rest) ≡ n = simp length-take (omega (arith, ltb-false _ _ long)) in
    let whole : bytes ≡ length (take n rest) ∷ (take n rest ++ drop n rest) = rw (len, take-append-drop n rest) s.2 in
    let spelt : Spelt bytes (take n rest) = ((omega (arith, len, s.0.0), omega (arith, len, s.0.1)), (drop n rest, whole)) in
    cond_both (all_label (take n rest)) (Ok (label_of (take n rest), k + n)) (Err value_bad) (Labelled bytes)
    (λ good. (take n rest, spelt, good, refl, omega (arith, len, s.1)))
    (λ bad. inr (inl (refl, inr (take n rest, spelt, bad)))))

means : (bytes : List ℕ) (r : Result (ℕ × ℕ) Fault) → r ≡ number_read bytes → Numbered bytes r → Labelled bytes (sized_read bytes r)
means bytes (Err f) e m = inl m
means bytes (Ok p) e m =
    cond_both (p.0 == 0 || nat_lt 16 p.0) (Err value_bad) (text_read p.0 p.1 (drop p.1 bytes)) (Labelled bytes)
    (λ t. inr (inl (refl, inl (p.0, m.0, ⊎_elim (λ z. inl (eqb-true _ _ z)) (λ l. inr (ltb-true _ _ l)) (or_cases _ _ t)))))
    (λ t. text_means bytes p.0 p.1 (sized bytes p.0 p.1 e t))

pub labelled : (bytes : List ℕ) → Bytes bytes → Labelled bytes (label_read bytes)
unfolding label_read
labelled bytes h = means bytes (number_read bytes) refl (numbered bytes h)

-- What is read is a label that is spelt, whatever the numbers in the list.
abbrev pub Good : List ℕ → Result (Label × ℕ) Fault → Type 0
Good bytes (Ok p) = Labelled bytes (Ok p)
Good bytes (Err f) = Unit {0}

good_of : (bytes : List ℕ) (r : Result (Label × ℕ) Fault) → Labelled bytes r → Good bytes r
good_of bytes (Ok p) m = m
good_of bytes (Err f) m = tt

good_sized : (bytes : List ℕ) (r : Result (ℕ × ℕ) Fault) → r ≡ number_read bytes → Good bytes (sized_read bytes r)
good_sized bytes (Err f) e = tt
good_sized bytes (Ok p) e =
    cond_both (p.0 == 0 || nat_lt 16 p.0) (Err value_bad) (text_read p.0 p.1 (drop p.1 bytes)) (Good bytes)
    (λ _. tt)
    (λ t. good_of bytes _ (text_means bytes p.0 p.1 (sized bytes p.0 p.1 e t)))

pub good : (bytes : List ℕ) → Good bytes (label_read bytes)
unfolding label_read
good bytes = good_sized bytes (number_read bytes) refl

-- What a label's reading keeps to, whatever the numbers in the list.
text_keeps : (bytes : List ℕ) (n k : ℕ) → Sized bytes n k → Reading 17 bytes (text_read n k (drop k bytes))
text_keeps bytes n k s =
    let rest = drop k bytes in
    let whole : length bytes ≡ suc (length rest) = ap length s.2 in
    cond_both (nat_lt (length rest) n) (Err value_cut) (cond (all_label (take n rest)) (Ok (label_of (take n rest), k + n)) (Err value_bad)) (Reading 17 bytes)
    (λ short. inr (inr (inl refl)))
    (λ long.
    let fits : n ≤ length rest = ltb-false _ _ long in
    cond_both (all_label (take n rest)) (Ok (label_of (take n rest), k + n)) (Err value_bad) (Reading 17 bytes)
    (λ good. (omega (arith, s.1), omega (arith, s.1, s.0.1), omega (arith, s.1)))
    (λ bad. inr (inr (inr refl))))

sized_keeps : (bytes : List ℕ) (r : Result (ℕ × ℕ) Fault) → r ≡ number_read bytes → Reading 9 bytes r → Reading 17 bytes (sized_read bytes r)
sized_keeps bytes (Err f) e m = m
sized_keeps bytes (Ok p) e m =
    cond_both (p.0 == 0 || nat_lt 16 p.0) (Err value_bad) (text_read p.0 p.1 (drop p.1 bytes)) (Reading 17 bytes)
    (λ t. inr (inr (inr refl)))
    (λ t. text_keeps bytes p.0 p.1 (sized bytes p.0 p.1 e t))

pub label_keeps : (bytes : List ℕ) → Reading 17 bytes (label_read bytes)
unfolding label_read
label_keeps bytes = sized_keeps bytes (number_read bytes) refl (within 8 bytes)

-- A label that is read is not nothing.
first_byte : (x : ℕ) (text : List ℕ) → slice_index (padded (x ∷ text)) 0 ≡ x
first_byte x text = refl

spelt_some : (text : List ℕ) → 1 ≤ length text → all_label text ≡ true → no_label ≢ label_of text
spelt_some [] pos t e = omega arith
spelt_some (x ∷ text) pos t e =
    let z : 0 ≡ x = ap (λ (l : Label). slice_index l.text 0) e ∙ first_byte x text in
    both_ways (label_byte x) (ap label_byte (sym z)) (and_parts _ _ t).0

pub label_unread : (bytes : List ℕ) (k : ℕ) → label_read bytes ≢ Ok (no_label, k)
label_unread bytes k e =
    let g : Labelled bytes (Ok (no_label, k)) = subst (Good bytes) e (good bytes) in
    spelt_some g.0 g.1.0.0 g.2 g.3

-- Nothing else has the meaning of a label's reading.
one_byte : (n : ℕ) (rest : List ℕ) → n < 128 → Ok (n, 1) ≡ number_read (n ∷ rest)
one_byte n rest lt = sym (read_last 8 (n ∷ rest) (omega arith) lt)

module _ (bytes text rest : List ℕ) (fits : Fitting (length text)) (here : bytes ≡ length text ∷ (text ++ rest)) where
  spelt_length : Ok (length text, 1) ≡ number_read bytes
  spelt_length = one_byte (length text) (text ++ rest) (omega (arith, fits.1)) ∙ ap number_read (sym here)

  spelt_text : take (length text) (drop 1 bytes) ≡ text
  spelt_text = ap (λ bs. take (length text) (drop 1 bs)) here ∙ take-append_seam text rest

  spelt_long : length text ≤ length (drop 1 bytes)
  spelt_long = let e : length (drop 1 bytes) ≡ length text + length rest = ap (λ bs. length (drop 1 bs)) here ∙ length-append text rest in omega arith

  spelt_read : all_label text ≡ true → Ok (label_of text, suc (length text)) ≡ label_read bytes
  spelt_read good =
      let n : 1 + length text ≡ suc (length text) = omega arith in
      let r = read_whole bytes (length text) 1 spelt_length (λ z. omega (arith, fits.0)) fits.1 spelt_long (ap all_label spelt_text ∙ good) in
      ap₂ (λ (t : List ℕ) (k : ℕ). Ok (label_of t, k)) (sym spelt_text) (sym n) ∙ r

  spelt_bad : all_label text ≡ false → Err value_bad ≡ label_read bytes
  spelt_bad bad = read_bad bytes (length text) 1 spelt_length (λ z. omega (arith, fits.0)) fits.1 spelt_long (ap all_label spelt_text ∙ bad)

short_read : (bytes : List ℕ) → Short bytes → Err value_cut ≡ label_read bytes
short_read bytes s =
    let few : s.0 ≤ 16 = s.2.1 in
    let read : Ok (s.0, 1) ≡ number_read bytes = one_byte s.0 s.1 (omega arith) ∙ ap number_read (sym s.3) in
    let short : length (drop 1 bytes) < s.0 = rw (ap (drop 1) s.3) s.4 in
    read_cut bytes s.0 1 read (λ z. omega (arith, s.2.0)) few short

pub label_only : (bytes : List ℕ) → Bytes bytes → (r : Result (Label × ℕ) Fault) → Labelled bytes r → r ≡ label_read bytes
label_only bytes h (Ok p) m =
    ap₂ (λ (l : Label) (k : ℕ). Ok (l, k)) m.3 m.4 ∙ spelt_read bytes m.0 m.1.1.0 m.1.0 m.1.1.1 m.2
label_only bytes h (Err f) (inl m) = read_fault bytes f (only bytes h (Err f) m)
label_only bytes h (Err f) (inr (inl m)) =
    ap Err m.0 ∙ ⊎_elim (λ u. read_long bytes u.0 _ (sym (whole_read bytes u.0 u.1)) u.2) (λ u. spelt_bad bytes u.0 u.1.1.0 u.1.0 u.1.1.1 u.2) m.1
label_only bytes h (Err f) (inr (inr m)) = ap Err m.0 ∙ short_read bytes m.1

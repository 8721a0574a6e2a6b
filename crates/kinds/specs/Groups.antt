-- The steps of a number's reading, and how large what it reads can be. Assumes nothing.
use Rattle.std.specs.Prelude.{◌≡◌, ℕ, zero, suc, ◌+◌, ◌-◌, ◌*◌, ◌/◌, ◌%◌, ◌^◌, ◌<◌, ◌≤◌, ◌⊎◌, List, [], ◌∷◌, ◌++◌, length, take, drop, Ok, Err, Result, ◌==◌, ◌≢◌, nat_lt, slice_index, refl}
use Rattle.std.proofs.Common.{sym, ap, subst, ◌∙◌, inl, inr, ⊎_elim, pow-suc, add-one, arith, length-append}
use Rattle.std.proofs.Math.Nat.{pow-le-pow_right}
use Rattle.std.proofs.lemmas.Slice.{first_rest}
use Rattle.std.proofs.lemmas.Bool.{cases_lt, cond_both, ne_eqb, lt-ltb, le-ltb, ltb-true, ltb-false, eqb-false}
use Rattle.kinds.specs.declared.refusal.Fault.{Fault}
use Rattle.kinds.specs.Refusals.{number_of, number_cut, number_overlong}
use Rattle.kinds.specs.Readings.{Reading}
use Rattle.kinds.specs.Numbers.{groups_read, number_read, number_given, lifted, form, encode, Whole, Inside, Numbered}

-- What follows the first byte, as a slice pattern names it.
abbrev pub after : List ℕ → List ℕ
after bs = take (length bs - 1) (drop 1 bs)

pub read_end : (more : ℕ) (bs : List ℕ) → length bs < 1 → groups_read more bs ≡ Err number_cut
unfolding groups_read
read_end more [] h = refl
read_end more (b ∷ bs) h = absurd (omega arith)

pub read_last : (more : ℕ) (bs : List ℕ) → 0 < length bs → slice_index bs 0 < 128 → groups_read more bs ≡ Ok (slice_index bs 0, 1)
unfolding groups_read
read_last more [] h lt = absurd (omega arith)
read_last zero (b ∷ bs) h lt = rw (lt-ltb b 128 lt)
read_last (suc more) (b ∷ bs) h lt = rw (lt-ltb b 128 lt)

pub read_most : (bs : List ℕ) → 0 < length bs → 128 ≤ slice_index bs 0 → groups_read 0 bs ≡ Err number_overlong
unfolding groups_read
read_most [] h le = absurd (omega arith)
read_most (b ∷ bs) h le = rw (le-ltb b 128 le)

pub read_next : (more : ℕ) (b : ℕ) (bs : List ℕ) → 128 ≤ b → groups_read (suc more) (b ∷ bs) ≡ lifted b (groups_read more bs)
unfolding groups_read
read_next more b bs le = rw (le-ltb b 128 le)

pub read_more : (more : ℕ) (bs : List ℕ) → 0 < length bs → 128 ≤ slice_index bs 0 → 0 < more → groups_read more bs ≡ lifted (slice_index bs 0) (groups_read (more - 1) (after bs))
read_more zero bs h le lt = absurd (omega arith)
read_more (suc more) bs h le lt =
    let e : suc more - 1 ≡ more = omega arith in
    rw e (ap (groups_read (suc more)) (first_rest bs 0 h) ∙ read_next more (slice_index bs 0) (after bs) le)

-- What a reading gives: a number below 128 ^ most, and its form at the front of the bytes; or else what the bytes lack.
abbrev pub Inner : ℕ → List ℕ → Type 0
Inner more bs = (n : ℕ) × (n < 128 ^ suc more) × (0 < n) × ((b : ℕ) × (rest : List ℕ) × (bs ++ (b ∷ rest) ≡ form more n))

abbrev pub Sound : ℕ → List ℕ → Result (ℕ × ℕ) Fault → Type 0
Sound more bs (Ok p) = (p.0 < 128 ^ suc more) × ((rest : List ℕ) × (bs ≡ form more p.0 ++ rest)) × (p.1 ≡ length (form more p.0))
Sound more bs (Err f) = ((f ≡ number_cut) × Inner more bs) ⊎ (f ≡ number_overlong)

abbrev pub Bytes : List ℕ → Type 0
Bytes bs = (i : ℕ) → slice_index bs i < 256

form_one : (more n : ℕ) → n < 128 → form more n ≡ n ∷ []
unfolding form
form_one zero n lt = refl
form_one (suc more) n lt = rw (lt-ltb n 128 lt)

form_next : (more b n : ℕ) → 128 ≤ b → b < 256 → 0 < n → form (suc more) (b % 128 + 128 * n) ≡ b ∷ form more n
unfolding form
form_next more b n le lt pos =
    let low : 128 ≤ b % 128 + 128 * n = omega arith in
    let digit : 128 + (b % 128 + 128 * n) % 128 ≡ b = omega arith in
    let high : (b % 128 + 128 * n) / 128 ≡ n = omega arith in
    rw (le-ltb (b % 128 + 128 * n) 128 low, digit, high)

-- One group more in front of what was read.
lift_sound : (more b : ℕ) (bs : List ℕ) (r : Result (ℕ × ℕ) Fault) → 128 ≤ b → b < 256 → Sound more bs r → Sound (suc more) (b ∷ bs) (lifted b r)
lift_sound more b bs (Err f) le lt (inr e) = inr e
lift_sound more b bs (Err f) le lt (inl s) =
    let n = s.1.0 in
    let below : b % 128 + 128 * n < 128 ^ suc (suc more) = rw (pow-suc 128 (suc more)) (omega (arith, s.1.1)) in
    let whole = ap (λ (xs : List ℕ). b ∷ xs) s.1.3.2 ∙ sym (form_next more b n le lt s.1.2) in
    inl (s.0, (b % 128 + 128 * n, below, omega (arith, s.1.2), (s.1.3.0, s.1.3.1, whole)))
lift_sound more b bs (Ok p) le lt s =
    cond_both (p.0 == 0) (Err number_overlong) (Ok (b % 128 + 128 * p.0, p.1 + 1)) (Sound (suc more) (b ∷ bs))
    (λ e. inr refl)
    (λ e.
    let pos : 0 < p.0 = omega (arith, eqb-false p.0 0 e) in
    let next = form_next more b p.0 le lt pos in
    let below : b % 128 + 128 * p.0 < 128 ^ suc (suc more) = rw (pow-suc 128 (suc more)) (omega (arith, s.0)) in
    (below, (s.1.0, ap (λ (xs : List ℕ). b ∷ xs) s.1.1 ∙ ap (λ (xs : List ℕ). xs ++ s.1.0) (sym next)), add-one p.1 ∙ ap suc s.2 ∙ ap length (sym next)))

one_below : (more n : ℕ) → n < 128 → n < 128 ^ suc more
one_below zero n lt = lt
one_below (suc more) n lt = rw (pow-suc 128 (suc more)) (omega (arith, one_below more n lt))

pub sound : (more : ℕ) (bs : List ℕ) → Bytes bs → Sound more bs (groups_read more bs)
unfolding groups_read
sound more [] h = inl (refl, (1, one_below more 1 (omega arith), omega arith, (1, [], sym (form_one more 1 (omega arith)))))
sound zero (b ∷ bs) h =
    cond_both (nat_lt b 128) (Ok (b, 1)) (Err number_overlong) (Sound zero (b ∷ bs))
    (λ e. let lt = ltb-true b 128 e in (lt, (bs, ap (λ (xs : List ℕ). xs ++ bs) (sym (form_one zero b lt))), ap length (sym (form_one zero b lt))))
    (λ e. inr refl)
sound (suc more) (b ∷ bs) h =
    cond_both (nat_lt b 128) (Ok (b, 1)) (lifted b (groups_read more bs)) (Sound (suc more) (b ∷ bs))
    (λ e. let lt = ltb-true b 128 e in (one_below (suc more) b lt, (bs, ap (λ (xs : List ℕ). xs ++ bs) (sym (form_one (suc more) b lt))), ap length (sym (form_one (suc more) b lt))))
    (λ e. lift_sound more b bs (groups_read more bs) (ltb-false b 128 e) (h 0) (sound more bs (λ i. h (suc i))))

high_below : (more n : ℕ) → n < 128 ^ suc (suc more) → n / 128 < 128 ^ suc more
high_below more n lt = let p = rw (pow-suc 128 (suc more)) at lt in omega (arith, p)

-- The form of a number is read back, whatever follows it.
pub round : (more n : ℕ) (rest : List ℕ) → n < 128 ^ suc more → groups_read more (form more n ++ rest) ≡ Ok (n, length (form more n))
unfolding groups_read form
round zero n rest lt = rw (lt-ltb n 128 lt)
round (suc more) n rest lt = ⊎_elim
    (λ small. rw (form_one (suc more) n small) (rw (lt-ltb n 128 small)))
    (λ large.
    let e : groups_read more (form more (n / 128) ++ rest) ≡ Ok (n / 128, length (form more (n / 128))) = round more (n / 128) rest (high_below more n lt) in
    let some : n / 128 ≡ 0 → ⊥ = λ z. omega arith in
    let value : (128 + n % 128) % 128 + 128 * (n / 128) ≡ n = omega arith in
    let last : lifted (128 + n % 128) (Ok (n / 128, length (form more (n / 128)))) ≡ Ok (n, suc (length (form more (n / 128)))) =
    rw (ne_eqb (n / 128) 0 some, value, add-one) in
    let top : 128 ≤ 128 + n % 128 = omega arith in
    rw (le-ltb n 128 large) (read_next more (128 + n % 128) (form more (n / 128) ++ rest) top ∙ ap (lifted (128 + n % 128)) e ∙ last))
    (cases_lt n 128)

long : (x n : ℕ) (bs : List ℕ) (b : ℕ) (rest : List ℕ) → x ∷ (bs ++ (b ∷ rest)) ≢ n ∷ []
long x n bs b rest e = let h = simp length-append at (ap length e) in omega (arith, h)

-- Bytes that end inside the form of a number are cut.
pub inner_cut : (more n : ℕ) (bs : List ℕ) (b : ℕ) (rest : List ℕ) → n < 128 ^ suc more → bs ++ (b ∷ rest) ≡ form more n → groups_read more bs ≡ Err number_cut
unfolding groups_read form
inner_cut more n [] b rest lt e = refl
inner_cut zero n (x ∷ bs) b rest lt e = absurd (long x n bs b rest e)
inner_cut (suc more) n (x ∷ bs) b rest lt e = ⊎_elim
    (λ small. absurd (long x n bs b rest (e ∙ form_one (suc more) n small)))
    (λ large.
    let f : x ∷ (bs ++ (b ∷ rest)) ≡ (128 + n % 128) ∷ form more (n / 128) = rw (le-ltb n 128 large) at e in
    let head : x ≡ 128 + n % 128 = cc in
    let tail : bs ++ (b ∷ rest) ≡ form more (n / 128) = cc in
    read_next more x bs (omega arith) ∙ ap (lifted x) (inner_cut more (n / 128) bs b rest (high_below more n lt) tail))
    (cases_lt n 128)

pub length_form : (more n : ℕ) → (1 ≤ length (form more n)) × (length (form more n) ≤ suc more)
unfolding form
length_form zero n = (omega arith, omega arith)
length_form (suc more) n =
    cond_both (nat_lt n 128) (n ∷ []) ((128 + n % 128) ∷ form more (n / 128)) (λ xs. (1 ≤ length xs) × (length xs ≤ suc (suc more)))
    (λ _. (omega arith, omega arith))
    (λ _. (omega arith, omega (arith, (length_form more (n / 128)).1)))

pub bytes_after : (bs : List ℕ) → 0 < length bs → Bytes bs → Bytes (after bs)
bytes_after bs h f i = subst Bytes (first_rest bs 0 h) f (suc i)

-- What comes after a first group is small.
pub high_small : (more : ℕ) (bs : List ℕ) (n k : ℕ) → 0 < more → more ≤ 8 → Bytes bs → Ok (n, k) ≡ groups_read (more - 1) bs → (n < 2 ^ 56) × (k ≤ 9)
high_small more bs n k pos le h e =
    let s : Sound (more - 1) bs (Ok (n, k)) = subst (Sound (more - 1) bs) (sym e) (sound (more - 1) bs h) in
    let most : 128 ^ suc (more - 1) ≤ 128 ^ 8 = pow-le-pow_right {n = 128} (omega arith) {i = suc (more - 1)} {j = 8} (omega arith) in
    (omega (arith, s.0, most), omega (arith, s.2, (length_form (more - 1) n).1))

-- The meaning of a number's reading, and that nothing else has it.
cut_or_overlong : (r : Result (ℕ × ℕ) Fault) → r ≡ Err number_cut → r ≢ Err number_overlong
cut_or_overlong r d e =
    let f : number_cut ≡ number_overlong = cc in
    let z : ◌≡◌ {A = ℕ} 1 2 = ap (λ (g : Fault). number_of g.reason) f in
    omega arith

ok_or_err : (r : Result (ℕ × ℕ) Fault) (p : ℕ × ℕ) (f : Fault) → r ≡ Ok p → r ≢ Err f
ok_or_err r p f d e = let z : ◌≡◌ {A = ℕ} 0 1 = cc in omega arith

pub whole_read : (bs : List ℕ) (n : ℕ) → Whole bs n → groups_read 8 bs ≡ Ok (n, length (encode n))
unfolding encode
whole_read bs n w = ap (groups_read 8) w.1.1 ∙ round 8 n w.1.0 w.0

pub inside_read : (bs : List ℕ) → Inside bs → groups_read 8 bs ≡ Err number_cut
unfolding encode
inside_read bs i = inner_cut 8 i.0 bs i.2.0 i.2.1 i.1 i.2.2

numbered_from : (bs : List ℕ) (r : Result (ℕ × ℕ) Fault) → groups_read 8 bs ≡ r → Sound 8 bs r → Numbered bs r
unfolding encode
numbered_from bs (Ok p) e s = ((s.0, s.1), s.2)
numbered_from bs (Err f) e (inl s) = inl (s.0, (s.1.0, s.1.1, s.1.3))
numbered_from bs (Err f) e (inr o) =
    let over : groups_read 8 bs ≡ Err number_overlong = e ∙ ap Err o in
    inr (o, (λ i. cut_or_overlong _ (inside_read bs i) over), λ n w. ok_or_err _ _ _ (whole_read bs n w) over)

pub numbered : (bs : List ℕ) → Bytes bs → Numbered bs (groups_read 8 bs)
numbered bs h = numbered_from bs (groups_read 8 bs) refl (sound 8 bs h)

only_from : (bs : List ℕ) (r s : Result (ℕ × ℕ) Fault) → groups_read 8 bs ≡ r → Sound 8 bs r → Numbered bs s → s ≡ r
unfolding encode
only_from bs r (Ok p) e _ m = ap (λ k. Ok (p.0, k)) m.1 ∙ sym (whole_read bs p.0 m.0) ∙ e
only_from bs r (Err f) e _ (inl m) = ap Err m.0 ∙ sym (inside_read bs m.1) ∙ e
only_from bs (Ok p) (Err f) e s (inr m) = absurd (m.2 p.0 (s.0, s.1))
only_from bs (Err g) (Err f) e (inl s) (inr m) = absurd (m.1 (s.1.0, s.1.1, s.1.3))
only_from bs (Err g) (Err f) e (inr s) (inr m) = ap Err (m.0 ∙ sym s)

pub only : (bs : List ℕ) → Bytes bs → (s : Result (ℕ × ℕ) Fault) → Numbered bs s → s ≡ groups_read 8 bs
only bs h s m = only_from bs (groups_read 8 bs) s refl (sound 8 bs h) m

-- What a number's reading keeps to.
lift_within : (more b : ℕ) (bs : List ℕ) (r : Result (ℕ × ℕ) Fault) → Reading (suc more) bs r → Reading (suc (suc more)) (b ∷ bs) (lifted b r)
lift_within more b bs (Err f) t = t
lift_within more b bs (Ok p) t =
    cond_both (p.0 == 0) (Err number_overlong) (Ok (b % 128 + 128 * p.0, p.1 + 1)) (Reading (suc (suc more)) (b ∷ bs))
    (λ _. inr (inl refl))
    (λ _. (omega arith, omega (arith, t.1), omega (arith, t.2)))

pub within : (more : ℕ) (bs : List ℕ) → Reading (suc more) bs (groups_read more bs)
unfolding groups_read
within more [] = inl refl
within zero (b ∷ bs) =
    cond_both (nat_lt b 128) (Ok (b, 1)) (Err number_overlong) (Reading 1 (b ∷ bs)) (λ _. (omega arith, omega arith, omega arith)) (λ _. inr (inl refl))
within (suc more) (b ∷ bs) =
    cond_both (nat_lt b 128) (Ok (b, 1)) (lifted b (groups_read more bs)) (Reading (suc (suc more)) (b ∷ bs))
    (λ _. (omega arith, omega arith, omega arith))
    (λ _. lift_within more b bs (groups_read more bs) (within more bs))

-- More groups make a larger number.
abbrev pub Grown : Result (ℕ × ℕ) Fault → Type 0
Grown (Ok p) = (1 ≤ p.1) × ((p.1 ≡ 1) ⊎ (128 ^ (p.1 - 1) ≤ p.0))
Grown (Err f) = Unit {0}

lift_grown : (b : ℕ) (r : Result (ℕ × ℕ) Fault) → Grown r → Grown (lifted b r)
lift_grown b (Err f) g = tt
lift_grown b (Ok p) g =
    cond_both (p.0 == 0) (Err number_overlong) (Ok (b % 128 + 128 * p.0, p.1 + 1)) Grown
    (λ _. tt)
    (λ e.
    let some : 0 < p.0 = omega (arith, eqb-false p.0 0 e) in
    let one : suc (p.1 - 1) ≡ p.1 + 1 - 1 = omega (arith, g.0) in
    let step : 128 ^ (p.1 + 1 - 1) ≡ 128 ^ (p.1 - 1) * 128 = ap (λ k. 128 ^ k) (sym one) ∙ pow-suc 128 (p.1 - 1) in
    let high : 128 ^ (p.1 - 1) ≤ p.0 = ⊎_elim (λ (q : p.1 ≡ 1). let z : p.1 - 1 ≡ 0 = omega arith in rw z (omega arith)) (λ q. q) g.1 in
    (omega arith, inr (rw step (omega arith))))

grown : (more : ℕ) (bs : List ℕ) → Grown (groups_read more bs)
unfolding groups_read
grown more [] = tt
grown zero (b ∷ bs) = cond_both (nat_lt b 128) (Ok (b, 1)) (Err number_overlong) Grown (λ _. (omega arith, inl refl)) (λ _. tt)
grown (suc more) (b ∷ bs) =
    cond_both (nat_lt b 128) (Ok (b, 1)) (lifted b (groups_read more bs)) Grown (λ _. (omega arith, inl refl)) (λ _. lift_grown b (groups_read more bs) (grown more bs))

-- A number below 128 ^ most takes at most so many bytes.
pub short_number : (most : ℕ) (bs : List ℕ) (n k : ℕ) → 0 < most → n < 128 ^ most → number_read bs ≡ Ok (n, k) → k ≤ most
short_number most bs n k pos lt e =
    let g : Grown (Ok (n, k)) = subst Grown e (grown 8 bs) in
    ⊎_elim
    (λ (q : k ≡ 1). omega arith)
    (λ (q : 128 ^ (k - 1) ≤ n). ⊎_elim
    (λ (h : most < k). let le : 128 ^ most ≤ 128 ^ (k - 1) = pow-le-pow_right {n = 128} (omega arith) {i = most} {j = k - 1} (omega arith) in absurd (omega arith))
    (λ (h : k ≤ most). h)
    (cases_lt most k))
    g.1

-- A number below 128 takes one byte, which is the number.
abbrev pub Single : List ℕ → Result (ℕ × ℕ) Fault → Type 0
Single bs (Ok p) = p.0 < 128 → (p.1 ≡ 1) × (bs ≡ p.0 ∷ drop 1 bs)
Single bs (Err f) = Unit {0}

lift_single : (b : ℕ) (bs : List ℕ) (r : Result (ℕ × ℕ) Fault) → Single (b ∷ bs) (lifted b r)
lift_single b bs (Err f) = tt
lift_single b bs (Ok p) =
    cond_both (p.0 == 0) (Err number_overlong) (Ok (b % 128 + 128 * p.0, p.1 + 1)) (Single (b ∷ bs))
    (λ _. tt)
    (λ e lt. absurd (eqb-false p.0 0 e (omega (arith, lt))))

pub single : (bs : List ℕ) → Single bs (groups_read 8 bs)
unfolding groups_read
single [] = tt
single (b ∷ bs) =
    cond_both (nat_lt b 128) (Ok (b, 1)) (lifted b (groups_read 7 bs)) (Single (b ∷ bs)) (λ _ _. (refl, refl)) (λ _. lift_single b bs (groups_read 7 bs))

pub within_given : (bs : List ℕ) (r : Result (ℕ × ℕ) Fault) → Reading 9 bs r → Reading 9 bs (number_given r)
within_given bs (Ok p) t = t
within_given bs (Err f) t = t

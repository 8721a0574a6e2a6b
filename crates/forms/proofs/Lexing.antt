-- A text has one next piece.
use Rattle.std.proofs.Common.{◌≡◌, ℕ, Bool, true, false, List, [], ◌∷◌, ◌++◌, sym, refl, ap, ◌∙◌, subst, inl, inr, arith}
use Rattle.std.proofs.lemmas.Bool.{cases_Bool}
use Rattle.std.proofs.lemmas.Bool.Decides.{nat_tests}
use Rattle.forms.specs.Bytes.{space, digit, letter, wordy, Every, Stops}
use Rattle.forms.specs.Pieces.{Piece, word, number, mark, head_of, Stands, Next}
use Rattle.forms.proofs.Laws.{apart, head_eq, tail_eq, run_unique}

pub letter_space : (b : ℕ) → letter b ≡ true → space b ≡ false
letter_space b h = grind (arith, nat_tests)

pub digit_space : (b : ℕ) → digit b ≡ true → space b ≡ false
digit_space b h = grind (arith, nat_tests)

pub digit_letter : (b : ℕ) → digit b ≡ true → letter b ≡ false
digit_letter b h = grind (arith, nat_tests)

pub letter_wordy : (b : ℕ) → letter b ≡ true → wordy b ≡ true
letter_wordy b h = grind (arith, nat_tests)

pub digit_wordy : (b : ℕ) → digit b ≡ true → wordy b ≡ true
digit_wordy b h = grind (arith, nat_tests)

pub digit_stops : (r : List ℕ) → Stops wordy r → Stops digit r
digit_stops [] h = tt
digit_stops (b ∷ r) h = elim (cases_Bool (digit b)) [ inl e ↦ apart (wordy b) (digit_wordy b e) h | inr e ↦ e ]

pub every_right : (c : ℕ → Bool) (a b : List ℕ) → Every c (a ++ b) → Every c b
every_right c [] b h = h
every_right c (x ∷ a) b h = every_right c a b h.1

pub every_both : (c : ℕ → Bool) (a b : List ℕ) → Every c a → Every c b → Every c (a ++ b)
every_both c [] b h k = k
every_both c (x ∷ a) b h k = (h.0, every_both c a b h.1 k)

-- The first byte of a piece is no space.
pub begins : (x : Piece) (b r : List ℕ) → Stands x b r → (c : ℕ) × (u : List ℕ) × (b ≡ c ∷ u) × (head_of x ≡ c) × (space c ≡ false)
begins (word []) b r h = absurd h.2
begins (word (c ∷ w)) b r h = (c, w, h.0, refl, letter_space c h.2)
begins (number []) b r h = absurd h.2
begins (number (c ∷ d)) b r h = (c, d, h.0, refl, digit_space c h.1.0)
begins (mark m) b r h = (m, [], h.0, refl, h.1)

-- The kinds of pieces begin with different bytes.
word_number : {A : Type 0} (w d b b' r r' : List ℕ) → Stands (word w) b r → Stands (number d) b' r' → b ++ r ≡ b' ++ r' → A
word_number [] d b b' r r' h k e = absurd h.2
word_number (c ∷ w) [] b b' r r' h k e = absurd k.2
word_number (c ∷ w) (c' ∷ d) b b' r r' h k e =
    let h0 = h.0 in
    let k0 = k.0 in
    let q : c ≡ c' = cc in apart (letter c') (subst (λ (x : ℕ). letter x ≡ true) q h.2) (digit_letter c' k.1.0)

word_mark : {A : Type 0} (w : List ℕ) (m : ℕ) (b b' r r' : List ℕ) → Stands (word w) b r → Stands (mark m) b' r' → b ++ r ≡ b' ++ r' → A
word_mark [] m b b' r r' h k e = absurd h.2
word_mark (c ∷ w) m b b' r r' h k e =
    let h0 = h.0 in
    let k0 = k.0 in
    let q : c ≡ m = cc in apart (wordy m) (letter_wordy m (subst (λ (x : ℕ). letter x ≡ true) q h.2)) k.2

number_mark : {A : Type 0} (d : List ℕ) (m : ℕ) (b b' r r' : List ℕ) → Stands (number d) b r → Stands (mark m) b' r' → b ++ r ≡ b' ++ r' → A
number_mark [] m b b' r r' h k e = absurd h.2
number_mark (c ∷ w) m b b' r r' h k e =
    let h0 = h.0 in
    let k0 = k.0 in
    let q : c ≡ m = cc in apart (wordy m) (digit_wordy m (subst (λ (x : ℕ). digit x ≡ true) q h.1.0)) k.2

pub stands_unique : (x y : Piece) (b b' r r' : List ℕ) → Stands x b r → Stands y b' r' → b ++ r ≡ b' ++ r' → (x ≡ y) × (b ≡ b') × (r ≡ r')
stands_unique (word w) (word w') b b' r r' h k e =
    let h0 = h.0 in
    let k0 = k.0 in
    let f : w ++ r ≡ w' ++ r' = cc in
    let u = run_unique wordy w w' r r' h.1 k.1 h.3 k.3 f in
    let u0 = u.0 in
    let z : b ≡ b' = cc in (ap word u0, z, u.1)
stands_unique (number w) (number w') b b' r r' h k e =
    let h0 = h.0 in
    let k0 = k.0 in
    let f : w ++ r ≡ w' ++ r' = cc in
    let u = run_unique digit w w' r r' h.1 k.1 h.3 k.3 f in
    let u0 = u.0 in
    let z : b ≡ b' = cc in (ap number u0, z, u.1)
stands_unique (mark m) (mark m') b b' r r' h k e =
    let h0 = h.0 in
    let k0 = k.0 in
    let f : m ∷ r ≡ m' ∷ r' = cc in
    let q = head_eq m m' r r' f in
    let z : b ≡ b' = cc in (ap mark q, z, tail_eq m m' r r' f)
stands_unique (word w) (number d) b b' r r' h k e = word_number w d b b' r r' h k e
stands_unique (number d) (word w) b b' r r' h k e = word_number w d b' b r' r k h (sym e)
stands_unique (word w) (mark m) b b' r r' h k e = word_mark w m b b' r r' h k e
stands_unique (mark m) (word w) b b' r r' h k e = word_mark w m b' b r' r k h (sym e)
stands_unique (number d) (mark m) b b' r r' h k e = number_mark d m b b' r r' h k e
stands_unique (mark m) (number d) b b' r r' h k e = number_mark d m b' b r' r k h (sym e)

-- After the spaces no space comes.
pub piece_stops : (x : Piece) (b r : List ℕ) → Stands x b r → Stops space (b ++ r)
piece_stops x b r h =
    let y = begins x b r h in
    subst (λ (u : List ℕ). Stops space (u ++ r)) (sym y.2) y.4

pub next_unique : (t : Bool) (x y : Piece) (s sp sp' b b' r r' : List ℕ) → Next t x s sp b r → Next t y s sp' b' r'
    → (x ≡ y) × (sp ≡ sp') × (b ≡ b') × (r ≡ r')
next_unique false x y s sp sp' b b' r r' h k =
    let u = run_unique space sp sp' (b ++ r) (b' ++ r') h.1 k.1 (piece_stops x b r h.2) (piece_stops y b' r' k.2) (sym h.0 ∙ k.0) in
    let z = stands_unique x y b b' r r' h.2 k.2 u.1 in
    (z.0, u.0, z.1, z.2)
next_unique true (word w) y s sp sp' b b' r r' h k = absurd h
next_unique true (number w) y s sp sp' b b' r r' h k = absurd h
next_unique true (mark m) (word w) s sp sp' b b' r r' h k = absurd k
next_unique true (mark m) (number w) s sp sp' b b' r r' h k = absurd k
next_unique true (mark m) (mark m') s sp sp' b b' r r' h k =
    let h0 = h.0 in
    let h1 = h.1 in
    let h2 = h.2 in
    let k0 = k.0 in
    let k1 = k.1 in
    let k2 = k.2 in
    let f : m ∷ r ≡ m' ∷ r' = cc in
    let q = head_eq m m' r r' f in
    let z : b ≡ b' = cc in
    let y : sp ≡ sp' = cc in (ap mark q, y, z, tail_eq m m' r r' f)

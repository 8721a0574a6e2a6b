-- Labels and the zeros behind their text. Assumes nothing.
use Rattle.std.specs.Prelude.{◌≡◌, ℕ, zero, suc, ◌+◌, ◌-◌, ◌<◌, ◌≤◌, List, [], ◌∷◌, ◌++◌, map, length, take, drop, replicate, ◌==◌, ◌≢◌, slice_index, refl}
use Rattle.std.proofs.Common.{sym, ap, ◌∙◌, ⊎_elim, arith}
use mathlib.Core.HLevel.{is_prop→PathP}
use Rattle.std.proofs.Math.Nat.{ℕ_set}
use Rattle.std.proofs.Math.Seq.{take-append-add}
use Rattle.std.proofs.lemmas.List.{drop-replicate, take-replicate, length-append, length-map, length-replicate}
use Rattle.std.proofs.lemmas.Bool.{cases_Bool, ne_eqb, eqb-true, eqb-false}
use Rattle.std.proofs.lemmas.Bool.Decides.{nat_tests}
use Rattle.std.specs.Char.{to_ascii_lowercase}
use Rattle.kinds.specs.declared.label.Label.{Label}
use Rattle.kinds.specs.Labels.{kept, label_class, no_label, padded, padded_sixteen, trimmed}

-- A label is known by its bytes.
pub label_same : (a b : Label) → a.text ≡ b.text → a ≡ b
label_same a b e =
    λ i. record { text = e i; sixteen = is_prop→PathP (λ j. length (e j) ≡ 16) (λ j. ℕ_set _ _) a.sixteen b.sixteen i }

-- A text of at most sixteen bytes, and the zeros that are left.
pub padded_is : (text : List ℕ) → length text ≤ 16 → text ++ drop (length text) (replicate 16 0) ≡ padded text
padded_is text few =
    let n : length text + (16 - length text) ≡ 16 = omega arith in
    let zeros : drop (length text) (replicate 16 0) ≡ take (16 - length text) (replicate 16 0) =
    drop-replicate (length text) 16 0 ∙ sym (take-replicate (16 - length text) 16 0 (omega arith)) in
    ap (λ zs. text ++ zs) zeros ∙ sym (take-append-add text (replicate 16 0) (16 - length text)) ∙ ap (λ k. take k (text ++ replicate 16 0)) n

pub sixteen_from : (xs text : List ℕ) → xs ≡ padded text → length xs ≡ 16
sixteen_from xs text e = ap length e ∙ padded_sixteen text

pub lower_zero : (x : ℕ) → to_ascii_lowercase x ≡ 0 → x ≡ 0
lower_zero x e = grind (arith, nat_tests)

-- Trimming and the case of letters do not meet.
kept_lower : (x : ℕ) (ys : List ℕ) → map to_ascii_lowercase (kept x ys) ≡ kept (to_ascii_lowercase x) (map to_ascii_lowercase ys)
kept_lower x (y ∷ ys) = refl
kept_lower x [] =
    ⊎_elim
    (λ t. let z = eqb-true x 0 t in rw z refl)
    (λ f. let some = ne_eqb (to_ascii_lowercase x) 0 (λ e. eqb-false x 0 f (lower_zero x e)) in rw (f, some) refl)
    (cases_Bool (x == 0))

trim_lower : (xs : List ℕ) → map to_ascii_lowercase (trimmed xs) ≡ trimmed (map to_ascii_lowercase xs)
trim_lower [] = refl
trim_lower (x ∷ xs) = kept_lower x (trimmed xs) ∙ ap (kept (to_ascii_lowercase x)) (trim_lower xs)

-- What is trimmed away is zeros.
kept_back : (x : ℕ) (ys t : List ℕ) (n : ℕ) → ys ≡ t ++ replicate n 0 → (m : ℕ) × (x ∷ ys ≡ kept x t ++ replicate m 0)
kept_back x ys (c ∷ t) n e = (n, ap (λ zs. x ∷ zs) e)
kept_back x ys [] n e =
    ⊎_elim
    (λ t. let z = eqb-true x 0 t in (suc n, rw z (ap (λ zs. 0 ∷ zs) e)))
    (λ f. (n, rw f (ap (λ zs. x ∷ zs) e)))
    (cases_Bool (x == 0))

trim_back : (xs : List ℕ) → (m : ℕ) × (xs ≡ trimmed xs ++ replicate m 0)
trim_back [] = (0, refl)
trim_back (x ∷ xs) = let b = trim_back xs in kept_back x xs (trimmed xs) b.0 b.1

trim_one : (xs ys : List ℕ) → length xs ≡ length ys → trimmed xs ≡ trimmed ys → xs ≡ ys
trim_one xs ys l e =
    let a = trim_back xs in
    let b = trim_back ys in
    let la : length xs ≡ length (trimmed xs) + a.0 = ap length a.1 ∙ simp (length-append, length-replicate) in
    let lb : length ys ≡ length (trimmed ys) + b.0 = ap length b.1 ∙ simp (length-append, length-replicate) in
    let lt : length (trimmed xs) ≡ length (trimmed ys) = ap length e in
    let n : a.0 ≡ b.0 = omega arith in
    a.1 ∙ ap (λ t. t ++ replicate a.0 0) e ∙ ap (λ k. trimmed ys ++ replicate k 0) n ∙ sym b.1

-- Two labels are of one class exactly where their bytes differ only in the case of letters.
pub class_from : (a b : Label) → map to_ascii_lowercase a.text ≡ map to_ascii_lowercase b.text → label_class a ≡ label_class b
class_from a b e = trim_lower a.text ∙ ap trimmed e ∙ sym (trim_lower b.text)

pub class_to : (a b : Label) → label_class a ≡ label_class b → map to_ascii_lowercase a.text ≡ map to_ascii_lowercase b.text
class_to a b e =
    let l : length (map to_ascii_lowercase a.text) ≡ length (map to_ascii_lowercase b.text) = length-map a.text to_ascii_lowercase ∙ a.sixteen ∙ sym b.sixteen ∙ sym (length-map b.text to_ascii_lowercase) in
    trim_one (map to_ascii_lowercase a.text) (map to_ascii_lowercase b.text) l (sym (trim_lower a.text) ∙ e ∙ trim_lower b.text)

-- Only nothing has the empty class.
map_none : (xs : List ℕ) → map to_ascii_lowercase xs ≡ [] → xs ≡ []
map_none [] e = refl
map_none (x ∷ xs) e = let z : ◌≡◌ {A = ℕ} 0 1 = cc in absurd (omega arith)

pub label_lone : (l : Label) → label_class l ≡ [] → l ≡ no_label
label_lone l e = label_same l no_label (trim_one l.text no_label.text l.sixteen (map_none (trimmed l.text) e))

-- Where every byte is a zero nothing is left.
pub trim_none : (xs : List ℕ) → ((k : ℕ) → k < length xs → slice_index xs k ≡ 0) → trimmed xs ≡ []
trim_none [] zeros = refl
trim_none (x ∷ xs) zeros =
    let first : x ≡ 0 = zeros 0 (omega arith) in
    ap (kept x) (trim_none xs (λ k l. zeros (suc k) (omega arith))) ∙ rw first refl

-- Up to the last byte that is no zero all is left.
pub trim_last : (xs : List ℕ) (i : ℕ) → i < length xs → (slice_index xs i ≢ 0) → ((k : ℕ) → i < k → k < length xs → slice_index xs k ≡ 0) → take (suc i) xs ≡ trimmed xs
trim_last [] i l some zeros = absurd (omega arith)
trim_last (x ∷ xs) zero l some zeros =
    let none = trim_none xs (λ k l. zeros (suc k) (omega arith) (omega arith)) in
    sym (ap (kept x) none ∙ rw (ne_eqb x 0 some) refl)
trim_last (x ∷ []) (suc i) l some zeros = absurd (omega arith)
trim_last (x ∷ y ∷ xs) (suc i) l some zeros =
    let rest : y ∷ take i xs ≡ trimmed (y ∷ xs) = trim_last (y ∷ xs) i (omega arith) some (λ k a b. zeros (suc k) (omega arith) (omega arith)) in
    ap (kept x) rest

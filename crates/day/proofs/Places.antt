-- What stands behind the last line's end, byte by byte. Assumes nothing.
use Rattle.std.proofs.Common.{◌≡◌, ◌≢◌, ℕ, ◌+◌, ◌<◌, ◌≤◌, Bool, cond, not, List, [], ◌∷◌, ◌++◌, reverse, length, drop, take, get_or, false, ap, sym, ◌∙◌, arith}
use Rattle.std.specs.List.{before_first}
use Rattle.std.proofs.lemmas.List.{reverse-append, take_more, drop-append-le, length-take}
use Rattle.std.proofs.lemmas.List.Sums.{take_while-cons}
use Rattle.std.proofs.Math.ListN.{drop_of_length-le}
use Rattle.std.proofs.lemmas.Bool.{ne_eqb}
use Rattle.day.specs.Explaining.{ends, since_end}

-- Nothing stands behind a byte that ends a line.
pub since_end-end : (xs : List ℕ) → since_end (xs ++ (10 ∷ [])) ≡ []
since_end-end xs = ap (λ (z : List ℕ). reverse (before_first ends z)) (reverse-append xs (10 ∷ []))

-- Another byte stands behind the same end.
pub since_end-more : (xs : List ℕ) (b : ℕ) → ends b ≡ false → since_end (xs ++ (b ∷ [])) ≡ since_end xs ++ (b ∷ [])
since_end-more xs b e =
    let one = ap (λ (z : List ℕ). reverse (before_first ends z)) (reverse-append xs (b ∷ [])) in
    let two = take_while-cons (λ (x : ℕ). not (ends x)) b (reverse xs) ∙ ap (λ (t : Bool). cond (not t) (b ∷ before_first ends (reverse xs)) []) e in
    one ∙ (ap (λ (z : List ℕ). reverse z) two ∙ reverse-append (b ∷ []) (before_first ends (reverse xs)))

-- After one more byte, which ends a line.
pub begins_behind : (bytes : List ℕ) (i : ℕ) → i < length bytes → get_or bytes i 0 ≡ 10 → drop (i + 1) (take (i + 1) bytes) ≡ since_end (take (i + 1) bytes)
begins_behind bytes i h e =
    let more = take_more bytes i 0 h ∙ ap (λ (b : ℕ). take i bytes ++ (b ∷ [])) e in
    drop_of_length-le (take (i + 1) bytes) (omega (arith, length-take (i + 1) bytes)) ∙ sym (ap (λ (z : List ℕ). since_end z) more ∙ since_end-end (take i bytes))

-- After one more byte, which ends none.
pub begins_before : (bytes : List ℕ) (begin i : ℕ) → i < length bytes → begin ≤ i → drop begin (take i bytes) ≡ since_end (take i bytes)
    → get_or bytes i 0 ≢ 10 → drop begin (take (i + 1) bytes) ≡ since_end (take (i + 1) bytes)
begins_before bytes begin i h low so ne =
    let more = take_more bytes i 0 h in
    let other : ends (get_or bytes i 0) ≡ false = ne_eqb (get_or bytes i 0) 10 ne in
    let fits : begin ≤ length (take i bytes) = omega (arith, length-take i bytes) in
    ap (λ (z : List ℕ). drop begin z) more ∙ (drop-append-le begin (take i bytes) (get_or bytes i 0 ∷ []) fits ∙ (ap (λ (z : List ℕ). z ++ (get_or bytes i 0 ∷ [])) so ∙ sym (ap (λ (z : List ℕ). since_end z) more ∙ since_end-more (take i bytes) (get_or bytes i 0) other)))

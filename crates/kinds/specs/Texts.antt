-- The steps of a label's reading. Assumes nothing.
use Rattle.std.specs.Prelude.{◌≡◌, ℕ, ◌+◌, ◌<◌, ◌≤◌, true, false, ◌||◌, ◌⊎◌, List, length, take, drop, Ok, Err, ◌==◌, ◌≢◌, nat_lt}
use Rattle.std.proofs.Common.{ap, ⊎_elim}
use Rattle.std.proofs.lemmas.Bool.{or_left, or_right, or_from, eq-eqb, ne_eqb, lt-ltb, le-ltb}
use Rattle.kinds.specs.declared.refusal.Fault.{Fault}
use Rattle.kinds.specs.Refusals.{value_cut, value_bad}
use Rattle.kinds.specs.Numbers.{number_read}
use Rattle.kinds.specs.Labels.{all_label, label_of, label_read, sized_read, text_read}

-- The steps of a label's reading.
pub read_fault : (bytes : List ℕ) (f : Fault) → Err f ≡ number_read bytes → Err f ≡ label_read bytes
unfolding label_read
read_fault bytes f e = ap (sized_read bytes) e

pub read_long : (bytes : List ℕ) (n k : ℕ) → Ok (n, k) ≡ number_read bytes → (n ≡ 0) ⊎ (16 < n) → Err value_bad ≡ label_read bytes
unfolding label_read
read_long bytes n k e w =
    let t : (n == 0 || nat_lt 16 n) ≡ true = ⊎_elim (λ z. or_left _ _ (eq-eqb n 0 z)) (λ l. or_right _ _ (lt-ltb 16 n l)) w in
    let step = ap (sized_read bytes) e in
    rw t at step

pub read_sized : (bytes : List ℕ) (n k : ℕ) → Ok (n, k) ≡ number_read bytes → (n ≢ 0) → n ≤ 16 → text_read n k (drop k bytes) ≡ label_read bytes
unfolding label_read
read_sized bytes n k e nz le =
    let t : (n == 0 || nat_lt 16 n) ≡ false = or_from _ _ (ne_eqb n 0 nz) (le-ltb 16 n le) in
    let step = ap (sized_read bytes) e in
    rw t at step

pub read_cut : (bytes : List ℕ) (n k : ℕ) → Ok (n, k) ≡ number_read bytes → (n ≢ 0) → n ≤ 16 → length (drop k bytes) < n → Err value_cut ≡ label_read bytes
read_cut bytes n k e nz le short =
    let step = read_sized bytes n k e nz le in
    rw (lt-ltb (length (drop k bytes)) n short) at step

pub read_bad : (bytes : List ℕ) (n k : ℕ) → Ok (n, k) ≡ number_read bytes → (n ≢ 0) → n ≤ 16 → n ≤ length (drop k bytes) → all_label (take n (drop k bytes)) ≡ false → Err value_bad ≡ label_read bytes
read_bad bytes n k e nz le long bad =
    let step = read_sized bytes n k e nz le in
    rw (le-ltb (length (drop k bytes)) n long, bad) at step

pub read_whole : (bytes : List ℕ) (n k : ℕ) → Ok (n, k) ≡ number_read bytes → (n ≢ 0) → n ≤ 16 → n ≤ length (drop k bytes) → all_label (take n (drop k bytes)) ≡ true → Ok (label_of (take n (drop k bytes)), k + n) ≡ label_read bytes
read_whole bytes n k e nz le long good =
    let step = read_sized bytes n k e nz le in
    rw (le-ltb (length (drop k bytes)) n long, good) at step

-- What a reader has passed, and where it stopped.
use Rattle.std.specs.Prelude.{◌≡◌, ℕ, ◌<◌, ◌≤◌, Bool, true, false, List, length, slice_index}

-- From place p of the text t up to place q stand all the bytes of the class that come next.
pub record Passed (c : ℕ → Bool) (t : List ℕ) (p q : ℕ) : Type 0 where
  pub low : p ≤ q
  pub high : q ≤ length t
  pub every : (k : ℕ) → p ≤ k → k < q → c (slice_index t k) ≡ true
  pub stops : q < length t → c (slice_index t q) ≡ false

-- A watch has a place in memory, since the values of its kind are small.
use Rattle.std.proofs.Common.{ℕ, ◌+◌, ◌-◌, ◌*◌, ◌%◌, ◌^◌, ◌<◌, ◌≤◌, max, mul-le-mul_left, arith, lit<, lit≤}
use native.Mathlib.Nat.{mod-le}
use prog.Memory.{up}

plus : {x y X Y : ℕ} → x ≤ X → y ≤ Y → x + y ≤ X + Y
plus h k = omega arith

larger : {x y X : ℕ} → x ≤ X → y ≤ X → max x y ≤ X
larger h k = omega arith

times : (n : ℕ) {x X : ℕ} → x ≤ X → n * x ≤ n * X
times n h = mul-le-mul_left n h

-- an end that is rounded up to a multiple of k
rounded : {k e K E : ℕ} → k ≤ K → e ≤ E → up k e ≤ E + K
rounded {k} {e} h i = let z = mod-le (k - e % k) k in omega arith

below : {x X : ℕ} → x ≤ X → X < 2 ^ 63 → x < 2 ^ 63
below h k = omega arith

module _ (a s : ℕ) where
  -- the alignments and sizes of a watch's structs, over values of alignment a and size s, as they lie in one another
  abbrev event_align : ℕ
  event_align = max 4 (max a 1)

  abbrev event_size : ℕ
  event_size = up event_align (up a 4 + 6 * s)

  abbrev window_align : ℕ
  window_align = max event_align 8

  abbrev window_size : ℕ
  window_size = up window_align (up 8 (up event_align 0 + 4 * event_size) + 8)

  abbrev state_align : ℕ
  state_align = max 8 (max window_align 1)

  abbrev state_size : ℕ
  state_size = up state_align (up window_align 1072 + window_size)

  abbrev rows_align : ℕ
  rows_align = max state_align 1

  abbrev rows_size : ℕ
  rows_size = up rows_align (up state_align 0 + state_size)

  abbrev pub watch_size : ℕ
  watch_size = up (max rows_align 8) (up 8 (up rows_align 0 + rows_size) + 32)

  module _ (h : a ≤ 2 ^ 32) (k : s ≤ 2 ^ 32) where
    eight : 8 ≤ 2 ^ 32
    eight = lit≤ tt

    v : event_align ≤ 2 ^ 32
    v = larger (lit≤ tt) (larger h (lit≤ tt))

    w : window_align ≤ 2 ^ 32
    w = larger v eight

    t : state_align ≤ 2 ^ 32
    t = larger eight (larger w (lit≤ tt))

    r : rows_align ≤ 2 ^ 32
    r = larger t (lit≤ tt)

    same : (n : ℕ) → n ≤ n
    same n = omega arith

    pub watch_fits : watch_size < 2 ^ 63
    watch_fits =
        below (rounded (larger r eight) (plus (rounded eight (plus (rounded r (same 0)) (rounded r (plus (rounded t (same 0))
        (rounded t (plus (rounded w (same 1072)) (rounded w (plus (rounded eight (plus (rounded v (same 0)) (times 4 (rounded v (plus (rounded h (same 4)) (times 6 k)))))) (same 8))))))))) (same 32)))
        (lit< tt)

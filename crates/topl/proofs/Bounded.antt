-- Fewer events are judged than the book has entries.
use Rattle.std.proofs.Common.{◌≡◌, ℕ, zero, suc, ◌+◌, ◌-◌, ◌<◌, ◌≤◌, List, [], ◌∷◌, ◌++◌, length, drop, refl, subst, add-one, arith, length-drop}
use mathlib.Core.List.Memᴰ
use Rattle.topl.specs.Lists.{◌∈◌}
use Rattle.topl.specs.Table.{Event, Statement, Table, any_event, count_from, implied}
use Rattle.topl.specs.Runs.{Configuration, Move, Reaches, Registers, at_start, fares, first_configuration, onward, pass, passes, reached, so_far}
use Rattle.topl.specs.Deciding.{count, sum}
use Rattle.topl.specs.Theorems.{Bounded}
use Rattle.topl.proofs.Enumerate.{enumerates}

implied_in : (n : ℕ) (ts : List Statement) → (65, implied) ∈ count_from n ts
implied_in n [] = Memᴰ.head refl
implied_in n (t ∷ ts) = Memᴰ.tail (implied_in (suc n) ts)

one_fares : (s : Registers) (es : List Event) → 0 < length es → fares (any_event ∷ []) s es ≡ passes s
one_fares s [] h = absurd (omega arith)
one_fares s (e ∷ es) h = refl

-- the start is reached at every position
stays_at_start : (p : ℕ) (P : Table) (k : Registers) (L : List Event) → p ≤ length L → Reaches P k (so_far L) p (first_configuration k)
stays_at_start zero P k L h = ([], at_start)
stays_at_start (suc p) P k L h =
    let r = stays_at_start p P k L (omega arith) in
    let e : length (drop p L) ≡ length L - p = length-drop p L in
    let m : Move P (so_far L) p (first_configuration k) 65 (p + 1) (first_configuration k) = pass (65, implied) k (implied_in 1 P.statements, refl) (one_fares k (drop p L) (omega arith)) in
    (r.0 ++ (65 ∷ []), onward {path = r.0} r.1 (subst (λ (q : ℕ). Move P (so_far L) p (first_configuration k) 65 q (first_configuration k)) (add-one p) m))

one_there : {c : Configuration} (cs : List Configuration) → c ∈ cs → 1 ≤ length cs
one_there [] m = absurd (Memᴰ.not-nil m)
one_there (d ∷ cs) m = omega arith

filled : (n : ℕ) (f : ℕ → ℕ) → ((p : ℕ) → p < n → 1 ≤ f p) → n ≤ sum n f
filled zero f h = omega arith
filled (suc n) f h = let a : n ≤ sum n f = filled n f (λ p i. h p (omega arith)) in let b : 1 ≤ f n = h n (omega arith) in omega arith

pub bounded : Bounded
bounded P k cap book L S =
    let a : suc (length L) ≤ sum (suc (length L)) (count P k (so_far L)) =
    filled (suc (length L)) (count P k (so_far L)) (λ p h. one_there (reached P k (so_far L) p) (((enumerates P k (so_far L) p).2 (first_configuration k)).1 (stays_at_start p P k L (omega arith)))) in
    let b : sum (suc (length L)) (count P k (so_far L)) ≤ book = S.2 in
    omega arith

-- The need counts configurations, each once at its position.
use Rattle.std.proofs.Common.{◌≡◌, ℕ, zero, suc, ◌+◌, ◌<◌, ◌≤◌, Bool, true, false, cond, leb, ◌⊎◌, List, [], ◌∷◌, ◌++◌, map, length, sym, refl, ◌∙◌, subst, ap₂, inl, inr, ⊎_elim, arith, length-append, le-leb}
use mathlib.Core.List.Memᴰ
use lib.ListN.{length-map}
use borrow.Author.Tests.{lt-leb}
use Rattle.std.proofs.lemmas.Bool.{cases_lt}
use Rattle.topl.specs.Lists.{Distinct, ◌∈◌}
use Rattle.topl.specs.Runs.{Configuration, reached}
use Rattle.topl.specs.Deciding.{count, need, sum}
use Rattle.topl.specs.Theorems.{Needed, Needs}
use Rattle.topl.proofs.Persist.{reach_bound}
use Rattle.topl.proofs.Enumerate.{enumerates}

-- configurations with a position
abbrev placed_at : ℕ → Configuration → ℕ × Configuration
placed_at n c = (n, c)

-- what f lists at each of n positions, with the position
abbrev pairs : ℕ → (ℕ → List Configuration) → List (ℕ × Configuration)
pairs zero f = []
pairs (suc n) f = pairs n f ++ map (placed_at n) (f n)

pairs_length : (n : ℕ) (f : ℕ → List Configuration) → length (pairs n f) ≡ sum n (λ q. length (f q))
pairs_length zero f = refl
pairs_length (suc n) f = length-append (pairs n f) (map (placed_at n) (f n)) ∙ ap₂ ◌+◌ (pairs_length n f) (length-map (f n) (placed_at n))

pairs_sound : {x : ℕ × Configuration} (n : ℕ) (f : ℕ → List Configuration) → x ∈ pairs n f → (x.0 < n) × (x.1 ∈ f x.0)
pairs_sound zero f m = absurd (Memᴰ.not-nil m)
pairs_sound {x} (suc n) f m = go (pairs_sound n f) (Memᴰ.append_cases (pairs n f) m)
  where
    go : (x ∈ pairs n f → (x.0 < n) × (x.1 ∈ f x.0)) → (x ∈ pairs n f) ⊎ (x ∈ map (placed_at n) (f n)) → (x.0 < suc n) × (x.1 ∈ f x.0)
    go below (inl h) = let b = below h in let l : x.0 < n = b.0 in (omega arith, b.1)
    go below (inr h) =
        let r = Memᴰ.of_map (placed_at n) (f n) h in
        subst (λ (z : ℕ × Configuration). (z.0 < suc n) × (z.1 ∈ f z.0)) r.2 (omega arith, r.1)

pairs_complete : (n : ℕ) (f : ℕ → List Configuration) (q : ℕ) (c : Configuration) → q < n → c ∈ f q → (q, c) ∈ pairs n f
pairs_complete zero f q c l m = absurd (omega arith)
pairs_complete (suc n) f q c l m = go (λ h. pairs_complete n f q c h m) (cases_lt q n)
  where
    go : (q < n → (q, c) ∈ pairs n f) → (q < n) ⊎ (n ≤ q) → (q, c) ∈ pairs (suc n) f
    go below (inl h) = Memᴰ.append_left (map (placed_at n) (f n)) (below h)
    go below (inr h) =
        let e : q ≡ n = omega arith in
        Memᴰ.append_right (pairs n f) (subst (λ (z : ℕ). placed_at z c ∈ map (placed_at n) (f n)) (sym e) (Memᴰ.map (placed_at n) (subst (λ (z : ℕ). c ∈ f z) e m)))

-- lists without repeats that share nothing make one
distinct_append : {X : Type 0} (xs ys : List X) → Distinct xs → Distinct ys → ((x : X) → x ∈ xs → ¬ (x ∈ ys)) → Distinct (xs ++ ys)
distinct_append [] ys d e f = e
distinct_append (x ∷ xs) ys d e f =
    (λ m. ⊎_elim (λ h. d.0 h) (λ h. f x (Memᴰ.head refl) h) (Memᴰ.append_cases xs m), distinct_append xs ys d.1 e (λ z h. f z (Memᴰ.tail h)))

distinct_paired : (n : ℕ) (cs : List Configuration) → Distinct cs → Distinct (map (placed_at n) cs)
distinct_paired n [] d = tt
distinct_paired n (c ∷ cs) d =
    (λ m. let r = Memᴰ.of_map (placed_at n) cs m in d.0 (subst (λ (z : Configuration). z ∈ cs) (λ j. (r.2 j).1) r.1), distinct_paired n cs d.1)

pairs_distinct : (n : ℕ) (f : ℕ → List Configuration) → ((q : ℕ) → Distinct (f q)) → Distinct (pairs n f)
pairs_distinct zero f d = tt
pairs_distinct (suc n) f d =
    distinct_append (pairs n f) (map (placed_at n) (f n)) (pairs_distinct n f d) (distinct_paired n (f n) (d n))
    (λ x h k.
    let r = Memᴰ.of_map (placed_at n) (f n) k in
    let l : x.0 < n = (pairs_sound n f h).0 in
    let e : n ≡ x.0 = (λ j. (r.2 j).0) in
    omega arith)

pub needs_are_counted : Needs
unfolding need
needs_are_counted P k before now p b l = (pairs (suc (length now.events)) f, pairs_distinct (suc (length now.events)) f once_each, λ x. (there x, back x), sym (pairs_length (suc (length now.events)) f ∙ sums (suc (length now.events))))
  where
    f : ℕ → List Configuration
    f q = cond (leb q p) (reached P k now q) (reached P k before q)

    once_each : (q : ℕ) → Distinct (f q)
    once_each q = go (leb q p)
      where
        go : (b : Bool) → Distinct (cond b (reached P k now q) (reached P k before q))
        go true = (enumerates P k now q).1
        go false = (enumerates P k before q).1

    one : (q : ℕ) → length (f q) ≡ cond (leb q p) (count P k now q) (count P k before q)
    one q = go (leb q p)
      where
        go : (b : Bool) → length (cond b (reached P k now q) (reached P k before q)) ≡ cond b (count P k now q) (count P k before q)
        go true = refl
        go false = refl

    sums : (n : ℕ) → sum n (λ q. length (f q)) ≡ sum n (λ q. cond (leb q p) (count P k now q) (count P k before q))
    sums zero = refl
    sums (suc n) = ap₂ ◌+◌ (sums n) (one n)

    there : (x : ℕ × Configuration) → x ∈ pairs (suc (length now.events)) f → Needed P k before now p x
    there x m = go (cases_lt p x.0) (pairs_sound (suc (length now.events)) f m).1
      where
        go : (p < x.0) ⊎ (x.0 ≤ p) → x.1 ∈ cond (leb x.0 p) (reached P k now x.0) (reached P k before x.0) → Needed P k before now p x
        go (inl h) i = inr (h, ((enumerates P k before x.0).2 x.1).0 (subst (λ (b : Bool). x.1 ∈ cond b (reached P k now x.0) (reached P k before x.0)) (lt-leb x.0 p h) i))
        go (inr h) i = inl (h, ((enumerates P k now x.0).2 x.1).0 (subst (λ (b : Bool). x.1 ∈ cond b (reached P k now x.0) (reached P k before x.0)) (le-leb x.0 p h) i))

    back : (x : ℕ × Configuration) → Needed P k before now p x → x ∈ pairs (suc (length now.events)) f
    back x (inl h) =
        let i : x.0 ≤ length now.events = reach_bound h.1.1 in
        pairs_complete (suc (length now.events)) f x.0 x.1 (omega arith)
        (subst (λ (b : Bool). x.1 ∈ cond b (reached P k now x.0) (reached P k before x.0)) (sym (le-leb x.0 p h.0)) (((enumerates P k now x.0).2 x.1).1 h.1))
    back x (inr h) =
        let i : x.0 ≤ length before.events = reach_bound h.1.1 in
        pairs_complete (suc (length now.events)) f x.0 x.1 (omega arith)
        (subst (λ (b : Bool). x.1 ∈ cond b (reached P k now x.0) (reached P k before x.0)) (sym (lt-leb x.0 p h.0)) (((enumerates P k before x.0).2 x.1).1 h.1))

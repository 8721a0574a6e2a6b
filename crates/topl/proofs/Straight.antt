-- What a straight automaton accepts, letter by letter.
use Rattle.std.proofs.Common.{◌≡◌, ℕ, suc, ◌+◌, ◌≤◌, ◌⊎◌, List, [], ◌∷◌, length, sym, refl, ap, ◌∙◌, subst, subst₂, inl, inr, ⊎_elim, arith}
use mathlib.Core.List.Memᴰ
use Rattle.topl.specs.Lists.{◌∈◌}
use Rattle.topl.specs.Automata.{Accepts, Automaton, Conf, Guarded, Sat, Tuple, Walk, act, go, links, stay, straight}

abbrev pub Fires : Tuple → List Guarded → List Tuple → Tuple → Type 0
Fires s [] w s' = (w ≡ []) × (s ≡ s')
Fires s (l ∷ ls) w s' = (ℓ : Tuple) × (v : List Tuple) × (w ≡ ℓ ∷ v) × Sat s ℓ l.0 × Fires (act l.1 ℓ s) ls v s'

links_from : (i : ℕ) (ls : List Guarded) (t : ℕ × Guarded × ℕ) → t ∈ links i ls → i ≤ t.0
links_from i [] t h = absurd (Memᴰ.not-nil h)
links_from i (l ∷ ls) t h = go' (links_from (suc i) ls t) (Memᴰ.cases_cons h)
  where
    go' : (t ∈ links (suc i) ls → suc i ≤ t.0) → (t ≡ (i, l, suc i)) ⊎ (t ∈ links (suc i) ls) → i ≤ t.0
    go' below (inl e) = let e' : t.0 ≡ i = ap (λ (t : ℕ × Guarded × ℕ). t.0) e in omega arith
    go' below (inr m) = let h' = below m in omega arith

walk_fires : {A : Automaton Guarded} {x z : Conf} {w : List Tuple} → Walk A x w z → (i : ℕ) (ls : List Guarded) →
    ((t : ℕ × Guarded × ℕ) → t ∈ A.δ → i ≤ t.0 → t ∈ links i ls) → x.0 ≡ i → z.0 ≡ i + length ls → Fires x.1 ls w z.1
walk_fires stay i [] cover e e' = (refl, refl)
walk_fires stay i (l ∷ ls) cover e e' = absurd (omega arith)
walk_fires (go st wk) i [] cover e e' =
    let h : i ≤ st.0.0 = (let k = st.2 in omega arith) in
    absurd (Memᴰ.not-nil (cover st.0 st.1 h))
walk_fires {A} {x} {z} (go {y = y} {ℓ = ℓ} {w = v} st wk) i (l ∷ ls) cover e e' =
    let h : i ≤ st.0.0 = (let k = st.2 in omega arith) in
    here (walk_fires wk (suc i) ls) (Memᴰ.cases_cons (cover st.0 st.1 h))
  where
    cover' : (t : ℕ × Guarded × ℕ) → t ∈ A.δ → suc i ≤ t.0 → t ∈ links (suc i) ls
    cover' t m h =
        ⊎_elim (λ (e : t ≡ (i, l, suc i)). let k : t.0 ≡ i = ap (λ (t : ℕ × Guarded × ℕ). t.0) e in absurd (omega arith)) (λ m'. m')
        (Memᴰ.cases_cons (cover t m (omega arith)))

    here : (((t : ℕ × Guarded × ℕ) → t ∈ A.δ → suc i ≤ t.0 → t ∈ links (suc i) ls) → y.0 ≡ suc i → z.0 ≡ suc i + length ls → Fires y.1 ls v z.1) → (st.0 ≡ (i, l, suc i)) ⊎ (st.0 ∈ links (suc i) ls) → Fires x.1 (l ∷ ls) (ℓ ∷ v) z.1
    here below (inl k) =
        let k₁ : st.0.1 ≡ l = ap (λ (t : ℕ × Guarded × ℕ). t.1) k in
        let k₂ : st.0.2 ≡ suc i = ap (λ (t : ℕ × Guarded × ℕ). t.2) k in
        let a : act l.1 ℓ x.1 ≡ y.1 = subst (λ (l : Guarded). act l.1 ℓ x.1 ≡ y.1) k₁ st.5 in
        (ℓ, v, refl, subst (λ (l : Guarded). Sat x.1 ℓ l.0) k₁ st.4, subst (λ (s : Tuple). Fires s ls v z.1) (sym a) (below cover' (sym st.3 ∙ k₂) (omega arith)))
    here below (inr m) =
        let b : suc i ≤ st.0.0 = links_from (suc i) ls st.0 m in
        let k = st.2 in
        absurd (omega arith)

fires_walk : (A : Automaton Guarded) (i : ℕ) (ls : List Guarded) (s s' : Tuple) (w : List Tuple) → ((t : ℕ × Guarded × ℕ) → t ∈ links i ls → t ∈ A.δ) → Fires s ls w s' → Walk A (i, s) w (i + length ls, s')
fires_walk A i [] s s' w sub f =
    let n : i ≡ i + 0 = omega arith in
    subst₂ (λ (w : List Tuple) (x : Conf). Walk A (i, s) w x) (sym f.0) (λ j. (n j, f.1 j)) stay
fires_walk A i (l ∷ ls) s s' w sub f =
    let n : suc i + length ls ≡ i + suc (length ls) = omega arith in
    subst₂ (λ (w : List Tuple) (k : ℕ). Walk A (i, s) w (k, s')) (sym f.2) n
    (go ((i, l, suc i), sub (i, l, suc i) (Memᴰ.head refl), refl, refl, f.3, refl)
    (fires_walk A (suc i) ls (act l.1 f.0 s) s' f.1 (λ t m. sub t (Memᴰ.tail m)) f.4))

pub accepts_fires : (s s' : Tuple) (ls : List Guarded) (w : List Tuple) → Accepts (straight s ls) w s' → Fires s ls w s'
accepts_fires s s' ls w a =
    let e : a.0 ≡ length ls = Memᴰ.eq_of_singleton a.1 in
    walk_fires a.2 0 ls (λ t m h. m) refl (omega arith)

pub fires_accepts : (s s' : Tuple) (ls : List Guarded) (w : List Tuple) → Fires s ls w s' → Accepts (straight s ls) w s'
fires_accepts s s' ls w f =
    let n : 0 + length ls ≡ length ls = omega arith in
    (length ls, Memᴰ.head refl, subst (λ (k : ℕ). Walk (straight s ls) (0, s) w (k, s')) n (fires_walk (straight s ls) 0 ls s s' w (λ t m. m) f))

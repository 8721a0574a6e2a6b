-- Runs of the closed list against the language of the automaton.
use Rattle.std.proofs.Common.{◌≡◌, ℕ, zero, suc, ◌+◌, ◌-◌, ◌<◌, ◌≤◌, List, [], ◌∷◌, ◌++◌, map, length, take, drop, sym, refl, ap, ◌∙◌, subst, ⊎_elim, append_assoc, append-nil, add-one, arith, length-drop, take-append-drop, drop_of_length-le, drop-drop}
use mathlib.Core.List.Memᴰ
use mathlib.Core.List.{cons≢nil, tail-eq_of_cons-eq}
use Rattle.std.proofs.lemmas.Bool.{cases_lt}
use Rattle.topl.specs.Lists.{◌∈◌, each}
use Rattle.topl.specs.Automata.{Accepts, Automaton, Guarded, HighConf, HighLanguage, HighPath, SkipTransition, StandardTransition, Tuple, by_skip, by_standard, initial_conf, no_step, straight}
use Rattle.topl.specs.Table.{Event, Lawful, Statement, Table, matchers, numbered, span}
use Rattle.topl.specs.Translation.{automaton_of, ids, letter, loaded, mentions, transition, translated}
use Rattle.topl.specs.Runs.{Configuration, ErrorAt, Leaves, Reach, Reaches, Registers, at_start, closing, first_configuration, onward, outcome_of, pass, passes, skip}
use Rattle.topl.specs.Theorems.{Recognizes}
use Rattle.topl.proofs.Basics.{∈-each, ∈-once, eqb_tests}
use Rattle.topl.proofs.Persist.{reach_bound}
use Rattle.topl.proofs.Straight.{accepts_fires, fires_accepts}
use Rattle.topl.proofs.Lawful.{lawful_final, lawful_once}
use Rattle.topl.proofs.Translate.{AllKnown, passes_fires, fires_passes}

map-append : {X Y : Type 0} (f : X → Y) (xs ys : List X) → map f (xs ++ ys) ≡ map f xs ++ map f ys
map-append f [] ys = refl
map-append f (x ∷ xs) ys = ap (λ r. f x ∷ r) (map-append f xs ys)

-- the word that labels a path is what it takes off the front
labels : {A : Automaton (List Guarded)} {y u : HighConf} {v : List Tuple} → HighPath A y v u → y.1 ≡ v ++ u.1
labels no_step = refl
labels {u = u} (by_standard {w = w} {v = v} st h) = st.4 ∙ ap (λ (r : List Tuple). w ++ r) (labels h) ∙ sym (append_assoc w v u.1)
labels {u = u} (by_skip {w = w} {v = v} st h) = st.1 ∙ ap (λ (r : List Tuple). st.0 ∷ r) (labels h) ∙ ap (λ (w : List Tuple). w ++ (v ++ u.1)) (sym st.2) ∙ sym (append_assoc w v u.1)

module _ (P : Table) (law : Lawful P) (k : Registers) (L : List Event) where
  A : Automaton (List Guarded)
  A = automaton_of P k

  -- the configuration c at position p, as the automaton has it
  shown : ℕ → Configuration → HighConf
  shown p c = ((c.state, loaded (ids P) c.registers), map letter (drop p L))

  known : (t : ℕ × Statement) → t ∈ numbered P → AllKnown (ids P) (matchers t.1)
  known t h m i = (λ j q. ∈-once eqb_tests (each (λ t. each mentions (matchers t.1)) (numbered P)) (∈-each (λ (t : ℕ × Statement). each mentions (matchers t.1)) h (∈-each mentions i q)), lawful_once P law t m h i)

  taken : (p n : ℕ) → map letter (drop p L) ≡ map letter (take n (drop p L)) ++ map letter (drop (p + n) L)
  taken p n =
      ap (map letter) (sym (take-append-drop n (drop p L))) ∙ map-append letter (take n (drop p L)) (drop n (drop p L)) ∙
      ap (λ (r : List Event). map letter (take n (drop p L)) ++ map letter r) (drop-drop n p L)

  -- a passing statement is a standard transition
  to_standard : (p : ℕ) (c : Configuration) (t : ℕ × Statement) (s : Registers) → Leaves P c t → outcome_of (closing L) p c t ≡ passes s →
      StandardTransition A (shown p c) (map letter (take (span t.1) (drop p L))) (shown (p + span t.1) (record { state = t.1.target; registers = s }))
  unfolding A shown
  to_standard p c t s l e = (
    transition (ids P) t,
    Memᴰ.map (transition (ids P)) l.0,
    l.1,
    refl,
    taken p (span t.1),
    fires_accepts (loaded (ids P) c.registers) (loaded (ids P) s) (map (translated (ids P)) (matchers t.1)) (map letter (take (span t.1) (drop p L)))
        (passes_fires (ids P) (matchers t.1) c.registers s (drop p L) (known t l.0) e),
  )

  Passed : ℕ → Configuration → HighConf → Type 0
  Passed p c z = (t : ℕ × Statement) × (s : Registers) × Leaves P c t × (outcome_of (closing L) p c t ≡ passes s) × (z ≡ shown (p + span t.1) (record { state = t.1.target; registers = s }))

  -- a standard transition is a passing statement
  of_standard : (p : ℕ) (c : Configuration) (w : List Tuple) (z : HighConf) → StandardTransition A (shown p c) w z → Passed p c z
  unfolding A shown Passed
  of_standard p c w z st =
      let f = Memᴰ.of_map (transition (ids P)) (numbered P) st.1 in
      let t = f.0 in
      let e₀ : t.1.source ≡ st.0.0 = ap (λ (x : ℕ × List Guarded × ℕ). x.0) f.2 in
      let e₁ : map (translated (ids P)) (matchers t.1) ≡ st.0.1 = ap (λ (x : ℕ × List Guarded × ℕ). x.1) f.2 in
      let e₂ : t.1.target ≡ st.0.2 = ap (λ (x : ℕ × List Guarded × ℕ). x.2) f.2 in
      let a = subst (λ (ls : List Guarded). Accepts (straight (loaded (ids P) c.registers) ls) w z.0.1) (sym e₁) st.5 in
      let r = fires_passes (ids P) (matchers t.1) c.registers z.0.1 (drop p L) w z.1 (known t f.1) st.4 (accepts_fires (loaded (ids P) c.registers) z.0.1 (map (translated (ids P)) (matchers t.1)) w a) in
      let g : z.1 ≡ map letter (drop (p + span t.1) L) = r.3 ∙ ap (map letter) (drop-drop (span t.1) p L) in
      (t, r.0, (f.1, e₀ ∙ st.2), r.1, λ i. (((sym (e₂ ∙ st.3)) i, r.2 i), g i))

  next : (p : ℕ) → p < length L → (ℓ : Tuple) × (map letter (drop p L) ≡ ℓ ∷ map letter (drop (suc p) L))
  next p h = go (drop p L) refl
    where
      go : (es : List Event) → drop p L ≡ es → (ℓ : Tuple) × (map letter (drop p L) ≡ ℓ ∷ map letter (drop (suc p) L))
      go [] e = let l : length (drop p L) ≡ length L - p = length-drop p L in let l' : length (drop p L) ≡ 0 = ap length e in absurd (omega arith)
      go (a ∷ es) e =
          let d : drop 1 (drop p L) ≡ drop (suc p) L = drop-drop 1 p L ∙ ap (λ (n : ℕ). drop n L) (add-one p) in
          (letter a, ap (map letter) e ∙ ap (λ (r : List Event). letter a ∷ map letter r) (sym (ap (drop 1) e) ∙ d))

  some : (p : ℕ) (ℓ : Tuple) (w : List Tuple) → map letter (drop p L) ≡ ℓ ∷ w → p < length L
  some p ℓ w e = ⊎_elim (λ (h : p < length L). h) (λ (h : length L ≤ p). absurd (cons≢nil (sym e ∙ ap (map letter) (drop_of_length-le L h)))) (cases_lt p (length L))

  to_skip : (p : ℕ) (c : Configuration) → p < length L → ((t : ℕ × Statement) → Leaves P c t → (s : Registers) → ¬ (outcome_of (closing L) p c t ≡ passes s)) →
      (ℓ : Tuple) × SkipTransition A (shown p c) (ℓ ∷ []) (shown (suc p) c)
  unfolding A shown Passed
  to_skip p c h f =
      let n = next p h in
      (n.0, (n.0, n.1, refl, refl, λ w z st. let r = of_standard p c w z st in f r.0 r.2 r.1 r.3))

  -- what leads on from a reached configuration leads on from the start
  from_start : {p : ℕ} {c : Configuration} {path : List ℕ} {u : HighConf} → Reach P k (closing L) p c path → (v : List Tuple) → HighPath A (shown p c) v u → (v' : List Tuple) × HighPath A (shown 0 (first_configuration k)) v' u
  from_start at_start v h = (v, h)
  from_start (onward {p} {c = c} r (pass t s l e)) v h = from_start r (map letter (take (span t.1) (drop p L)) ++ v) (by_standard (to_standard p c t s l e) h)
  from_start (onward {p} {c = c} r (skip l f)) v h = let x = to_skip p c l f in from_start r ((x.0 ∷ []) ++ v) (by_skip x.1 h)

  -- where no statement leaves, all the rest is skipped
  idles : (n p : ℕ) (c : Configuration) → p + n ≡ length L → ((t : ℕ × Statement) → ¬ Leaves P c t) → (v : List Tuple) × HighPath A (shown p c) v ((c.state, loaded (ids P) c.registers), [])
  unfolding shown
  idles zero p c e f =
      let d : drop p L ≡ [] = none (drop p L) (length-drop p L ∙ omega arith) in
      ([], subst (λ (es : List Event). HighPath A ((c.state, loaded (ids P) c.registers), map letter es) [] ((c.state, loaded (ids P) c.registers), [])) (sym d) no_step)
    where
      none : (es : List Event) → length es ≡ 0 → es ≡ []
      none [] q = refl
      none (a ∷ es) q = absurd (omega arith)
  idles (suc n) p c e f =
      let x = to_skip p c (omega arith) (λ t l s q. f t l) in
      let y = idles n (suc p) c (omega arith) f in
      ((x.0 ∷ []) ++ y.0, by_skip x.1 y.1)

  Found : HighConf → Type 0
  Found u = (p : ℕ) × (c : Configuration) × (u ≡ shown p c) × Reaches P k (closing L) p c

  -- every path from what is reached leads to what is reached
  follow : {y u : HighConf} {v : List Tuple} → HighPath A y v u → Found y → Found u
  unfolding A shown Passed Found
  follow no_step r = r
  follow {u = u} (by_standard {z = z} {w = w} st h) (p, c, e, r) =
      let x = of_standard p c w z (subst (λ (y : HighConf). StandardTransition A y w z) e st) in
      follow h (p + span x.0.1, record { state = x.0.1.target; registers = x.1 }, x.4, (r.0 ++ (x.0.0 ∷ []), onward r.1 (pass x.0 x.1 x.2 x.3)))
  follow (by_skip {z = z} {w = w} st h) (p, c, e, r) =
      let x = subst (λ (y : HighConf). SkipTransition A y w z) e st in
      let l : p < length L = some p x.0 z.1 x.1 in
      let n = next p l in
      let d : z.1 ≡ map letter (drop (suc p) L) = tail-eq_of_cons-eq (sym x.1 ∙ n.1) in
      follow h (suc p, c, λ i. (x.3 i, d i), (r.0 ++ (0 ∷ []), onward r.1 (skip l (λ t v s o. x.4 (map letter (take (span t.1) (drop p L))) (shown (p + span t.1) (record { state = t.1.target; registers = s })) (to_standard p c t s v o)))))

  to_run : HighLanguage A (map letter L) → (p : ℕ) × ErrorAt P k (closing L) p
  unfolding A shown Found
  to_run (w, q, s, m, h) =
      let e : w ≡ map letter L = labels h ∙ append-nil (map letter L) in
      let (p, c, i, r) = follow h (0, first_configuration k, λ j. (initial_conf A, e j), ([], at_start)) in
      (p, (c, sym (ap (λ (y : HighConf). y.0.0) i) ∙ Memᴰ.eq_of_singleton m, r))

  of_run : (p : ℕ) × ErrorAt P k (closing L) p → HighLanguage A (map letter L)
  unfolding A shown
  of_run (p, (c, e, r)) =
      let b : p ≤ length L = reach_bound r.1 in
      let i = idles (length L - p) p c (omega arith) (λ t l. lawful_final P law t l.0 (l.1 ∙ e)) in
      let h = from_start r.1 i.0 i.1 in
      let v : h.0 ≡ map letter L = sym (append-nil h.0) ∙ sym (labels h.1) in
      (map letter L, c.state, loaded (ids P) c.registers, Memᴰ.head e, subst (λ (v : List Tuple). HighPath A (initial_conf A, map letter L) v ((c.state, loaded (ids P) c.registers), [])) v h.1)

pub recognizes : Recognizes
unfolding A
recognizes P k L law = (to_run P law k L, of_run P law k L)

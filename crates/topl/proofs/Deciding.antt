-- The deciding rule, over runs.
use Rattle.std.proofs.Common.{◌≡◌, ℕ, zero, suc, ◌+◌, ◌<◌, ◌≤◌, Bool, true, false, cond, ◌||◌, eqb, ltb, ◌⊎◌, List, [], ◌∷◌, length, sym, refl, ap, ◌∙◌, subst, inl, inr, ⊎_elim, true≢false, arith, ltb-false, ltb-true, le-ltb, lt-ltb, eq-eqb, eqb-true}
use mathlib.Core.Bool.{false≢true}
use mathlib.Core.List.Memᴰ
use Rattle.std.proofs.lemmas.Bool.{or_cases, or_left, or_right, cases_lt}
use Rattle.topl.specs.Lists.{◌∈◌}
use Rattle.topl.specs.Table.{Table, error}
use Rattle.topl.specs.Runs.{Configuration, ErrorAt, Registers, World, reached}
use Rattle.topl.specs.Deciding.{Ruling, any_error, breaks, count, decides, first_ruling, goes_on, need, or_else, overfills, ruling_at, spills}
use Rattle.topl.specs.Theorems.{Finding, Lowest, RuleInWords, Rules, Undecided}
use Rattle.topl.proofs.Enumerate.{enumerates}

abbrev tag : Ruling → ℕ
tag (breaks p) = 1
tag spills = 2
tag overfills = 3
tag goes_on = 4

abbrev place : Ruling → ℕ
place (breaks p) = p
place spills = 0
place overfills = 0
place goes_on = 0

-- one position, by its three tests
abbrev tested : Bool → Bool → Bool → ℕ → Ruling
tested a b c p = cond a (breaks p) (cond b spills (cond c overfills goes_on))

is_breaks : (a b c : Bool) (p q : ℕ) → tested a b c p ≡ breaks q → (a ≡ true) × (p ≡ q)
is_breaks true b c p q e = (refl, ap place e)
is_breaks false true c p q e = absurd (omega (arith, ap tag e))
is_breaks false false true p q e = absurd (omega (arith, ap tag e))
is_breaks false false false p q e = absurd (omega (arith, ap tag e))

is_spills : (a b c : Bool) (p : ℕ) → tested a b c p ≡ spills → (a ≡ false) × (b ≡ true)
is_spills true b c p e = absurd (omega (arith, ap tag e))
is_spills false true c p e = (refl, refl)
is_spills false false true p e = absurd (omega (arith, ap tag e))
is_spills false false false p e = absurd (omega (arith, ap tag e))

is_overfills : (a b c : Bool) (p : ℕ) → tested a b c p ≡ overfills → (a ≡ false) × (b ≡ false) × (c ≡ true)
is_overfills true b c p e = absurd (omega (arith, ap tag e))
is_overfills false true c p e = absurd (omega (arith, ap tag e))
is_overfills false false true p e = (refl, refl, refl)
is_overfills false false false p e = absurd (omega (arith, ap tag e))

is_goes_on : (a b c : Bool) (p : ℕ) → tested a b c p ≡ goes_on → (a ≡ false) × (b ≡ false) × (c ≡ false)
is_goes_on true b c p e = absurd (omega (arith, ap tag e))
is_goes_on false true c p e = absurd (omega (arith, ap tag e))
is_goes_on false false true p e = absurd (omega (arith, ap tag e))
is_goes_on false false false p e = (refl, refl, refl)

-- the first ruling that decides
or_else_cases : (x y r : Ruling) → or_else x y ≡ r → (x ≡ r) ⊎ ((x ≡ goes_on) × (y ≡ r))
or_else_cases (breaks p) y r e = inl e
or_else_cases spills y r e = inl e
or_else_cases overfills y r e = inl e
or_else_cases goes_on y r e = inr (refl, e)

or_else_first : (x y r : Ruling) → ¬ (r ≡ goes_on) → x ≡ r → or_else x y ≡ r
or_else_first (breaks p) y r h e = e
or_else_first spills y r h e = e
or_else_first overfills y r h e = e
or_else_first goes_on y r h e = absurd (h (sym e))

or_else_next : (x y r : Ruling) → x ≡ goes_on → y ≡ r → or_else x y ≡ r
or_else_next x y r e h = rw e h

module _ (f : ℕ → Ruling) where
  At : ℕ → ℕ → Ruling → Type 0
  At n p r = (q : ℕ) × (p ≤ q) × (q < p + n) × (f q ≡ r) × ((x : ℕ) → p ≤ x → x < q → f x ≡ goes_on)

  first_at : (n p : ℕ) (r : Ruling) → ¬ (r ≡ goes_on) → first_ruling f n p ≡ r → At n p r
  unfolding At
  first_at zero p r h e = absurd (h (sym e))
  first_at (suc n) p r h e = go (first_at n (suc p) r h) (or_else_cases (f p) (first_ruling f n (suc p)) r e)
    where
      go : (first_ruling f n (suc p) ≡ r → At n (suc p) r) → (f p ≡ r) ⊎ ((f p ≡ goes_on) × (first_ruling f n (suc p) ≡ r)) → At (suc n) p r
      go below (inl k) = (p, omega arith, omega arith, k, λ x l l'. absurd (omega arith))
      go below (inr k) =
          let b = below k.1 in
          let l₁ : suc p ≤ b.0 = b.1 in
          let l₂ : b.0 < suc p + n = b.2 in
          (b.0, omega arith, omega arith, b.3, λ x l l'. ⊎_elim (λ (i : p < x). b.4 x i l') (λ (i : x ≤ p). let j : p ≡ x = omega arith in subst (λ (x : ℕ). f x ≡ goes_on) j k.0) (cases_lt p x))

  first_is : (n p : ℕ) (r : Ruling) → ¬ (r ≡ goes_on) → At n p r → first_ruling f n p ≡ r
  unfolding At
  first_is zero p r h (q, l₁, l₂, e, g) = absurd (omega arith)
  first_is (suc n) p r h (q, l₁, l₂, e, g) = go (first_is n (suc p) r h) (cases_lt p q)
    where
      go : (At n (suc p) r → first_ruling f n (suc p) ≡ r) → (p < q) ⊎ (q ≤ p) → or_else (f p) (first_ruling f n (suc p)) ≡ r
      go below (inl i) = or_else_next (f p) (first_ruling f n (suc p)) r (g p (omega arith) i) (below (q, i, omega arith, e, λ x l l'. g x (omega arith) l'))
      go below (inr i) = let j : q ≡ p = omega arith in or_else_first (f p) (first_ruling f n (suc p)) r h (subst (λ (q : ℕ). f q ≡ r) j e)

  first_none : (n p : ℕ) → first_ruling f n p ≡ goes_on → (q : ℕ) → p ≤ q → q < p + n → f q ≡ goes_on
  first_none zero p e q l₁ l₂ = absurd (omega arith)
  first_none (suc n) p e q l₁ l₂ = go (or_else_cases (f p) (first_ruling f n (suc p)) goes_on e) (first_none n (suc p)) (cases_lt p q)
    where
      both : (x y : Ruling) → or_else x y ≡ goes_on → y ≡ goes_on
      both (breaks p) y k = absurd (omega (arith, ap tag k))
      both spills y k = absurd (omega (arith, ap tag k))
      both overfills y k = absurd (omega (arith, ap tag k))
      both goes_on y k = k

      here : (f p ≡ goes_on) ⊎ ((f p ≡ goes_on) × (first_ruling f n (suc p) ≡ goes_on)) → f p ≡ goes_on
      here (inl k) = k
      here (inr k) = k.0

      go : (f p ≡ goes_on) ⊎ ((f p ≡ goes_on) × (first_ruling f n (suc p) ≡ goes_on)) → (first_ruling f n (suc p) ≡ goes_on → (q : ℕ) → suc p ≤ q → q < suc p + n → f q ≡ goes_on) → (p < q) ⊎ (q ≤ p) → f q ≡ goes_on
      go k below (inl i) = below (both (f p) (first_ruling f n (suc p)) e) q i (omega arith)
      go k below (inr i) = let j : p ≡ q = omega arith in subst (λ (q : ℕ). f q ≡ goes_on) j (here k)

  first_all : (n p : ℕ) → ((q : ℕ) → p ≤ q → q < p + n → f q ≡ goes_on) → first_ruling f n p ≡ goes_on
  first_all zero p g = refl
  first_all (suc n) p g = or_else_next (f p) (first_ruling f n (suc p)) goes_on (g p (omega arith) (omega arith)) (first_all n (suc p) (λ q l₁ l₂. g q (omega arith) (omega arith)))

pub any_error_sound : (cs : List Configuration) → any_error cs ≡ true → (c : Configuration) × (c ∈ cs) × (c.state ≡ error)
any_error_sound [] e = absurd (false≢true e)
any_error_sound (c ∷ cs) e = go (any_error_sound cs) (or_cases (eqb c.state error) (any_error cs) e)
  where
    go : (any_error cs ≡ true → (d : Configuration) × (d ∈ cs) × (d.state ≡ error)) → (eqb c.state error ≡ true) ⊎ (any_error cs ≡ true) → (d : Configuration) × (d ∈ (c ∷ cs)) × (d.state ≡ error)
    go below (inl k) = (c, Memᴰ.head refl, eqb-true c.state error k)
    go below (inr k) = let b = below k in (b.0, Memᴰ.tail b.1, b.2)

pub any_error_complete : {c : Configuration} (cs : List Configuration) → c ∈ cs → c.state ≡ error → any_error cs ≡ true
any_error_complete [] m e = absurd (Memᴰ.not-nil m)
any_error_complete {c} (d ∷ cs) m e = go (any_error_complete cs) (Memᴰ.cases_cons m)
  where
    go : (c ∈ cs → c.state ≡ error → any_error cs ≡ true) → (c ≡ d) ⊎ (c ∈ cs) → (eqb d.state error || any_error cs) ≡ true
    go below (inl i) = or_left (eqb d.state error) (any_error cs) (eq-eqb d.state error ((λ j. (sym i j).state) ∙ e))
    go below (inr i) = or_right (eqb d.state error) (any_error cs) (below i e)

module _ (P : Table) (k : Registers) (cap book : ℕ) (before now : World) where
  abbrev errs : ℕ → Bool
  errs p = any_error (reached P k now p)

  abbrev over : ℕ → Bool
  over p = ltb cap (count P k now p)

  abbrev beyond : ℕ → Bool
  beyond p = ltb book (need P k before now p)

  pub fails_so : (p : ℕ) → any_error (reached P k now p) ≡ true → ErrorAt P k now p
  fails_so p e = let x = any_error_sound (reached P k now p) e in (x.0, x.2, ((enumerates P k now p).2 x.0).0 x.1)

  pub so_fails : (p : ℕ) → ErrorAt P k now p → any_error (reached P k now p) ≡ true
  so_fails p x = any_error_complete (reached P k now p) (((enumerates P k now p).2 x.0).1 x.2) x.1

  not_fails : (p : ℕ) → errs p ≡ false → ¬ ErrorAt P k now p
  not_fails p e x = true≢false (sym (so_fails p x) ∙ e)

  no_error : (p : ℕ) → ¬ ErrorAt P k now p → errs p ≡ false
  no_error p h = go (errs p) refl
    where
      go : (b : Bool) → errs p ≡ b → errs p ≡ false
      go true e = absurd (h (fails_so p e))
      go false e = e

  pub undecided : (p : ℕ) → ruling_at P k cap book before now p ≡ goes_on → Undecided P k cap book before now p
  unfolding ruling_at
  undecided p e =
      let h = is_goes_on (errs p) (over p) (beyond p) p e in
      (not_fails p h.0, ltb-false cap (count P k now p) h.1, ltb-false book (need P k before now p) h.2)

  pub no_ruling : (p : ℕ) → Undecided P k cap book before now p → ruling_at P k cap book before now p ≡ goes_on
  unfolding ruling_at
  no_ruling p (h₀, h₁, h₂) = rw (no_error p h₀, le-ltb cap (count P k now p) h₁, le-ltb book (need P k before now p) h₂)

  abbrev f : ℕ → Ruling
  f = ruling_at P k cap book before now

  lowest : (r : Ruling) → ¬ (r ≡ goes_on) → decides P k cap book before now ≡ r → (p : ℕ) × Lowest P k cap book before now p × (f p ≡ r)
  unfolding decides At
  lowest r h e =
      let x = first_at f (suc (length now.events)) 0 r h e in
      let l : x.0 < 0 + suc (length now.events) = x.2 in
      (x.0, (omega arith, λ q i. undecided q (x.4 q (omega arith) i)), x.3)

  decided : (r : Ruling) → ¬ (r ≡ goes_on) → (p : ℕ) → Lowest P k cap book before now p → f p ≡ r → decides P k cap book before now ≡ r
  unfolding decides At
  decided r h p (l, g) e = first_is f (suc (length now.events)) 0 r h (p, omega arith, omega arith, e, λ q _ i. no_ruling q (g q i))

  is : (r : Ruling) (t : ℕ) → tag r ≡ t → t < 4 → ¬ (r ≡ goes_on)
  is r t e l i = let j : tag r ≡ 4 = ap tag i in omega arith

  none : decides P k cap book before now ≡ goes_on → (p : ℕ) → p ≤ length now.events → Undecided P k cap book before now p
  unfolding decides
  none e p l = undecided p (first_none f (suc (length now.events)) 0 e p (omega arith) (omega arith))

  all : ((p : ℕ) → p ≤ length now.events → Undecided P k cap book before now p) → decides P k cap book before now ≡ goes_on
  unfolding decides
  all g = first_all f (suc (length now.events)) 0 (λ q l₁ l₂. no_ruling q (g q (omega arith)))

  rules : Rules P k cap book before now
  unfolding ruling_at
  rules = record {
    when_broken = λ p. (broken_so p, λ x. decided (breaks p) (is (breaks p) 1 refl (omega arith)) p x.0 (rw (so_fails p x.1) refl));
    when_spilled = (
      λ e. let x = lowest spills (is spills 2 refl (omega arith)) e in
          let h = is_spills (errs x.0) (over x.0) (beyond x.0) x.0 x.2 in
          (x.0, x.1, not_fails x.0 h.0, ltb-true cap (count P k now x.0) h.1),
      λ (p, l, g, o). decided spills (is spills 2 refl (omega arith)) p l (rw (no_error p g, lt-ltb cap (count P k now p) o)),
    );
    when_full = (
      λ e. let x = lowest overfills (is overfills 3 refl (omega arith)) e in
          let h = is_overfills (errs x.0) (over x.0) (beyond x.0) x.0 x.2 in
          (x.0, x.1, not_fails x.0 h.0, ltb-false cap (count P k now x.0) h.1, ltb-true book (need P k before now x.0) h.2),
      λ (p, l, g, o, b). decided overfills (is overfills 3 refl (omega arith)) p l (rw (no_error p g, le-ltb cap (count P k now p) o, lt-ltb book (need P k before now p) b)),
    );
    when_not = (none, all);
  }
    where
      broken_so : (p : ℕ) → decides P k cap book before now ≡ breaks p → Lowest P k cap book before now p × ErrorAt P k now p
      broken_so p e =
          let x = lowest (breaks p) (is (breaks p) 1 refl (omega arith)) e in
          let h = is_breaks (errs x.0) (over x.0) (beyond x.0) x.0 p x.2 in
          subst (λ (p : ℕ). Lowest P k cap book before now p × ErrorAt P k now p) h.1 (x.1, fails_so x.0 h.0)

pub finding : Finding
finding P k cap book before now = record {
  found = λ p r l g h e. decided P k cap book before now r h p (l, λ q i. undecided P k cap book before now q (g q i)) e;
  never = λ g. all P k cap book before now (λ p l. undecided P k cap book before now p (g p l));
}

pub deciding : RuleInWords
deciding P k cap book before now = rules P k cap book before now

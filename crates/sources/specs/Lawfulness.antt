-- Why the lists of the sources hold lawful events alone. The sources' ghost members cite these proofs.
use Rattle.std.specs.Prelude.{◌≡◌, ℕ, zero, suc, ◌+◌, ◌-◌, ◌≤◌, Bool, true, false, cond, ◌⊎◌, List, [], ◌∷◌, length, drop, Ok, Err, Result, refl}
use Rattle.std.proofs.Common.{sym, ap, ◌∙◌, arith, ltb-false, length-take}
use Rattle.std.proofs.Math.Path.{subst}
use Rattle.std.proofs.Math.Logic.{inl, inr}
use Rattle.kinds.specs.declared.refusal.Fault.{Fault}
use Rattle.kinds.specs.declared.refusal.Refusal.{Refusal}
use Rattle.kinds.specs.Numbers.{number_read}
use Rattle.sources.specs.Events.{Happening, Lawful, most}
use Rattle.sources.specs.Format.{at, and_then, values_at, record_at, onward, walk, means}
use Rattle.sources.specs.Records.{Values, none, one_more, Stands}
use Rattle.sources.specs.Sayings.{says}
use Rattle.sources.specs.Sources.{AllLawful}
use Rattle.sources.specs.declared.event.Event.{Event}

-- An event in hand is lawful.
pub says_lawful : {V : Type 0} (e : Event V) → Lawful (says e)
says_lawful e = let l = e.lawful in (l.0, simp length-take (omega arith))

-- An answer that came through two steps came through each.
pub then_ok : {A B E : Type 0} (r : Result A E) (f : A → Result B E) (b : B) → and_then r f ≡ Ok b → (a : A) × (r ≡ Ok a) × (f a ≡ Ok b)
then_ok (Ok a) f b e = (a, refl, e)
then_ok (Err d) f b e = let z : ◌≡◌ {A = ℕ} 0 1 = cc in absurd (omega arith)

pub else_ok : {A E : Type 0} (t : Bool) (d : E) (r : Result A E) (a : A) → cond t (Err d) r ≡ Ok a → (t ≡ false) × (r ≡ Ok a)
else_ok true d r a e = let z : ◌≡◌ {A = ℕ} 0 1 = cc in absurd (omega arith)
else_ok false d r a e = (refl, e)

pub ok_same : {A E : Type 0} (a b : A) → ◌≡◌ {A = Result A E} (Ok a) (Ok b) → a ≡ b
ok_same a b e = cc

-- A result is one of the two.
pub by_result : {A E : Type 0} (r : Result A E) → ((a : A) × (r ≡ Ok a)) ⊎ ((d : E) × (r ≡ Err d))
by_result (Ok a) = inl (a, refl)
by_result (Err d) = inr (d, refl)

module _ {V : Type 0} (reads : List ℕ → Result (V × ℕ) Fault) (bytes : List ℕ) where
  -- Values that are read stand there, as many as were asked for.
  pub values_stand : (n p : ℕ) (vs : List V) (q : ℕ) → values_at reads bytes p n ≡ Ok (vs, q) → Values reads bytes p vs q × (length vs ≡ n)
  values_stand zero p vs q e =
      let s : ◌≡◌ {A = List V × ℕ} ([], p) (vs, q) = ok_same ([], p) (vs, q) e in
      subst (λ (t : List V × ℕ). Values reads bytes p t.0 t.1 × (length t.0 ≡ 0)) s (none p, refl)
  values_stand (suc n) p vs q e =
      let v = then_ok (at reads bytes p) _ _ e in
      let ws = then_ok (values_at reads bytes v.0.1 n) _ _ v.2 in
      let rest = values_stand n v.0.1 ws.0.0 ws.0.1 ws.1 in
      let s : ◌≡◌ {A = List V × ℕ} (v.0.0 ∷ ws.0.0, ws.0.1) (vs, q) = ok_same (v.0.0 ∷ ws.0.0, ws.0.1) (vs, q) ws.2 in
      subst (λ (t : List V × ℕ). Values reads bytes p t.0 t.1 × (length t.0 ≡ suc n)) s
      (one_more p v.0.0 v.0.1 ws.0.0 ws.0.1 v.1 rest.0, ap suc rest.1)

  put_together : (p : ℕ) (h : Happening V) (q : ℕ) (i n : ℕ × ℕ) (vs : List V × ℕ)
      → at number_read bytes p ≡ Ok i → i.0 ≤ 131071 → at number_read bytes i.1 ≡ Ok n → n.0 ≤ most i.0 → values_at reads bytes n.1 n.0 ≡ Ok vs
      → ◌≡◌ {A = Result (Happening V × ℕ) Refusal} (Ok (record { id = i.0; values = vs.0 }, vs.1)) (Ok (h, q)) → Stands reads bytes p h q
  put_together p h q i n vs ri li rn ln rv e =
      let w = values_stand n.0 n.1 vs.0 vs.1 rv in
      let few : length vs.0 ≤ most i.0 = subst (λ k. k ≤ most i.0) (sym w.1) ln in
      subst (λ (t : Happening V × ℕ). Stands reads bytes p t.0 t.1) (ok_same _ (h, q) e)
      record { id_end = i.1; count_end = n.1; id = ri; count = rn ∙ ap (λ k. Ok (k, n.1)) (sym w.1); values = w.0; lawful = (li, few) }

  -- A record that is accepted stands there.
  pub stands : (p : ℕ) (h : Happening V) (q : ℕ) → record_at reads bytes p ≡ Ok (h, q) → Stands reads bytes p h q
  stands p h q e =
      let i = then_ok (at number_read bytes p) _ _ e in
      let a = else_ok _ _ _ _ i.2 in
      let n = then_ok (at number_read bytes i.0.1) _ _ a.1 in
      let b = else_ok _ _ _ _ n.2 in
      let v = then_ok (values_at reads bytes n.0.1 n.0.0) _ _ b.1 in
      put_together p h q i.0 n.0 v.0 i.1 (ltb-false _ _ a.0) n.1 (ltb-false _ _ b.0) v.1 v.2

  walk_lawful : (left : List ℕ) (p s : ℕ) → AllLawful (walk reads bytes p s left).waits
  unfolding walk
  walk_lawful [] p s = tt
  walk_lawful (b ∷ left) p zero =
      elim (by_result (record_at reads bytes p)) [
        | inl x ↦ subst (λ r. AllLawful (onward r (λ q. walk reads bytes (p + 1) (q - (p + 1)) left)).waits) (sym x.1)
            ((stands p x.0.0 x.0.1 x.1).lawful, walk_lawful left (p + 1) (x.0.1 - (p + 1)))
        | inr x ↦ subst (λ r. AllLawful (onward r (λ q. walk reads bytes (p + 1) (q - (p + 1)) left)).waits) (sym x.1) tt
      ]
  walk_lawful (b ∷ left) p (suc s) = walk_lawful left (p + 1) s

  pub means_lawful : (p : ℕ) → AllLawful (means reads bytes p).waits
  unfolding means
  means_lawful p = walk_lawful (drop p bytes) p 0

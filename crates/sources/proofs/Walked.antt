-- A journal, record by record. Assumes nothing.
use Rattle.std.proofs.Common.{◌≡◌, ℕ, zero, suc, ◌+◌, ◌-◌, ◌<◌, ◌≤◌, List, [], ◌∷◌, length, drop, Some, None, Ok, Err, Result, sym, refl, ap, ◌∙◌, subst, inl, inr, arith}
use Rattle.std.proofs.lemmas.List.{drop_all, drop-drop, drop_more}
use Rattle.std.proofs.lemmas.Bool.{cases_lt}
use Rattle.kinds.specs.declared.refusal.Fault.{Fault}
use Rattle.kinds.specs.declared.refusal.Refusal.{Refusal}
use Rattle.kinds.specs.Readings.{Reading}
use Rattle.sources.proofs.Recorded.{fails, one_account, short_records}
use Rattle.sources.specs.Events.{Happening}
use Rattle.sources.specs.Format.{first_then, means, onward, record_at, walk}
use Rattle.sources.specs.Lawfulness.{by_result, stands}
use Rattle.sources.specs.Records.{Recorded, Records, at_end, onto, stopped}
use Rattle.sources.specs.Sayings.{says}
use Rattle.sources.specs.Sources.{Next}
use Rattle.sources.specs.declared.event.Event.{Event}

module _ {V : Type 0} (reads : List ℕ → Result (V × ℕ) Fault) (bytes : List ℕ) where
  -- the walk over what is left
  walk_skip : (left : List ℕ) (p s : ℕ) → walk reads bytes p s left ≡ walk reads bytes (p + s) 0 (drop s left)
  unfolding walk
  walk_skip [] p zero = refl
  walk_skip [] p (suc s) = refl
  walk_skip (b ∷ left) p zero = let e : p ≡ p + 0 = omega arith in ap (λ k. walk reads bytes k 0 (b ∷ left)) e
  walk_skip (b ∷ left) p (suc s) = let e : p + 1 + s ≡ p + suc s = omega arith in walk_skip left (p + 1) s ∙ ap (λ k. walk reads bytes k 0 (drop s left)) e

  pub means_end : (p : ℕ) → length bytes ≤ p → means reads bytes p ≡ record { waits = []; ends = Ok tt }
  unfolding means walk
  means_end p h = ap (walk reads bytes p 0) (drop_all p bytes h)

  step : (p : ℕ) → p < length bytes → means reads bytes p ≡ onward (record_at reads bytes p) (λ q. walk reads bytes (p + 1) (q - (p + 1)) (drop (p + 1) bytes))
  unfolding means walk
  step p h = ap (walk reads bytes p 0) (drop_more bytes p 0 h)

  pub means_refused : (p : ℕ) (f : Refusal) → p < length bytes → record_at reads bytes p ≡ Err f → means reads bytes p ≡ record { waits = []; ends = Err f }
  means_refused p f h e = step p h ∙ ap (λ r. onward r (λ q. walk reads bytes (p + 1) (q - (p + 1)) (drop (p + 1) bytes))) e

  rejoined : (p q : ℕ) → p < q → walk reads bytes (p + 1) (q - (p + 1)) (drop (p + 1) bytes) ≡ means reads bytes q
  unfolding means
  rejoined p q h =
      let e : p + 1 + (q - (p + 1)) ≡ q = omega arith in
      walk_skip (drop (p + 1) bytes) (p + 1) (q - (p + 1)) ∙ ap (walk reads bytes (p + 1 + (q - (p + 1))) 0) (drop-drop (q - (p + 1)) (p + 1) bytes) ∙ ap (λ k. walk reads bytes k 0 (drop k bytes)) e

  pub means_taken : (p : ℕ) (h : Happening V) (q : ℕ) → p < length bytes → p < q → record_at reads bytes p ≡ Ok (h, q) → means reads bytes p ≡ first_then h (means reads bytes q)
  means_taken p h q l m e =
      step p l ∙ ap (λ r. onward r (λ q. walk reads bytes (p + 1) (q - (p + 1)) (drop (p + 1) bytes))) e ∙ ap (first_then h) (rejoined p q m)

module _ {V : Type 0} (reads : List ℕ → Result (V × ℕ) Fault) (longest : ℕ) (bounded : (bs : List ℕ) → Reading longest bs (reads bs)) (bytes : List ℕ) where
  past : (p : ℕ) → length bytes ≤ p → Records reads bytes p (means reads bytes p).waits (means reads bytes p).ends
  past p h = subst (λ m. Records reads bytes p m.waits m.ends) (sym (means_end reads bytes p h)) (at_end p h)

  -- what the walk finds is what the bytes record
  found : (k p : ℕ) → length bytes - p ≤ k → Records reads bytes p (means reads bytes p).waits (means reads bytes p).ends
  found zero p h = past p (omega arith)
  found (suc k) p h =
      elim (cases_lt p (length bytes)) [
        | inl l ↦ elim (by_result (record_at reads bytes p)) [
          | inl x ↦
              let s = stands reads bytes p x.0.0 x.0.1 x.1 in
              let m : p < x.0.1 = (short_records reads longest bounded bytes p x.0.0 x.0.1 s).0 in
              subst (λ m. Records reads bytes p m.waits m.ends) (sym (means_taken reads bytes p x.0.0 x.0.1 l m x.1))
              (onto p x.0.0 x.0.1 _ _ l s (found k x.0.1 (omega arith)))
          | inr x ↦ subst (λ m. Records reads bytes p m.waits m.ends) (sym (means_refused reads bytes p x.0 l x.1)) (stopped p x.0 l (fails reads bytes p x.0 x.1))
        ]
        | inr l ↦ past p l
      ]

  pub recorded : (p : ℕ) → Recorded reads bytes p (means reads bytes p).waits (means reads bytes p).ends
  recorded p = let r = found (length bytes) p (omega arith) in record { so = r; only = λ gs m s. one_account reads bytes r gs m s }

  -- what `next` tells at each way out
  pub next_end : (p : ℕ) → length bytes ≤ p → Next (means reads bytes p).waits (means reads bytes p).ends (Ok None) (means reads bytes p).waits (means reads bytes p).ends
  next_end p h = let m = means_end reads bytes p h in (ap (λ m. m.waits) m, ap (λ m. m.ends) m, refl, refl)

  pub next_refused : (bytes' : List ℕ) (p q : ℕ) (f : Refusal) → p < length bytes → bytes' ≡ bytes → q ≡ p → Err f ≡ record_at reads bytes p
      → Next (means reads bytes p).waits (means reads bytes p).ends (Err f) (means reads bytes' q).waits (means reads bytes' q).ends
  next_refused bytes' p q f l b e r =
      let m = means_refused reads bytes p f l (sym r) in
      let s : means reads bytes' q ≡ means reads bytes p = ap (λ bs. means reads bs q) b ∙ ap (means reads bytes) e in
      (ap (λ m. m.waits) m, ap (λ m. m.ends) m, ap (λ m. m.waits) s, ap (λ m. m.ends) s)

  pub next_taken : (bytes' : List ℕ) (p q : ℕ) (e : Event V) → p < length bytes → bytes' ≡ bytes → Ok (says e, q) ≡ record_at reads bytes p
      → Next (means reads bytes p).waits (means reads bytes p).ends (Ok (Some e)) (means reads bytes' q).waits (means reads bytes' q).ends
  next_taken bytes' p q e l b r =
      let onto = (short_records reads longest bounded bytes p (says e) q (stands reads bytes p (says e) q (sym r))).0 in
      let m = means_taken reads bytes p (says e) q l onto (sym r) in
      let s : means reads bytes' q ≡ means reads bytes q = ap (λ bs. means reads bs q) b in
      (ap (λ m. m.waits) m ∙ ap (λ m. says e ∷ m.waits) (sym s), ap (λ m. m.ends) s ∙ sym (ap (λ m. m.ends) m))

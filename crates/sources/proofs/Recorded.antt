-- What the bytes of a journal record is what is read of them, and nothing else. Assumes nothing.
use Rattle.std.proofs.Common.{◌≡◌, ℕ, zero, suc, ◌+◌, ◌*◌, ◌^◌, ◌<◌, ◌≤◌, Bool, true, false, cond, ltb, ◌⊎◌, List, [], ◌∷◌, length, drop, Ok, Err, Result, sym, refl, ap, ◌∙◌, subst, ap₂, inl, inr, le_trans, mul-le-mul_right, suc-mul, arith, lit≤}
use Rattle.std.proofs.lemmas.Bool.{le-ltb, lt-ltb, ltb-true, ltb-false}
use Rattle.kinds.specs.Groups.{short_number, within}
use Rattle.kinds.specs.Refusals.{Ending}
use Rattle.kinds.specs.declared.refusal.Fault.{Fault}
use Rattle.kinds.specs.declared.refusal.Reason.TheVariants.{WildId, TooManyValues}
use Rattle.kinds.specs.declared.refusal.Refusal.{Refusal}
use Rattle.kinds.specs.Numbers.{number_read}
use Rattle.kinds.specs.Readings.{Reading}
use Rattle.sources.specs.Events.{Happening, is_return, most}
use Rattle.sources.specs.Format.{at, and_then, event_at, moved, record_at, refuses, values_at}
use Rattle.sources.specs.Lawfulness.{ok_same}
use Rattle.sources.specs.Records.{Fails, Records, ShortRecords, Stands, Values, at_end, count_unread, count_wild, id_unread, id_wild, none, one_more, onto, stopped, value_unread}

-- A refusal that came through two steps came from one of them.
then_err : {A B E : Type 0} (r : Result A E) (f : A → Result B E) (d : E) → and_then r f ≡ Err d → (r ≡ Err d) ⊎ ((a : A) × (r ≡ Ok a) × (f a ≡ Err d))
then_err (Ok a) f d e = inr (a, refl, e)
then_err (Err c) f d e = inl (cc)

err_same : {A E : Type 0} (c d : E) → ◌≡◌ {A = Result A E} (Err c) (Err d) → c ≡ d
err_same c d e = cc

ok_err : {A E : Type 0} (r : Result A E) (a : A) (d : E) → r ≡ Ok a → r ≡ Err d → ⊥
ok_err r a d p q = let z : ◌≡◌ {A = ℕ} 0 1 = cc in omega arith

cond_err : {A E : Type 0} (t : Bool) (c d : E) (r : Result A E) → cond t (Err c) r ≡ Err d → ((t ≡ true) × (c ≡ d)) ⊎ ((t ≡ false) × (r ≡ Err d))
cond_err {A = A} true c d r e = inl (refl, err_same {A = A} c d e)
cond_err false c d r e = inr (refl, e)

module _ {V : Type 0} (reads : List ℕ → Result (V × ℕ) Fault) (bytes : List ℕ) where
  -- values, one after the other
  values_back : {p : ℕ} {vs : List V} {q : ℕ} → Values reads bytes p vs q → values_at reads bytes p (length vs) ≡ Ok (vs, q)
  values_back (none p) = refl
  values_back (one_more p v m vs q e rest) =
      ap (λ r. and_then r (λ w. and_then (values_at reads bytes w.1 (length vs)) (λ ws. Ok (w.0 ∷ ws.0, ws.1)))) e
      ∙ ap (λ r. and_then r (λ (ws : List V × ℕ). Ok (v ∷ ws.0, ws.1))) (values_back rest)

  values_fail : {p : ℕ} {vs : List V} {q : ℕ} → Values reads bytes p vs q → (n : ℕ) (f : Refusal) → length vs < n → at reads bytes q ≡ Err f → values_at reads bytes p n ≡ Err f
  values_fail (none p) zero f less e = absurd (omega arith)
  values_fail (none p) (suc n) f less e = ap (λ r. and_then r (λ w. and_then (values_at reads bytes w.1 n) (λ ws. Ok (w.0 ∷ ws.0, ws.1)))) e
  values_fail (one_more p v m vs q e rest) zero f less d = absurd (omega arith)
  values_fail (one_more p v m vs q e rest) (suc n) f less d =
      ap (λ r. and_then r (λ w. and_then (values_at reads bytes w.1 n) (λ ws. Ok (w.0 ∷ ws.0, ws.1)))) e
      ∙ ap (λ r. and_then r (λ (ws : List V × ℕ). Ok (v ∷ ws.0, ws.1))) (values_fail rest n f (omega arith) d)

  -- the first value that cannot be read
  Fallen : ℕ → ℕ → Refusal → Type 0
  Fallen p n f = (vs : List V) × (v : ℕ) × Values reads bytes p vs v × (length vs < n) × (at reads bytes v ≡ Err f)

  values_fall : (n p : ℕ) (f : Refusal) → values_at reads bytes p n ≡ Err f → Fallen p n f
  unfolding Fallen
  values_fall zero p f e = absurd (ok_err _ _ _ refl e)
  values_fall (suc n) p f e =
      elim (then_err (at reads bytes p) _ f e) [
        | inl d ↦ ([], p, none p, omega arith, d)
        | inr x ↦ elim (then_err (values_at reads bytes x.0.1 n) _ f x.2) [
          | inl d ↦
              let w = values_fall n x.0.1 f d in
              (x.0.0 ∷ w.0, w.1, one_more p x.0.0 x.0.1 w.0 w.1 x.1 w.2, omega (arith, w.3), w.4)
          | inr y ↦ absurd (ok_err _ _ _ refl y.2)
        ]
      ]

  -- what follows a count
  abbrev after_count : ℕ → ℕ → ℕ × ℕ → Result (Happening V × ℕ) Refusal
  after_count p id n = cond (ltb (most id) n.0) (Err (refuses TooManyValues p)) (event_at reads bytes n.1 id n.0)

  -- what follows an id
  abbrev after_id : ℕ → ℕ × ℕ → Result (Happening V × ℕ) Refusal
  after_id p i = cond (ltb 131071 i.0) (Err (refuses WildId p)) (and_then (at number_read bytes i.1) (after_count p i.0))

  id_first : (p : ℕ) (i : ℕ × ℕ) → at number_read bytes p ≡ Ok i → record_at reads bytes p ≡ after_id p i
  id_first p i e = ap (λ r. and_then r (after_id p)) e

  count_next : (p : ℕ) (i n : ℕ × ℕ) → at number_read bytes p ≡ Ok i → i.0 ≤ 131071 → at number_read bytes i.1 ≡ Ok n → record_at reads bytes p ≡ after_count p i.0 n
  count_next p i n e l d =
      id_first p i e ∙ ap (λ t. cond t (Err (refuses WildId p)) (and_then (at number_read bytes i.1) (after_count p i.0))) (le-ltb 131071 i.0 l)
      ∙ ap (λ r. and_then r (after_count p i.0)) d

  values_next : (p : ℕ) (i n : ℕ × ℕ) → at number_read bytes p ≡ Ok i → i.0 ≤ 131071 → at number_read bytes i.1 ≡ Ok n → n.0 ≤ most i.0
      → record_at reads bytes p ≡ event_at reads bytes n.1 i.0 n.0
  values_next p i n e l d m =
      count_next p i n e l d ∙ ap (λ t. cond t (Err (refuses TooManyValues p)) (event_at reads bytes n.1 i.0 n.0)) (le-ltb (most i.0) n.0 m)

  -- a record that stands is accepted
  pub accepted : (p : ℕ) (h : Happening V) (q : ℕ) → Stands reads bytes p h q → record_at reads bytes p ≡ Ok (h, q)
  accepted p h q s =
      values_next p (h.id, s.id_end) (length h.values, s.count_end) s.id s.lawful.0 s.count s.lawful.1
      ∙ ap (λ r. and_then r (λ (vs : List V × ℕ). Ok (record { id = h.id; values = vs.0 }, vs.1))) (values_back s.values)

  -- a record that fails is refused
  pub refused : (p : ℕ) {f : Refusal} → Fails reads bytes p f → record_at reads bytes p ≡ Err f
  refused p (id_unread f e) = ap (λ r. and_then r (after_id p)) e
  refused p (id_wild id i e l) = id_first p (id, i) e ∙ ap (λ t. cond t (Err (refuses WildId p)) (and_then (at number_read bytes i) (after_count p id))) (lt-ltb 131071 id l)
  refused p (count_unread id i f e l d) =
      id_first p (id, i) e ∙ ap (λ t. cond t (Err (refuses WildId p)) (and_then (at number_read bytes i) (after_count p id))) (le-ltb 131071 id l)
      ∙ ap (λ r. and_then r (after_count p id)) d
  refused p (count_wild id i n c e l d m) =
      count_next p (id, i) (n, c) e l d ∙ ap (λ t. cond t (Err (refuses TooManyValues p)) (event_at reads bytes c id n)) (lt-ltb (most id) n m)
  refused p (value_unread id i n c vs v f e l d m w k x) =
      values_next p (id, i) (n, c) e l d m ∙ ap (λ r. and_then r (λ (ws : List V × ℕ). Ok (record { id = id; values = ws.0 }, ws.1))) (values_fail w n f k x)

  -- a record that is refused fails
  values_fails : (p : ℕ) (f : Refusal) (i n : ℕ × ℕ) → at number_read bytes p ≡ Ok i → i.0 ≤ 131071 → at number_read bytes i.1 ≡ Ok n → n.0 ≤ most i.0
      → event_at reads bytes n.1 i.0 n.0 ≡ Err f → Fails reads bytes p f
  unfolding Fallen
  values_fails p f i n e l d m x =
      elim (then_err (values_at reads bytes n.1 n.0) _ f x) [
        | inl y ↦ let w = values_fall n.0 n.1 f y in value_unread i.0 i.1 n.0 n.1 w.0 w.1 f e l d m w.2 w.3 w.4
        | inr y ↦ absurd (ok_err _ _ _ refl y.2)
      ]

  count_fails : (p : ℕ) (f : Refusal) (i : ℕ × ℕ) → at number_read bytes p ≡ Ok i → i.0 ≤ 131071 → and_then (at number_read bytes i.1) (after_count p i.0) ≡ Err f → Fails reads bytes p f
  count_fails p f i e l x =
      elim (then_err (at number_read bytes i.1) _ f x) [
        | inl d ↦ count_unread i.0 i.1 f e l d
        | inr n ↦ elim (cond_err (ltb (most i.0) n.0.0) _ f _ n.2) [
          | inl y ↦ subst (Fails reads bytes p) y.1 (count_wild i.0 i.1 n.0.0 n.0.1 e l n.1 (ltb-true _ _ y.0))
          | inr y ↦ values_fails p f i n.0 e l n.1 (ltb-false _ _ y.0) y.1
        ]
      ]

  pub fails : (p : ℕ) (f : Refusal) → record_at reads bytes p ≡ Err f → Fails reads bytes p f
  fails p f x =
      elim (then_err (at number_read bytes p) _ f x) [
        | inl e ↦ id_unread f e
        | inr i ↦ elim (cond_err (ltb 131071 i.0.0) _ f _ i.2) [
          | inl y ↦ subst (Fails reads bytes p) y.1 (id_wild i.0.0 i.0.1 i.1 (ltb-true _ _ y.0))
          | inr y ↦ count_fails p f i.0 i.1 (ltb-false _ _ y.0) y.1
        ]
      ]

  -- two accounts of the same bytes agree
  pub one_account : {p : ℕ} {hs : List (Happening V)} {n : Ending} → Records reads bytes p hs n → (gs : List (Happening V)) (m : Ending) → Records reads bytes p gs m → (gs ≡ hs) × (m ≡ n)
  one_account (at_end p over) gs m (at_end p' over') = (refl, refl)
  one_account (at_end p over) gs m (stopped p' f under bad) = absurd (omega arith)
  one_account (at_end p over) gs m (onto p' h q hs n under s rest) = absurd (omega arith)
  one_account (stopped p f under bad) gs m (at_end p' over) = absurd (omega arith)
  one_account (stopped p f under bad) gs m (stopped p' g under' bad') =
      (refl, ap Err (err_same {A = Happening V × ℕ} g f (sym (refused p bad') ∙ refused p bad)))
  one_account (stopped p f under bad) gs m (onto p' h q hs n under' s rest) = absurd (ok_err _ _ _ (accepted p h q s) (refused p bad))
  one_account (onto p h q hs n under s rest) gs m (at_end p' over) = absurd (omega arith)
  one_account (onto p h q hs n under s rest) gs m (stopped p' f under' bad) = absurd (ok_err _ _ _ (accepted p h q s) (refused p bad))
  one_account (onto p h q hs n under s rest) gs m (onto p' h' q' hs' n' under' s' rest') =
      let same : ◌≡◌ {A = Happening V × ℕ} (h', q') (h, q) = ok_same (h', q') (h, q) (sym (accepted p h' q' s') ∙ accepted p h q s) in
      let there : Records reads bytes q hs' n' = subst (λ (t : Happening V × ℕ). Records reads bytes t.1 hs' n') same rest' in
      let e = one_account rest hs' n' there in
      (ap₂ (λ (x : Happening V) (xs : List (Happening V)). x ∷ xs) (ap (λ (t : Happening V × ℕ). t.0) same) e.0, e.1)

-- From one place to the next, a reading goes at least one byte on, and at most its longest form.
abbrev pub Onto : ℕ → ℕ → ℕ → Type 0
Onto longest p q = (p < q) × (q ≤ p + longest)

at_moves : {V : Type 0} (longest : ℕ) (bs : List ℕ) (p : ℕ) (r : Result (V × ℕ) Fault) (v : V) (q : ℕ) → Reading longest bs r → moved p r ≡ Ok (v, q) → Onto longest p q
at_moves longest bs p (Ok u) v q k e =
    let s : p + u.1 ≡ q = ap (λ (w : _ × ℕ). w.1) (ok_same (u.0, p + u.1) (v, q) e) in
    (omega (arith, k.0), omega (arith, k.1))
at_moves longest bs p (Err f) v q k e = absurd (ok_err _ _ _ e refl)

-- A number below 128 ^ most takes at most so many bytes.
number_moves : (more : ℕ) (bytes : List ℕ) (p n q : ℕ) → 0 < more → n < 128 ^ more → at number_read bytes p ≡ Ok (n, q) → Onto more p q
number_moves more bytes p n q pos small e = go (number_read (drop p bytes)) refl e
  where
    go : (r : Result (ℕ × ℕ) Fault) → number_read (drop p bytes) ≡ r → moved p r ≡ Ok (n, q) → Onto more p q
    go (Err f) s d = absurd (ok_err _ _ _ d refl)
    go (Ok t) s d =
        let same = ok_same (t.0, p + t.1) (n, q) d in
        let value : t.0 ≡ n = ap (λ (w : ℕ × ℕ). w.0) same in
        let place : p + t.1 ≡ q = ap (λ (w : ℕ × ℕ). w.1) same in
        let few = short_number more (drop p bytes) t.0 t.1 pos (subst (λ k. k < 128 ^ more) (sym value) small) s in
        let some : 1 ≤ t.1 = (subst (Reading 9 (drop p bytes)) s (within 8 (drop p bytes))).0 in
        (omega arith, omega arith)

most_five : (id : ℕ) → most id ≤ 5
most_five id = elim (is_return id) as (λ b. cond b 1 5 ≤ 5) [ true ↦ lit≤ tt | false ↦ lit≤ tt ]

module _ {V : Type 0} (reads : List ℕ → Result (V × ℕ) Fault) (longest : ℕ) (bounded : (bs : List ℕ) → Reading longest bs (reads bs)) (bytes : List ℕ) where
  values_move : {p : ℕ} {vs : List V} {q : ℕ} → Values reads bytes p vs q → (p ≤ q) × (q ≤ p + length vs * longest)
  values_move (none p) = (omega arith, omega arith)
  values_move (one_more p v m vs q e rest) =
      let a : Onto longest p m = at_moves longest (drop p bytes) p (reads (drop p bytes)) v m (bounded (drop p bytes)) e in
      let b = values_move rest in
      let n : suc (length vs) * longest ≡ length vs * longest + longest = suc-mul (length vs) longest in
      (omega (arith, a.0, b.0), omega (arith, a.1, b.1, n))

  -- an id takes at most three bytes, a count one, and there are at most five values
  pub short_records : ShortRecords reads bytes longest
  short_records p h q s =
      let a = number_moves 3 bytes p h.id s.id_end (omega arith) (omega (arith, s.lawful.0)) s.id in
      let few : length h.values ≤ 5 = le_trans s.lawful.1 (most_five h.id) in
      let b = number_moves 1 bytes s.id_end (length h.values) s.count_end (omega arith) (omega arith) s.count in
      let c = values_move s.values in
      let m : length h.values * longest ≤ 5 * longest = mul-le-mul_right longest few in
      (omega (arith, a.0, b.0, c.0), omega (arith, a.1, b.1, c.1, m))

-- The translation of a table: a statement passes exactly if its labels fire.
use Rattle.std.proofs.Common.{◌≡◌, ℕ, zero, suc, ◌+◌, Bool, true, false, cond, not, eqb, ◌⊎◌, List, [], ◌∷◌, ◌++◌, map, length, get_or, take, drop, set, sym, refl, ap, ◌∙◌, subst, inl, inr, true≢false, suc-add, zero-add, get_or-append-add, eq-eqb, eqb-true}
use mathlib.Core.List.Memᴰ
use mathlib.Core.List.{cons≢nil, head-eq_of_cons-eq, tail-eq_of_cons-eq}
use lib.ListN.{length-map, get_or-map}
use Rattle.std.proofs.lemmas.Bool.{and_parts, and_from, cond-true}
use Rattle.topl.specs.Lists.{Class, Distinct, ◌∈◌, each, nothing, same_class}
use Rattle.topl.specs.Automata.{Sat, Tuple, Value, ◌!◌, act, given, ident}
use Rattle.topl.specs.Table.{Any, Differs, Event, Matcher, Pattern, Same, Write, any_event, at, event_of, overwrites, patterns, places}
use Rattle.topl.specs.Translation.{action_of, actions_of, guard_of, guards_of, index, letter, loaded, mentions, translated}
use Rattle.topl.specs.Runs.{Registers, fails, fares, fits, fits_all, meets, passes, writes, written, written_all}
use Rattle.topl.proofs.Basics.{same_tests}
use Rattle.topl.proofs.Persist.{passes≢fails, passes≢hangs}
use Rattle.topl.proofs.Straight.{Fires}

given_same : {u v : Class} {a : Value} → a ≡ given u → a ≡ given v → u ≡ v
given_same p q = cc

ident_same : {i j : ℕ} {a : Value} → a ≡ ident i → a ≡ ident j → i ≡ j
ident_same p q = cc

set_append_add : {X : Type 0} (xs ys : List X) (n : ℕ) (v : X) → set (xs ++ ys) (length xs + n) v ≡ xs ++ set ys n v
set_append_add [] ys n v = rw zero-add
set_append_add (x ∷ xs) ys n v = rw (suc-add (length xs) n) (ap (λ r. x ∷ r) (set_append_add xs ys n v))

set_map : {X Y : Type 0} (f : X → Y) (xs : List X) (n : ℕ) (v : X) → set (map f xs) n (f v) ≡ map f (set xs n v)
set_map f [] n v = refl
set_map f (x ∷ xs) zero v = refl
set_map f (x ∷ xs) (suc n) v = ap (λ r. f x ∷ r) (set_map f xs n v)

get_or_index : {i : ℕ} (d : Value) (is : List ℕ) → i ∈ is → (ys : Tuple) → get_or (map ident is ++ ys) (index i is) d ≡ ident i
get_or_index d [] m ys = absurd (Memᴰ.not-nil m)
get_or_index {i} d (j ∷ is) m ys = go (get_or_index d is) (eqb i j) refl (Memᴰ.cases_cons m)
  where
    go : (i ∈ is → (ys : Tuple) → get_or (map ident is ++ ys) (index i is) d ≡ ident i) → (b : Bool) → eqb i j ≡ b → (i ≡ j) ⊎ (i ∈ is) → get_or (ident j ∷ (map ident is ++ ys)) (cond b 0 (suc (index i is))) d ≡ ident i
    go below true e h = ap ident (sym (eqb-true i j e))
    go below false e (inl h) = absurd (true≢false (sym (eq-eqb i j h) ∙ e))
    go below false e (inr h) = below h ys

-- WRITES in either order
set_swap : {X : Type 0} (xs : List X) (i j : ℕ) (v w : X) → ¬ (i ≡ j) → set (set xs j w) i v ≡ set (set xs i v) j w
set_swap [] i j v w n = refl
set_swap (x ∷ xs) zero zero v w n = absurd (n refl)
set_swap (x ∷ xs) zero (suc j) v w n = refl
set_swap (x ∷ xs) (suc i) zero v w n = refl
set_swap (x ∷ xs) (suc i) (suc j) v w n = ap (λ r. x ∷ r) (set_swap xs i j v w (λ e. n (ap suc e)))

-- a write that no other one repeats may come last as well as first
write_swap : (s : Registers) (r : ℕ) (v w : Class) (q : Pattern) → ¬ (r ∈ overwrites q) → set (written s w q) r v ≡ written (set s r v) w q
write_swap s r v w Any n = refl
write_swap s r v w (Write x) n = set_swap s r x v w (λ e. n (Memᴰ.head e))
write_swap s r v w (Same x) n = refl
write_swap s r v w (Differs x) n = refl

write_last : (s : Registers) (us : List Class) (j r : ℕ) (v : Class) (ps : List Pattern) → ¬ (r ∈ each overwrites ps) → set (written_all s us j ps) r v ≡ written_all (set s r v) us j ps
write_last s us j r v [] n = refl
write_last s us j r v (q ∷ ps) n =
    write_last (written s (at us j) q) us (suc j) r v ps (λ m. n (Memᴰ.append_right (overwrites q) m))
    ∙ ap (λ (z : Registers). written_all z us (suc j) ps) (write_swap s r v (at us j) q (λ m. n (Memᴰ.append_left (each overwrites ps) m)))

first_last : (s : Registers) (us : List Class) (j : ℕ) (v : Class) (p : Pattern) (ps : List Pattern) → Distinct (each overwrites (p ∷ ps)) → written (written_all s us j ps) v p ≡ written_all (written s v p) us j ps
first_last s us j v Any ps d = refl
first_last s us j v (Write r) ps d = write_last s us j r v ps d.0
first_last s us j v (Same r) ps d = refl
first_last s us j v (Differs r) ps d = refl

tail_distinct : (p : Pattern) (ps : List Pattern) → Distinct (each overwrites (p ∷ ps)) → Distinct (each overwrites ps)
tail_distinct Any ps d = d
tail_distinct (Write r) ps d = d.1
tail_distinct (Same r) ps d = d
tail_distinct (Differs r) ps d = d

module _ (is : List ℕ) where
  register : (s : Registers) (r : ℕ) → loaded is s ! (length is + r) ≡ given (at s r)
  register s r =
      subst (λ (n : ℕ). loaded is s ! (n + r) ≡ given (at s r)) (length-map is ident)
      (get_or-append-add (map ident is) (map given s) r (given nothing) ∙ get_or-map given s r nothing)

  put_register : (s : Registers) (r : ℕ) (v : Class) → set (loaded is s) (length is + r) (given v) ≡ loaded is (set s r v)
  put_register s r v =
      subst (λ (n : ℕ). set (loaded is s) (n + r) (given v) ≡ loaded is (set s r v)) (length-map is ident)
      (set_append_add (map ident is) (map given s) r (given v) ∙ ap (λ (z : Tuple). map ident is ++ z) (set_map given s r v))

  place : (e : Event) (j : ℕ) → letter e ! suc j ≡ given (at (places e) j)
  place e j = get_or-map given (places e) j nothing

  grd_sound : (s : Registers) (e : Event) (j : ℕ) (p : Pattern) → fits s (at (places e) j) p ≡ true → Sat (loaded is s) (letter e) (guard_of (length is) (suc j) p)
  grd_sound s e j Any h = tt
  grd_sound s e j (Write r) h = tt
  grd_sound s e j (Same r) h = register s r ∙ ap given (same_tests.sound (at s r) (at (places e) j) h) ∙ sym (place e j)
  grd_sound s e j (Differs r) h = λ q.
      let k : at s r ≡ at (places e) j = given_same (register s r) (q ∙ place e j) in
      true≢false (sym h ∙ ap not (subst (λ (v : Class). same_class (at s r) v ≡ true) k (same_tests.complete (at s r))))

  grd_complete : (s : Registers) (e : Event) (j : ℕ) (p : Pattern) → Sat (loaded is s) (letter e) (guard_of (length is) (suc j) p) → fits s (at (places e) j) p ≡ true
  grd_complete s e j Any h = refl
  grd_complete s e j (Write r) h = refl
  grd_complete s e j (Same r) h =
      let k : at s r ≡ at (places e) j = given_same (register s r) (h ∙ place e j) in
      subst (λ (v : Class). same_class (at s r) v ≡ true) k (same_tests.complete (at s r))
  grd_complete s e j (Differs r) h = go (same_class (at s r) (at (places e) j)) refl
    where
      go : (b : Bool) → same_class (at s r) (at (places e) j) ≡ b → not b ≡ true
      go true t = absurd (h (register s r ∙ ap given (same_tests.sound (at s r) (at (places e) j) t) ∙ sym (place e j)))
      go false t = refl

  grds_sound : (s : Registers) (e : Event) (j : ℕ) (ps : List Pattern) → fits_all s (places e) j ps ≡ true → Sat (loaded is s) (letter e) (guards_of (length is) (suc j) ps)
  grds_sound s e j [] h = tt
  grds_sound s e j (p ∷ ps) h =
      let k = and_parts (fits s (at (places e) j) p) (fits_all s (places e) (suc j) ps) h in
      (grd_sound s e j p k.0, grds_sound s e (suc j) ps k.1)

  grds_complete : (s : Registers) (e : Event) (j : ℕ) (ps : List Pattern) → Sat (loaded is s) (letter e) (guards_of (length is) (suc j) ps) → fits_all s (places e) j ps ≡ true
  grds_complete s e j [] h = refl
  grds_complete s e j (p ∷ ps) h = and_from (fits s (at (places e) j) p) (fits_all s (places e) (suc j) ps) (grd_complete s e j p h.0) (grds_complete s e (suc j) ps h.1)

  doing_is : (s : Registers) (e : Event) (j : ℕ) (p : Pattern) → act (action_of (length is) (suc j) p) (letter e) (loaded is s) ≡ loaded is (written s (at (places e) j) p)
  doing_is s e j Any = refl
  doing_is s e j (Write r) = ap (λ (v : Value). set (loaded is s) (length is + r) v) (place e j) ∙ put_register s r (at (places e) j)
  doing_is s e j (Same r) = refl
  doing_is s e j (Differs r) = refl

  doings_is : (s : Registers) (e : Event) (j : ℕ) (ps : List Pattern) → Distinct (each overwrites ps) → act (actions_of (length is) (suc j) ps) (letter e) (loaded is s) ≡ loaded is (written_all s (places e) j ps)
  doings_is s e j [] d = refl
  doings_is s e j (p ∷ ps) d =
      ap (act (action_of (length is) (suc j) p) (letter e)) (doings_is s e (suc j) ps (tail_distinct p ps d)) ∙ doing_is (written_all s (places e) (suc j) ps) e j p
      ∙ ap (loaded is) (first_last s (places e) (suc j) (at (places e) j) p ps d)

  -- the ids of the matcher are among those that have a register
  abbrev pub Known : Matcher → Type 0
  Known m = (i : ℕ) → i ∈ mentions m → i ∈ is

  label_sound : (s : Registers) (e : Event) (m : Matcher) → Known m → meets s e m ≡ true → Sat (loaded is s) (letter e) (translated is m).0
  label_sound s e any_event K h = tt
  label_sound s e (event_of i ps) K h =
      let k = and_parts (eqb i e.id) (fits_all s (places e) 0 ps) h in
      (get_or_index (given nothing) is (K i (Memᴰ.head refl)) (map given s) ∙ ap ident (eqb-true i e.id k.0), grds_sound s e 0 ps k.1)

  label_complete : (s : Registers) (e : Event) (m : Matcher) → Known m → Sat (loaded is s) (letter e) (translated is m).0 → meets s e m ≡ true
  label_complete s e any_event K h = refl
  label_complete s e (event_of i ps) K h =
      and_from (eqb i e.id) (fits_all s (places e) 0 ps)
      (eq-eqb i e.id (ident_same (get_or_index (given nothing) is (K i (Memᴰ.head refl)) (map given s)) h.0)) (grds_complete s e 0 ps h.1)

  label_does : (s : Registers) (e : Event) (m : Matcher) → Distinct (each overwrites (patterns m)) → act (translated is m).1 (letter e) (loaded is s) ≡ loaded is (writes s e m)
  label_does s e any_event d = refl
  label_does s e (event_of i ps) d = doings_is s e 0 ps d

  -- of some matchers, and none writes a register twice
  abbrev pub AllKnown : List Matcher → Type 0
  AllKnown ms = (m : Matcher) → m ∈ ms → Known m × Distinct (each overwrites (patterns m))

  pub passes_fires : (ms : List Matcher) (s s' : Registers) (es : List Event) → AllKnown ms → fares ms s es ≡ passes s' →
      Fires (loaded is s) (map (translated is) ms) (map letter (take (length ms) es)) (loaded is s')
  passes_fires [] s s' es K h = (refl, ap (loaded is) (same_passes h))
    where
      same_passes : passes s ≡ passes s' → s ≡ s'
      same_passes q = cc
  passes_fires (m ∷ ms) s s' [] K h = absurd (passes≢hangs h refl)
  passes_fires (m ∷ ms) s s' (e ∷ es) K h = go (passes_fires ms (writes s e m) s' es (λ m' i. K m' (Memᴰ.tail i))) (meets s e m) refl h
    where
      go : (fares ms (writes s e m) es ≡ passes s' → Fires (loaded is (writes s e m)) (map (translated is) ms) (map letter (take (length ms) es)) (loaded is s')) →
          (b : Bool) → meets s e m ≡ b → cond b (fares ms (writes s e m) es) fails ≡ passes s' → Fires (loaded is s) (map (translated is) (m ∷ ms)) (map letter (take (suc (length ms)) (e ∷ es))) (loaded is s')
      go below true t h' =
          (letter e, map letter (take (length ms) es), refl, label_sound s e m (K m (Memᴰ.head refl)).0 t, subst (λ (z : Tuple). Fires z (map (translated is) ms) (map letter (take (length ms) es)) (loaded is s')) (sym (label_does s e m (K m (Memᴰ.head refl)).1)) (below h'))
      go below false t h' = absurd (passes≢fails h' refl)

  pub fires_passes : (ms : List Matcher) (s : Registers) (S : Tuple) (es : List Event) (w v : List Tuple) → AllKnown ms → map letter es ≡ w ++ v → Fires (loaded is s) (map (translated is) ms) w S →
      (s' : Registers) × (fares ms s es ≡ passes s') × (S ≡ loaded is s') × (v ≡ map letter (drop (length ms) es))
  fires_passes [] s S es w v K e f = (s, refl, sym f.1, sym (e ∙ ap (λ (w : List Tuple). w ++ v) f.0))
  fires_passes (m ∷ ms) s S [] w v K e f = absurd (cons≢nil (sym (e ∙ ap (λ (w : List Tuple). w ++ v) f.2)))
  fires_passes (m ∷ ms) s S (a ∷ es) w v K e f =
      let k = e ∙ ap (λ (w : List Tuple). w ++ v) f.2 in
      let k₁ : letter a ≡ f.0 = head-eq_of_cons-eq k in
      let k₂ : map letter es ≡ f.1 ++ v = tail-eq_of_cons-eq k in
      let t : meets s a m ≡ true = label_complete s a m (K m (Memᴰ.head refl)).0 (subst (λ (ℓ : Tuple). Sat (loaded is s) ℓ (translated is m).0) (sym k₁) f.3) in
      let d : act (translated is m).1 f.0 (loaded is s) ≡ loaded is (writes s a m) = subst (λ (ℓ : Tuple). act (translated is m).1 ℓ (loaded is s) ≡ loaded is (writes s a m)) k₁ (label_does s a m (K m (Memᴰ.head refl)).1) in
      let r = fires_passes ms (writes s a m) S es f.1 v (λ m' i. K m' (Memᴰ.tail i)) k₂ (subst (λ (z : Tuple). Fires z (map (translated is) ms) f.1 S) d f.4) in
      (r.0, cond-true (meets s a m) (fares ms (writes s a m) es) fails t ∙ r.1, r.2, r.3)

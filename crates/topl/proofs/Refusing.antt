-- Each refusal is answered exactly if its condition holds and no earlier one does.
use Rattle.std.proofs.Common.{◌≡◌, ℕ, ◌+◌, ◌*◌, ◌/◌, ◌<◌, ◌≤◌, Bool, true, false, cond, not, ◌&&◌, ◌||◌, eqb, ltb, ◌⊎◌, ◌↔◌, List, [], ◌∷◌, length, Some, None, Option, sym, refl, ap, ◌∙◌, subst, inl, inr, ⊎_elim, true≢false, arith, ltb-false, ltb-true, le-ltb, eq-eqb, ne_eqb, eqb-true}
use mathlib.Core.Bool.{false≢true}
use mathlib.Core.List.Memᴰ
use borrow.Author.Tests.{eqb_apart, not-true}
use Rattle.std.proofs.lemmas.Bool.{and_parts, and_from, or_cases, or_left, or_right, or_parts, not_from_false}
use Rattle.kinds.specs.declared.phase.Phase.{Phase}
use Rattle.kinds.specs.declared.phase.Phase.TheVariants.{Blank, Running, Broken, Spilled, Full, Kept}
use Rattle.kinds.specs.declared.refusal.Reason.{Reason}
use Rattle.kinds.specs.declared.refusal.Reason.TheVariants.{WildId, TooManyValues, Watch as of_watch}
use Rattle.kinds.specs.declared.watch_reason.WatchReason.TheVariants.{BegunAlready, BadCap, OtherConstants, SmallBoard, OtherArity}
use Rattle.kinds.specs.Refusals.{number_of}
use Rattle.topl.specs.Lists.{◌∈◌}
use Rattle.topl.specs.Table.{Table, calls, most_values}
use Rattle.topl.specs.Deciding.{need}
use Rattle.topl.specs.Ledger.{is_blank, other_arity, reason_if}
use Rattle.topl.specs.History.{BeginRefusals, EventRefusals, Refusing, WrongCount}
use Rattle.topl.specs.Days.{board}

-- a test that says yes of A and no of B, which exclude each other
record Sorts (b : Bool) (A B : Type 0) : Type 0 where
  yes_so : b ≡ true → A
  no_so : b ≡ false → B
  apart_so : A → B → ⊥

module _ (b : Bool) (A B : Type 0) (S : Sorts b A B) where
  is_yes : A → b ≡ true
  is_yes x = go b refl
    where
      go : (z : Bool) → b ≡ z → b ≡ true
      go true e = e
      go false e = absurd (S.apart_so x (S.no_so e))

  is_no : B → b ≡ false
  is_no x = go b refl
    where
      go : (z : Bool) → b ≡ z → b ≡ false
      go true e = absurd (S.apart_so (S.yes_so e) x)
      go false e = e

  module _ (n : Reason) (later : Option Reason) where
    here : ¬ (later ≡ Some n) → (reason_if b n later ≡ Some n) ↔ A
    here f = (λ e. go b refl e, λ x. ap (λ (z : Bool). reason_if z n later) (is_yes x))
      where
        go : (z : Bool) → b ≡ z → cond z (Some n) later ≡ Some n → A
        go true i e = S.yes_so i
        go false i e = absurd (f e)

    there : (o : Option Reason) (R : Type 0) → ¬ (Some n ≡ o) → (later ≡ o) ↔ R → (reason_if b n later ≡ o) ↔ (B × R)
    there o R f r = (λ e. go b refl e, λ x. ap (λ (z : Bool). reason_if z n later) (is_no x.0) ∙ r.1 x.1)
      where
        go : (z : Bool) → b ≡ z → cond z (Some n) later ≡ o → B × R
        go true i e = absurd (f e)
        go false i e = (S.no_so i, r.0 e)

  not_there : (n x : Reason) (later : Option Reason) → ¬ (n ≡ x) → ¬ (later ≡ Some x) → ¬ (reason_if b n later ≡ Some x)
  not_there n x later f g e = go b e
    where
      go : (z : Bool) → cond z (Some n) later ≡ Some x → ⊥
      go true i = f (some_same i)
        where
          some_same : Some n ≡ Some x → n ≡ x
          some_same i = cc
      go false i = g i

-- reasons differ by their numbers
differ : (a b : Reason) → ¬ (number_of a ≡ number_of b) → ¬ (Some a ≡ Some b)
differ a b f e = let i : a ≡ b = cc in f (ap number_of i)

unlike : (a b : Reason) → ¬ (number_of a ≡ number_of b) → ¬ (a ≡ b)
unlike a b f e = f (ap number_of e)

none_some : (a : Reason) → ¬ (None ≡ Some a)
none_some a e = let z : ◌≡◌ {A = ℕ} 0 1 = cc in omega arith

some_none : (a : Reason) → ¬ (Some a ≡ None)
some_none a e = let z : ◌≡◌ {A = ℕ} 0 1 = cc in omega arith

-- the last test of a chain
last_none : (b : Bool) (A B : Type 0) → Sorts b A B → (n : Reason) → (reason_if b n None ≡ None) ↔ B
last_none b A B S n = (λ e. go b refl e, λ x. ap (λ (z : Bool). reason_if z n None) (is_no b A B S x))
  where
    go : (z : Bool) → b ≡ z → cond z (Some n) None ≡ None → B
    go true i e = absurd (some_none n e)
    go false i e = S.no_so i

-- THE TESTS
blank_sorts : (q : Phase) → Sorts (not (is_blank q)) (¬ (q ≡ Blank)) (q ≡ Blank)
blank_sorts q = record { yes_so = yes_so q; no_so = no_so q; apart_so = λ f e. f e }
  where
    yes_so : (q : Phase) → not (is_blank q) ≡ true → ¬ (q ≡ Blank)
    yes_so Blank h e = false≢true h
    yes_so Running h e = let z : ◌≡◌ {A = ℕ} 0 1 = cc in omega arith
    yes_so Broken h e = let z : ◌≡◌ {A = ℕ} 0 1 = cc in omega arith
    yes_so Spilled h e = let z : ◌≡◌ {A = ℕ} 0 1 = cc in omega arith
    yes_so Full h e = let z : ◌≡◌ {A = ℕ} 0 1 = cc in omega arith
    yes_so Kept h e = let z : ◌≡◌ {A = ℕ} 0 1 = cc in omega arith

    no_so : (q : Phase) → not (is_blank q) ≡ false → q ≡ Blank
    no_so Blank h = refl
    no_so Running h = absurd (true≢false h)
    no_so Broken h = absurd (true≢false h)
    no_so Spilled h = absurd (true≢false h)
    no_so Full h = absurd (true≢false h)
    no_so Kept h = absurd (true≢false h)

cap_sorts : (c : ℕ) → Sorts (eqb c 0 || ltb 64 c) (¬ ((0 < c) × (c ≤ 64))) ((0 < c) × (c ≤ 64))
cap_sorts c = record {
  yes_so = λ h x. ⊎_elim (λ (e : eqb c 0 ≡ true). let i : c ≡ 0 = eqb-true c 0 e in let j : 0 < c = x.0 in omega arith) (λ (e : ltb 64 c ≡ true). let i : 64 < c = ltb-true 64 c e in let j : c ≤ 64 = x.1 in omega arith) (or_cases (eqb c 0) (ltb 64 c) h);
  no_so = λ h. let p = or_parts (eqb c 0) (ltb 64 c) h in let i : ¬ (c ≡ 0) = eqb_apart c 0 p.0 in (omega arith, ltb-false 64 c p.1);
  apart_so = λ f x. f x;
}

equal_sorts : (a b : ℕ) → Sorts (not (eqb a b)) (¬ (a ≡ b)) (a ≡ b)
equal_sorts a b = record { yes_so = λ h. eqb_apart a b (not-true (eqb a b) h); no_so = λ h. eqb-true a b (no_true (eqb a b) h); apart_so = λ f e. f e }
  where
    no_true : (z : Bool) → not z ≡ false → z ≡ true
    no_true true h = refl
    no_true false h = absurd (true≢false h)

room_sorts : (board need book : ℕ) → Sorts (ltb board need || eqb book 0) (¬ ((need ≤ board) × (0 < book))) ((need ≤ board) × (0 < book))
room_sorts board need book = record {
  yes_so = λ h x. ⊎_elim (λ (e : ltb board need ≡ true). let i : board < need = ltb-true board need e in let j : need ≤ board = x.0 in omega arith) (λ (e : eqb book 0 ≡ true). let i : book ≡ 0 = eqb-true book 0 e in let j : 0 < book = x.1 in omega arith) (or_cases (ltb board need) (eqb book 0) h);
  no_so = λ h. let p = or_parts (ltb board need) (eqb book 0) h in let i : ¬ (book ≡ 0) = eqb_apart book 0 p.1 in (ltb-false board need p.0, omega arith);
  apart_so = λ f x. f x;
}

less_sorts : (a b : ℕ) → Sorts (ltb a b) (a < b) (b ≤ a)
less_sorts a b = record { yes_so = λ h. ltb-true a b h; no_so = λ h. ltb-false a b h; apart_so = λ x y. omega arith }

-- of the arity
pub arity_sound : (ms : List (ℕ × ℕ)) (id n : ℕ) → other_arity ms id n ≡ true → (m : ℕ × ℕ) × (m ∈ ms) × (id / 2 ≡ m.0) × (¬ (n ≡ m.1))
arity_sound [] id n h = absurd (false≢true h)
arity_sound (m ∷ ms) id n h = go (arity_sound ms id n) (or_cases (eqb (id / 2) m.0 && not (eqb n m.1)) (other_arity ms id n) h)
  where
    go : (other_arity ms id n ≡ true → (d : ℕ × ℕ) × (d ∈ ms) × (id / 2 ≡ d.0) × (¬ (n ≡ d.1))) → ((eqb (id / 2) m.0 && not (eqb n m.1)) ≡ true) ⊎ (other_arity ms id n ≡ true) →
        (d : ℕ × ℕ) × (d ∈ (m ∷ ms)) × (id / 2 ≡ d.0) × (¬ (n ≡ d.1))
    go below (inl e) = let p = and_parts (eqb (id / 2) m.0) (not (eqb n m.1)) e in (m, Memᴰ.head refl, eqb-true (id / 2) m.0 p.0, eqb_apart n m.1 (not-true (eqb n m.1) p.1))
    go below (inr e) = let x = below e in (x.0, Memᴰ.tail x.1, x.2, x.3)

arity_complete : {m : ℕ × ℕ} {ms : List (ℕ × ℕ)} (id n : ℕ) → m ∈ ms → id / 2 ≡ m.0 → ¬ (n ≡ m.1) → other_arity ms id n ≡ true
arity_complete {m} id n (Memᴰ.head {x = d} {xs = ms} e) i f =
    or_left (eqb (id / 2) d.0 && not (eqb n d.1)) (other_arity ms id n)
    (subst (λ (z : ℕ × ℕ). (eqb (id / 2) z.0 && not (eqb n z.1)) ≡ true) e (and_from (eqb (id / 2) m.0) (not (eqb n m.1)) (eq-eqb (id / 2) m.0 i) (not_from_false (eqb n m.1) (ne_eqb n m.1 f))))
arity_complete id n (Memᴰ.tail {x = d} {xs = ms} k) i f = or_right (eqb (id / 2) d.0 && not (eqb n d.1)) (other_arity ms id n) (arity_complete id n k i f)

arity_sorts : (P : Table) (id n : ℕ) → Sorts (calls id && other_arity P.methods id n) (WrongCount P id n) (¬ WrongCount P id n)
arity_sorts P id n = record {
  yes_so = λ h. let p = and_parts (calls id) (other_arity P.methods id n) h in (p.0, arity_sound P.methods id n p.1);
  no_so = λ h x. true≢false (sym (and_from (calls id) (other_arity P.methods id n) x.0 (arity_complete id n x.1.1 x.1.2 x.1.3)) ∙ h);
  apart_so = λ x f. f x;
}

module _ (phase : Phase) (board book here-given wanted cap : ℕ) where
  begin_refusals : BeginRefusals phase board book here-given wanted cap
  begin_refusals =
      let a = not (is_blank phase) in
      let b = eqb cap 0 || ltb 64 cap in
      let c = not (eqb here-given wanted) in
      let d = ltb board (40 * cap + 64) || eqb book 0 in
      let later₃ = reason_if d (of_watch SmallBoard) None in
      let later₂ = reason_if c (of_watch OtherConstants) later₃ in
      let later₁ = reason_if b (of_watch BadCap) later₂ in
      record {
        is_21 = here a _ _ (blank_sorts phase) (of_watch BegunAlready) later₁
            (not_there b _ _ (cap_sorts cap) (of_watch BadCap) (of_watch BegunAlready) later₂ (unlike (of_watch BadCap) (of_watch BegunAlready) (λ e. omega arith))
            (not_there c _ _ (equal_sorts here-given wanted) (of_watch OtherConstants) (of_watch BegunAlready) later₃ (unlike (of_watch OtherConstants) (of_watch BegunAlready) (λ e. omega arith))
            (not_there d _ _ (room_sorts board (40 * cap + 64) book) (of_watch SmallBoard) (of_watch BegunAlready) None (unlike (of_watch SmallBoard) (of_watch BegunAlready) (λ e. omega arith)) (none_some (of_watch BegunAlready)))));
        is_22 = there a _ _ (blank_sorts phase) (of_watch BegunAlready) later₁ (Some (of_watch BadCap)) _ (differ (of_watch BegunAlready) (of_watch BadCap) (λ e. omega arith))
            (here b _ _ (cap_sorts cap) (of_watch BadCap) later₂
            (not_there c _ _ (equal_sorts here-given wanted) (of_watch OtherConstants) (of_watch BadCap) later₃ (unlike (of_watch OtherConstants) (of_watch BadCap) (λ e. omega arith))
            (not_there d _ _ (room_sorts board (40 * cap + 64) book) (of_watch SmallBoard) (of_watch BadCap) None (unlike (of_watch SmallBoard) (of_watch BadCap) (λ e. omega arith)) (none_some (of_watch BadCap)))));
        is_23 = there a _ _ (blank_sorts phase) (of_watch BegunAlready) later₁ (Some (of_watch OtherConstants)) _ (differ (of_watch BegunAlready) (of_watch OtherConstants) (λ e. omega arith))
            (there b _ _ (cap_sorts cap) (of_watch BadCap) later₂ (Some (of_watch OtherConstants)) _ (differ (of_watch BadCap) (of_watch OtherConstants) (λ e. omega arith))
            (here c _ _ (equal_sorts here-given wanted) (of_watch OtherConstants) later₃
            (not_there d _ _ (room_sorts board (40 * cap + 64) book) (of_watch SmallBoard) (of_watch OtherConstants) None (unlike (of_watch SmallBoard) (of_watch OtherConstants) (λ e. omega arith)) (none_some (of_watch OtherConstants)))));
        is_24 = there a _ _ (blank_sorts phase) (of_watch BegunAlready) later₁ (Some (of_watch SmallBoard)) _ (differ (of_watch BegunAlready) (of_watch SmallBoard) (λ e. omega arith))
            (there b _ _ (cap_sorts cap) (of_watch BadCap) later₂ (Some (of_watch SmallBoard)) _ (differ (of_watch BadCap) (of_watch SmallBoard) (λ e. omega arith))
            (there c _ _ (equal_sorts here-given wanted) (of_watch OtherConstants) later₃ (Some (of_watch SmallBoard)) _ (differ (of_watch OtherConstants) (of_watch SmallBoard) (λ e. omega arith))
            (here d _ _ (room_sorts board (40 * cap + 64) book) (of_watch SmallBoard) None (none_some (of_watch SmallBoard)))));
        is_none = there a _ _ (blank_sorts phase) (of_watch BegunAlready) later₁ None _ (some_none (of_watch BegunAlready))
            (there b _ _ (cap_sorts cap) (of_watch BadCap) later₂ None _ (some_none (of_watch BadCap))
            (there c _ _ (equal_sorts here-given wanted) (of_watch OtherConstants) later₃ None _ (some_none (of_watch OtherConstants))
            (last_none d _ _ (room_sorts board (40 * cap + 64) book) (of_watch SmallBoard))));
      }

pub event_refusals : (P : Table) (id n : ℕ) → EventRefusals P id n
event_refusals P id n =
    let a = ltb 131071 id in
    let b = ltb (most_values id) n in
    let c = calls id && other_arity P.methods id n in
    let later₂ = reason_if c (of_watch OtherArity) None in
    let later₁ = reason_if b TooManyValues later₂ in
    record {
      is_4 = here a _ _ (less_sorts 131071 id) WildId later₁
          (not_there b _ _ (less_sorts (most_values id) n) TooManyValues WildId later₂ (unlike TooManyValues WildId (λ e. omega arith))
          (not_there c _ _ (arity_sorts P id n) (of_watch OtherArity) WildId None (unlike (of_watch OtherArity) WildId (λ e. omega arith)) (none_some WildId)));
      is_5 = there a _ _ (less_sorts 131071 id) WildId later₁ (Some TooManyValues) _ (differ WildId TooManyValues (λ e. omega arith))
          (here b _ _ (less_sorts (most_values id) n) TooManyValues later₂
          (not_there c _ _ (arity_sorts P id n) (of_watch OtherArity) TooManyValues None (unlike (of_watch OtherArity) TooManyValues (λ e. omega arith)) (none_some TooManyValues)));
      is_30 = there a _ _ (less_sorts 131071 id) WildId later₁ (Some (of_watch OtherArity)) _ (differ WildId (of_watch OtherArity) (λ e. omega arith))
          (there b _ _ (less_sorts (most_values id) n) TooManyValues later₂ (Some (of_watch OtherArity)) _ (differ TooManyValues (of_watch OtherArity) (λ e. omega arith))
          (here c _ _ (arity_sorts P id n) (of_watch OtherArity) None (none_some (of_watch OtherArity))));
      is_none = there a _ _ (less_sorts 131071 id) WildId later₁ None _ (some_none WildId)
          (there b _ _ (less_sorts (most_values id) n) TooManyValues later₂ None _ (some_none TooManyValues)
          (last_none c _ _ (arity_sorts P id n) (of_watch OtherArity)));
    }

-- a lawful event
arity_alone : (a b c : Bool) → a ≡ false → b ≡ false →
    (reason_if a WildId (reason_if b TooManyValues (reason_if c (of_watch OtherArity) None)) ≡ None) ⊎ (reason_if a WildId (reason_if b TooManyValues (reason_if c (of_watch OtherArity) None)) ≡ Some (of_watch OtherArity))
arity_alone true b c h k = absurd (true≢false h)
arity_alone false true c h k = absurd (true≢false k)
arity_alone false false true h k = inr refl
arity_alone false false false h k = inl refl

pub refusing : Refusing
refusing = (
  begin_refusals,
  event_refusals,
  λ P e L. arity_alone (ltb 131071 e.id) (ltb (most_values e.id) (length e.values)) (calls e.id && other_arity P.methods e.id (length e.values)) (le-ltb 131071 e.id L.known)
      (le-ltb (most_values e.id) (length e.values) L.carries),
)

-- A register, a state or a method more leaves true what holds of a property as far as it was read.
use Rattle.std.proofs.Common.{◌≡◌, ℕ, ◌+◌, ◌<◌, ◌≤◌, Bool, true, false, cond, not, ◌&&◌, ◌||◌, eqb, ltb, leb, List, [], ◌∷◌, ◌++◌, length, get_or, codes, sym, refl, ap, ◌∙◌, subst, inl, inr, arith, eqb-true}
use Rattle.std.specs.List.{position_or_len}
use Rattle.std.proofs.lemmas.Bool.{cases_Bool, and_parts, or_parts, and_cases, or_left, cond_both, eqb-false, leb-false, ltb-false}
use Rattle.std.proofs.lemmas.List.{get_or_append_left, get_or_push, length_push, map-append}
use Rattle.std.proofs.lemmas.List.Elements.{All-push}
use Rattle.std.proofs.lemmas.List.Sums.{passes_at_first}
use Rattle.std.proofs.lemmas.Slice.Eq.{bytes_eq-Decides}
use mathlib.Core.List.Memᴰ
use Rattle.topl.specs.Lists.{◌∈◌, Distinct}
use Rattle.forms.proofs.Laws.{apart}
use Rattle.property.specs.Cursors.{one_if}
use Rattle.property.specs.States.{Declared, Key, Property, State, with_method, with_register, with_state, same_key, register_of, new_key, holding, ninth, is_start, is_error, state_number, fresh_other, visited, crowded}
use Rattle.property.specs.Words.{same}
use Rattle.limits.specs.Limits.{MethodFits, states}
use Rattle.limits.proofs.Lists.{distinct_more, none_passes, position_least}
use Rattle.limits.proofs.Kept.{Kept, NewName, NewNumber, Grows, all_grow}

-- A word is spelled like itself.
pub same_self : (w : List ℕ) → same w w ≡ true
same_self w = (bytes_eq-Decides w w).1 refl

-- REGISTERS
-- Q is P where the key k has a register.
pub record Holds (P Q : Property) (k : Key) : Type 0 where
  pub grows : Grows P Q
  pub statements : length Q.statements ≡ length P.statements
  pub kept : (a b : Bool) → Kept P a b → Kept Q a b
  pub within : register_of P k < length Q.registers
  pub is : (d : Key) → same_key k (get_or Q.registers (register_of P k) d) ≡ true

-- A key is the same as itself.
key_self : (k : Key) → same_key k k ≡ true
key_self k = go k.constant (same k.name k.name) (same_self k.name)
  where
    go : (b s : Bool) → s ≡ true → cond b (b && s) (not b && s) ≡ true
    go true s e = e
    go false s e = e

-- The register of a variable is a variable's.
pub key_variable : (k e : Key) → k.constant ≡ false → same_key k e ≡ true → e.constant ≡ false
key_variable k e c h = go k.constant e.constant (same k.name e.name) c h
  where
    go : (b d s : Bool) → b ≡ false → cond b (d && s) (not d && s) ≡ true → d ≡ false
    go true d s c h = apart true refl c
    go false true s c h = apart false h refl
    go false false s c h = refl

-- Nothing more.
stays : (P : Property) → Grows P P
stays P = record { methods = λ m h. h; states = omega arith; registers = λ r h. h; same = λ r d h. refl }

-- A register more.
register_grows : (P : Property) (k : Key) → Grows P (with_register k P)
register_grows P k = record {
  methods = λ m h. h;
  states = omega arith;
  registers = λ r h. (let e = length_push P.registers k in omega arith);
  same = λ r d h. get_or_append_left P.registers (k ∷ []) d r h;
}

module _ (P : Property) (k : Key) where
  -- A key that has no register yet gets one.
  new_holds : ninth P k ≡ false → new_key P k ≡ true → Holds P (with_register k P) k
  new_holds n e =
      let g = register_grows P k in
      let at : register_of P k ≡ length P.registers = eqb-true (register_of P k) (length P.registers) e in
      let more : length (P.registers ++ k ∷ []) ≡ length P.registers + 1 = length_push P.registers k in
      let room : length P.registers < 8 = leb-false 8 (length P.registers) (sym (ap (λ (b : Bool). b && leb 8 (length P.registers)) e) ∙ n) in
      let few : length (P.registers ++ k ∷ []) ≤ 8 = omega arith in
      let new : ¬ (k ∈ P.registers) = λ m. apart (same_key k k) (key_self k) (none_passes (same_key k) P.registers (omega arith) k m) in
      let inside : register_of P k < length (P.registers ++ k ∷ []) = omega arith in
      record {
        grows = g;
        statements = refl;
        kept = λ a b h. record {
          methods = h.methods;
          states = h.states;
          registers = record { few = few; apart = distinct_more P.registers k h.registers.apart new };
          few_statements = h.few_statements;
          statements_fit = all_grow P (with_register k P) g a b a b (λ x. x) (λ x. x) P.statements h.statements_fit;
        };
        within = inside;
        is = λ d. ap (same_key k) (get_or_push P.registers k d (register_of P k) (sym at)) ∙ key_self k;
      }

  -- A key that has its register keeps it.
  old_holds : new_key P k ≡ false → Holds P P k
  old_holds e =
      let l = position_least (same_key k) P.registers in
      let n = eqb-false (register_of P k) (length P.registers) e in
      let inside : register_of P k < length P.registers = omega arith in
      record { grows = stays P; statements = refl; kept = λ a b h. h; within = inside; is = λ d. passes_at_first (same_key k) P.registers d inside }

  -- Where there is room, a key has a register.
  pub holds : ninth P k ≡ false → Holds P (holding k P) k
  holds n = cond_both (new_key P k) (with_register k P) P (λ Q. Holds P Q k) (new_holds n) old_holds

-- STATES
-- Q is P where the state w was written, besides those that the position p has.
pub record Visits (p : State) (Q : Property) (w : List ℕ) : Type 0 where
  pub grows : Grows p.sofar Q
  pub statements : length Q.statements ≡ length p.sofar.statements
  pub kept : Kept Q (p.cursor.starts || is_start w) (p.cursor.errs || is_error w)
  pub number : state_number p.sofar.others w < states Q

-- No word is both `start` and `error`.
not_both : (w : List ℕ) → is_start w && is_error w ≡ false
not_both w = elim (cases_Bool (is_start w && is_error w)) [
  | inl e ↦ (
      let h = and_parts (is_start w) (is_error w) e in
      let x : codes "start" ≡ codes "error" = sym ((bytes_eq-Decides w (codes "start")).0 h.0) ∙ (bytes_eq-Decides w (codes "error")).0 h.1 in
      let y : ◌≡◌ {A = ℕ} 115 101 = ap (λ (l : List ℕ). get_or l 0 0) x in absurd (omega arith)
      )
  | inr e ↦ e
]

-- Of three tests at most one holds.
one_of : (s e x : Bool) → s && e ≡ false → one_if s + (one_if e + one_if (not s && (not e && x))) ≤ 1
one_of true true x h = apart true refl h
one_of true false x h = omega arith
one_of false true x h = omega arith
one_of false false true h = omega arith
one_of false false false h = omega arith

-- A test more raises the count by one at most.
one_or : (a s : Bool) → one_if (a || s) ≤ one_if a + one_if s
one_or true true = omega arith
one_or true false = omega arith
one_or false true = omega arith
one_or false false = omega arith

-- A test that adds nothing new leaves the count.
one_stays : (a s : Bool) → s && not a ≡ false → one_if (a || s) ≡ one_if a
one_stays true s h = refl
one_stays false true h = apart true refl h
one_stays false false h = refl

-- The states stay few: f, s and e say that a state other than `start` and `error`, `start`, `error` is written anew.
stay_few : (n : ℕ) (a b f s e : Bool) → one_if s + (one_if e + one_if f) ≤ 1 → n + (one_if a + one_if b) ≤ 16
    → leb 16 (n + (one_if a + one_if b)) && (f || ((s && not a) || (e && not b))) ≡ false → (n + one_if f) + (one_if (a || s) + one_if (b || e)) ≤ 16
stay_few n a b f s e one few h = elim (and_cases (leb 16 (n + (one_if a + one_if b))) (f || ((s && not a) || (e && not b))) h) [
  | inl x ↦ (
      let room = leb-false 16 (n + (one_if a + one_if b)) x in
      let p = one_or a s in
      let q = one_or b e in omega arith
      )
  | inr x ↦ (
      let y = or_parts f ((s && not a) || (e && not b)) x in
      let z = or_parts (s && not a) (e && not b) y.1 in
      let p = one_stays a s z.0 in
      let q = one_stays b e z.1 in
      let r : one_if f ≡ 0 = ap one_if y.0 in omega arith
      )
]

-- A state has a number below the count of states.
number_within : (s e : Bool) (i m : ℕ) → (s ≡ false → e ≡ false → i < m) → cond s 0 (cond e 1 (cond (ltb i 14) (2 + i) 16)) < 2 + m
number_within true e i m h = omega arith
number_within false true i m h = omega arith
number_within false false i m h =
    let l : i < m = h refl refl in
    cond_both (ltb i 14) (2 + i) 16 (λ (n : ℕ). n < 2 + m) (λ x. omega arith) (λ x. let k = ltb-false i 14 x in omega arith)

-- The others have numbers from 2 on.
number_from_two : (i : ℕ) → 2 ≤ cond (ltb i 14) (2 + i) 16
number_from_two i = cond_both (ltb i 14) (2 + i) 16 (λ (n : ℕ). 2 ≤ n) (λ x. omega arith) (λ x. omega arith)

-- The numbers 0 and 1 are those of `start` and `error`.
pub number_start : (ws : List (List ℕ)) (w : List ℕ) → state_number ws w ≡ 0 → is_start w ≡ true
number_start ws w h = go (is_start w) (is_error w) h
  where
    go : (s e : Bool) → cond s 0 (cond e 1 (cond (ltb (position_or_len (same w) ws) 14) (2 + position_or_len (same w) ws) 16)) ≡ 0 → s ≡ true
    go true e h = refl
    go false true h = absurd (omega arith)
    go false false h = let l = number_from_two (position_or_len (same w) ws) in absurd (omega arith)

pub number_error : (ws : List (List ℕ)) (w : List ℕ) → state_number ws w ≡ 1 → is_error w ≡ true
number_error ws w h = go (is_start w) (is_error w) h
  where
    go : (s e : Bool) → cond s 0 (cond e 1 (cond (ltb (position_or_len (same w) ws) 14) (2 + position_or_len (same w) ws) 16)) ≡ 1 → e ≡ true
    go true e h = absurd (omega arith)
    go false true h = refl
    go false false h = let l = number_from_two (position_or_len (same w) ws) in absurd (omega arith)

-- A state more.
state_grows : (P : Property) (w : List ℕ) → Grows P (with_state w P)
state_grows P w = record { methods = λ m h. h; states = (let e = length_push P.others w in omega arith); registers = λ r h. h; same = λ r d h. refl }

module _ (p : State) (w : List ℕ) where
  -- The property so far, and whether `start` and `error` have been written.
  abbrev P : Property
  P = p.sofar

  abbrev a : Bool
  a = p.cursor.starts

  abbrev b : Bool
  b = p.cursor.errs

  -- A state that was not written yet.
  new_visits : Kept P a b → crowded p w ≡ false → fresh_other P.others w ≡ true → Visits p (with_state w P) w
  new_visits h c e =
      let g = state_grows P w in
      let f = and_parts (not (is_start w)) _ e in
      let i = and_parts (not (is_error w)) _ f.1 in
      let at = eqb-true (position_or_len (same w) P.others) (length P.others) i.1 in
      let more : length (P.others ++ w ∷ []) ≡ length P.others + 1 = length_push P.others w in
      let one = one_of (is_start w) (is_error w) (eqb (position_or_len (same w) P.others) (length P.others)) (not_both w) in
      let k = stay_few (length P.others) a b (fresh_other P.others w) (is_start w) (is_error w) one h.states.few c in
      let x : one_if (fresh_other P.others w) ≡ 1 = ap one_if e in
      let few : length (P.others ++ w ∷ []) + (one_if (a || is_start w) + one_if (b || is_error w)) ≤ 16 = omega arith in
      let new : ¬ (w ∈ P.others) = λ m. apart (same w w) (same_self w) (none_passes (same w) P.others (omega arith) w m) in
      record {
        grows = g;
        statements = refl;
        kept = record {
          methods = h.methods;
          states = record { few = few; apart = distinct_more P.others w h.states.apart new };
          registers = h.registers;
          few_statements = h.few_statements;
          statements_fit = all_grow P (with_state w P) g a b (a || is_start w) (b || is_error w) (or_left a (is_start w)) (or_left b (is_error w)) P.statements h.statements_fit;
        };
        number = number_within (is_start w) (is_error w) (position_or_len (same w) P.others) (length (P.others ++ w ∷ [])) (λ s t. omega arith);
      }

  -- A state that was written before, `start` or `error`.
  old_visits : Kept P a b → crowded p w ≡ false → fresh_other P.others w ≡ false → Visits p P w
  old_visits h c e =
      let l = position_least (same w) P.others in
      let one = one_of (is_start w) (is_error w) (eqb (position_or_len (same w) P.others) (length P.others)) (not_both w) in
      let k = stay_few (length P.others) a b (fresh_other P.others w) (is_start w) (is_error w) one h.states.few c in
      let x : one_if (fresh_other P.others w) ≡ 0 = ap one_if e in
      let few : length P.others + (one_if (a || is_start w) + one_if (b || is_error w)) ≤ 16 = omega arith in
      record {
        grows = stays P;
        statements = refl;
        kept = record {
          methods = h.methods;
          states = record { few = few; apart = h.states.apart };
          registers = h.registers;
          few_statements = h.few_statements;
          statements_fit = all_grow P P (stays P) a b (a || is_start w) (b || is_error w) (or_left a (is_start w)) (or_left b (is_error w)) P.statements h.statements_fit;
        };
        number = number_within (is_start w) (is_error w) (position_or_len (same w) P.others) (length P.others) (λ s t.
            let n = eqb-false (position_or_len (same w) P.others) (length P.others) (other (is_start w) (is_error w) _ s t e) in omega arith);
      }
    where
      other : (s t x : Bool) → s ≡ false → t ≡ false → not s && (not t && x) ≡ false → x ≡ false
      other true t x f g h = apart true refl f
      other false true x f g h = apart true refl g
      other false false x f g h = h

  -- Where there is room, a state is written.
  pub visits : Kept P a b → crowded p w ≡ false → Visits p (visited w P) w
  visits h c = cond_both (fresh_other P.others w) (with_state w P) P (λ Q. Visits p Q w) (new_visits h c) (old_visits h c)

-- METHODS
-- A method more.
method_grows : (P : Property) (m : Declared) → Grows P (with_method m P)
method_grows P m = record { methods = λ x h. Memᴰ.append_left (m ∷ []) h; states = omega arith; registers = λ r h. h; same = λ r d h. refl }

-- A method more is declared.
pub declared_kept : (P : Property) (a b : Bool) (m : Declared) → NewName P.methods m.name → NewNumber P.methods m.number → m.arity ≤ 5 → Kept P a b
    → Kept (with_method m P) a b
declared_kept P a b m x y z h =
    let e = length_push P.methods m in
    let r = x.room in
    let few : length (P.methods ++ m ∷ []) ≤ 32 = omega arith in
    record {
      methods = record {
        few = few;
        fit = All-push MethodFits P.methods m h.methods.fit (y.small, z);
        names_apart = subst Distinct (sym (map-append (λ m. m.name) P.methods (m ∷ []))) (distinct_more _ m.name h.methods.names_apart x.other);
        numbers_apart = subst Distinct (sym (map-append (λ m. m.number) P.methods (m ∷ []))) (distinct_more _ m.number h.methods.numbers_apart y.other);
      };
      states = h.states;
      registers = h.registers;
      few_statements = h.few_statements;
      statements_fit = all_grow P (with_method m P) (method_grows P m) a b a b (λ x. x) (λ x. x) P.statements h.statements_fit;
    }

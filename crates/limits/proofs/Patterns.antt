-- A piece that begins a pattern, or stands in one, leaves a good text good.
use Rattle.std.proofs.Common.{◌≡◌, ℕ, Bool, true, false, cond, not, ◌&&◌, ◌||◌, eqb, List, [], ◌∷◌, ◌++◌, sym, refl, ap, ◌∙◌, subst, inl, inr, arith}
use Rattle.std.proofs.lemmas.Bool.{cases_Bool, or_parts, cond_both, eqb-true}
use Rattle.std.proofs.lemmas.Bool.Decides.{nat_tests}
use mathlib.Core.List.Memᴰ
use Rattle.topl.specs.Lists.{◌∈◌, each}
use Rattle.topl.specs.declared.pattern.Pattern.TheVariants as patterns
use Rattle.forms.specs.Bytes.{space, capital, small, letter, wordy}
use Rattle.forms.specs.Pieces.{Piece, word, number, mark, head_of, Next}
use Rattle.forms.proofs.Laws.{apart}
use Rattle.forms.proofs.Lexing.{letter_space, digit_letter, letter_wordy}
use Rattle.property.specs.Cursors.{writing, labelled, filled, wrote}
use Rattle.property.specs.Grammar.{bytes, wants, wants_word, fresh_flaws, pattern_flaws, variable_flaws, begun_flaws}
use Rattle.property.specs.States.{Property, State, at, turned, key, variable_key, constant_key, register_of, holding, ninth, patterned, variable, begins}
use Rattle.property.specs.Words.{front, past, reserved, long, first_byte}
use Rattle.property.specs.declared.cursor.Partial.{Partial}
use Rattle.property.specs.declared.spot.Inner.TheVariants as inners
use Rattle.property.specs.declared.spot.Spot.TheVariants as spots
use Rattle.property.specs.declared.table.Slot.{Slot}
use Rattle.limits.specs.Limits.{writes}
use Rattle.limits.proofs.Lists.{front_run, past_run}
use Rattle.limits.proofs.Kept.{Sofar, Labelled, Amid, Good}
use Rattle.limits.proofs.Growing.{holds, key_variable}
use Rattle.limits.proofs.Lines.{Unmarked, unmarked_then, unmarked_else}
use Rattle.limits.proofs.Labels.{Fresh, writing_flags, filled_good, quoted_good, patterned_good, holding_amid}

-- What begins a pattern has its register: after `!` and `<` the name to come, else the variable that it is.
pub record Opening (P : Property) (w : List ℕ) (c : ℕ) (r : List ℕ) : Type 0 where
  pub negated : eqb c 42 ≡ false → eqb c 33 ≡ true → wants P false r ≡ false
  pub quoted : eqb c 42 ≡ false → eqb c 33 ≡ false → eqb c 60 ≡ true → wants P true r ≡ false
  pub room : eqb c 42 ≡ false → eqb c 33 ≡ false → eqb c 60 ≡ false → ninth P (variable_key w) ≡ false

-- A variable that it writes is none that a parameter of the label writes.
abbrev pub Anew : Property → List ℕ → ℕ → Partial → Type 0
Anew P w c l =
    eqb c 42 ≡ false → eqb c 33 ≡ false → eqb c 60 ≡ false → capital (first_byte w) ≡ true → ¬ (register_of P (variable_key w) ∈ each writes l.slots)

-- The tests for a pattern give it.
pub opening_pattern : (late : Bool) (p : State) (w : List ℕ) (c : ℕ) (r : List ℕ) → Unmarked (pattern_flaws late p w c r) → Opening p.sofar w c r
opening_pattern late p w c r u =
    let fs = (late || wants p.sofar false r, 11) ∷ [] in
    let gs = (late || wants p.sofar true r, 11) ∷ [] in
    let vs = variable_flaws late p w c in
    let star : eqb c 42 ≡ false → Unmarked (cond (eqb c 33) fs (cond (eqb c 60) gs vs)) = λ e. unmarked_else (eqb c 42) [] (cond (eqb c 33) fs (cond (eqb c 60) gs vs)) e u in
    let bang : eqb c 42 ≡ false → eqb c 33 ≡ false → Unmarked (cond (eqb c 60) gs vs) = λ e f. unmarked_else (eqb c 33) fs (cond (eqb c 60) gs vs) f (star e) in
    record {
      negated = λ e f. (or_parts late (wants p.sofar false r) (unmarked_then (eqb c 33) fs (cond (eqb c 60) gs vs) f (star e)).0).1;
      quoted = λ e f g. (or_parts late (wants p.sofar true r) (unmarked_then (eqb c 60) gs vs g (bang e f)).0).1;
      room = λ e f g.
          let v = unmarked_else (eqb c 60) gs vs g (bang e f) in
          (or_parts late (ninth p.sofar (variable_key w)) (or_parts (long w) (late || ninth p.sofar (variable_key w)) v.1.0).1).1;
    }

-- The test for a register that is written twice.
pub anew_pattern : (late : Bool) (p : State) (w : List ℕ) (c : ℕ) (r : List ℕ) → c ≡ first_byte w → Labelled p.sofar.registers p.cursor.label
    → Unmarked (pattern_flaws late p w c r) → Anew p.sofar w c p.cursor.label
anew_pattern late p w c r q h u e f g b m =
    let fs = (late || wants p.sofar false r, 11) ∷ [] in
    let gs = (late || wants p.sofar true r, 11) ∷ [] in
    let vs = variable_flaws late p w c in
    let v = unmarked_else (eqb c 60) gs vs g (unmarked_else (eqb c 33) fs (cond (eqb c 60) gs vs) f (unmarked_else (eqb c 42) [] (cond (eqb c 33) fs (cond (eqb c 60) gs vs)) e u)) in
    let i = register_of p.sofar (variable_key w) in
    let a : capital c ≡ true = subst (λ (x : ℕ). capital x ≡ true) (sym q) b in
    let t : capital c && wrote p.cursor.label.written i ≡ false = v.1.1.0 in
    apart (wrote p.cursor.label.written i) (h.slotted.flagged i m) (sym (ap (λ (x : Bool). x && wrote p.cursor.label.written i) a) ∙ t)

-- The tests for a pattern that begins a label give it.
pub opening_begun : (late : Bool) (p : State) (w : List ℕ) (c : ℕ) (r : List ℕ) → Unmarked (begun_flaws late p w c r) → Opening p.sofar w c r
opening_begun late p w c r u = elim (cases_Bool (letter c)) [
  | inl e ↦ record {
    negated = λ _ f. apart (letter c) e (subst (λ (x : ℕ). letter x ≡ false) (sym (eqb-true c 33 f)) refl);
    quoted = λ _ _ g. apart (letter c) e (subst (λ (x : ℕ). letter x ≡ false) (sym (eqb-true c 60 g)) refl);
    room = λ _ _ _.
        let v = unmarked_then (letter c) (fresh_flaws late p w) (pattern_flaws late p w c r) e u in
        (or_parts late (ninth p.sofar (variable_key w)) (or_parts (long w) (late || ninth p.sofar (variable_key w)) v.1.0).1).1;
  }
  | inr e ↦ opening_pattern late p w c r (unmarked_else (letter c) (fresh_flaws late p w) (pattern_flaws late p w c r) e u)
]

-- These patterns write nothing.
nothing_fresh : (l : Partial) → Fresh patterns.Any l
nothing_fresh l r m = absurd (Memᴰ.not-nil m)

same_fresh : (i : ℕ) (l : Partial) → Fresh (patterns.Same i) l
same_fresh i l r m = absurd (Memᴰ.not-nil m)

differs_fresh : (i : ℕ) (l : Partial) → Fresh (patterns.Differs i) l
differs_fresh i l r m = absurd (Memᴰ.not-nil m)

module _ (w : List ℕ) (k : ℕ) (p : State) (r : List ℕ) (h : Sofar p) (a : Amid p.sofar p.cursor) where
  -- The register of the variable w.
  abbrev i : ℕ
  i = register_of p.sofar (variable_key w)

  -- A variable that is written.
  written_good : ninth p.sofar (variable_key w) ≡ false → ¬ (i ∈ each writes p.cursor.label.slots)
      → Good (patterned (variable_key w) patterns.Write k (at (labelled (writing i p.cursor.label) p.cursor) p)) r
  written_good n m =
      let g = holds p.sofar (variable_key w) n in
      let u = p.cursor in
      let few = (g.kept u.starts u.errs h).registers.few in
      let inside = g.within in
      let f = writing_flags p.sofar.methods p.sofar.registers i u.label (omega arith) a.labelled a.called m in
      patterned_good (at (labelled (writing i u.label) u) p) (variable_key w) patterns.Write k r h (record { stated = a.stated; labelled = f.labelled; called = f.called }) g
      (inside, λ d. key_variable (variable_key w) _ refl (g.is d)) f.fresh

  -- A variable.
  pub variable_good : ninth p.sofar (variable_key w) ≡ false → (capital (first_byte w) ≡ true → ¬ (i ∈ each writes p.cursor.label.slots)) → Good (variable w k p) r
  variable_good n m =
      let g = holds p.sofar (variable_key w) n in
      cond_both (capital (first_byte w)) (patterned (variable_key w) patterns.Write k (at (labelled (writing i p.cursor.label) p.cursor) p))
      (patterned (variable_key w) patterns.Same k p) (λ q. Good q r) (λ e. written_good n (m e)) (λ e.
      patterned_good p (variable_key w) patterns.Same k r h a g g.within (same_fresh i p.cursor.label))

  -- A pattern begins.
  pub begins_good : (c : ℕ) → Opening p.sofar w c r → Anew p.sofar w c p.cursor.label → Good (begins w c k p) r
  begins_good c o n =
      let x : Slot = record { pattern = patterns.Any; place = k } in
      let b = turned (spots.Inner (inners.Negated k)) p in
      let q = turned (spots.Inner (inners.Quoted k)) p in
      let v = variable w k p in
      cond_both (eqb c 42) (at (filled x p.cursor) p) (cond (eqb c 33) b (cond (eqb c 60) q v)) (λ y. Good y r)
      (λ _. filled_good p x r h a tt (nothing_fresh p.cursor.label)) (λ d.
      cond_both (eqb c 33) b (cond (eqb c 60) q v) (λ y. Good y r) (λ e. record { kept = h; here = (a, o.negated d e) }) (λ e.
      cond_both (eqb c 60) q v (λ y. Good y r) (λ f. record { kept = h; here = (a, o.quoted d e f) }) (λ f. variable_good (o.room d e f) (n d e f))))

-- The name that comes next in a text.
pub next_name : (x : Piece) (s sp b r : List ℕ) → Next false x s sp b r → letter (head_of x) ≡ true → front wordy (past space s) ≡ bytes x
next_name (word []) s sp b r h e = absurd h.2.2
next_name (word (c ∷ w)) s sp b r h e =
    let x : s ≡ sp ++ ((c ∷ w) ++ r) = h.0 ∙ ap (λ (y : List ℕ). sp ++ (y ++ r)) h.2.0 in
    ap (λ (y : List ℕ). front wordy (past space y)) x ∙ (ap (front wordy) (past_run space sp ((c ∷ w) ++ r) h.1 (letter_space c e)) ∙ front_run wordy (c ∷ w) r h.2.1 h.2.3)
next_name (number []) s sp b r h e = absurd h.2.2
next_name (number (c ∷ d)) s sp b r h e = apart (letter c) e (digit_letter c h.2.1.0)
next_name (mark m) s sp b r h e = apart (wordy m) (letter_wordy m e) h.2.2

-- A good name that begins as it should has a register.
pub has_register : (P : Property) (b : Bool) (w : List ℕ) → cond b (letter (first_byte w)) (small (first_byte w)) ≡ true → reserved w ≡ false → long w ≡ false
    → wants_word P b w ≡ false → ninth P (key b w) ≡ false
has_register P b w e f g h = go (cond b (letter (first_byte w)) (small (first_byte w))) (reserved w) (long w) (ninth P (key b w)) e f g h
  where
    go : (x y z n : Bool) → x ≡ true → y ≡ false → z ≡ false → x && (not y && (not z && n)) ≡ false → n ≡ false
    go true false false n e f g h = h
    go false y z n e f g h = apart false e refl
    go true true z n e f g h = apart true refl f
    go true false true n e f g h = apart true refl g

-- A small letter is a letter.
small_letter : (c : ℕ) → small c ≡ true → letter c ≡ true
small_letter c h = grind (arith, nat_tests)

-- The name after `!` has a register, or there is room for one.
pub negated_room : (p : State) (x : Piece) (s sp b r : List ℕ) → head_of x ≡ first_byte (bytes x) → Next false x s sp b r → small (head_of x) ≡ true
    → reserved (bytes x) ≡ false → long (bytes x) ≡ false → wants p.sofar false s ≡ false → ninth p.sofar (variable_key (bytes x)) ≡ false
negated_room p x s sp b r q n o f g h =
    has_register p.sofar false (bytes x) (subst (λ (c : ℕ). small c ≡ true) q o) f g
    (subst (λ (y : List ℕ). wants_word p.sofar false y ≡ false) (next_name x s sp b r n (small_letter (head_of x) o)) h)

-- The name after `<` has a register, or there is room for one.
pub quoted_room : (p : State) (x : Piece) (s sp b r : List ℕ) → head_of x ≡ first_byte (bytes x) → Next false x s sp b r → letter (head_of x) ≡ true
    → reserved (bytes x) ≡ false → long (bytes x) ≡ false → wants p.sofar true s ≡ false → ninth p.sofar (constant_key (bytes x)) ≡ false
quoted_room p x s sp b r q n o f g h =
    has_register p.sofar true (bytes x) (subst (λ (c : ℕ). letter c ≡ true) q o) f g
    (subst (λ (y : List ℕ). wants_word p.sofar true y ≡ false) (next_name x s sp b r n o) h)

-- A variable after `!`.
pub negated_good : (p : State) (w : List ℕ) (k : ℕ) (r : List ℕ) → Sofar p → Amid p.sofar p.cursor
    → ninth p.sofar (variable_key w) ≡ false → Good (patterned (variable_key w) patterns.Differs k p) r
negated_good p w k r h a n =
    let g = holds p.sofar (variable_key w) n in
    patterned_good p (variable_key w) patterns.Differs k r h a g g.within (differs_fresh (register_of p.sofar (variable_key w)) p.cursor.label)

-- A constant after `<`.
pub constant_good : (p : State) (w : List ℕ) (k : ℕ) (r : List ℕ) → Sofar p → Amid p.sofar p.cursor
    → ninth p.sofar (constant_key w) ≡ false → Good (turned (spots.Inner inners.Unquote) (patterned (constant_key w) patterns.Same k p)) r
constant_good p w k r h a n =
    let g = holds p.sofar (constant_key w) n in
    let i = register_of p.sofar (constant_key w) in
    quoted_good (record { cursor = p.cursor; word = p.word; sofar = holding (constant_key w) p.sofar }) (record { pattern = patterns.Same i; place = k }) r
    (g.kept p.cursor.starts p.cursor.errs h) (holding_amid p.sofar (holding (constant_key w) p.sofar) (constant_key w) p.cursor g a) g.within (same_fresh i p.cursor.label)

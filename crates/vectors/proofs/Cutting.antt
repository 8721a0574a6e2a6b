-- Lines cut at their tabs. Assumes nothing.
use Rattle.std.proofs.Common.{◌≡◌, ℕ, ◌+◌, ◌<◌, Bool, cond, not, true, false, List, [], ◌∷◌, ◌++◌, Option, Some, None, MatchOption, Bor, length, take, get_or, ap, sym, ◌∙◌, refl, arith, count_by, inl, inr}
use Rattle.std.specs.List.{before_first, after_first, position_or_len}
use Rattle.std.proofs.Math.Seq.{take-length}
use Rattle.std.proofs.lemmas.Bool.{eqb-true}
use Rattle.std.proofs.lemmas.List.Sums.{sum_by-cons, take_while-cons, split_at_first, passes_at_first}
use Rattle.vectors.specs.Days.{Cut, Parts, Unwritten, tab}
use Rattle.vectors.specs.Read.{Unread, not_hex, memory}
use Rattle.vectors.specs.Days as fields
use Rattle.vectors.specs.declared.hex_field.Fault.{Fault}

-- Nothing before the first that passes does.
none_before : {X : Type 0} (p : X → Bool) (xs : List X) → count_by p (before_first p xs) ≡ 0
none_before p [] = refl
none_before {X} p (x ∷ xs) =
    let step = take_while-cons (λ (y : X). not (p y)) x xs in
    let last : count_by p (cond (not (p x)) (x ∷ before_first p xs) []) ≡ 0 =
    elim (p x) as (λ (b : Bool). b ≡ p x → count_by p (cond (not b) (x ∷ before_first p xs) []) ≡ 0) [
      | true ↦ λ _. refl
      | false ↦ λ e. sum_by-cons (λ (y : X). cond (p y) 1 0) x (before_first p xs) ∙ (ap (λ (b : Bool). cond b 1 0 + count_by p (before_first p xs)) (sym e) ∙ (omega (arith, none_before p xs)))
    ] refl in
    ap (λ (zs : List X). count_by p zs) step ∙ last

-- A line in two at its first tab, or without one.
pub cut_of : (line : List ℕ) (r : Option (Bor (List ℕ) × Bor (List ℕ)))
    → MatchOption r (position_or_len tab line ≡ length line) (λ x. (position_or_len tab line < length line) × (x.0.now ≡ before_first tab line) × (x.1.now ≡ after_first tab line))
    → MatchOption r (count_by tab line ≡ 0) (λ x. Cut line x.0.now x.1.now)
cut_of line None e =
    let whole = ap (λ (n : ℕ). take n line) e ∙ take-length line in
    sym (ap (λ (z : List ℕ). count_by tab z) whole) ∙ none_before tab line
cut_of line (Some x) h =
    let at = eqb-true (get_or line (position_or_len tab line) 0) 9 (passes_at_first tab line 0 h.0) in
    record {
      joined = split_at_first tab line 0 h.0 ∙ (λ i. (sym h.1) i ++ (at i ∷ (sym h.2) i));
      first = ap (λ (z : List ℕ). count_by tab z) h.1 ∙ none_before tab line;
    }

-- No day comes of a line whose first field gives no bytes,
pub text_unread : (line a b c e : List ℕ) (f : Fault) → Parts line a b c e → Unwritten a f → Unread line f
text_unread line a b c e _ p (fields.not_hex n) = not_hex a b c e p (inl (fields.not_hex n))
text_unread line a b c e _ p fields.memory = memory

-- nor of one whose second gives none,
pub journal_unread : (line a b c e : List ℕ) (f : Fault) → Parts line a b c e → Unwritten b f → Unread line f
journal_unread line a b c e _ p (fields.not_hex n) = not_hex a b c e p (inr (inl (fields.not_hex n)))
journal_unread line a b c e _ p fields.memory = memory

-- nor of one whose third gives none.
pub constants_unread : (line a b c e : List ℕ) (f : Fault) → Parts line a b c e → Unwritten c f → Unread line f
constants_unread line a b c e _ p (fields.not_hex n) = not_hex a b c e p (inr (inr (fields.not_hex n)))
constants_unread line a b c e _ p fields.memory = memory

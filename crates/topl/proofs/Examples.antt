-- The further examples, computed.
use Rattle.std.proofs.Common.{◌≡◌, ℕ, zero, suc, ◌<◌, ◌≤◌, Bool, true, false, cond, ◌⊎◌, List, [], ◌∷◌, length, sym, refl, ◌∙◌, subst, inl, inr, true≢false, arith}
use mathlib.Core.Bool.{false≢true}
use Rattle.std.proofs.lemmas.Bool.{cases_lt}
use Rattle.topl.specs.Table.{Event, Table, is_lawful}
use Rattle.topl.specs.Runs.{ErrorAt, Registers, World, closing, reached, runs, so_far}
use Rattle.topl.specs.Deciding.{any_error}
use Rattle.topl.specs.Ledger.{registers_of, rule}
use Rattle.topl.specs.History.{made}
use Rattle.topl.specs.Days.{applied, begun_over, board, first_path, gpr, gprz, number, stale, wait}
use Rattle.topl.specs.Examples.{Accepted, Examples, Excluded, at_once, consecutive, cut_source, day_source, fifth, interrupted, joined, limited, odd_source, reads_earlier, reads_itself, returned_other, rewritten}
use Rattle.topl.proofs.Lawful.{tested}
use Rattle.topl.proofs.Language.{recognizes}
use Rattle.topl.proofs.Enumerate.{enumerates}
use Rattle.topl.proofs.Persist.{reach_bound}
use Rattle.topl.proofs.Deciding.{any_error_sound, any_error_complete}
use Rattle.topl.proofs.Sole.{only_run, only_so, ◌also◌}

pub examples : Examples
unfolding rule runs reached
examples = record {
  all_lawful = refl;
  constant_is_set = only_so (made board 16384 []) _ (65 ∷ 1 ∷ []) (tt also tt also only_run (begun_over 16384 limited (number 7 ∷ []) 64) _ 2 _ refl also tt);
  fifth_parameter = only_so (made board 16384 []) _ (1 ∷ 0 ∷ 2 ∷ []) (tt also tt also tt also only_run (begun_over 16384 fifth [] 64) _ 3 _ refl also tt);
  void_is_not_same = only_so (made board 16384 []) _ [] (tt also tt also tt also tt also tt);
  void_differs = only_so (made board 16384 []) _ (1 ∷ 2 ∷ []) (tt also tt also only_run (begun_over 16384 returned_other [] 64) _ 2 _ refl also tt);
  draw_of_other_arity = only_so (made board 16384 (odd_source ∷ [])) _ [] (tt also tt also tt also tt also tt also tt also tt);
  refused_draw_takes_one = only_so (made board 16384 (odd_source ∷ [])) _ [] (tt also tt also tt);
  drawn_day_breaks = only_so (made board 16384 (cut_source ∷ day_source ∷ [])) _ first_path
      (tt also tt also tt also tt also only_run (begun_over 16384 stale [] 64) (so_far applied) 4 first_path refl also tt);
  spilled_draw_takes_one = only_so (made board 16384 (day_source ∷ [])) _ [] (tt also tt also tt also tt also tt);
  ending_is_passed_on = only_so (made board 16384 (cut_source ∷ [])) _ [] (tt also tt also tt also tt also tt);
  not_begun = only_so (made board 16384 (cut_source ∷ [])) _ [] (tt also tt also tt also tt also tt);
  begun_already = only_so (made board 16384 []) _ [] (tt also tt also tt also tt);
  bad_cap = only_so (made board 16384 []) _ [] (tt also tt also tt also tt also tt);
  board_is_short = only_so (made 103 16384 []) _ [] (tt also tt);
  board_is_enough = only_so (made 104 1 []) _ [] (tt also tt);
  book_is_empty = only_so (made board 0 []) _ [] (tt also tt);
  once_broken = only_so (made board 16384 (cut_source ∷ [])) _ first_path
      (tt also tt also tt also tt also only_run (begun_over 16384 stale [] 64) (so_far applied) 4 first_path refl also tt also tt also tt also tt also tt also tt also tt);
  once_kept = only_so (made board 16384 (cut_source ∷ [])) _ [] (tt also tt also tt also tt also tt also tt also tt);
  unlawful_events = only_so (made board 16384 []) _ [] (tt also tt also tt also tt also tt also tt also tt also tt);
  error_comes_first = only_so (made board 1 []) _ (1 ∷ []) (tt also only_run (begun_over 1 at_once [] 1) _ 1 _ refl also tt);
  lowest_position_decides = only_so (made board 16384 []) _ [] (tt also tt also tt also tt also tt also tt);
  need_counts_what_was = only_so (made board 5 []) _ [] (tt also tt also tt also tt also tt also tt);
  book_of_six_waits = only_so (made board 6 []) _ (1 ∷ 0 ∷ 3 ∷ []) (tt also tt also tt also tt also only_run (begun_over 6 wait [] 2) _ 3 _ refl also tt);
  empty_table_keeps = only_so (made board 16384 []) _ [] (tt also tt also tt also tt);
}

-- is `error` reached at one of n positions from 0 on
abbrev any_at : Table → Registers → World → ℕ → Bool
any_at P k w zero = false
any_at P k w (suc n) = cond (any_error (reached P k w n)) true (any_at P k w n)

found_at : (P : Table) (k : Registers) (w : World) (n : ℕ) → any_at P k w n ≡ true → (p : ℕ) × ErrorAt P k w p
found_at P k w zero e = absurd (false≢true e)
found_at P k w (suc n) e = go (found_at P k w n) (any_error (reached P k w n)) refl e
  where
    go : (any_at P k w n ≡ true → (p : ℕ) × ErrorAt P k w p) → (b : Bool) → any_error (reached P k w n) ≡ b → cond b true (any_at P k w n) ≡ true → (p : ℕ) × ErrorAt P k w p
    go below true h i = let x = any_error_sound (reached P k w n) h in (n, (x.0, x.2, ((enumerates P k w n).2 x.0).0 x.1))
    go below false h i = below i

none_at : (P : Table) (k : Registers) (w : World) (n : ℕ) → any_at P k w n ≡ false → (p : ℕ) → p < n → ¬ ErrorAt P k w p
none_at P k w zero e p l x = absurd (omega arith)
none_at P k w (suc n) e p l x = go (λ i m. none_at P k w n i p m x) (any_error (reached P k w n)) refl e (cases_lt p n)
  where
    go : (any_at P k w n ≡ false → p < n → ⊥) → (b : Bool) → any_error (reached P k w n) ≡ b → cond b true (any_at P k w n) ≡ false → (p < n) ⊎ (n ≤ p) → ⊥
    go below true h i c = true≢false i
    go below false h i (inl m) = below i m
    go below false h i (inr m) =
        let q : p ≡ n = omega arith in
        let y = subst (λ (q : ℕ). ErrorAt P k w q) q x in
        true≢false (sym (any_error_complete (reached P k w n) (((enumerates P k w n).2 y.0).1 y.2) y.1) ∙ h)

none_anywhere : (P : Table) (k : Registers) (w : World) → any_at P k w (suc (length w.events)) ≡ false → ¬ ((p : ℕ) × ErrorAt P k w p)
none_anywhere P k w e (p, x) = let b = reach_bound x.2.1 in none_at P k w (suc (length w.events)) e p (omega arith) x

-- of a lawful table, the language by computing
accepted : (P : Table) (es : List Event) → is_lawful P ≡ true → any_at P (registers_of (begun_over 16384 P [] 64)) (closing es) (suc (length es)) ≡ true → Accepted P es
accepted P es l e =
    (recognizes P (registers_of (begun_over 16384 P [] 64)) es ((tested P).0 l)).1 (found_at P (registers_of (begun_over 16384 P [] 64)) (closing es) (suc (length es)) e)

not_accepted : (P : Table) (es : List Event) → is_lawful P ≡ true → any_at P (registers_of (begun_over 16384 P [] 64)) (closing es) (suc (length es)) ≡ false → ¬ Accepted P es
not_accepted P es l e x =
    none_anywhere P (registers_of (begun_over 16384 P [] 64)) (closing es) e ((recognizes P (registers_of (begun_over 16384 P [] 64)) es ((tested P).0 l)).0 x)

pub excluded : Excluded
unfolding runs reached
excluded = record {
  no_hasty_skip = (accepted wait gpr refl refl, none_anywhere wait _ (so_far gpr) refl, not_accepted wait gprz refl refl);
  reads_come_first = (accepted rewritten reads_earlier refl refl, not_accepted rewritten reads_itself refl refl);
  undeclared_calls_count = (accepted joined consecutive refl refl, not_accepted joined interrupted refl refl);
}

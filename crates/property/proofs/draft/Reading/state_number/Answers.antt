use Rattle.std.proofs.Common.{◌≡◌, ℕ, ◌+◌, min, Bool, false, cond, ltb, sym, ◌∙◌, arith}
use Rattle.std.proofs.lemmas.Bool.Decides.{nat_tests}
use Rattle.property.specs.Views.{spelled}
use Rattle.property.specs.Words.{same}
use Rattle.property.proofs.Searching.{next_number}
use Rattle.property.proofs.draft.Reading.state_number.Goals as goal

numbers : (a b : Bool) (n m r : ℕ) → a ≡ false → b ≡ false → m ≡ n → r ≡ min m 14 → 2 + r ≡ cond a 0 (cond b 1 (cond (ltb n 14) (2 + n) 16))
numbers a b n m r e f h k = grind (arith, nat_tests)

pub returns : goal.returns
returns c =
    numbers _ _ _ _ _ (sym c.is_start.ensures ∙ c.if-is_start.false) (sym c.is_error.ensures ∙ c.if-is_error.false)
    (next_number (spelled c.args.self.now.text.now) (same c.args.w.now) c.args.self.now.draft.now.others.items _ _ _ c.other.ensures (c.len.ensures ∙ c.args.self.now.draft.now.others.ok.0) c.unwrap_or.ensures) c.min.ensures

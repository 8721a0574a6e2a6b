use Rattle.std.proofs.Common.{◌≡◌, ℕ, suc, ◌+◌, ◌<◌, length, take, slice_index, ◌≢◌, ap, ◌∙◌, arith, rules}
use Rattle.kinds.specs.Trims.{trim_last}
use Rattle.kinds.proofs.label.Label.text.Goals as goal

pub returns-in-Some : goal.returns-in-Some
returns-in-Some c =
    let xs = c.args.self.now.text in
    let i = c.in-Some.last in
    let some : slice_index xs i ≢ 0 = search rules in
    let zeros : (k : ℕ) → i < k → k < length xs → slice_index xs k ≡ 0 = λ k a b. search rules in
    let one : i + 1 ≡ suc i = omega arith in
    ap (λ k. take k xs) one ∙ trim_last xs i (search rules) some zeros

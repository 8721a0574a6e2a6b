use Rattle.std.proofs.Common.{◌≡◌, ℕ, ◌<◌, ◌≤◌, Bool, ◌∙◌, ◌&&◌, leb, arith}
use Rattle.std.proofs.lemmas.List.{length-map}
use Rattle.std.proofs.lemmas.Bool.Decides.{nat_tests}
use Rattle.property.specs.States.{same_key}
use Rattle.property.specs.Views.{key_of}
use Rattle.property.proofs.Searching.{not_held}
use Rattle.property.proofs.draft.Reading.ninth.Goals as goal

many : (a b : Bool) (m n k : ℕ) → m ≡ n → k ≡ n → 8 ≤ k → a ≡ b → a ≡ b && leb 8 m
many a b m n k e i h f = grind (arith, nat_tests)

few : (b : Bool) (m n k : ℕ) → m ≡ n → k ≡ n → k < 8 → leb 8 k ≡ b && leb 8 m
few b m n k e i h = grind (arith, nat_tests)

pub returns-then-len-ge8 : goal.returns-then-len-ge8
returns-then-len-ge8 c =
    let t = c.args.self.now.text.now in
    let xs = c.args.self.now.draft.now.registers.items in
    many _ _ _ _ _ (length-map xs (key_of t)) (c.len.ensures ∙ c.args.self.now.draft.now.registers.ok.0) c.if-len-ge8.true
    (not_held (key_of t) (same_key (key_of t c.args.register)) xs _ _ c.register.ensures c.is_none.ensures)

pub returns-else-len-ge8 : goal.returns-else-len-ge8
returns-else-len-ge8 c =
    few _ _ _ _ (length-map c.args.self.now.draft.now.registers.items (key_of c.args.self.now.text.now)) (c.len.ensures ∙ c.args.self.now.draft.now.registers.ok.0) c.if-len-ge8.false

-- The matchers of a statement.
use Rattle.std.proofs.Common.{◌≡◌, ℕ, ◌+◌, ◌<◌, ◌≤◌, List, ◌∷◌, map, length, get_or, drop, sym, ap, ◌∙◌, arith}
use Rattle.std.proofs.lemmas.List.{get_or-map, drop_more, length-map}
use Rattle.topl.specs.Table as T
use Rattle.topl.specs.Runs.{Outcome, Registers, fares}
use Rattle.tables.specs.declared.parts.Matcher as M
use Rattle.tables.specs.Views.{matcher, over}

-- the matchers of a statement, one by one
pub matchers_more : (ms : List M.Matcher) (j : ℕ) (m : M.Matcher) → j < length ms → m ≡ get_or ms j m → drop j (map matcher ms) ≡ matcher m ∷ drop (j + 1) (map matcher ms)
matchers_more ms j m l e =
    let n : j < length (map matcher ms) = let z = length-map ms matcher in omega arith in
    drop_more (map matcher ms) j T.any_event n ∙ ap (λ x. x ∷ drop (j + 1) (map matcher ms)) (get_or-map matcher ms j m T.any_event l ∙ ap matcher (sym e))

-- a statement over at least one event has them all
module _ (source target : ℕ) (ms : List M.Matcher) (some : 1 ≤ length ms) where
  pub matchers_are : T.matchers (over source target ms) ≡ map matcher ms
  matchers_are = let b = length-map ms matcher in sym (drop_more (map matcher ms) 0 T.any_event (omega arith))

  pub span_is : T.span (over source target ms) ≡ length ms
  span_is = ap length matchers_are ∙ length-map ms matcher

  -- how it fares is how they do
  pub outcome_is : (o : Outcome) (s : Registers) (es : List T.Event) → o ≡ fares (map matcher ms) s es → o ≡ fares (T.matchers (over source target ms)) s es
  outcome_is o s es e = e ∙ ap (λ z. fares z s es) (sym matchers_are)

-- Patterns against places, one by one.
use Rattle.std.proofs.Common.{◌≡◌, ℕ, suc, ◌+◌, ◌<◌, ◌≤◌, Bool, true, ◌&&◌, List, [], ◌∷◌, map, length, get_or, drop, Decides, sym, refl, ap, ap₂, ◌∙◌, subst, add-one, arith}
use lib.Seq.{get_or-drop}
use Rattle.std.proofs.lemmas.List.{get_or-map, drop_more, drop-drop, length-map}
use Rattle.std.proofs.lemmas.Bool.{eq-eqb}
use Rattle.std.specs.List.{list_all, zip}
use Rattle.topl.specs.Lists.{Class, nothing}
use Rattle.topl.specs.Table.{at, Event, places}
use Rattle.topl.specs.Runs.{Registers, fits, written, fits_all, written_all, meets}
use Rattle.topl.specs.declared.pattern.Pattern.{Pattern}
use Rattle.topl.specs.declared.pattern.Pattern.TheVariants.{Any}
use Rattle.tables.specs.declared.parts.Register.{Register}
use Rattle.tables.specs.declared.parts.Guard.{Guard}
use Rattle.tables.specs.declared.parts.Matcher.{Matcher}
use Rattle.tables.specs.declared.parts.Matcher.TheVariants.{Any as AnyEvent, Event as OneEvent}
use Rattle.engine.specs.declared.window.Witnessed.{Witnessed}
use Rattle.topl.specs.Lists.{same_class}
use Rattle.topl.proofs.Basics.{same_tests, bool_same}
use Rattle.tables.specs.Few.{few_items}
use Rattle.tables.specs.Views.{pattern, matcher}
use Rattle.engine.specs.Views.{Shown}

-- the patterns of a matcher
abbrev pub patterns_of : Matcher → List (Pattern Register)
patterns_of AnyEvent = []
patterns_of (OneEvent u) = few_items u.patterns

-- the class of a value that was read
pub class_read : {V : Type 0} (class : V → Class) (xs : List V) (r : ℕ) (x : V) → r < length xs → x ≡ get_or xs r x → class x ≡ at (map class xs) r
class_read class xs r x l e = ap class e ∙ sym (get_or-map class xs r x nothing l)

module _ (ps : List (Pattern Register)) (j : ℕ) (l : j < length ps) where
  patterns_more : drop j (map pattern ps) ≡ pattern (get_or ps j Any) ∷ drop (j + 1) (map pattern ps)
  patterns_more =
      let h : j < length (map pattern ps) = simp length-map l in
      drop_more (map pattern ps) j (pattern Any) h ∙ ap (λ p. p ∷ drop (j + 1) (map pattern ps)) (get_or-map pattern ps j Any (pattern Any) l)

  writes_more : (s : Registers) (vs : List Class) → written_all s vs j (drop j (map pattern ps)) ≡ written_all (written s (at vs j) (pattern (get_or ps j Any))) vs (j + 1) (drop (j + 1) (map pattern ps))
  writes_more s vs = ap (written_all s vs j) patterns_more ∙ rw add-one

module _ {V : Type 0} (class : V → Class) where
  -- the places from j on fit the patterns, pair by pair
  pub fits_zip : (s : Registers) (vs : List Class) (j : ℕ) (ps : List (Pattern Register)) (xs : List V) → drop j vs ≡ map class xs → length ps ≤ length xs →
      list_all (λ (p : Pattern Register × V). fits s (class p.1) (pattern p.0)) (zip ps xs) ≡ fits_all s vs j (map pattern ps)
  fits_zip s vs j [] xs e l = refl
  fits_zip s vs j (p ∷ ps) [] e l = absurd (omega arith)
  fits_zip s vs j (p ∷ ps) (x ∷ xs) e l =
      let here : class x ≡ at vs j = sym (ap (λ z. at z 0) e) ∙ (get_or-drop j vs 0 nothing ∙ ap (at vs) (let z : j + 0 ≡ j = omega arith in z)) in
      let later : drop (suc j) vs ≡ map class xs = ap (λ z. drop z vs) (let z : suc j ≡ j + 1 = omega arith in z) ∙ (sym (drop-drop 1 j vs) ∙ ap (drop 1) e) in
      ap₂ ◌&&◌ (ap (λ z. fits s z (pattern p)) here) (fits_zip s vs (suc j) ps xs later (omega arith))

  -- all pairs of a guard and an event fit, and the id is the guard's
  pub meets_zip : (registers : List V) (u : Guard) (x : Witnessed V) (e : Event) → Shown class x e → length (few_items u.patterns) ≤ 6 → u.id ≡ x.id →
      list_all (λ (p : Pattern Register × V). fits (map class registers) (class p.1) (pattern p.0)) (zip (few_items u.patterns) x.places) ≡ meets (map class registers) e (matcher (OneEvent u))
  meets_zip registers u x e S six id =
      let long : length x.places ≡ 6 = sym (length-map x.places class) ∙ ap length S.1 in
      fits_zip (map class registers) (places e) 0 (few_items u.patterns) x.places (sym S.1) (omega arith)
      ∙ ap (λ b. b && fits_all (map class registers) (places e) 0 (map pattern (few_items u.patterns))) (sym (eq-eqb u.id e.id (id ∙ S.0)))

  -- the writes of one pattern more; s was there at first
  pub write_step : (registers xs : List V) (ps : List (Pattern Register)) (s : Registers) (j : ℕ) (x : V) (after : List V) → j < length ps → j < length xs → x ≡ get_or xs j x → map class after ≡ written (map class registers) (class x) (pattern (get_or ps j Any)) →
      s ≡ written_all (map class registers) (map class xs) j (drop j (map pattern ps)) → s ≡ written_all (map class after) (map class xs) (j + 1) (drop (j + 1) (map pattern ps))
  write_step registers xs ps s j x after l l' is e inv =
      let vs : List Class = map class xs in
      inv ∙ (writes_more ps j l (map class registers) vs ∙ ap (λ z. written_all z vs (j + 1) (drop (j + 1) (map pattern ps))) (ap (λ z. written (map class registers) z (pattern (get_or ps j Any))) (sym (class_read class xs j x l' is)) ∙ sym e))

  -- what a kind answers of a register's value and another is whether their classes are equal
  pub same_at : (registers : List V) (r : ℕ) (x v : V) (b : Bool) → r < length registers → x ≡ get_or registers r x → Decides b (class x ≡ class v) → b ≡ same_class (at (map class registers) r) (class v)
  same_at registers r x v b l is d =
      bool_same b (same_class (class x) (class v)) (λ e. subst (λ z. same_class (class x) z ≡ true) (d.0 e) (same_tests.complete (class x))) (λ e. d.1 (same_tests.sound (class x) (class v) e))
      ∙ ap (λ z. same_class z (class v)) (class_read class registers r x l is)

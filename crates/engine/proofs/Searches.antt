-- The search for a configuration in a row, one by one.
use Rattle.std.proofs.Common.{◌≡◌, ℕ, ◌+◌, ◌*◌, ◌<◌, ◌≤◌, Bool, true, false, cond, ◌&&◌, eqb, List, [], map, length, get_or, take, drop, Decides, sym, ap, ◌∙◌, ap₂, arith, length-drop, length-take}
use Rattle.std.proofs.lemmas.List.{drop_more, drop-drop, get_or-take, get_or-drop, length-map}
use Rattle.std.proofs.lemmas.Bool.{ne_eqb, and_left, and_right, cond-false}
use Rattle.topl.specs.Lists.{Class, alike, same_class, holds}
use Rattle.topl.specs.Table.{at}
use Rattle.topl.specs.Runs.{alikeᶜ}
use Rattle.engine.specs.declared.configuration.Configuration as C
use Rattle.engine.specs.Fronts.{stands_for, row}
use Rattle.engine.proofs.Fits.{class_read, same_at}

alike_more : {X : Type 0} (test : X → X → Bool) (d : X) (xs ys : List X) (r : ℕ) → r < length xs → r < length ys → alike test (drop r xs) (drop r ys) ≡ (test (get_or xs r d) (get_or ys r d) && alike test (drop (r + 1) xs) (drop (r + 1) ys))
alike_more test d xs ys r l m = ap₂ (alike test) (drop_more xs r d l) (drop_more ys r d m)

module _ {V : Type 0} (class : V → Class) (states : List ℕ) (values : List V) (c : C.Configuration V) (i : ℕ) (l : i < length states) (n : 8 * length states ≤ length values) where
  here : List V
  here = take 8 (drop (8 * i) values)

  abbrev pub AlikeFrom : ℕ → Type 0
  AlikeFrom r = alike same_class (map class c.registers) (map class (take 8 (drop (8 * i) values))) ≡ alike same_class (drop r (map class c.registers)) (drop r (map class (take 8 (drop (8 * i) values))))

  abbrev pub Searched : ℕ → Type 0
  Searched i = holds alikeᶜ (row class states values) (stands_for class c) ≡ holds alikeᶜ (row class (drop i states) (drop (8 * i) values)) (stands_for class c)

  long : length here ≡ 8
  unfolding here
  long = simp (length-take, length-drop) (omega arith)

  -- register r is x in the configuration and y in the row
  pub alike_step : (r : ℕ) (x y : V) (a b : Bool) → r < 8 → x ≡ get_or c.registers r x → y ≡ get_or values (8 * i + r) y → Decides a (class x ≡ class y) → a ≡ b → AlikeFrom r →
      alike same_class (map class c.registers) (map class (take 8 (drop (8 * i) values))) ≡ (b && alike same_class (drop (r + 1) (map class c.registers)) (drop (r + 1) (map class (take 8 (drop (8 * i) values)))))
  unfolding here long
  alike_step r x y a b k ix iy h ab inv =
      let g = long in
      let eight = c.eight in
      let iy' : y ≡ get_or (take 8 (drop (8 * i) values)) r y = iy ∙ sym (get_or-take 8 (drop (8 * i) values) r y k ∙ get_or-drop (8 * i) values r y) in
      let d : class y ≡ at (map class (take 8 (drop (8 * i) values))) r = class_read class (take 8 (drop (8 * i) values)) r y (omega arith) iy' in
      inv ∙ (alike_more same_class [] (map class c.registers) (map class (take 8 (drop (8 * i) values))) r (simp length-map (omega arith)) (simp length-map (omega arith))
      ∙ ap (λ z. z && alike same_class (drop (r + 1) (map class c.registers)) (drop (r + 1) (map class (take 8 (drop (8 * i) values)))))
      (ap (same_class (at (map class c.registers) r)) (sym d) ∙ (sym (same_at class c.registers r x y a (omega arith) ix h) ∙ ab)))

  one : Searched i → holds alikeᶜ (row class states values) (stands_for class c)
      ≡ cond (eqb c.state (get_or states i 0) && alike same_class (map class c.registers) (map class (take 8 (drop (8 * i) values)))) true (holds alikeᶜ (row class (drop (i + 1) states) (drop (8 * (i + 1)) values)) (stands_for class c))
  one inv =
      let a : 8 * i + 8 ≡ 8 * (i + 1) = omega arith in
      inv ∙ (ap (λ z. holds alikeᶜ (row class z (drop (8 * i) values)) (stands_for class c)) (drop_more states i 0 l)
      ∙ ap (λ z. cond (eqb c.state (get_or states i 0) && alike same_class (map class c.registers) (map class (take 8 (drop (8 * i) values)))) true (holds alikeᶜ (row class (drop (i + 1) states) z) (stands_for class c)))
      (drop-drop 8 (8 * i) values ∙ ap (λ (z : ℕ). drop z values) a))

  pub search_not : Searched i → (eqb c.state (get_or states i 0) && alike same_class (map class c.registers) (map class (take 8 (drop (8 * i) values)))) ≡ false → Searched (i + 1)
  search_not inv h = one inv ∙ cond-false _ _ _ h

  pub search_state : Searched i → (get_or states i 0 ≡ c.state → ⊥) → Searched (i + 1)
  search_state inv h = search_not inv (and_left (eqb c.state (get_or states i 0)) (alike same_class (map class c.registers) (map class (take 8 (drop (8 * i) values)))) (ne_eqb c.state (get_or states i 0) (λ q. h (sym q))))

  pub search_register : Searched i → alike same_class (map class c.registers) (map class (take 8 (drop (8 * i) values))) ≡ false → Searched (i + 1)
  search_register inv h = search_not inv (and_right (eqb c.state (get_or states i 0)) (alike same_class (map class c.registers) (map class (take 8 (drop (8 * i) values)))) h)

-- The class of a place is the place of the classes.
use Rattle.std.proofs.Common.{◌≡◌, ℕ, zero, suc, Bool, true, false, cond, List, [], ◌∷◌, map, get_or, sym, refl, ap, ◌∙◌}
use Rattle.topl.specs.Lists.{Class, nothing}
use Rattle.topl.specs.Table.{at, calls}
use Rattle.topl.specs.Theorems.{PlacesAgree}

module _ {V : Type 0} (class : V → Class) (none : V) (e : class none ≡ nothing) where
  place_class : (vs : List V) (i : ℕ) → get_or (map class vs) i nothing ≡ class (get_or vs i none)
  place_class [] i = sym e
  place_class (v ∷ vs) zero = refl
  place_class (v ∷ vs) (suc i) = place_class vs i

  shifted : (b : Bool) (vs : List V) (i : ℕ) → get_or (cond b (nothing ∷ map class vs) (map class vs)) i nothing ≡ class (get_or (cond b (none ∷ vs) vs) i none)
  shifted true vs zero = sym e
  shifted true vs (suc i) = place_class vs i
  shifted false vs i = place_class vs i

  all_shifted : (b : Bool) (vs : List V) (is : List ℕ) → map (at (cond b (nothing ∷ map class vs) (map class vs))) is ≡ map class (map (λ i. get_or (cond b (none ∷ vs) vs) i none) is)
  all_shifted b vs [] = refl
  all_shifted b vs (i ∷ is) = λ j. shifted b vs i j ∷ all_shifted b vs is j

pub placed : {V : Type 0} (class : V → Class) (none : V) → class none ≡ nothing → ((v : V) → class v ≡ nothing → v ≡ none) → PlacesAgree class none
placed class none e lone id values = (
  all_shifted class none e (calls id) values (0 ∷ 1 ∷ 2 ∷ 3 ∷ 4 ∷ 5 ∷ []),
  λ i. (λ h. lone (get_or values i none) (sym (place_class class none e values i) ∙ h), λ h. place_class class none e values i ∙ ap class h ∙ e),
)

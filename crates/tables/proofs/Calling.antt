-- The name of a method, found in the table or in its names.
use Rattle.std.proofs.Common.{◌≡◌, ℕ, Bool, true, false, cond, List, [], ◌∷◌, map, Some, Option, ◌==◌, refl, ap, ◌∙◌, find, vec_items}
use Rattle.std.specs.Option.{option_map}
use Rattle.property.specs.Views.{declared, spelled}
use Rattle.property.specs.declared.table.Method.{Method}
use Rattle.tables.specs.Called.{method_name}
use Rattle.tables.specs.Meant.{names}
use Rattle.tables.specs.declared.table.Table.{Table}

-- Names are read of what is found, or before the search.
named : (t : List ℕ) (n : ℕ) (ms : List Method)
    → option_map (λ m. spelled t m.name) (find (λ m. m.number == n) ms) ≡ option_map (λ d. d.name) (find (λ d. d.number == n) (map (declared t) ms))
named t n [] = refl
named t n (m ∷ ms) = go (m.number == n) (named t n ms)
  where
    go : (b : Bool)
        → option_map (λ m. spelled t m.name) (find (λ m. m.number == n) ms) ≡ option_map (λ d. d.name) (find (λ d. d.number == n) (map (declared t) ms))
        → option_map (λ m. spelled t m.name) (cond b (Some m) (find (λ m. m.number == n) ms))
        ≡ option_map (λ d. d.name) (cond b (Some (declared t m)) (find (λ d. d.number == n) (map (declared t) ms)))
    go true e = refl
    go false e = e

module _ (t : Table) (n : ℕ) where
  -- The name of the method with a number is that of the one that is found.
  pub name_of_found : (o : Option Method) → o ≡ find (λ m. m.number == n) (vec_items t.methods)
      → option_map (λ m. spelled (vec_items t.text) m.name) o ≡ method_name (names t) n
  name_of_found o e = ap (option_map (λ m. spelled (vec_items t.text) m.name)) e ∙ named (vec_items t.text) n (vec_items t.methods)

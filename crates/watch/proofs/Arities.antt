-- The declared methods, one by one.
use Rattle.std.proofs.Common.{◌≡◌, ℕ, ◌/◌, Bool, not, ◌&&◌, ◌||◌, eqb, List, [], ◌∷◌, map, refl, ap}
use Rattle.std.specs.List.{list_any}
use Rattle.topl.specs.Ledger.{other_arity}
use Rattle.property.specs.declared.table.Method.{Method}
use Rattle.tables.specs.Properties.{method}

-- a method of this id with another arity than n
abbrev pub differs : ℕ → ℕ → Method → Bool
differs id n m = eqb (id / 2) m.number && not (eqb n m.arity)

pub some_differs : (id n : ℕ) (ms : List Method) → list_any (differs id n) ms ≡ other_arity (map method ms) id n
some_differs id n [] = refl
some_differs id n (m ∷ ms) = ap (λ (b : Bool). differs id n m || b) (some_differs id n ms)

-- Events: a call or a return of a method, with its values.
use Rattle.std.specs.Prelude.{ℕ, ◌-◌, ◌/◌, ◌%◌, ◌≤◌, Bool, cond, List, ◌∷◌, ◌++◌, length, replicate, Some, None, Option, ◌==◌}

-- An event as clauses speak of it: an id, and the values that were given, in order.
pub record Happening (V : Type 0) : Type 0 where
  pub id : ℕ
  pub values : List V

-- The method that is called or returns.
abbrev pub method : {V : Type 0} → Happening V → ℕ
method h = h.id / 2

-- An id is twice the method, and one more for a return.
abbrev pub is_return : ℕ → Bool
is_return id = id % 2 == 1

-- A call carries at most five values, and a return at most one.
abbrev pub most : ℕ → ℕ
most id = cond (is_return id) 1 5

-- An id of a method up to 65,535, and no more values than it may carry.
abbrev pub LawfulCount : ℕ → ℕ → Type 0
LawfulCount id n = (id ≤ 131071) × (n ≤ most id)

abbrev pub Lawful : {V : Type 0} → Happening V → Type 0
Lawful h = LawfulCount h.id (length h.values)

-- Some values, and nothing at the places that are left of n.
abbrev pub filled : {V : Type 0} → V → ℕ → List V → List V
filled nothing n vs = vs ++ replicate (n - length vs) nothing

-- The six places: 0 has the returned value, 1 to 5 the parameters.
abbrev pub places : {V : Type 0} → V → Happening V → List V
places nothing h = cond (is_return h.id) (filled nothing 6 h.values) (nothing ∷ filled nothing 5 h.values)

-- Which value stands at a place: a return has its value at 0, and a call its first at 1.
abbrev pub index_at : Bool → ℕ → Option ℕ
index_at returns place = cond returns (Some place) (cond (place == 0) None (Some (place - 1)))

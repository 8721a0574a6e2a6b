-- What the methods, states and registers of a table are called.
use Rattle.std.specs.Prelude.{ℕ, ◌-◌, cond, List, codes, Some, Option, ◌==◌, find, slice_get}
use Rattle.std.specs.Option.{option_map}
use Rattle.property.specs.States.{Key}
use Rattle.tables.specs.Meant.{Names}

-- The name of the method with a number.
abbrev pub method_name : Names → ℕ → Option (List ℕ)
method_name N m = option_map (λ d. d.name) (find (λ d. d.number == m) N.methods)

-- The name of a state: 0 is `start`, 1 is `error`, and the others follow.
abbrev pub state_name : Names → ℕ → Option (List ℕ)
state_name N q = cond (q == 0) (Some (codes "start")) (cond (q == 1) (Some (codes "error")) (slice_get N.others (q - 2)))

-- What a register holds: a constant, or a variable by its name in small first letter.
abbrev pub register_key : Names → ℕ → Option Key
register_key N r = slice_get N.registers r

-- Methods, as a person names them.
use Rattle.std.specs.Prelude.{◌≡◌, ℕ, ◌≤◌, List}
use Rattle.std.specs.Str.Parse.{IsNumeral, digits_value}

-- A word names a method: it is one decimal digit or more, and its value is at most 65,535.
abbrev pub Names : List ℕ → ℕ → Type 0
Names word m = IsNumeral 10 word × (digits_value 10 word ≡ m) × (m ≤ 65535)

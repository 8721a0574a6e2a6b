-- Where a place of a text is, as code holds it.
use Rattle.std.specs.Prelude.{◌≡◌, ℕ, List}
use Rattle.day.specs.Explaining.{left, line_number, place_shown, right}
use Rattle.day.specs.declared.explain.Spot.{Spot}

-- It is where this place of the text is.
pub record Finds (s : Spot) (text : List ℕ) (place : ℕ) : Type 0 where
  pub line : s.line ≡ line_number text place
  pub before : s.before.now ≡ left text place
  pub after : s.after.now ≡ right text place

-- The lines that show it.
abbrev pub spot_shown : Spot → List ℕ
spot_shown s = place_shown s.line s.before.now s.after.now

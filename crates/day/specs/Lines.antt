-- Lines of output: words parted by one space, ended by 0A.
use Rattle.std.specs.Prelude.{◌≡◌, ℕ, List, [], ◌∷◌, ◌++◌, IfOk, Some, None, vec_items, codes, decimal, Option, Result}
use Rattle.std.specs.List.{flat_map}
use Rattle.kinds.specs.Refusals.{refusal_words}
use Rattle.kinds.specs.declared.refusal.Refusal.{Refusal}
use Rattle.day.specs.declared.page.Page.{Page}

-- What a page holds.
abbrev pub written : Page → List ℕ
written p = vec_items p.bytes

-- A text is written behind what a page had, unless memory gave out.
pub record Writes {T E : Type 0} (r : Result T E) (before : Page) (text : List ℕ) (after : Page) : Type 0 where
  pub so : IfOk r (λ _. written after ≡ written before ++ text)

-- A word after a space.
abbrev pub field : List ℕ → List ℕ
field word = 32 ∷ word

-- Words, each after a space, and 0A behind the last.
abbrev pub ended : List (List ℕ) → List ℕ
ended words = flat_map field words ++ 10 ∷ []

-- A line: a first word, and the others behind it.
abbrev pub line : List ℕ → List (List ℕ) → List ℕ
line first words = first ++ ended words

-- The line that tells a refusal: its layer, its number and its place.
abbrev pub refusal_line : Refusal → List ℕ
refusal_line f = line (codes "refused") (refusal_words f ∷ [])

-- A value of the kind of numbers is printed in decimal.
abbrev pub number_shown : Option ℕ → List ℕ
number_shown None = []
number_shown (Some n) = decimal n

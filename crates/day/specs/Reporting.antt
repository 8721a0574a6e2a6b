-- The report of a day.
use Rattle.std.specs.Prelude.{◌≡◌, ℕ, List, [], ◌∷◌, ◌++◌, map, codes, decimal}
use Rattle.judging.specs.Outcomes.{Outcome, kept, broken, refused, Judged}
use Rattle.day.specs.Lines.{line, ended, refusal_line}

-- The line of the steps of a run: their numbers, parted by one space.
abbrev pub steps_line : List ℕ → List ℕ
steps_line [] = 10 ∷ []
steps_line (s ∷ ss) = line (decimal s) (map decimal ss)

-- What is printed of an outcome: kept, with the count of judged events; broken, with that count and the position, and a line of the steps; or the refusal.
abbrev pub report_of : Outcome → List ℕ
report_of (kept judged) = line (codes "kept") (decimal judged ∷ [])
report_of (broken judged position steps) = line (codes "broken") (decimal judged ∷ decimal position ∷ []) ++ steps_line steps
report_of (refused f) = refusal_line f

-- The bytes report how the day comes out.
abbrev pub Reported : List ℕ → List ℕ → List ℕ → List ℕ → Type 0
Reported text journal constants out = (o : Outcome) × Judged text journal constants o × (out ≡ report_of o)

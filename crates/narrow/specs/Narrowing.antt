-- Narrowing: the events of some methods alone.
use Rattle.std.specs.Prelude.{ℕ, Bool, true, false, cond, List, [], ◌∷◌, take, ◌==◌}
use Rattle.std.specs.List.{filter, list_any}
use Rattle.sources.specs.Events.{Happening, method}
use Rattle.sources.specs.Sources.{AllLawful}
use Rattle.narrow.specs.declared.methods.Methods.{Methods}

-- The methods of a table.
abbrev pub listed : Methods → List ℕ
listed m = take m.count m.numbers

-- Whether a method is in a list.
abbrev pub among : ℕ → List ℕ → Bool
among m ns = list_any (λ n. n == m) ns

-- A list without the events of other methods.
abbrev pub only : {V : Type 0} → List ℕ → List (Happening V) → List (Happening V)
only ms = filter (λ h. among (method h) ms)

-- Why only lawful events wait; the source's ghost member cites it.
pub only_lawful : {V : Type 0} (ms : List ℕ) (hs : List (Happening V)) → AllLawful hs → AllLawful (only ms hs)
only_lawful ms [] l = tt
only_lawful ms (h ∷ hs) l =
    elim (among (method h) ms) as (λ b. AllLawful (cond b (h ∷ only ms hs) (only ms hs))) [ true ↦ (l.0, only_lawful ms hs l.1) | false ↦ only_lawful ms hs l.1 ]

-- What code can keep of the runs, in facts that have one proof at most: a row of configurations for a position, and the steps of a run.
use Rattle.std.specs.Prelude.{◌≡◌, ℕ, zero, suc, ◌+◌, ◌<◌, Bool, true, false, cond, ◌&&◌, List, [], ◌∷◌, ◌++◌, length, drop, ◌==◌}
use Rattle.std.proofs.Math.Option.{Option, none, some}
use Rattle.topl.specs.Lists.{each, holds, apart}
use Rattle.topl.specs.Table.{Statement, Table, numbered, span}
use Rattle.topl.specs.Runs.{Registers, Outcome, passes, fails, hangs, Configuration, World, outcome_of, alikeᶜ, Landing, quiet, has_come, moves, reached}

-- the row holds what is reached at p
abbrev pub Stands : Table → Registers → World → ℕ → List Configuration → Type 0
Stands P k w p row = (c : Configuration) → holds alikeᶜ row c ≡ holds alikeᶜ (reached P k w p) c

-- more than cap configurations are among these
abbrev pub Over : ℕ → List Configuration → Type 0
Over cap truth = (xs : List Configuration) × (apart alikeᶜ xs ≡ true) × (cap < length xs) × ((c : Configuration) → holds alikeᶜ xs c ≡ true → holds alikeᶜ truth c ≡ true)

-- A row that is filled with some configurations holds each of them once and no other; or it has spilled, and holds no other.
pub record Filled (cap : ℕ) (row truth : List Configuration) (spilled : Bool) : Type 0 where
  pub same : spilled ≡ false → (c : Configuration) → holds alikeᶜ row c ≡ holds alikeᶜ truth c
  pub within : (c : Configuration) → holds alikeᶜ row c ≡ true → holds alikeᶜ truth c ≡ true
  pub distinct : apart alikeᶜ row ≡ true
  pub over : spilled ≡ true → Over cap truth

-- of some landings, the configurations at p
abbrev pub landed : ℕ → List Landing → List Configuration
landed p [] = []
landed p (m ∷ ms) = cond (m.1 == p) (m.2 ∷ landed p ms) (landed p ms)

-- what comes to p from the rows of n positions from q on
abbrev pub incoming : Table → World → (ℕ → List Configuration) → ℕ → ℕ → ℕ → List Configuration
incoming P w row p q zero = []
incoming P w row p q (suc n) = each (λ c. landed p (moves P w q c)) (row q) ++ incoming P w row p (suc q) n

-- A run is known by its steps, and can be replayed from them.
-- the statement with the number n
abbrev pub look : ℕ → List (ℕ × Statement) → Option (ℕ × Statement)
look n [] = none
look n (t ∷ ts) = cond (t.0 == n) (some t) (look n ts)

-- where a statement with this outcome leads, if anywhere
abbrev pub lead : ℕ → Statement → Outcome → Option (ℕ × Configuration)
lead p t (passes s) = some (p + span t, record { state = t.target; registers = s })
lead p t fails = none
lead p t hangs = none

-- where this statement leads, if it leaves the state
abbrev pub by_statement : World → ℕ × Configuration → Option (ℕ × Statement) → Option (ℕ × Configuration)
by_statement w x none = none
by_statement w x (some t) = cond (t.1.source == x.1.state) (lead x.0 t.1 (outcome_of w x.0 x.1 t)) none

-- where one step leads, a skip or a statement's number
abbrev pub by_step : Table → World → ℕ → ℕ × Configuration → Option (ℕ × Configuration)
by_step P w n x =
    cond (n == 0) (cond (has_come (drop x.0 w.events) && quiet w x.0 x.1 (numbered P)) (some (suc x.0, x.1)) none)
    (by_statement w x (look n (numbered P)))

-- go on, if there is anything to go on from
abbrev pub then : Option (ℕ × Configuration) → (ℕ × Configuration → Option (ℕ × Configuration)) → Option (ℕ × Configuration)
then none f = none
then (some x) f = f x

-- where the steps lead from a position and a configuration
abbrev pub replay : Table → World → List ℕ → ℕ × Configuration → Option (ℕ × Configuration)
replay P w [] x = some x
replay P w (n ∷ ns) x = then (by_step P w n x) (replay P w ns)

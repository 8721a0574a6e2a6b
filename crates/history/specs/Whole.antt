-- What is true of any history of calls on one watch.
use Rattle.std.specs.Prelude.{◌≡◌, ℕ, List, [], ◌∷◌, length, take}
use Rattle.topl.specs.Lists.{Class}
use Rattle.topl.specs.Table.{Lawful}
use Rattle.topl.specs.Ledger.{Source}
use Rattle.topl.specs.History.{Moment, Log, made, Whole}
use Rattle.history.specs.declared.call.Call.{Call}
use Rattle.history.specs.declared.call.Answer.{Answer}
use Rattle.history.specs.Calls.{log}

-- at every moment of a history the ledger's table is lawful, so that what is said of the language holds without a condition
abbrev pub LawfulThroughout : (m : Moment) (h : Log) (n : Moment) → Whole m h n → Type 0
LawfulThroughout m [] n w = Lawful m.ledger.table
LawfulThroughout m (t ∷ h) n (truth, (o, turns, w)) = Lawful m.ledger.table × LawfulThroughout o h n w

-- Every call has its answer; calls and answers are a history of a watch that is made over a board and a book of these lengths, and the whole is true of it,
-- at every moment and of every call; every table is lawful; and the sources are left as the history leaves them.
pub record Told {V : Type 0} (class : V → Class) (board book : ℕ) (before : List Source) (calls : List (Call V)) (answers : List Answer) (after : List Source) : Type 0 where
  pub each : length answers ≡ length calls
  pub end : Moment
  pub whole : Whole (made board book before) (log class calls answers) end
  pub lawful : LawfulThroughout (made board book before) (log class calls answers) end whole
  pub left : end.sources ≡ after

-- Memory gave out: the first of the calls were made, and this is true of them.
abbrev pub Cut : {V : Type 0} → (V → Class) → ℕ → ℕ → List Source → List (Call V) → List Source → Type 0
Cut class board book before calls after = (n : ℕ) × (answers : List Answer) × Told class board book before (take n calls) answers after

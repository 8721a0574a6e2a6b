-- What a search for the states that are reached with no write of a register has found.
use Rattle.std.specs.Prelude.{◌≡◌, ℕ, Bool, true, false, ◌&&◌, not, List, All, Decides, slice_index_or}
use Rattle.paths.specs.Paths.{Unwritten, statement_writes, state}
use Rattle.paths.specs.declared.Reached.{Reached}
use Rattle.property.specs.declared.table.Statement.{Statement}

-- The search is over these statements, for the register x.
abbrev pub Searches : List Statement → ℕ → Reached → Type 0
Searches ss x r = (r.statements.now ≡ ss) × (r.register ≡ x)

-- Whether a state is found.
abbrev pub found : Reached → ℕ → Bool
found r q = slice_index_or r.seen (state q) false

-- Whether a statement leads from a found state to one that is not found, with no write.
abbrev pub leads : Reached → Statement → Bool
leads r s = not (statement_writes r.register s) && (found r s.source && not (found r s.target))

-- All that are found are reached.
abbrev pub AllReached : Reached → Type 0
AllReached r = (q : ℕ) → slice_index_or r.seen q false ≡ true → Unwritten r.statements.now r.register q

-- No statement leads further.
abbrev pub Complete : Reached → Type 0
Complete r = All (λ s. leads r s ≡ false) r.statements.now

-- The state q is not found; it is reached if all that are found are.
abbrev pub Beyond : Reached → ℕ → Type 0
Beyond r q = (found r q ≡ false) × (AllReached r → Unwritten r.statements.now r.register (state q))

-- A state is found exactly if it is reached.
abbrev pub Exact : Reached → Type 0
Exact r = (q : ℕ) → Decides (slice_index_or r.seen q false) (Unwritten r.statements.now r.register q)

-- The reads of a register in a statement that no earlier event of the statement writes, and the least of them.
use Rattle.std.specs.Prelude.{◌≡◌, ℕ, ◌<◌, ◌≤◌, Bool, false, cond, ◌⊎◌, List, [], ◌∷◌, length, get_or, min, Some, None, Option, ◌==◌, slice_index_or}
use Rattle.std.specs.List.{filter_map, flat_map, reduce}
use Rattle.paths.specs.Paths.{slots_of, events_of, event_writes, through, state, Unwritten}
use Rattle.property.specs.Views.{is_constant}
use Rattle.property.specs.declared.table.Event.{Event}
use Rattle.topl.specs.declared.pattern.Pattern.{Pattern}
use Rattle.topl.specs.declared.pattern.Pattern.TheVariants as patterns
use Rattle.property.specs.declared.table.Register.{Register}
use Rattle.property.specs.declared.table.Register.TheVariants as registers
use Rattle.property.specs.declared.table.Slot.{Slot}
use Rattle.property.specs.declared.table.Statement.{Statement}

-- Whether a pattern reads the register x.
abbrev pub pattern_reads : ℕ → Pattern ℕ → Bool
pattern_reads x patterns.Any = false
pattern_reads x (patterns.Write r) = false
pattern_reads x (patterns.Same r) = r == x
pattern_reads x (patterns.Differs r) = r == x

-- The place of a pattern that reads x.
abbrev pub read_place : ℕ → Slot → Option ℕ
read_place x s = cond (pattern_reads x s.pattern) (Some s.place) None

-- The places of the patterns that read x.
abbrev pub reads_in : ℕ → List Slot → List ℕ
reads_in x ss = filter_map (read_place x) ss

-- The places of the reads of x in events, up to and with the first event that writes x: an event reads before it writes.
abbrev pub exposed : ℕ → List Event → List ℕ
exposed x es = flat_map (λ e. reads_in x (slots_of e)) (through (event_writes x) es)

-- The least of some places.
abbrev pub least : List ℕ → Option ℕ
least ns = reduce min ns

-- n is one of ns.
abbrev pub Among : ℕ → List ℕ → Type 0
Among n [] = ⊥
Among n (m ∷ ns) = (n ≡ m) ⊎ Among n ns

-- At byte n of the text the register x is read in a statement, that at `place` in the list, before any write of it there, and some path reaches the statement with no write of x.
pub record OpenRead (ss : List Statement) (x n : ℕ) : Type 0 where
  pub place : ℕ
  pub within : place < length ss
  pub reached : (d : Statement) → Unwritten ss x (state (get_or ss place d).source)
  pub read : (d : Statement) → Among n (exposed x (events_of (slice_index_or ss place d)))

-- The answer is the least place of such a read, or that there is none.
abbrev pub FirstOpen : List Statement → ℕ → Option ℕ → Type 0
FirstOpen ss x None = (n : ℕ) → OpenRead ss x n → ⊥
FirstOpen ss x (Some n) = OpenRead ss x n × ((m : ℕ) → OpenRead ss x m → n ≤ m)

-- The same of a register that holds a variable; of a constant's register there is none.
abbrev pub FirstHere : List Statement → ℕ → Register → Option ℕ → Type 0
FirstHere ss x (registers.Constant n) o = o ≡ None
FirstHere ss x (registers.Variable n) o = FirstOpen ss x o

-- A register that holds a variable.
abbrev pub Variable : List Register → ℕ → Type 0
Variable gs x = (x < length gs) × ((d : Register) → is_constant (get_or gs x d) ≡ false)

-- The answer is the least place at which a variable is read unwritten, or that there is none.
abbrev pub FirstOf : List Statement → List Register → Option ℕ → Type 0
FirstOf ss gs None = (x n : ℕ) → Variable gs x → OpenRead ss x n → ⊥
FirstOf ss gs (Some n) = ((x : ℕ) × Variable gs x × OpenRead ss x n) × ((x m : ℕ) → Variable gs x → OpenRead ss x m → n ≤ m)

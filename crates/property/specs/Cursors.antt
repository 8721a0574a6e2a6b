-- What each piece of a line does to a cursor.
use Rattle.std.specs.Prelude.{ℕ, ◌+◌, ◌-◌, Bool, true, false, cond, ◌&&◌, List, replicate, ◌==◌, nat_le, nat_lt, slice_index_or, slice_set}
use Rattle.property.specs.declared.cursor.Cursor.{Cursor}
use Rattle.property.specs.declared.cursor.Partial.{Partial}
use Rattle.property.specs.declared.spot.Kind.{Kind}
use Rattle.property.specs.declared.spot.Kind.TheVariants as kinds
use Rattle.property.specs.declared.spot.Head.TheVariants as heads
use Rattle.property.specs.declared.spot.Label.TheVariants as labels
use Rattle.property.specs.declared.spot.Spot.{Spot}
use Rattle.property.specs.declared.spot.Spot.TheVariants as spots
use Rattle.property.specs.declared.table.Event.{Event}
use Rattle.property.specs.declared.table.Event.TheVariants as events
use Rattle.topl.specs.declared.pattern.Pattern.TheVariants as patterns
use Rattle.property.specs.declared.table.Slot.{Slot}
use Rattle.property.specs.declared.table.Statement.{Statement}

-- A slot that nothing was written into.
abbrev pub blank : Slot
blank = record { pattern = patterns.Any; place = 0 }

-- A label that begins, of a kind, with n patterns.
abbrev pub opened : Kind → ℕ → Partial
opened d n =
    record { kind = d; number = 0; arity = 0; count = n; returned = blank; slots = replicate 5 blank; written = replicate 8 false }

-- A statement that begins, from a state.
abbrev pub sourced : ℕ → Statement
sourced n = record { source = n; target = 0; events = replicate 4 events.Any; span = 0 }

-- Before the text.
abbrev pub origin : Cursor
origin =
    record { spot = spots.Head heads.Margin; label = opened kinds.Call 1; statement = sourced 0; starts = false; errs = false }

-- Moving on to a spot.
abbrev pub to : Spot → Cursor → Cursor
to s c =
    record { spot = s; label = c.label; statement = c.statement; starts = c.starts; errs = c.errs }

-- Going on with a label.
abbrev pub labelled : Partial → Cursor → Cursor
labelled l c =
    record { spot = c.spot; label = l; statement = c.statement; starts = c.starts; errs = c.errs }

-- Going on with a statement.
abbrev pub stated : Statement → Cursor → Cursor
stated s c =
    record { spot = c.spot; label = c.label; statement = s; starts = c.starts; errs = c.errs }

-- Whether `start` and `error` have been written by now.
abbrev pub seen : Bool → Bool → Cursor → Cursor
seen a b c =
    record { spot = c.spot; label = c.label; statement = c.statement; starts = a; errs = b }

-- A label with its method.
abbrev pub naming : ℕ → ℕ → Partial → Partial
naming n a l =
    record { kind = l.kind; number = n; arity = a; count = l.count; returned = l.returned; slots = l.slots; written = l.written }

-- Counting one more, up to seven: no method has so many patterns.
abbrev pub one_more : ℕ → ℕ
one_more n = cond (nat_lt n 7) (n + 1) n

-- The parameters with the k-th, of which five count.
abbrev pub parameters : ℕ → Slot → List Slot → List Slot
parameters k x ss = cond (nat_le k 5) (slice_set ss (k - 1) x) ss

-- A label with its returned pattern, and with its next parameter.
abbrev pub returning : Slot → Partial → Partial
returning x l =
    record { kind = l.kind; number = l.number; arity = l.arity; count = 1; returned = x; slots = l.slots; written = l.written }

abbrev pub taking : Slot → Partial → Partial
taking x l =
    record { kind = l.kind; number = l.number; arity = l.arity; count = one_more l.count; returned = l.returned; slots = parameters l.count x l.slots; written = l.written }

-- A label that writes a register.
abbrev pub writing : ℕ → Partial → Partial
writing r l =
    cond (nat_lt r 8)
    (record { kind = l.kind; number = l.number; arity = l.arity; count = l.count; returned = l.returned; slots = l.slots; written = slice_set l.written r true })
    l

-- The next pattern of a label: the returned one first, then the parameters.
abbrev pub filled : Slot → Cursor → Cursor
filled x c =
    cond (c.label.count == 0) (to (spots.Label labels.Becomes) (labelled (returning x c.label) c)) (to (spots.Label labels.Comma) (labelled (taking x c.label) c))

-- One more event of the statement, of which four count.
abbrev pub met : Event → Cursor → Cursor
met e c =
    cond (nat_lt c.statement.span 4)
    (stated (record { source = c.statement.source; target = c.statement.target; events = slice_set c.statement.events c.statement.span e; span = c.statement.span + 1 }) c)
    c

-- The call that a label stands for, and the return.
abbrev pub call_of : Partial → Event
call_of l = events.Calls (record { number = l.number; arity = l.arity; slots = l.slots })

abbrev pub return_of : Partial → Event
return_of l = events.Returns (record { number = l.number; slot = l.returned })

-- The events of a label.
abbrev pub events_of : Kind → Cursor → Cursor
events_of kinds.Call c = met (call_of c.label) c
events_of kinds.Return c = met (return_of c.label) c
events_of kinds.Both c = met (return_of c.label) (met (call_of c.label) c)

-- The end of a label.
abbrev pub finished : Cursor → Cursor
finished c = to (spots.Label labels.End) (events_of c.label.kind c)

-- A statement that leads to a state.
abbrev pub targeted : ℕ → Statement → Statement
targeted n s = record { source = s.source; target = n; events = s.events; span = s.span }

-- One where the test holds.
abbrev pub one_if : Bool → ℕ
one_if true = 1
one_if false = 0

-- Whether a label writes a register.
abbrev pub wrote : List Bool → ℕ → Bool
wrote ws r = nat_lt r 8 && slice_index_or ws r false

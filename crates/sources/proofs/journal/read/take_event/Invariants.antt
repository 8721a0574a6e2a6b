use Rattle.std.proofs.Common.{◌≡◌, ◌-◌, length}
use Rattle.sources.specs.Format.{values_at}
use Rattle.sources.specs.Sayings.{says}
use Rattle.sources.proofs.Gathered.{prepend}
use Rattle.sources.proofs.journal.read.take_event.Given as goal

-- the values so far, and those that are left
abbrev pub invariant-loop-i : goal.invariant-loop-i
invariant-loop-i g l =
    let k = g.K.Kind in
    (l.place.bytes ≡ l.initial.place.bytes)
    × (length (says l.event).values ≡ l._i)
    × (l.event.id ≡ l.id)
    × (values_at k.reads l.initial.place.bytes.now l.initial.place.at l.count ≡ prepend (says l.event).values (values_at k.reads l.initial.place.bytes.now l.place.at (l.count - l._i)))

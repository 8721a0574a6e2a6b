use Rattle.std.proofs.Common.{◌≡◌, ◌++◌, map, take}
use Rattle.sources.specs.Sayings.{says}
use Rattle.day.specs.Lines.{written}
use Rattle.day.specs.Listing.{lines_of}
use Rattle.day.proofs.listing.print_events.Given as goal

-- the lines of the events so far are written
abbrev pub invariant-loop-event : goal.invariant-loop-event
invariant-loop-event g l =
    written l.page ≡ written l.initial.page ++ lines_of g.K.Shown.shown (map says (take l.event-index l.events))

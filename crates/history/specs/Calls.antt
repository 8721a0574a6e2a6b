-- What the code's calls and answers are to the ledger.
use Rattle.std.specs.Prelude.{List, [], ◌∷◌, map, vec_items}
use Rattle.kinds.specs.Refusals.{Ending}
use Rattle.topl.specs.Lists.{Class}
use Rattle.topl.specs.Theorems.{seen}
use Rattle.topl.specs.Ledger as L
use Rattle.topl.specs.Ledger.{Ledger, Source}
use Rattle.topl.specs.History as H
use Rattle.topl.specs.History.{Moment, Log}
use Rattle.sources.specs.Events.{Happening}
use Rattle.tables.specs.Meant as tables
use Rattle.watch.specs.Answers.{stands_for, tells}
use Rattle.watch.specs.Shows.{meaning}
use Rattle.history.specs.declared.call.Call.{Call}
use Rattle.history.specs.declared.call.Call.TheVariants.{Begin, Feed, Draw, Close, Verdict, Path}
use Rattle.history.specs.declared.call.Answer.{Answer}
use Rattle.history.specs.declared.call.Answer.TheVariants.{Begun, NoEvent, NoSource, Says, Tells, Wrote, Unwritten, Refused}

-- Each call, with the classes of its values.
abbrev pub call : {V : Type 0} → (V → Class) → Call V → H.Call
call class (Begin t ks cap) = H.to_begin (tables.meant t.now) (map class ks.now) cap
call class (Feed id vs) = H.to_feed (seen class id vs.now)
call class (Draw k) = H.to_draw k
call class Close = H.to_close
call class Verdict = H.ask_verdict
call class (Path page) = H.ask_path page.now

-- Each answer.
abbrev pub answer : Answer → L.Answer
answer Begun = L.begun
answer NoEvent = L.no_event
answer NoSource = L.no_source
answer (Says s) = stands_for s
answer (Tells v) = tells v
answer (Wrote n page) = L.wrote n (vec_items page)
answer (Unwritten f page) = L.unwritten f (vec_items page)
answer (Refused f) = L.refused f

-- calls with their answers
abbrev pub log : {V : Type 0} → (V → Class) → List (Call V) → List Answer → Log
log class [] answers = []
log class (c ∷ cs) [] = []
log class (c ∷ cs) (a ∷ answers) = (call class c, answer a) ∷ log class cs answers

-- what some sources mean, by what waits at each and how it ends
abbrev pub meant : {V S : Type 0} → (V → Class) → (S → List (Happening V)) → (S → Ending) → List S → List Source
meant class waiting ending sources = map (λ s. meaning class (waiting s) (ending s)) sources

abbrev pub moment : Ledger → List Source → Moment
moment l W = record { ledger = l; sources = W }

-- How a day comes out, by what its text, its journal and the values of its constants mean.
use Rattle.std.specs.Prelude.{◌≡◌, ℕ, ◌+◌, ◌<◌, ◌≤◌, cond, ◌⊎◌, List, [], ◌∷◌, ◌++◌, map, length, Some, None, Ok, Err, vec_items, Option, Result, ◌==◌, slice_index}
use Rattle.kinds.specs.declared.refusal.Fault.{Fault}
use Rattle.kinds.specs.declared.refusal.Layer.TheVariants.{Text, Watch}
use Rattle.kinds.specs.declared.refusal.Reason.{Reason}
use Rattle.kinds.specs.declared.refusal.Reason.TheVariants.{Text as of_text, Watch as of_watch}
use Rattle.kinds.specs.declared.refusal.Refusal.{Refusal}
use Rattle.kinds.specs.declared.watch_reason.WatchReason.TheVariants.{OtherConstants, IsSpilled, IsFull}
use Rattle.kinds.specs.Labels.{label_class, label_read}
use Rattle.kinds.specs.Numbers.{number_class, number_value}
use Rattle.kinds.specs.Refusals.{Ending}
use Rattle.topl.specs.Automata.{HighLanguage}
use Rattle.topl.specs.Deciding.{Ruling, breaks, spills, overfills, goes_on, decides}
use Rattle.topl.specs.Ledger.{event_reason, initial}
use Rattle.topl.specs.Lists.{Class}
use Rattle.topl.specs.Runs.{Registers, World, so_far, closing}
use Rattle.topl.specs.Table as T
use Rattle.topl.specs.Table.{Event}
use Rattle.topl.specs.Theorems.{ErrsBy, seen}
use Rattle.topl.specs.Translation.{letter, automaton_of}
use Rattle.sources.specs.Events.{Happening}
use Rattle.sources.specs.Format.{at}
use Rattle.sources.specs.Opening.{head_refusal}
use Rattle.sources.specs.Records.{Values, Recorded}
use Rattle.property.specs.States.{Property}
use Rattle.property.specs.declared.reader.Flaw.{Flaw}
use Rattle.property.specs.declared.text.Failure.TheVariants.{At}
use Rattle.limits.specs.Tables.{table_of}
use Rattle.paths.specs.Outcomes.{Written, Refuses}
use Rattle.judging.specs.declared.outcome.Outcome as code
use Rattle.judging.specs.declared.outcome.Outcome.TheVariants.{Kept, Broken, Refused}

-- Kept, with the count of judged events; broken, with that count, the position and the steps of a run that reaches `error` there; or refused.
pub data Outcome : Type 0 where
  kept : ℕ → Outcome
  broken : ℕ → ℕ → List ℕ → Outcome
  refused : Refusal → Outcome

-- what an outcome of the code says
abbrev pub means : code.Outcome → Outcome
means (Kept judged) = kept judged
means (Broken judged position steps) = broken judged position (vec_items steps)
means (Refused f) = refused f

-- the outcome without its steps
abbrev pub but_steps : Outcome → Outcome
but_steps (kept judged) = kept judged
but_steps (broken judged position steps) = broken judged position []
but_steps (refused f) = refused f

-- two outcomes that differ at most in the steps shown
abbrev pub SameButSteps : Outcome → Outcome → Type 0
SameButSteps o p = but_steps o ≡ but_steps p

-- the watch refuses for this reason, with so many events judged
abbrev pub watch_refuses : Reason → ℕ → Outcome
watch_refuses r judged = refused (record { layer = Watch; reason = r; place = judged })

-- the reason of the watch for a ruling that refuses
abbrev pub refuses : Ruling → Option Reason
refuses (breaks p) = None
refuses spills = Some (of_watch IsSpilled)
refuses overfills = Some (of_watch IsFull)
refuses goes_on = None

-- EVENTS, of a property P whose registers hold k at first
module _ (P : T.Table) (k : Registers) where
  -- what the deciding rule says behind L, with a cap of 64 and a book of 16,384 entries
  abbrev pub ruling : List Event → World → Ruling
  ruling L now = decides P k 64 16384 (so_far L) now

  -- the events are judged one after the other behind L, and none of them decides
  abbrev pub Quiet : List Event → List Event → Type 0
  Quiet L [] = Unit {0}
  Quiet L (e ∷ es) = (event_reason P e ≡ None) × (ruling L (so_far (L ++ e ∷ [])) ≡ goes_on) × Quiet (L ++ e ∷ []) es

  -- the list is in the language of the property's automaton
  abbrev pub InLanguage : List Event → Type 0
  InLanguage L = HighLanguage (automaton_of P k) (map letter L)

  -- How a day of these events with this ending comes out: by the first event that is refused or decides, by a source that ends with a refusal, or by the
  -- end of the list.
  pub data Ends (es : List Event) (n : Ending) : Outcome → Type 0 where
    kept_to_end : n ≡ Ok tt → Quiet [] es → ruling es (closing es) ≡ goes_on → ¬ InLanguage es → Ends es n (kept (length es))
    broken_by_event : (L : List Event) (e : Event) (X : List Event) (p : ℕ) (path : List ℕ) → es ≡ L ++ e ∷ X → Quiet [] L → event_reason P e ≡ None →
        ruling L (so_far (L ++ e ∷ [])) ≡ breaks p → ErrsBy P k (so_far (L ++ e ∷ [])) p path → ((Y : List Event) → InLanguage ((L ++ e ∷ []) ++ Y)) →
        Ends es n (broken (length L + 1) p path)
    broken_by_end : (p : ℕ) (path : List ℕ) → n ≡ Ok tt → Quiet [] es → ruling es (closing es) ≡ breaks p → ErrsBy P k (closing es) p path → InLanguage es →
        Ends es n (broken (length es) p path)
    event_refused : (L : List Event) (e : Event) (X : List Event) (r : Reason) → es ≡ L ++ e ∷ X → Quiet [] L → event_reason P e ≡ Some r →
        Ends es n (watch_refuses r (length L))
    event_undecided : (L : List Event) (e : Event) (X : List Event) (r : Reason) → es ≡ L ++ e ∷ X → Quiet [] L → event_reason P e ≡ None →
        refuses (ruling L (so_far (L ++ e ∷ []))) ≡ Some r → Ends es n (watch_refuses r (length L))
    end_undecided : (r : Reason) → n ≡ Ok tt → Quiet [] es → refuses (ruling es (closing es)) ≡ Some r → Ends es n (watch_refuses r (length es))
    source_refused : (f : Refusal) → n ≡ Err f → Quiet [] es → Ends es n (refused f)

module _ {V : Type 0} (reads : List ℕ → Result (V × ℕ) Fault) where
  -- Values stand one after the other from the first byte on, to the end or the ninth; or the first that cannot be read is refused, where fewer than nine stand
  -- before it.
  pub data ConstantsRead (bytes : List ℕ) : Result (List V) Refusal → Type 0 where
    read : (vs : List V) (q : ℕ) → Values reads bytes 0 vs q → length vs ≤ 9 → (length bytes ≤ q) ⊎ (length vs ≡ 9) → ConstantsRead bytes (Ok vs)
    unread : (vs : List V) (q : ℕ) (f : Refusal) → Values reads bytes 0 vs q → length vs < 9 → q < length bytes → at reads bytes q ≡ Err f → ConstantsRead bytes (Err f)

  -- How a day comes out under a kind: the text decides first, then the head of the journal, then the values of the constants, then the events.
  pub data ComesBy (number : ℕ) (class : V → Class) (text journal constants : List ℕ) : Outcome → Type 0 where
    text_refused : (f : Flaw) → Refuses text (At f) → ComesBy number class text journal constants (refused (record { layer = Text; reason = of_text f.reason; place = f.place }))
    head_refused : (P : Property) (f : Refusal) → Written text P → head_refusal number journal ≡ Some f → ComesBy number class text journal constants (refused f)
    constants_refused : (P : Property) (f : Refusal) → Written text P → head_refusal number journal ≡ None → ConstantsRead constants (Err f) →
        ComesBy number class text journal constants (refused f)
    begin_refused : (P : Property) (vs : List V) → Written text P → head_refusal number journal ≡ None → ConstantsRead constants (Ok vs) →
        ¬ (length vs ≡ length (table_of P).constants) → ComesBy number class text journal constants (watch_refuses (of_watch OtherConstants) 0)
    judged : (P : Property) (vs : List V) (hs : List (Happening V)) (n : Ending) (o : Outcome) → Written text P → head_refusal number journal ≡ None →
        ConstantsRead constants (Ok vs) → length vs ≡ length (table_of P).constants → Recorded reads journal 2 hs n →
        Ends (table_of P) (initial (table_of P) (map class vs)) (map (λ h. seen class h.id h.values) hs) n o → ComesBy number class text journal constants o

-- A day is one of labels where the second byte of its journal says so, and one of numbers else, also where it has no second byte.
abbrev pub Comes : List ℕ → List ℕ → List ℕ → Outcome → Type 0
Comes text journal constants o =
    cond (slice_index journal 1 == 2) (ComesBy label_read 2 label_class text journal constants o) (ComesBy number_value 1 number_class text journal constants o)

-- The day comes out so, and in no other way but for the steps shown.
pub record Judged (text journal constants : List ℕ) (o : Outcome) : Type 0 where
  pub comes : Comes text journal constants o
  pub only : (p : Outcome) → Comes text journal constants p → SameButSteps p o

-- The listing of a journal.
use Rattle.std.specs.Prelude.{◌≡◌, ℕ, cond, List, [], ◌∷◌, ◌++◌, map, length, take, Some, None, Ok, Err, codes, decimal, Option, Result, ◌==◌, slice_index}
use Rattle.std.specs.List.{flat_map}
use Rattle.kinds.specs.declared.refusal.Fault.{Fault}
use Rattle.kinds.specs.declared.refusal.Refusal.{Refusal}
use Rattle.kinds.specs.Refusals.{Ending}
use Rattle.kinds.specs.Labels.{label_read, spelling}
use Rattle.kinds.specs.Numbers.{number_value}
use Rattle.narrow.specs.Narrowing.{only}
use Rattle.sources.specs.Events.{Happening, is_return, method}
use Rattle.sources.specs.Opening.{head_refusal}
use Rattle.sources.specs.Records.{Recorded}
use Rattle.day.specs.Lines.{line, number_shown, refusal_line}

-- The line that names the kind.
abbrev pub kind_line : List ℕ → List ℕ
kind_line title = line (codes "journal") (title ∷ [])

-- The last line: how many events there were, or the refusal that stands behind them.
abbrev pub last_line : ℕ → Ending → List ℕ
last_line count (Ok _) = line (codes "end") (decimal count ∷ [])
last_line count (Err f) = refusal_line f

-- An event is a call or a return.
abbrev pub verb_of : ℕ → List ℕ
verb_of id = cond (is_return id) (codes "return") (codes "call")

module _ {V : Type 0} (shown : V → List ℕ) where
  -- The line of an event: call or return, the method, and the values.
  abbrev pub event_line : Happening V → List ℕ
  event_line h = line (verb_of h.id) (decimal (method h) ∷ map shown h.values)

  -- The lines of some events.
  abbrev pub lines_of : List (Happening V) → List ℕ
  lines_of = flat_map event_line

-- The listing of some events and their ending.
abbrev pub listing_as : {V : Type 0} → List ℕ → (V → List ℕ) → List (Happening V) → Ending → List ℕ
listing_as title shown hs n = kind_line title ++ (lines_of shown hs ++ last_line (length hs) n)

-- Which events are listed: all of them, or those of some methods, of which the first 32 count.
abbrev pub chosen : {V : Type 0} → Option (List ℕ) → List (Happening V) → List (Happening V)
chosen None hs = hs
chosen (Some methods) hs = only (take 32 methods) hs

-- What is listed of a journal under a kind: the refusal of its head, or the chosen ones of the events that it records and how they end.
pub data Lists {V : Type 0} (number : ℕ) (reads : List ℕ → Result (V × ℕ) Fault) (title : List ℕ) (shown : V → List ℕ) (methods : Option (List ℕ)) (bytes : List ℕ) : List ℕ → Type 0 where
  unopened : (f : Refusal) → head_refusal number bytes ≡ Some f → Lists number reads title shown methods bytes (refusal_line f)
  opened : (hs : List (Happening V)) (n : Ending) → head_refusal number bytes ≡ None → Recorded reads bytes 2 hs n → Lists number reads title shown methods bytes (listing_as title shown (chosen methods hs) n)

-- A journal of numbers, and one of labels.
abbrev pub NumbersListed : Option (List ℕ) → List ℕ → List ℕ → Type 0
NumbersListed methods bytes out = Lists 1 number_value (codes "numbers") number_shown methods bytes out

abbrev pub LabelsListed : Option (List ℕ) → List ℕ → List ℕ → Type 0
LabelsListed methods bytes out = Lists 2 label_read (codes "labels") spelling methods bytes out

-- A journal is listed as one of labels where its second byte says so, and as one of numbers else.
abbrev pub JournalListed : Option (List ℕ) → List ℕ → List ℕ → Type 0
JournalListed methods bytes out = cond (slice_index bytes 1 == 2) (LabelsListed methods bytes out) (NumbersListed methods bytes out)

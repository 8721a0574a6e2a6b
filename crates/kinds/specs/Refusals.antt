-- What each refusal is called: the name of every layer and the number of every reason.
use Rattle.std.specs.Prelude.{ℕ, List, ◌∷◌, ◌++◌, codes, decimal, Result}
use Rattle.kinds.specs.declared.refusal.Layer.{Layer}
use Rattle.kinds.specs.declared.refusal.Layer.TheVariants.{Number, Value, Journal, Text, Watch, Mailbox}
use Rattle.kinds.specs.declared.refusal.Reason.{Reason}
use Rattle.kinds.specs.declared.refusal.Reason.TheVariants.{Cut, Overlong, OtherHead, WildId, TooManyValues, BadLabel, TooLong, NoRoom}
use Rattle.kinds.specs.declared.refusal.Reason.TheVariants.{Text as of_text, Watch as of_watch}
use Rattle.kinds.specs.declared.text_reason.TextReason.{TextReason}
use Rattle.kinds.specs.declared.text_reason.TextReason.TheVariants as texts
use Rattle.kinds.specs.declared.watch_reason.WatchReason.{WatchReason}
use Rattle.kinds.specs.declared.watch_reason.WatchReason.TheVariants.{NotBegun, BegunAlready, BadCap, OtherConstants, SmallBoard, OtherArity, IsBroken, IsSpilled, IsFull, IsKept, NotBroken, SmallPage}
use Rattle.kinds.specs.declared.refusal.Fault.{Fault}
use Rattle.kinds.specs.declared.refusal.Refusal.{Refusal}

-- The name of each layer.
abbrev pub name_of : Layer → List ℕ
name_of Number = codes "number"
name_of Value = codes "value"
name_of Journal = codes "journal"
name_of Text = codes "text"
name_of Watch = codes "watch"
name_of Mailbox = codes "mailbox"

-- The number of each reason that only a text has.
abbrev pub text_number : TextReason → ℕ
text_number texts.NoForm = 10  -- a byte fits no form, or the text breaks off; a reserved word stands as a name
text_number texts.TooMuch = 11  -- something is one too many, or too large
text_number texts.BadMethod = 12  -- a method is not declared, or its name or number is declared twice
text_number texts.OtherArity = 13  -- a label has another count of patterns than the method has parameters
text_number texts.WrittenTwice = 14  -- a label writes one variable twice
text_number texts.UnwrittenRead = 15  -- some path of statements reaches a read of a variable that it has not written
text_number texts.LeavesError = 16  -- a statement leaves the state `error`
text_number texts.NoRoute = 17  -- no written statement leaves `start`, or none leads to `error`

-- The number of each reason that only a watch has.
abbrev pub watch_number : WatchReason → ℕ
watch_number NotBegun = 20  -- a feed, a draw or a close before any begin
watch_number BegunAlready = 21  -- a begin after another
watch_number BadCap = 22  -- the cap is 0 or over 64
watch_number OtherConstants = 23  -- the count of constants differs from the property's
watch_number SmallBoard = 24  -- the board is short or the book is empty
watch_number OtherArity = 30  -- a call of a declared method has another count of values than its arity
watch_number IsBroken = 31  -- the phase is broken
watch_number IsSpilled = 32  -- the phase is spilled, or becomes so by this call
watch_number IsFull = 33  -- the phase is full, or becomes so by this call
watch_number IsKept = 34  -- the phase is kept
watch_number NotBroken = 40  -- a path is asked and the phase is not broken
watch_number SmallPage = 41  -- the path has more steps than the page has bytes

-- The number of each reason.
abbrev pub number_of : Reason → ℕ
number_of Cut = 1  -- the bytes end inside a head, a number, a label or a record
number_of Overlong = 2  -- a number has a needless last group, or a ninth byte over 7F
number_of OtherHead = 3  -- a journal's version or kind differs
number_of WildId = 4  -- an event's id is over 131,071
number_of TooManyValues = 5  -- a call has over 5 values, or a return over 1
number_of BadLabel = 6  -- a label's length or one of its bytes is wrong
number_of TooLong = 7  -- a journal has over 65,536 bytes
number_of NoRoom = 50  -- a mailbox holds as many events as it has places
number_of (of_text r) = text_number r  -- what only a text is refused for
number_of (of_watch r) = watch_number r  -- what only a watch refuses

-- A fault at a place.
abbrev pub placed : Fault → ℕ → Refusal
placed f p = record { layer = f.layer; reason = f.reason; place = p }

-- How a list of events ends: at its end, or with a refusal.
abbrev pub Ending : Type 0
Ending = Result (Unit {0}) Refusal

-- A refusal in words: its layer, its number and its place.
abbrev pub refusal_words : Refusal → List ℕ
refusal_words f = name_of f.layer ++ 32 ∷ (decimal (number_of f.reason) ++ 32 ∷ decimal f.place)

-- The bytes end inside a number.
abbrev pub number_cut : Fault
number_cut = record { layer = Number; reason = Cut }

-- A number has a needless last group, or a ninth byte over 7F.
abbrev pub number_overlong : Fault
number_overlong = record { layer = Number; reason = Overlong }

-- The bytes end inside a label.
abbrev pub value_cut : Fault
value_cut = record { layer = Value; reason = Cut }

-- A label's length or one of its bytes is wrong.
abbrev pub value_bad : Fault
value_bad = record { layer = Value; reason = BadLabel }

-- The grammar of a property text: what may come at each spot, and the faults of what stands there.
use Rattle.std.specs.Prelude.{◌≡◌, ℕ, ◌+◌, Bool, true, false, cond, not, ◌&&◌, ◌||◌, ◌⊎◌, List, [], ◌∷◌, ◌++◌, length, Some, None, codes, Option, ◌==◌, nat_eq, nat_le, nat_lt, slice_index_or}
use Rattle.std.specs.List.{list_any}
use Rattle.forms.specs.Bytes.{space, digit, capital, small, letter, wordy, value}
use Rattle.forms.specs.Forms.{Form, bounded}
use Rattle.forms.specs.Grammars.{Grammar, form}
use Rattle.forms.specs.Pieces.{Piece, word, number, mark, head_of}
use Rattle.property.specs.Cursors.{wrote}
use Rattle.property.specs.States.{Property, State, nothing_read, moved, closing, routed, declares, crowded, ninth, key, variable_key, register_of, method_place}
use Rattle.property.specs.Words.{same, front, past, reserved, long, first_byte}
use Rattle.property.specs.declared.cursor.Cursor.{Cursor}
use Rattle.property.specs.declared.spot.Head.{Head}
use Rattle.property.specs.declared.spot.Head.TheVariants as heads
use Rattle.property.specs.declared.spot.Inner.{Inner}
use Rattle.property.specs.declared.spot.Inner.TheVariants as inners
use Rattle.property.specs.declared.spot.Label.{Label}
use Rattle.property.specs.declared.spot.Label.TheVariants as labels
use Rattle.property.specs.declared.spot.Line.{Line}
use Rattle.property.specs.declared.spot.Line.TheVariants as lines
use Rattle.property.specs.declared.spot.Route.{Route}
use Rattle.property.specs.declared.spot.Route.TheVariants as routes
use Rattle.property.specs.declared.spot.Spot.{Spot}
use Rattle.property.specs.declared.spot.Spot.TheVariants as spots

-- WHICH BYTES MAY COME, first byte by first byte.
-- In the keyword of the first line n letters have been read.
abbrev pub head_opens : Head → ℕ → Bool
head_opens heads.Margin c = c == 32 || c == 112
head_opens (heads.Keyword n) c = c == slice_index_or (codes "property") n 121
head_opens heads.Gap c = c == 32
head_opens heads.Title c = letter c

abbrev pub line_opens : Line → ℕ → Bool
line_opens lines.Ending c = c == 10
line_opens lines.Fresh c = letter c
line_opens lines.MethodName c = letter c
line_opens lines.MethodNumber c = digit c
line_opens (lines.MethodArity n) c = digit c

abbrev pub route_opens : Route → ℕ → Bool
route_opens routes.Minus c = c == 45
route_opens routes.Greater c = c == 62
route_opens routes.Target c = letter c
route_opens routes.Colon c = c == 58

-- A pattern begins with a letter, `*`, `!` or `<`.
abbrev pub pattern_opens : ℕ → Bool
pattern_opens c = letter c || (c == 42 || (c == 33 || c == 60))

abbrev pub label_opens : Label → ℕ → Bool
label_opens labels.Begin c = pattern_opens c
label_opens labels.Star c = c == 58 || (c == 59 || c == 10)
label_opens labels.Becomes c = c == 58
label_opens labels.Equals c = c == 61
label_opens labels.Callee c = letter c
label_opens labels.Open c = c == 40
label_opens labels.Comma c = c == 44 || c == 41
label_opens labels.End c = c == 59 || c == 10

abbrev pub inner_opens : Inner → ℕ → Bool
inner_opens inners.Returned c = pattern_opens c
inner_opens inners.First c = c == 41 || pattern_opens c
inner_opens inners.Param c = pattern_opens c
inner_opens (inners.Negated n) c = small c
inner_opens (inners.Quoted n) c = letter c
inner_opens inners.Unquote c = c == 62

abbrev pub opens_at : Spot → ℕ → Bool
opens_at (spots.Head h) c = head_opens h c
opens_at (spots.Line l) c = line_opens l c
opens_at (spots.Route r) c = route_opens r c
opens_at (spots.Label l) c = label_opens l c
opens_at (spots.Inner i) c = inner_opens i c

abbrev pub opens : Cursor → ℕ → Bool
opens u c = opens_at u.spot c

-- No spaces are free before and in the keyword, right after it, and inside `->` and `:=`.
abbrev pub tight_at : Spot → Bool
tight_at (spots.Head heads.Margin) = true
tight_at (spots.Head (heads.Keyword n)) = true
tight_at (spots.Head heads.Gap) = true
tight_at (spots.Head heads.Title) = false
tight_at (spots.Line l) = false
tight_at (spots.Route routes.Minus) = false
tight_at (spots.Route routes.Greater) = true
tight_at (spots.Route routes.Target) = false
tight_at (spots.Route routes.Colon) = false
tight_at (spots.Label labels.Begin) = false
tight_at (spots.Label labels.Star) = false
tight_at (spots.Label labels.Becomes) = false
tight_at (spots.Label labels.Equals) = true
tight_at (spots.Label labels.Callee) = false
tight_at (spots.Label labels.Open) = false
tight_at (spots.Label labels.Comma) = false
tight_at (spots.Label labels.End) = false
tight_at (spots.Inner i) = false

-- THE FAULTS of a piece, each with the test for it, from the lowest number on: w are its bytes, c is the first of them, r comes after it.
-- Those of a name.
abbrev pub name_flaws : List ℕ → List (Bool × ℕ)
name_flaws w = (reserved w, 10) ∷ (long w, 11) ∷ []

-- Those of a name that needs room; b says that there is none.
abbrev pub room_flaws : Bool → List ℕ → List (Bool × ℕ)
room_flaws b w = (reserved w, 10) ∷ (long w || b, 11) ∷ []

-- Those of an arity.
abbrev pub arity_flaws : List ℕ → List (Bool × ℕ)
arity_flaws w = (nat_lt 5 (value w), 11) ∷ []

abbrev pub head_flaws : Head → List ℕ → List (Bool × ℕ)
head_flaws heads.Margin w = []
head_flaws (heads.Keyword n) w = []
head_flaws heads.Gap w = []
head_flaws heads.Title w = name_flaws w

-- There is no room for a statement that leaves the state w.
abbrev pub full : State → List ℕ → Bool
full p w = nat_le 64 (length p.sofar.statements) || crowded p w

-- Those of a statement's source.
abbrev pub source_flaws : State → List ℕ → List (Bool × ℕ)
source_flaws p w = room_flaws (full p w) w ++ (same w (codes "error"), 16) ∷ []

abbrev pub line_flaws : Line → State → List ℕ → List (Bool × ℕ)
line_flaws lines.Ending p w = []
line_flaws lines.Fresh p w = cond (declares p w) ((nat_le 32 (length p.sofar.methods), 11) ∷ []) (source_flaws p w)
line_flaws lines.MethodName p w = (reserved w, 10) ∷ (long w, 11) ∷ (nat_lt (method_place p.sofar w) (length p.sofar.methods), 12) ∷ []
line_flaws lines.MethodNumber p w = (nat_lt 65535 (value w), 11) ∷ (list_any (λ m. nat_eq (value w) m.number) p.sofar.methods, 12) ∷ []
line_flaws (lines.MethodArity n) p w = arity_flaws w

abbrev pub route_flaws : Route → State → List ℕ → List (Bool × ℕ)
route_flaws routes.Minus p w = []
route_flaws routes.Greater p w = []
route_flaws routes.Target p w = room_flaws (crowded p w) w
route_flaws routes.Colon p w = []

-- After `!` or `<`, with r to come, a good name stands that needs a ninth register.
abbrev pub wants_word : Property → Bool → List ℕ → Bool
wants_word P constant w =
    cond constant (letter (first_byte w)) (small (first_byte w))
    && (not (reserved w) && (not (long w) && ninth P (key constant w)))

abbrev pub wants : Property → Bool → List ℕ → Bool
wants P constant r = wants_word P constant (front wordy (past space r))

-- Those of a variable that begins a label, and of any other; `late` says that its label goes past the fourth event.
abbrev pub fresh_flaws : Bool → State → List ℕ → List (Bool × ℕ)
fresh_flaws late p w = room_flaws (late || ninth p.sofar (variable_key w)) w

-- The label would write the variable w, which begins with c, again.
abbrev pub written_twice : State → List ℕ → ℕ → Bool
written_twice p w c = capital c && wrote p.cursor.label.written (register_of p.sofar (variable_key w))

abbrev pub variable_flaws : Bool → State → List ℕ → ℕ → List (Bool × ℕ)
variable_flaws late p w c = fresh_flaws late p w ++ (written_twice p w c, 14) ∷ []

-- Those of a pattern.
abbrev pub pattern_flaws : Bool → State → List ℕ → ℕ → List ℕ → List (Bool × ℕ)
pattern_flaws late p w c r =
    cond (c == 42) []
    (cond (c == 33) ((late || wants p.sofar false r, 11) ∷ [])
    (cond (c == 60) ((late || wants p.sofar true r, 11) ∷ []) (variable_flaws late p w c)))

-- Those of a pattern that begins a label.
abbrev pub begun_flaws : Bool → State → List ℕ → ℕ → List ℕ → List (Bool × ℕ)
begun_flaws late p w c r = cond (letter c) (fresh_flaws late p w) (pattern_flaws late p w c r)

-- A closing bracket after another count of patterns than the method has parameters.
abbrev pub closing_flaws : Cursor → List (Bool × ℕ)
closing_flaws u = (not (u.label.count == u.label.arity + 1), 13) ∷ []

abbrev pub label_flaws : Label → State → List ℕ → ℕ → List ℕ → List (Bool × ℕ)
label_flaws labels.Begin p w c r =
    cond (c == 42) ((nat_le 4 p.cursor.statement.span || (nat_le 3 p.cursor.statement.span && first_byte (past space r) == 58), 11) ∷ [])
    (cond (same w (codes "call") || same w (codes "ret")) ((nat_le 4 p.cursor.statement.span, 11) ∷ [])
    (begun_flaws (nat_le 3 p.cursor.statement.span) p w c r))
label_flaws labels.Star p w c r = []
label_flaws labels.Becomes p w c r = []
label_flaws labels.Equals p w c r = []
label_flaws labels.Callee p w c r = (reserved w, 10) ∷ (long w, 11) ∷ (not (nat_lt (method_place p.sofar w) (length p.sofar.methods)), 12) ∷ []
label_flaws labels.Open p w c r = []
label_flaws labels.Comma p w c r = cond (c == 41) (closing_flaws p.cursor) []
label_flaws labels.End p w c r = []

abbrev pub inner_flaws : Inner → State → List ℕ → ℕ → List ℕ → List (Bool × ℕ)
inner_flaws inners.Returned p w c r = pattern_flaws false p w c r
inner_flaws inners.First p w c r = cond (c == 41) (closing_flaws p.cursor) (pattern_flaws false p w c r)
inner_flaws inners.Param p w c r = pattern_flaws false p w c r
inner_flaws (inners.Negated n) p w c r = name_flaws w
inner_flaws (inners.Quoted n) p w c r = name_flaws w
inner_flaws inners.Unquote p w c r = []

abbrev pub flaws_at : Spot → State → List ℕ → ℕ → List ℕ → List (Bool × ℕ)
flaws_at (spots.Head h) p w c r = head_flaws h w
flaws_at (spots.Line l) p w c r = line_flaws l p w
flaws_at (spots.Route t) p w c r = route_flaws t p w
flaws_at (spots.Label l) p w c r = label_flaws l p w c r
flaws_at (spots.Inner i) p w c r = inner_flaws i p w c r

abbrev pub flaws : State → List ℕ → ℕ → List ℕ → List (Bool × ℕ)
flaws p w c r = flaws_at p.cursor.spot p w c r

-- n is the number of a fault whose test holds.
abbrev pub Marked : List (Bool × ℕ) → ℕ → Type 0
Marked [] n = ⊥
Marked (f ∷ fs) n = ((f.0 ≡ true) × (n ≡ f.1)) ⊎ Marked fs n

-- The number of the first fault whose test holds.
abbrev pub worst : List (Bool × ℕ) → Option ℕ
worst [] = None
worst (f ∷ fs) = cond f.0 (Some f.1) (worst fs)

-- WHERE A TEXT MAY END: after a line, with spaces s before its end or right after its 0A.
abbrev pub none_left : List ℕ → Bool
none_left [] = true
none_left (b ∷ s) = false

abbrev pub line_ends : Line → List ℕ → Bool
line_ends lines.Ending s = true
line_ends lines.Fresh s = none_left s
line_ends lines.MethodName s = false
line_ends lines.MethodNumber s = false
line_ends (lines.MethodArity n) s = false

abbrev pub label_ends : Label → Bool
label_ends labels.Begin = false
label_ends labels.Star = true
label_ends labels.Becomes = false
label_ends labels.Equals = false
label_ends labels.Callee = false
label_ends labels.Open = false
label_ends labels.Comma = false
label_ends labels.End = true

abbrev pub ends_at : Spot → List ℕ → Bool
ends_at (spots.Head h) s = false
ends_at (spots.Line l) s = line_ends l s
ends_at (spots.Route r) s = false
ends_at (spots.Label l) s = label_ends l
ends_at (spots.Inner i) s = false

-- The bytes of a piece.
abbrev pub bytes : Piece → List ℕ
bytes (word w) = w
bytes (number d) = d
bytes (mark m) = m ∷ []

-- The grammar.
abbrev pub text : Grammar State Property
text = record {
  tight = λ p. tight_at p.cursor.spot;
  after = λ p x k. cond (opens p.cursor (head_of x)) (Some (moved p (bytes x) (head_of x) k)) None;
  bad = λ p x r n. Marked (flaws p (bytes x) (head_of x) r) n;
  ends = λ p s. cond (ends_at p.cursor.spot s) (Some (closing p)) None;
  lacks = λ p n. (n ≡ 17) × (routed (closing p).statements ≡ false);
}

-- A property text, and one of at most 8,192 bytes.
abbrev pub any_text : Form Property
any_text = form text nothing_read 0

abbrev pub property_text : Form Property
property_text = bounded 8192 any_text

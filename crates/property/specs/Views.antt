-- What the parts of a draft stand for, as names in the text that it reads.
use Rattle.std.specs.Prelude.{ℕ, ◌-◌, Bool, true, false, cond, ◌&&◌, List, [], map, length, take, drop, vec_items, Option, nat_le}
use Rattle.std.specs.Option.{option_map}
use Rattle.kinds.specs.Refusals.{text_number}
use Rattle.property.specs.Grammar.{worst}
use Rattle.kinds.specs.declared.text_reason.TextReason.{TextReason}
use Rattle.property.specs.States.{Declared, Key, key, Property, State}
use Rattle.property.specs.declared.draft.Draft.{Draft}
use Rattle.property.specs.declared.draft.Reading.{Reading}
use Rattle.property.specs.declared.reader.Found.{Found}
use Rattle.property.specs.declared.table.Method.{Method}
use Rattle.property.specs.declared.table.Name.{Name}
use Rattle.property.specs.declared.table.Register.{Register}
use Rattle.property.specs.declared.table.Register.TheVariants as registers

-- The bytes of t from place p up to place q.
abbrev pub slice : List ℕ → ℕ → ℕ → List ℕ
slice t p q = take (q - p) (drop p t)

-- The bytes of a name, none where its places lie outside of the text.
abbrev pub spelled : List ℕ → Name → List ℕ
spelled t n = cond (nat_le n.from n.to && nat_le n.to (length t)) (slice t n.from n.to) []

abbrev pub declared : List ℕ → Method → Declared
declared t m = record { name = spelled t m.name; number = m.number; arity = m.arity }

-- Whether a register is a constant's, and the name of it.
abbrev pub is_constant : Register → Bool
is_constant (registers.Constant n) = true
is_constant (registers.Variable n) = false

abbrev pub name_of : Register → Name
name_of (registers.Constant n) = n
name_of (registers.Variable n) = n

abbrev pub key_of : List ℕ → Register → Key
key_of t g = key (is_constant g) (spelled t (name_of g))

-- The number of a reason, where there is one.
abbrev pub told : Option TextReason → Option ℕ
told o = option_map text_number o

-- What a draft of the text t holds.
abbrev pub sofar : List ℕ → Draft → Property
sofar t d = record {
  name = spelled t d.name;
  methods = map (declared t) (vec_items d.methods);
  others = map (spelled t) (vec_items d.others);
  registers = map (key_of t) (vec_items d.registers);
  statements = vec_items d.statements;
}

abbrev pub view : List ℕ → Draft → State
view t d = record { cursor = d.cursor; word = spelled t d.word; sofar = sofar t d }

-- What a draft with its text holds.
abbrev pub seen : Reading → State
seen r = view r.text.now r.draft.now

-- The bytes of a piece that was found, and those after it.
abbrev pub piece : Reading → Found → List ℕ
piece r x = spelled r.text.now x.name

abbrev pub rest : Reading → Found → List ℕ
rest r x = drop x.name.to r.text.now

-- The first fault of a piece that was found, by the tests for it.
abbrev pub first_flaw : (State → List ℕ → ℕ → List ℕ → List (Bool × ℕ)) → Reading → Found → Option ℕ
first_flaw f r x = worst (f (seen r) (piece r x) x.byte (rest r x))

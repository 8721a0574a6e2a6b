-- The texts of the worked days, and the properties that they write.
use Rattle.std.specs.Prelude.{ℕ, ◌-◌, List, [], ◌∷◌, ◌++◌, length, replicate, codes}
use Rattle.property.specs.Cursors.{blank}
use Rattle.property.specs.States.{Declared, Property, variable_key}
use Rattle.property.specs.declared.table.Event.{Event}
use Rattle.property.specs.declared.table.Event.TheVariants as events
use Rattle.property.specs.declared.table.Slot.{Slot}
use Rattle.property.specs.declared.table.Statement.{Statement}
use Rattle.topl.specs.declared.pattern.Pattern.{Pattern}
use Rattle.topl.specs.declared.pattern.Pattern.TheVariants as patterns

-- The text of some lines, each ended by 0A.
abbrev pub lines : List (List ℕ) → List ℕ
lines [] = []
lines (l ∷ ls) = l ++ 10 ∷ lines ls

-- PARTS OF A PROPERTY, in short
-- A declared method.
abbrev pub method : List ℕ → ℕ → ℕ → Declared
method name number arity = record { name = name; number = number; arity = arity }

-- A pattern at a place of the text.
abbrev pub slot : Pattern ℕ → ℕ → Slot
slot pattern place = record { pattern = pattern; place = place }

-- A call of the method of a number, with these slots, of the five that a call has.
abbrev pub call : ℕ → List Slot → Event
call m ss = events.Calls (record { number = m; arity = length ss; slots = ss ++ replicate (5 - length ss) blank })

-- A return of the method of a number.
abbrev pub return : ℕ → Slot → Event
return m s = events.Returns (record { number = m; slot = s })

-- A statement over these events, of the four that it has.
abbrev pub statement : ℕ → ℕ → List Event → Statement
statement source target es =
    record { source = source; target = target; events = es ++ replicate (4 - length es) events.Any; span = length es }

-- STALE
abbrev pub stale_text : List ℕ
stale_text = lines (
    codes "property Stale" ∷
    codes "method fetch 3 1" ∷
    codes "method apply 4 2" ∷
    codes "method midnight 5 0" ∷
    codes "start -> held: S := fetch(F)" ∷
    codes "held -> stale: call midnight()" ∷
    codes "stale -> error: call apply(f, s)" ∷ [])

-- Its registers are s 0 and f 1, its states held 2 and stale 3.
abbrev pub stale_property : Property
stale_property = record {
  name = codes "Stale";
  methods = method (codes "fetch") 3 1 ∷ method (codes "apply") 4 2 ∷ method (codes "midnight") 5 0 ∷ [];
  others = codes "held" ∷ codes "stale" ∷ [];
  registers = variable_key (codes "S") ∷ variable_key (codes "F") ∷ [];
  statements =
      statement 0 2 (call 3 (slot (patterns.Write 1) 95 ∷ []) ∷ return 3 (slot (patterns.Write 0) 84) ∷ []) ∷
      statement 2 3 (call 5 [] ∷ []) ∷
      statement 3 1 (call 4 (slot (patterns.Same 1) 156 ∷ slot (patterns.Same 0) 159 ∷ []) ∷ []) ∷ [];
}

-- WAIT
abbrev pub wait_text : List ℕ
wait_text = lines (
    codes "property Wait" ∷
    codes "method g 1 0" ∷
    codes "method p 2 0" ∷
    codes "method r 3 0" ∷
    codes "method z 4 0" ∷
    codes "start -> a: call g()" ∷
    codes "a -> done: call p(); call r(); call z()" ∷
    codes "a -> error: call r()" ∷ [])

-- Its states are a 2 and done 3.
abbrev pub wait_property : Property
wait_property = record {
  name = codes "Wait";
  methods = method (codes "g") 1 0 ∷ method (codes "p") 2 0 ∷ method (codes "r") 3 0 ∷ method (codes "z") 4 0 ∷ [];
  others = codes "a" ∷ codes "done" ∷ [];
  registers = [];
  statements =
      statement 0 2 (call 1 [] ∷ []) ∷
      statement 2 3 (call 2 [] ∷ call 3 [] ∷ call 4 [] ∷ []) ∷
      statement 2 1 (call 3 [] ∷ []) ∷ [];
}

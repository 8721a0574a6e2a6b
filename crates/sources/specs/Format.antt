-- What the bytes of a journal say, read front to back.
use Rattle.std.specs.Prelude.{ℕ, zero, suc, ◌+◌, ◌-◌, cond, List, [], ◌∷◌, drop, Ok, Err, Result, nat_lt}
use Rattle.kinds.specs.Refusals.{Ending}
use Rattle.kinds.specs.declared.refusal.Fault.{Fault}
use Rattle.kinds.specs.declared.refusal.Layer.TheVariants.{Journal}
use Rattle.kinds.specs.declared.refusal.Reason.{Reason}
use Rattle.kinds.specs.declared.refusal.Reason.TheVariants.{WildId, TooManyValues}
use Rattle.kinds.specs.declared.refusal.Refusal.{Refusal}
use Rattle.kinds.specs.Numbers.{number_read}
use Rattle.kinds.specs.Refusals.{placed}
use Rattle.sources.specs.Events.{Happening, most}

-- What a reading tells at a place: what it read, and the place after it; a fault is placed there.
abbrev pub moved : {A : Type 0} → ℕ → Result (A × ℕ) Fault → Result (A × ℕ) Refusal
moved p (Ok t) = Ok (t.0, p + t.1)
moved p (Err f) = Err (placed f p)

-- What stands at a place, by some reading.
abbrev pub at : {A : Type 0} → (List ℕ → Result (A × ℕ) Fault) → List ℕ → ℕ → Result (A × ℕ) Refusal
at reads bytes p = moved p (reads (drop p bytes))

abbrev pub and_then : {A B E : Type 0} → Result A E → (A → Result B E) → Result B E
and_then (Ok a) f = f a
and_then (Err e) f = Err e

-- A refusal of the journal's own.
abbrev pub refuses : Reason → ℕ → Refusal
refuses r p = record { layer = Journal; reason = r; place = p }

module _ {V : Type 0} (reads : List ℕ → Result (V × ℕ) Fault) (bytes : List ℕ) where
  -- So many values, one after the other.
  abbrev pub values_at : ℕ → ℕ → Result (List V × ℕ) Refusal
  values_at p zero = Ok ([], p)
  values_at p (suc n) = and_then (at reads bytes p) (λ v. and_then (values_at v.1 n) (λ vs. Ok (v.0 ∷ vs.0, vs.1)))

  -- An event of an id with so many values.
  abbrev pub event_at : ℕ → ℕ → ℕ → Result (Happening V × ℕ) Refusal
  event_at p id n = and_then (values_at p n) (λ vs. Ok (record { id = id; values = vs.0 }, vs.1))

  -- A record: an id, a count of values, and the values.
  abbrev pub record_at : ℕ → Result (Happening V × ℕ) Refusal
  record_at p =
      and_then (at number_read bytes p) (λ i.
      cond (nat_lt 131071 i.0) (Err (refuses WildId p))
      (and_then (at number_read bytes i.1) (λ n.
      cond (nat_lt (most i.0) n.0) (Err (refuses TooManyValues p))
      (event_at n.1 i.0 n.0))))

-- The events that wait, and the ending.
pub record Meaning (V : Type 0) : Type 0 where
  pub waits : List (Happening V)
  pub ends : Ending

-- One event more in front.
abbrev pub first_then : {V : Type 0} → Happening V → Meaning V → Meaning V
first_then h m = record { waits = h ∷ m.waits; ends = m.ends }

-- A record that is accepted comes first, and what stands after it follows; one that is refused is the ending.
abbrev pub onward : {V : Type 0} → Result (Happening V × ℕ) Refusal → (ℕ → Meaning V) → Meaning V
onward (Ok t) rest = first_then t.0 (rest t.1)
onward (Err f) rest = record { waits = []; ends = Err f }

module _ {V : Type 0} (reads : List ℕ → Result (V × ℕ) Fault) (bytes : List ℕ) where
  -- Over the bytes from p on, of which the first `skip` belong to a record that was taken.
  unfoldable pub walk : ℕ → ℕ → List ℕ → Meaning V
  walk p skip [] = record { waits = []; ends = Ok tt }
  walk p zero (b ∷ left) = onward (record_at reads bytes p) (λ q. walk (p + 1) (q - (p + 1)) left)
  walk p (suc skip) (b ∷ left) = walk (p + 1) skip left

  -- What a reader at a place has before it.
  unfoldable pub means : ℕ → Meaning V
  means p = walk p 0 (drop p bytes)

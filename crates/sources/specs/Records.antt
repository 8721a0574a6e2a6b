-- A journal as a relation between its bytes and the events that they record.
use Rattle.std.specs.Prelude.{◌≡◌, ℕ, ◌+◌, ◌*◌, ◌<◌, ◌≤◌, List, [], ◌∷◌, length, Ok, Err, Result}
use Rattle.kinds.specs.Refusals.{Ending}
use Rattle.kinds.specs.declared.refusal.Fault.{Fault}
use Rattle.kinds.specs.declared.refusal.Reason.TheVariants.{WildId, TooManyValues}
use Rattle.kinds.specs.declared.refusal.Refusal.{Refusal}
use Rattle.kinds.specs.Numbers.{number_read}
use Rattle.sources.specs.Events.{Happening, Lawful, most}
use Rattle.sources.specs.Format.{at, refuses}

module _ {V : Type 0} (reads : List ℕ → Result (V × ℕ) Fault) (bytes : List ℕ) where
  -- Values stand one after the other from one place to another.
  pub data Values : ℕ → List V → ℕ → Type 0 where
    none : (p : ℕ) → Values p [] p
    one_more : (p : ℕ) (v : V) (m : ℕ) (vs : List V) (q : ℕ) → at reads bytes p ≡ Ok (v, m) → Values m vs q → Values p (v ∷ vs) q

  -- The record of a lawful event stands from p to q: its id, the count of its values, and its values.
  pub record Stands (p : ℕ) (h : Happening V) (q : ℕ) : Type 0 where
    pub id_end : ℕ
    pub count_end : ℕ
    pub id : at number_read bytes p ≡ Ok (h.id, id_end)
    pub count : at number_read bytes id_end ≡ Ok (length h.values, count_end)
    pub values : Values count_end h.values q
    pub lawful : Lawful h

  -- The record at p is refused: for its id, then the size of its id, then its count, then the size of its count, then the first value that cannot be read.
  pub data Fails (p : ℕ) : Refusal → Type 0 where
    id_unread : (f : Refusal) → at number_read bytes p ≡ Err f → Fails p f
    id_wild : (id i : ℕ) → at number_read bytes p ≡ Ok (id, i) → 131071 < id → Fails p (refuses WildId p)
    count_unread : (id i : ℕ) (f : Refusal) → at number_read bytes p ≡ Ok (id, i) → id ≤ 131071 → at number_read bytes i ≡ Err f → Fails p f
    count_wild : (id i n c : ℕ) → at number_read bytes p ≡ Ok (id, i) → id ≤ 131071 → at number_read bytes i ≡ Ok (n, c) → most id < n → Fails p (refuses TooManyValues p)
    value_unread : (id i n c : ℕ) (vs : List V) (v : ℕ) (f : Refusal) → at number_read bytes p ≡ Ok (id, i) → id ≤ 131071 → at number_read bytes i ≡ Ok (n, c) → n ≤ most id
        → Values c vs v → length vs < n → at reads bytes v ≡ Err f → Fails p f

  -- From a place on the bytes record these events and end so: at their end, or at the first record that is refused.
  pub data Records : ℕ → List (Happening V) → Ending → Type 0 where
    at_end : (p : ℕ) → length bytes ≤ p → Records p [] (Ok tt)
    stopped : (p : ℕ) (f : Refusal) → p < length bytes → Fails p f → Records p [] (Err f)
    onto : (p : ℕ) (h : Happening V) (q : ℕ) (hs : List (Happening V)) (n : Ending) → p < length bytes → Stands p h q → Records q hs n → Records p (h ∷ hs) n

  -- These events and this ending are what the bytes record from a place on, and nothing else is.
  pub record Recorded (p : ℕ) (hs : List (Happening V)) (n : Ending) : Type 0 where
    pub so : Records p hs n
    pub only : (gs : List (Happening V)) (m : Ending) → Records p gs m → (gs ≡ hs) × (m ≡ n)

  -- Every record takes at least one byte, and at most four and five values of the longest form.
  abbrev pub ShortRecords : ℕ → Type 0
  ShortRecords longest = (p : ℕ) (h : Happening V) (q : ℕ) → Stands p h q → (p < q) × (q ≤ p + (4 + 5 * longest))

-- The steps that an entry of the book stands for.
use Rattle.std.specs.Prelude.{◌≡◌, ℕ, zero, suc, ◌+◌, ◌<◌, ◌≤◌, min, List, [], ◌∷◌, ◌++◌, length, drop, Some, None, Option, slice_index_or}
use Rattle.engine.specs.declared.entry.Entry.{Entry}

abbrev pub entry_at : List Entry → ℕ → Entry
entry_at es n = slice_index_or es n (record { parent = 0; step = 0 })

-- among the first entries, every one but the start comes after its parent
abbrev pub Linked : List Entry → ℕ → Type 0
Linked es used = (n : ℕ) → 0 < n → n < used → (entry_at es n).parent < n

-- the steps from the start to entry n, over at most so many entries
abbrev pub trail : ℕ → List Entry → ℕ → List ℕ
trail zero es n = []
trail (suc most) es zero = []
trail (suc most) es (suc n) = trail most es (entry_at es (suc n)).parent ++ ((entry_at es (suc n)).step ∷ [])

-- the steps from the start to entry n
unfoldable pub steps_to : List Entry → ℕ → List ℕ
steps_to es n = trail n es n

-- the steps that lead to an entry's parent, and its own
abbrev pub steps_by : List Entry → Entry → List ℕ
steps_by es x = steps_to es x.parent ++ (x.step ∷ [])

-- as many entries may count
abbrev pub room_of : List Entry → ℕ
room_of es = min (length es) 16384

-- An entry comes to a book of which `used` count. Where there is room it has the number n and stands for its own steps; every other stands for what it
-- stood for.
pub record Enters (es : List Entry) (used : ℕ) (x : Entry) (fs : List Entry) (used' n : ℕ) : Type 0 where
  pub known : n < used'
  pub more : used ≤ used'
  pub long : length fs ≡ length es
  pub old : (k : ℕ) → k < used → steps_to fs k ≡ steps_to es k
  pub new : used < room_of es → (used' ≡ used + 1) × (steps_to fs n ≡ steps_by es x)

-- What a page holds once some steps were to be written: the steps and the rest of it; or it stays, since it is shorter or the steps are not known.
abbrev pub Written : Type 0 → List ℕ → List ℕ → List ℕ → Option ℕ → Type 0
Written Known steps page after (Some n) = (n ≡ length steps) × (after ≡ steps ++ drop (length steps) page)
Written Known steps page after None = (after ≡ page) × (Known → length page < length steps)

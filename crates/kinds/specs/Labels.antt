-- Labels: a number from 1 to 16, then that many letters, digits or hyphens. The case of letters does not count.
use Rattle.std.specs.Prelude.{◌≡◌, ℕ, suc, ◌+◌, ◌<◌, ◌≤◌, Bool, true, false, cond, ◌||◌, ◌⊎◌, List, [], ◌∷◌, ◌++◌, map, length, take, drop, replicate, Ok, Err, Result, ◌==◌, nat_lt}
use Rattle.std.proofs.Common.{arith, length-take, length-append}
use Rattle.std.proofs.lemmas.List.{length-replicate}
use Rattle.std.specs.List.{list_all}
use Rattle.std.specs.Char.{to_ascii_lowercase, is_ascii_alphanumeric}
use Rattle.kinds.specs.declared.refusal.Fault.{Fault}
use Rattle.kinds.specs.declared.label.Label.{Label}
use Rattle.kinds.specs.Refusals.{value_cut, value_bad}
use Rattle.kinds.specs.Numbers.{number_read, Whole, Numbered}

-- A letter, a digit or a hyphen.
abbrev pub label_byte : ℕ → Bool
label_byte b = is_ascii_alphanumeric b || b == 45

-- Every byte may stand in a label.
abbrev pub all_label : List ℕ → Bool
all_label = list_all label_byte

-- Sixteen bytes: a text, and zeros behind it.
abbrev pub padded : List ℕ → List ℕ
padded text = take 16 (text ++ replicate 16 0)

pub padded_sixteen : (text : List ℕ) → length (padded text) ≡ 16
padded_sixteen text = simp (length-take, length-append, length-replicate) (omega arith)

-- The label that a text spells.
abbrev pub label_of : List ℕ → Label
label_of text = record { text = padded text; sixteen = padded_sixteen text }

-- The label called nothing spells no byte.
abbrev pub no_label : Label
no_label = label_of []

-- A byte in front of what is left of those after it; a zero goes where nothing is left.
abbrev pub kept : ℕ → List ℕ → List ℕ
kept b [] = cond (b == 0) [] (b ∷ [])
kept b (c ∷ bytes) = b ∷ c ∷ bytes

-- Some bytes without the zeros behind them.
abbrev pub trimmed : List ℕ → List ℕ
trimmed [] = []
trimmed (b ∷ bytes) = kept b (trimmed bytes)

-- The text that a label spells.
abbrev pub spelling : Label → List ℕ
spelling l = trimmed l.text

-- The class of a label is its text in small letters; nothing has the empty class.
abbrev pub label_class : Label → List ℕ
label_class l = map to_ascii_lowercase (spelling l)

-- A length that a label can have.
abbrev pub Fitting : ℕ → Type 0
Fitting n = (1 ≤ n) × (n ≤ 16)

-- The bytes begin with a length, which takes one byte, and a text of that length.
abbrev pub Spelt : List ℕ → List ℕ → Type 0
Spelt bytes text = Fitting (length text) × ((rest : List ℕ) × (bytes ≡ length text ∷ (text ++ rest)))

-- The bytes begin with a number that is no label's length.
abbrev pub Unfitting : List ℕ → Type 0
Unfitting bytes = (n : ℕ) × Whole bytes n × ((n ≡ 0) ⊎ (16 < n))

-- The bytes end inside a label's text.
abbrev pub Short : List ℕ → Type 0
Short bytes = (n : ℕ) × (rest : List ℕ) × Fitting n × (bytes ≡ n ∷ rest) × (length rest < n)

-- The text is there, and a byte of it is no letter, digit or hyphen.
abbrev pub Misspelt : List ℕ → Type 0
Misspelt bytes = (text : List ℕ) × Spelt bytes text × (all_label text ≡ false)

-- What a label's reading means: the label that is spelt, and its length and one; or the fault of its length, then of its end, then of its text.
abbrev pub Labelled : List ℕ → Result (Label × ℕ) Fault → Type 0
Labelled bytes (Ok p) = (text : List ℕ) × Spelt bytes text × (all_label text ≡ true) × (p.0 ≡ label_of text) × (p.1 ≡ suc (length text))
Labelled bytes (Err f) = Numbered bytes (Err f) ⊎ (((f ≡ value_bad) × (Unfitting bytes ⊎ Misspelt bytes)) ⊎ ((f ≡ value_cut) × Short bytes))

-- What is read of a text of so many bytes, where a length of `k` bytes came before it.
abbrev pub text_read : ℕ → ℕ → List ℕ → Result (Label × ℕ) Fault
text_read n k rest =
    cond (nat_lt (length rest) n) (Err value_cut) (cond (all_label (take n rest)) (Ok (label_of (take n rest), k + n)) (Err value_bad))

-- What is read of a label where its length was read.
abbrev pub sized_read : List ℕ → Result (ℕ × ℕ) Fault → Result (Label × ℕ) Fault
sized_read bytes (Err f) = Err f
sized_read bytes (Ok p) = cond (p.0 == 0 || nat_lt 16 p.0) (Err value_bad) (text_read p.0 p.1 (drop p.1 bytes))

-- What the bytes decide of a label's reading: the label and how many bytes it takes, or the fault.
unfoldable pub label_read : List ℕ → Result (Label × ℕ) Fault
label_read bytes = sized_read bytes (number_read bytes)

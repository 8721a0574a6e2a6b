-- The day that a line writes, or why it writes none.
use Rattle.std.specs.Prelude.{ℕ, ◌<◌, ◌⊎◌, List, count_by}
use Rattle.std.specs.String.{string_bytes}
use Rattle.vectors.specs.Days.{Parts, Unwritten, Writes, tab}
use Rattle.vectors.specs.declared.day.Day.{Day}
use Rattle.vectors.specs.declared.hex_field.Fault.{Fault}
use Rattle.vectors.specs.declared.hex_field.Fault.TheVariants.{FewFields, NotHex, Memory}

-- The fields of the line write the day's parts.
pub record OnLine (line : List ℕ) (d : Day) : Type 0 where
  pub text : List ℕ
  pub journal : List ℕ
  pub constants : List ℕ
  pub parts : Parts line text journal constants (string_bytes d.expected)
  pub writes_text : Writes text d.text.items
  pub writes_journal : Writes journal d.journal.items
  pub writes_constants : Writes constants d.constants.items

-- No day comes of a line: it has too few tabs, one of its first three fields writes no bytes, or memory gave out.
pub data Unread (line : List ℕ) : Fault → Type 0 where
  few : count_by tab line < 3 → Unread line FewFields
  not_hex : (a b c e : List ℕ) → Parts line a b c e → Unwritten a NotHex ⊎ Unwritten b NotHex ⊎ Unwritten c NotHex → Unread line NotHex
  memory : Unread line Memory

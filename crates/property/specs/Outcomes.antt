-- What a failure to read a text says of it.
use Rattle.std.specs.Prelude.{ℕ, List}
use Rattle.forms.specs.Forms.{Form, Refused}
use Rattle.kinds.specs.Refusals.{text_number}
use Rattle.property.specs.Grammar.{any_text, property_text}
use Rattle.property.specs.States.{Property}
use Rattle.property.specs.declared.text.Failure.{Failure}
use Rattle.property.specs.declared.text.Failure.TheVariants.{At, Memory}

-- The fault of a text under a form; nothing, where memory was short.
abbrev pub ExplainsBy : Form Property → List ℕ → Failure → Type 0
ExplainsBy F t (At f) = Refused F t (text_number f.reason) f.place
ExplainsBy F t Memory = Unit {0}

-- Of a text of any length.
abbrev pub Explains : List ℕ → Failure → Type 0
Explains t e = ExplainsBy any_text t e

-- The same under the limit on the text's length.
abbrev pub ExplainsBounded : List ℕ → Failure → Type 0
ExplainsBounded t e = ExplainsBy property_text t e

-- What a property text with an unwritten read is refused with, and one without.
use Rattle.std.specs.Prelude.{◌≡◌, ℕ, ◌≤◌, ◌⊎◌, List, Some, None, Option}
use Rattle.forms.specs.Forms.{Accepted, Refused}
use Rattle.kinds.specs.Refusals.{text_number}
use Rattle.kinds.specs.declared.text_reason.TextReason.TheVariants as reasons
use Rattle.limits.specs.Limits.{Variable}
use Rattle.paths.specs.Reads.{OpenRead}
use Rattle.property.specs.Grammar.{property_text}
use Rattle.property.specs.States.{Property}
use Rattle.property.specs.declared.text.Failure.{Failure}
use Rattle.property.specs.declared.text.Failure.TheVariants.{At, Memory}

-- The answer is the least place at which a property reads a variable unwritten, or that there is none.
abbrev pub FirstUnwritten : Property → Option ℕ → Type 0
FirstUnwritten P None = (x n : ℕ) → Variable P.registers x → OpenRead P.statements x n → ⊥
FirstUnwritten P (Some n) =
    ((x : ℕ) × Variable P.registers x × OpenRead P.statements x n) × ((x m : ℕ) → Variable P.registers x → OpenRead P.statements x m → n ≤ m)

-- The text is accepted as the property, which reads no variable unwritten.
abbrev pub Written : List ℕ → Property → Type 0
Written t P = Accepted property_text t P × FirstUnwritten P None

-- The text is refused with its least fault; or it has none but unwritten reads, with 15 at the first of them. Want of memory says nothing of it.
abbrev pub Refuses : List ℕ → Failure → Type 0
Refuses t (At f) =
    Refused property_text t (text_number f.reason) f.place
    ⊎ ((f.reason ≡ reasons.UnwrittenRead) × ((P : Property) × Accepted property_text t P × FirstUnwritten P (Some f.place)))
Refuses t Memory = Unit {0}

-- What a fault of a text is, as a refusal.
use Rattle.kinds.specs.declared.refusal.Layer.TheVariants.{Text}
use Rattle.kinds.specs.declared.refusal.Reason.TheVariants.{Text as of_text}
use Rattle.kinds.specs.declared.refusal.Refusal.{Refusal}
use Rattle.property.specs.declared.reader.Flaw.{Flaw}

-- It is of layer text, at the fault's place.
abbrev pub refusal_of : Flaw → Refusal
refusal_of f = record { layer = Text; reason = of_text f.reason; place = f.place }

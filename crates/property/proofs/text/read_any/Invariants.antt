use Rattle.std.proofs.Common.{◌≡◌, ◌-◌, ◌≤◌, length}
use Rattle.forms.specs.Grammars.{form}
use Rattle.forms.specs.Steps.{Carries}
use Rattle.property.specs.Grammar.{any_text, text}
use Rattle.property.specs.Views.{view}
use Rattle.property.proofs.text.read_any.Given as goal

abbrev pub invariant-loop-draft : goal.invariant-loop-draft
invariant-loop-draft l =
    (l.reader.text ≡ l.initial.reader.text) × (l.reader.place ≤ length l.reader.text.now)
    × Carries any_text (form text (view l.reader.text.now l.draft) l.reader.place) l.reader.text.now l.reader.place

abbrev pub decreases-loop-draft : goal.decreases-loop-draft
decreases-loop-draft l = length l.reader.text.now - l.reader.place

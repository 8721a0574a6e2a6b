-- What numbered statements and the code's events stand for in the theory.
use Rattle.std.specs.Prelude.{◌≡◌, List, map}
use Rattle.std.specs.List.{AllZip}
use Rattle.topl.specs.Lists.{Class}
use Rattle.topl.specs.Table as T
use Rattle.topl.specs.Runs as R
use Rattle.tables.specs.Views.{over}
use Rattle.engine.specs.declared.numbered.Numbered.{Numbered}
use Rattle.engine.specs.declared.numbered.Outcome.{Outcome}
use Rattle.engine.specs.declared.window.Witnessed.{Witnessed}
use Rattle.engine.specs.declared.numbered.Outcome.TheVariants.{Passes, Fails, Hangs}

-- a numbered statement without its number
abbrev pub stated : Numbered → T.Statement
stated n = over n.source n.target n.events.now

-- an event of the code is this one of the theory
abbrev pub Shown : {V : Type 0} → (V → Class) → Witnessed V → T.Event → Type 0
Shown class x e = (x.id ≡ e.id) × (map class x.places ≡ T.places e)

-- events of the code are these of the theory
abbrev pub Seen : {V : Type 0} → (V → Class) → List (Witnessed V) → List T.Event → Type 0
Seen class xs es = AllZip (Shown class) xs es

-- the outcome, with the registers that it leaves
abbrev pub told : {V : Type 0} → (V → Class) → Outcome V → R.Outcome
told class (Passes xs) = R.passes (map class xs)
told class Fails = R.fails
told class Hangs = R.hangs

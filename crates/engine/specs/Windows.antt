-- The events that a window shows.
use Rattle.std.specs.Prelude.{List, take}
use Rattle.topl.specs.Lists.{Class}
use Rattle.topl.specs.Table as T
use Rattle.engine.specs.declared.window.Window.{Window}
use Rattle.engine.specs.Views.{Seen}

-- a window has these events
abbrev pub Remembers : {V : Type 0} → (V → Class) → Window V → List T.Event → Type 0
Remembers class W es = Seen class (take W.seen W.events) es

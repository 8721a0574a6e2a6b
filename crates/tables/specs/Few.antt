-- What a short list holds.
use Rattle.std.specs.Prelude.{ℕ, List, take}
use Rattle.tables.specs.declared.few.Few.{Few}

-- Its items: those on the first places, as many as are counted.
abbrev pub few_items : {T : Type 0} {N : ℕ} → Few T N → List T
few_items f = take f.count f.places

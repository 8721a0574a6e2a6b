-- The theorems on runs, the language and the deciding rule.
use Rattle.std.specs.Prelude.{◌≡◌, ℕ, suc, ◌+◌, ◌-◌, ◌<◌, ◌≤◌, true, cond, ◌||◌, ◌⊎◌, ◌↔◌, List, [], ◌∷◌, ◌++◌, map, length, get_or, None, slice_index_or}
use Rattle.std.proofs.Math.Option.{some}
use Rattle.topl.specs.Lists.{Class, nothing, ◌∈◌, each, Distinct, holds, apart}
use Rattle.topl.specs.Automata.{HighLanguage}
use Rattle.topl.specs.Table.{Event, at, calls, places, Label, label_matchers, statement_of, matchers, Table, error, Lawful, is_lawful}
use Rattle.topl.specs.Translation.{letter, automaton_of}
use Rattle.topl.specs.Runs.{Registers, Configuration, World, so_far, closing, Move, first_configuration, Reach, Reaches, ErrorAt, alikeᶜ, runs, reached}
use Rattle.topl.specs.Rows.{Stands, incoming, replay}
use Rattle.topl.specs.Ledger.{event_reason}
use Rattle.topl.specs.Deciding.{Ruling, breaks, spills, overfills, goes_on, sum, count, need, ruling_at, decides}

-- TABLES
-- The test of a lawful table says exactly that it is one.
abbrev pub Tested : Type 0
Tested = (P : Table) → (is_lawful P ≡ true) ↔ Lawful P

-- A statement's matchers are those of its labels in turn.
abbrev pub LabelsJoin : Type 0
LabelsJoin = (source target : ℕ) (l : Label) (ls : List Label) → matchers (statement_of source target l ls) ≡ each label_matchers (l ∷ ls)

-- VALUES
-- the event that the theory sees of an id and values of a kind
abbrev pub seen : {V : Type 0} → (V → Class) → ℕ → List V → Event
seen class id values = record { id = id; values = map class values }

-- the six places of these values, with the value called nothing where none was given
abbrev pub value_places : {V : Type 0} → V → ℕ → List V → List V
value_places none id values = map (λ i. get_or (cond (calls id) (none ∷ values) values) i none) (0 ∷ 1 ∷ 2 ∷ 3 ∷ 4 ∷ 5 ∷ [])

-- Of a kind: the class of a place is the place of the classes, and a place has the class nothing exactly if it holds nothing.
abbrev pub PlacesAgree : {V : Type 0} → (V → Class) → V → Type 0
PlacesAgree {V} class none =
    (id : ℕ) (values : List V) →
    (places (seen class id values) ≡ map class (value_places none id values)) × ((i : ℕ) → (at (map class values) i ≡ nothing) ↔ (slice_index_or values i none ≡ none))

-- RUNS AND THE LANGUAGE
-- A settled run of a list is a settled run and a run of every list that begins with it, and a run of the list itself, with the same steps.
abbrev pub Persists : Type 0
Persists =
    (P : Table) (k : Registers) (L X : List Event) (p : ℕ) (c : Configuration) (path : List ℕ) → Reach P k (so_far L) p c path →
    Reach P k (so_far (L ++ X)) p c path × Reach P k (closing L) p c path × Reach P k (closing (L ++ X)) p c path

-- A list is in the language of the property's automaton exactly if some run of the closed list reaches `error`.
abbrev pub Recognizes : Type 0
Recognizes = (P : Table) (k : Registers) (L : List Event) → Lawful P → HighLanguage (automaton_of P k) (map letter L) ↔ ((p : ℕ) × ErrorAt P k (closing L) p)

-- `runs` lists each run that leads to the position, and no other; `reached` lists each configuration that some run reaches there, once, and no other.
abbrev pub Enumerates : Type 0
Enumerates =
    (P : Table) (k : Registers) (w : World) (p : ℕ) →
    ((c : Configuration) (path : List ℕ) → ((c, path) ∈ runs P k w p) ↔ Reach P k w p c path) ×
    Distinct (reached P k w p) × ((c : Configuration) → (c ∈ reached P k w p) ↔ Reaches P k w p c)

-- A run is known by its steps: it can be replayed from them, and they lead nowhere else.
abbrev pub Replays : Type 0
Replays =
    (P : Table) (k : Registers) (w : World) (p : ℕ) (c : Configuration) (path : List ℕ) → Lawful P →
    Reach P k w p c path ↔ (replay P w path (0, first_configuration k) ≡ some (p, c))

-- Every step of a run is at most 65, so that it fits a byte.
abbrev pub FewSteps : Type 0
FewSteps = (P : Table) (k : Registers) (w : World) (p n : ℕ) (c : Configuration) (path : List ℕ) → Lawful P → Reach P k w p c path → n ∈ path → n ≤ 65

-- a watch over the property refuses none of these events: ids and counts of values are lawful, and calls of declared methods have their arity
abbrev pub AllTaken : Table → List Event → Type 0
AllTaken P X = (e : Event) → e ∈ X → event_reason P e ≡ None

-- the steps lead to `error` at p, in a run of this world
abbrev pub ErrsBy : Table → Registers → World → ℕ → List ℕ → Type 0
ErrsBy P k w p path = (c : Configuration) × (c.state ≡ error) × Reach P k w p c path

-- The settled runs of a list are exactly the runs that every list which begins with it has, whatever events come that a watch takes: nothing else can be
-- relied on while more may come.
abbrev pub Certain : Type 0
Certain =
    (P : Table) (k : Registers) (L : List Event) (p : ℕ) (path : List ℕ) → Lawful P →
    ErrsBy P k (so_far L) p path ↔ ((X : List Event) → AllTaken P X → ErrsBy P k (closing (L ++ X)) p path)

-- WHAT ONE MORE EVENT, OR THE END, ADDS
-- a move leads here from one of the last four of n events, or from their end
abbrev pub Gained : Table → Registers → ℕ → World → ℕ → Configuration → Type 0
Gained P k n w p c = (q : ℕ) × (d : Configuration) × (step : ℕ) × (n < q + 4) × Reaches P k w q d × Move P w q d step p c

-- What is reached at p once one more event has come, or the list has ended, is what was reached there before, and what a move leads to from one of
-- the last positions. So with n events before, only the positions from n - 2 on gain, and each from the positions n - 3 to p - 1 as they are now.
abbrev pub Gains : Type 0
Gains =
    (P : Table) (k : Registers) (L : List Event) (e : Event) → Lawful P → (p : ℕ) (c : Configuration) →
    (Reaches P k (so_far (L ++ (e ∷ []))) p c ↔ (Reaches P k (so_far L) p c ⊎ Gained P k (length L) (so_far (L ++ (e ∷ []))) p c)) ×
    (Reaches P k (closing L) p c ↔ (Reaches P k (so_far L) p c ⊎ Gained P k (length L) (closing L) p c))

-- The step of the watch from row to row: where the rows of the last positions stand now, what stood at p before and what comes from them stands now.
abbrev pub StepsTo : Table → Registers → List Event → World → Type 0
StepsTo P k L now =
    (row : ℕ → List Configuration) (p : ℕ) (old new : List Configuration) → Stands P k (so_far L) p old → ((q : ℕ) → length L < q + 4 → q < p → Stands P k now q (row q)) →
    ((c : Configuration) → holds alikeᶜ new c ≡ (holds alikeᶜ old c || holds alikeᶜ (incoming P now row p (length L - 3) (p - (length L - 3))) c)) → Stands P k now p new

-- It holds for a feed and for a close; and a row in which no configuration stands twice has as many as are reached.
abbrev pub Stepping : Type 0
Stepping =
    ((P : Table) (k : Registers) (L : List Event) (e : Event) → Lawful P → StepsTo P k L (so_far (L ++ (e ∷ []))) × StepsTo P k L (closing L)) ×
    ((P : Table) (k : Registers) (w : World) (p : ℕ) (row : List Configuration) → Stands P k w p row → apart alikeᶜ row ≡ true → length row ≡ count P k w p)

-- THE DECIDING RULE
-- What counts into the need at p: the configurations reached at positions 0 to p now, and those reached at later positions before.
abbrev pub Needed : Table → Registers → World → World → ℕ → ℕ × Configuration → Type 0
Needed P k before now p x = ((x.0 ≤ p) × Reaches P k now x.0 x.1) ⊎ ((p < x.0) × Reaches P k before x.0 x.1)

-- The need is their number: the length of a list of exactly these pairs of a position and a configuration, each once.
abbrev pub Needs : Type 0
Needs =
    (P : Table) (k : Registers) (before now : World) (p : ℕ) → length before.events ≤ length now.events → p ≤ length now.events →
    (xs : List (ℕ × Configuration)) × Distinct xs × ((x : ℕ × Configuration) → (x ∈ xs) ↔ Needed P k before now p x) × (need P k before now p ≡ length xs)

module _ (P : Table) (k : Registers) (cap book : ℕ) (before now : World) where
  -- nothing is to be decided at p
  abbrev pub Undecided : ℕ → Type 0
  Undecided p = (¬ ErrorAt P k now p) × (count P k now p ≤ cap) × (need P k before now p ≤ book)

  -- p is a position, and nothing is to be decided before it
  abbrev pub Lowest : ℕ → Type 0
  Lowest p = (p ≤ length now.events) × ((q : ℕ) → q < p → Undecided q)

  -- The rule in words, for each of its four results.
  pub record Rules : Type 0 where
    pub when_broken : (p : ℕ) → (decides P k cap book before now ≡ breaks p) ↔ (Lowest p × ErrorAt P k now p)
    pub when_spilled : (decides P k cap book before now ≡ spills) ↔ ((p : ℕ) × Lowest p × (¬ ErrorAt P k now p) × (cap < count P k now p))
    pub when_full : (decides P k cap book before now ≡ overfills) ↔ ((p : ℕ) × Lowest p × (¬ ErrorAt P k now p) × (count P k now p ≤ cap) × (book < need P k before now p))
    pub when_not : (decides P k cap book before now ≡ goes_on) ↔ ((p : ℕ) → p ≤ length now.events → Undecided p)

  -- The same position by position, as a loop finds it: where nothing is ruled below p, what is ruled at p decides; where nothing is ruled at all, nothing
  -- decides.
  pub record Finds : Type 0 where
    pub found : (p : ℕ) (r : Ruling) → p ≤ length now.events → ((q : ℕ) → q < p → ruling_at P k cap book before now q ≡ goes_on) → ¬ (r ≡ goes_on) → ruling_at P k cap book before now p ≡ r →
        decides P k cap book before now ≡ r
    pub never : ((q : ℕ) → q ≤ length now.events → ruling_at P k cap book before now q ≡ goes_on) → decides P k cap book before now ≡ goes_on

-- The executable rule says exactly the rule in words.
abbrev pub RuleInWords : Type 0
RuleInWords = (P : Table) (k : Registers) (cap book : ℕ) (before now : World) → Rules P k cap book before now

-- The first position that rules decides.
abbrev pub Finding : Type 0
Finding = (P : Table) (k : Registers) (cap book : ℕ) (before now : World) → Finds P k cap book before now

-- A larger cap and a larger book change no ruling but spilled and full.
abbrev pub LargerRulesAlike : Type 0
LargerRulesAlike =
    (P : Table) (k : Registers) (cap cap' book book' : ℕ) (before now : World) → cap ≤ cap' → book ≤ book' → ¬ (decides P k cap book before now ≡ spills) → ¬ (decides P k cap book before now ≡ overfills) →
    decides P k cap' book' before now ≡ decides P k cap book before now

-- A steady list, while the watch runs: no settled run reaches `error`, no position has more than cap configurations, and the book holds them all.
abbrev pub Steady : Table → Registers → ℕ → ℕ → List Event → Type 0
Steady P k cap book L =
    ((p : ℕ) → ¬ ErrorAt P k (so_far L) p) × ((p : ℕ) → count P k (so_far L) p ≤ cap) × (sum (suc (length L)) (count P k (so_far L)) ≤ book)

-- From there a feed or a close has to look only at the positions from judged - 2 on. The need there follows from what each position gains.
module _ (P : Table) (k : Registers) (cap book : ℕ) (L : List Event) (now : World) where
  -- what a feed or a close finds, position by position
  pub record Resumes : Type 0 where
    pub kept : (p : ℕ) → p + 3 ≤ length L → count P k now p ≡ count P k (so_far L) p
    pub passed : (p : ℕ) → p + 3 ≤ length L → Undecided P k cap book (so_far L) now p
    pub low : (p : ℕ) → p + 3 ≤ length L → need P k (so_far L) now p ≡ sum (suc (length L)) (count P k (so_far L))
    pub origin : (need P k (so_far L) now 0 ≡ sum (suc (length L)) (count P k (so_far L))) × (count P k now 0 ≡ count P k (so_far L) 0)
    pub further : (p : ℕ) → p < length now.events → need P k (so_far L) now (suc p) + count P k (so_far L) (suc p) ≡ need P k (so_far L) now p + count P k now (suc p)
    pub last : need P k (so_far L) now (length now.events) ≡ sum (suc (length now.events)) (count P k now)

-- It holds for a feed and for a close, and a feed that goes on leaves a steady list.
abbrev pub Watching : Type 0
Watching =
    (P : Table) (k : Registers) (cap book : ℕ) (L : List Event) (e : Event) → Lawful P → Steady P k cap book L →
    Resumes P k cap book L (so_far (L ++ (e ∷ []))) × Resumes P k cap book L (closing L) ×
    (decides P k cap book (so_far L) (so_far (L ++ (e ∷ []))) ≡ goes_on → Steady P k cap book (L ++ (e ∷ [])))

-- While the watch runs fewer events are judged than the book has entries, since each position has its configuration in `start`.
abbrev pub Bounded : Type 0
Bounded = (P : Table) (k : Registers) (cap book : ℕ) (L : List Event) → Steady P k cap book L → length L < book

-- What the rulings mean for the language. A feed that breaks: the list, and every list that begins with it, is in the language. A close that breaks: the
-- list is. A close that does not decide: it is not.
abbrev pub Verdicts : Type 0
Verdicts =
    (P : Table) (k : Registers) (cap book : ℕ) (before : World) (L : List Event) → Lawful P →
    ((p : ℕ) → decides P k cap book before (so_far L) ≡ breaks p → (X : List Event) → HighLanguage (automaton_of P k) (map letter (L ++ X))) ×
    ((p : ℕ) → decides P k cap book before (closing L) ≡ breaks p → HighLanguage (automaton_of P k) (map letter L)) ×
    (decides P k cap book before (closing L) ≡ goes_on → ¬ HighLanguage (automaton_of P k) (map letter L))

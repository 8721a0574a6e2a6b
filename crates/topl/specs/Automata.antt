-- TOPL automata and high-level TOPL automata, with their languages.
use Rattle.std.specs.Prelude.{◌≡◌, ℕ, suc, List, [], ◌∷◌, ◌++◌, length, slice_index_or, slice_set}
use Rattle.topl.specs.Lists.{Class, nothing, ◌∈◌}

-- A value is an event id or the class of a value that the hub files.
pub data Value : Type 0 where
  ident : ℕ → Value
  given : Class → Value

-- Letters and stores are tuples of values; their components are counted from 0.
abbrev pub Tuple : Type 0
Tuple = List Value

-- the component i of a tuple
infix 80 ◌!◌
abbrev pub ◌!◌ : Tuple → ℕ → Value
s ! i = slice_index_or s i (given nothing)

-- Guards: register i equals or differs from component j of the letter, true, and conjunction.
pub data Guard : Type 0 where
  eq neq : ℕ → ℕ → Guard
  always : Guard
  both : Guard → Guard → Guard

-- Actions: none, register i := component j of the letter, and composition.
pub data Action : Type 0 where
  nop : Action
  assign : ℕ → ℕ → Action
  after : Action → Action → Action

-- the store s and the letter ℓ satisfy the guard
abbrev pub Sat : Tuple → Tuple → Guard → Type 0
Sat s ℓ (eq i j) = s ! i ≡ ℓ ! j
Sat s ℓ (neq i j) = ¬ (s ! i ≡ ℓ ! j)
Sat s ℓ always = Unit {0}
Sat s ℓ (both g h) = Sat s ℓ g × Sat s ℓ h

-- what an action makes of a store, under a letter; `after a b` is a after b
abbrev pub act : Action → Tuple → Tuple → Tuple
act nop ℓ s = s
act (assign i j) ℓ s = slice_set s i (ℓ ! j)
act (after a b) ℓ s = act a ℓ (act b ℓ s)

-- what labels a transition of a TOPL automaton: a guard and an action
abbrev pub Guarded : Type 0
Guarded = Guard × Action

-- An automaton whose transitions are labelled from L. `Automaton Guarded` is a TOPL automaton, `Automaton (List Guarded)` a high-level one.
pub record Automaton (L : Type 0) : Type 0 where
  pub initial : ℕ
  pub store : Tuple
  pub δ : List (ℕ × L × ℕ)
  pub final : List ℕ

-- a configuration of an automaton: a state and a store
abbrev pub Conf : Type 0
Conf = ℕ × Tuple

-- the initial configuration
abbrev pub initial_conf : {L : Type 0} → Automaton L → Conf
initial_conf A = (A.initial, A.store)

-- The configuration graph of a TOPL automaton: from x under the letter ℓ to y, by some transition.
abbrev pub Step : Automaton Guarded → Conf → Tuple → Conf → Type 0
Step A x ℓ y = (t : ℕ × Guarded × ℕ) × (t ∈ A.δ) × (t.0 ≡ x.0) × (t.2 ≡ y.0) × Sat x.1 ℓ t.1.0 × (act t.1.1 ℓ x.1 ≡ y.1)

-- a walk in that graph, with the word that labels it
pub data Walk (A : Automaton Guarded) : Conf → List Tuple → Conf → Type 0 where
  stay : {x : Conf} → Walk A x [] x
  go : {x y z : Conf} {ℓ : Tuple} {w : List Tuple} → Step A x ℓ y → Walk A y w z → Walk A x (ℓ ∷ w) z

-- the automaton accepts w with the store s
abbrev pub Accepts : Automaton Guarded → List Tuple → Tuple → Type 0
Accepts A w s = (q : ℕ) × (q ∈ A.final) × Walk A (initial_conf A) w (q, s)

-- the language of a TOPL automaton
abbrev pub Language : Automaton Guarded → List Tuple → Type 0
Language A w = (s : Tuple) × Accepts A w s

-- a transition from i to i + 1, from there to i + 2, and so on, one for each label
abbrev pub links : ℕ → List Guarded → List (ℕ × Guarded × ℕ)
links i [] = []
links i (l ∷ ls) = (i, l, suc i) ∷ links (suc i) ls

-- The straight automaton of a store and d labels: states 0 to d, of which 0 is initial and d final, and a transition from each to the next.
abbrev pub straight : Tuple → List Guarded → Automaton Guarded
straight s ls = record { initial = 0; store = s; δ = links 0 ls; final = length ls ∷ [] }

-- a configuration of a high-level automaton: a configuration and the word that is yet to be processed
abbrev pub HighConf : Type 0
HighConf = Conf × List Tuple

-- A standard transition: the straight automaton of the store and of some transition's labels accepts a front of the word, with the new store.
abbrev pub StandardTransition : Automaton (List Guarded) → HighConf → List Tuple → HighConf → Type 0
StandardTransition A y w z =
    (t : ℕ × List Guarded × ℕ) × (t ∈ A.δ) × (t.0 ≡ y.0.0) × (t.2 ≡ z.0.0) × (y.1 ≡ w ++ z.1) × Accepts (straight y.0.1 t.1) w z.0.1

-- A skip transition passes over one letter, exactly where no standard transition starts.
abbrev pub SkipTransition : Automaton (List Guarded) → HighConf → List Tuple → HighConf → Type 0
SkipTransition A y w z =
    (ℓ : Tuple) × (y.1 ≡ ℓ ∷ z.1) × (w ≡ ℓ ∷ []) × (z.0 ≡ y.0) × ((w' : List Tuple) (z' : HighConf) → ¬ StandardTransition A y w' z')

-- a path of standard and skip transitions, with the word that labels it
pub data HighPath (A : Automaton (List Guarded)) : HighConf → List Tuple → HighConf → Type 0 where
  no_step : {y : HighConf} → HighPath A y [] y
  by_standard : {y z u : HighConf} {w v : List Tuple} → StandardTransition A y w z → HighPath A z v u → HighPath A y (w ++ v) u
  by_skip : {y z u : HighConf} {w v : List Tuple} → SkipTransition A y w z → HighPath A z v u → HighPath A y (w ++ v) u

-- The language of a high-level automaton: the words that label paths from an initial configuration to a final one with the word used up.
abbrev pub HighLanguage : Automaton (List Guarded) → List Tuple → Type 0
HighLanguage A v = (w : List Tuple) × (q : ℕ) × (s : Tuple) × (q ∈ A.final) × HighPath A (initial_conf A, w) v ((q, s), [])

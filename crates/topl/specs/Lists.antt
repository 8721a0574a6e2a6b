-- Classes of values, and the few words on lists that the other files use.
use Rattle.std.specs.Prelude.{ℕ, Bool, true, false, cond, not, ◌&&◌, List, [], ◌∷◌, ◌++◌, nat_eq}
use mathlib.Core.List.{Memᴰ}

-- The class of a value: the kind's own. A number n has the class n ∷ [], a label its bytes in small letters, and only nothing has [].
abbrev pub Class : Type 0
Class = List ℕ

-- the class of the value called nothing
abbrev pub nothing : Class
nothing = []

-- are two lists equal, by a test of their elements
abbrev pub alike : {X : Type 0} → (X → X → Bool) → List X → List X → Bool
alike test [] [] = true
alike test [] (y ∷ ys) = false
alike test (x ∷ xs) [] = false
alike test (x ∷ xs) (y ∷ ys) = test x y && alike test xs ys

-- are two classes equal
abbrev pub same_class : Class → Class → Bool
same_class = alike nat_eq

-- x stands in xs
infix 40 ◌∈◌
abbrev pub ◌∈◌ : {X : Type 0} → X → List X → Type 0
x ∈ xs = Memᴰ x xs

-- f of every element, joined
abbrev pub each : {X Y : Type 0} → (X → List Y) → List X → List Y
each f [] = []
each f (x ∷ xs) = f x ++ each f xs

-- does a list hold an element, by a test of its elements
abbrev pub holds : {X : Type 0} → (X → X → Bool) → List X → X → Bool
holds test [] x = false
holds test (y ∷ ys) x = cond (test x y) true (holds test ys x)

-- the list with each element once
abbrev pub once : {X : Type 0} → (X → X → Bool) → List X → List X
once test [] = []
once test (x ∷ xs) = cond (holds test xs x) (once test xs) (x ∷ once test xs)

-- no element stands twice
abbrev pub Distinct : {X : Type 0} → List X → Type 0
Distinct [] = Unit {0}
Distinct (x ∷ xs) = (¬ (x ∈ xs)) × Distinct xs

-- the same by a test of the elements
abbrev pub apart : {X : Type 0} → (X → X → Bool) → List X → Bool
apart test [] = true
apart test (x ∷ xs) = not (holds test xs x) && apart test xs

-- does every element pass a test
abbrev pub every : {X : Type 0} → (X → Bool) → List X → Bool
every test [] = true
every test (x ∷ xs) = test x && every test xs

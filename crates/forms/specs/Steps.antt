-- How reading goes on: after the bytes g, with r to come, what is left of the form F is the form K.
use Rattle.std.specs.Prelude.{◌≡◌, ℕ, ◌+◌, List, [], ◌∷◌, ◌++◌, length, drop}
use Rattle.forms.specs.Forms.{Form, Refused, Accepted}

-- u ends where r ends, or begins with the byte that r begins with.
abbrev pub SameHead : List ℕ → List ℕ → Type 0
SameHead [] u = u ≡ []
SameHead (b ∷ r) u = (u' : List ℕ) × (u ≡ b ∷ u')

-- With r to come, F takes after g exactly what K takes, and has there exactly the faults of K; and some text goes on.
pub record Step {V : Type 0} (F K : Form V) (g r : List ℕ) : Type 0 where
  pub ahead : (v : V) (u : List ℕ) → SameHead r u → K.takes v u → F.takes v (g ++ u)
  pub back : (v : V) (u : List ℕ) → SameHead r u → F.takes v (g ++ u) → K.takes v u
  pub down : (n k : ℕ) → K.faults n k r → F.faults n (length g + k) (g ++ r)
  pub up : (n k : ℕ) → F.faults n k (g ++ r) → (j : ℕ) × (k ≡ length g + j) × K.faults n j r
  pub live : (v : V) × (u : List ℕ) × F.takes v (g ++ u) × K.takes v u

-- What refuses or accepts the rest of t from place p on, by K, refuses or accepts the whole of it, by F.
pub record Carries {V : Type 0} (F K : Form V) (t : List ℕ) (p : ℕ) : Type 0 where
  pub refused : (n k : ℕ) → Refused K (drop p t) n k → Refused F t n (p + k)
  pub accepted : (v : V) → Accepted K (drop p t) v → Accepted F t v

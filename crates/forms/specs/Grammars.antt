-- Grammars: which piece may stand at each position of a text, which faults it has there, and which position comes after it.
use Rattle.std.specs.Prelude.{◌≡◌, ℕ, ◌+◌, Bool, true, false, List, ◌++◌, length, Some, None, Option}
use Rattle.forms.specs.Bytes.{space, digit, wordy, Every, Stops, Word, Decimal}
use Rattle.forms.specs.Forms.{Form}
use Rattle.forms.specs.Pieces.{Piece, word, number, head_of, Next}

pub record Grammar (P V : Type 0) : Type 1 where
  -- At these positions no spaces are free, and the next byte is the piece.
  pub tight : P → Bool
  -- The position after a piece that may stand at p and begins at a place of the text.
  pub after : P → Piece → ℕ → Option P
  -- The fault n of a piece at p, with the bytes r after it.
  pub bad : P → Piece → List ℕ → ℕ → Type 0
  -- What is written where the text ends at p, with spaces left.
  pub ends : P → List ℕ → Option V
  -- The fault n of a text that ends at p.
  pub lacks : P → ℕ → Type 0

module _ {P V : Type 0} (G : Grammar P V) where
  -- From position p, at place a, the bytes s go on to the end of a text and write v.
  pub data Takes : P → ℕ → V → List ℕ → Type 0 where
    stop : (p : P) (a : ℕ) (v : V) (s : List ℕ) → Every space s → G.ends p s ≡ Some v → Takes p a v s
    go : (p q : P) (a : ℕ) (v : V) (x : Piece) (s sp b r : List ℕ) → Next (G.tight p) x s sp b r → G.after p x (a + length sp) ≡ Some q
        → Takes q (a + length (sp ++ b)) v r → Takes p a v s

  -- From position p, at place a, the bytes s have the fault n at their place k, after pieces that may stand where they stand.
  pub data Faults : P → ℕ → ℕ → ℕ → List ℕ → Type 0 where
    here : (p q : P) (a n : ℕ) (x : Piece) (s sp b r : List ℕ) → Next (G.tight p) x s sp b r → G.after p x (a + length sp) ≡ Some q
        → G.bad p x r n → Faults p a n (length sp) s
    later : (p q : P) (a n k : ℕ) (x : Piece) (s sp b r : List ℕ) → Next (G.tight p) x s sp b r → G.after p x (a + length sp) ≡ Some q
        → Faults q (a + length (sp ++ b)) n k r → Faults p a n (length (sp ++ b) + k) s
    short : (p : P) (a n : ℕ) (v : V) (s : List ℕ) → Every space s → G.ends p s ≡ Some v → G.lacks p n → Faults p a n (length s) s

  -- The form of what may come from position p on, at place a.
  abbrev pub form : P → ℕ → Form V
  form p a = record { takes = Takes p a; faults = Faults p a }

  -- No piece that begins with the byte b may stand at p.
  abbrev pub Closed : P → ℕ → Type 0
  Closed p b = (x : Piece) (k : ℕ) → head_of x ≡ b → G.after p x k ≡ None

  -- From p some text goes on, by a piece; where spaces are free it does not begin as a word goes on.
  pub record Lives (p : P) (a : ℕ) : Type 0 where
    pub piece : Piece
    pub on : P
    pub value : V
    pub gap : List ℕ
    pub body : List ℕ
    pub rest : List ℕ
    pub stands : Next (G.tight p) piece (gap ++ (body ++ rest)) gap body rest
    pub goes : G.after p piece (a + length gap) ≡ Some on
    pub more : Takes on (a + length (gap ++ body)) value rest
    pub free : G.tight p ≡ false → Stops wordy (gap ++ (body ++ rest))

  -- What every grammar has to show: from each position some text goes on, no text ends in a tight place, and none follows a word or a number.
  pub record Lawful : Type 0 where
    pub lives : (p : P) (a : ℕ) → Lives p a
    pub whole : (p : P) (s : List ℕ) → G.tight p ≡ true → G.ends p s ≡ None
    pub word_loose : (p q : P) (w : List ℕ) (k : ℕ) → G.tight p ≡ false → Word w → G.after p (word w) k ≡ Some q → G.tight q ≡ false
    pub number_loose : (p q : P) (d : List ℕ) (k : ℕ) → G.tight p ≡ false → Every digit d → Decimal d → G.after p (number d) k ≡ Some q
        → G.tight q ≡ false

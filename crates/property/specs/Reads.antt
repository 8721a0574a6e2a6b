-- What a reader of a property text finds at a place.
use Rattle.std.specs.Prelude.{◌≡◌, ℕ, ◌-◌, ◌<◌, ◌≤◌, Bool, true, false, List, [], length, drop, Some, None, Option, slice_index}
use Rattle.forms.specs.Bytes.{space, Every}
use Rattle.forms.specs.Forms.{Refused}
use Rattle.forms.specs.Grammars.{form}
use Rattle.forms.specs.Pieces.{Piece, head_of, Next}
use Rattle.forms.specs.Steps.{Step}
use Rattle.property.specs.Grammar.{text, bytes, tight_at, ends_at}
use Rattle.property.specs.States.{State, moved}
use Rattle.property.specs.Views.{slice, spelled}
use Rattle.property.specs.declared.reader.Found.{Found}

-- From place a of t up to place f stand the spaces before the next piece: none in a tight place.
pub record Gapped (tight : Bool) (t : List ℕ) (a f : ℕ) : Type 0 where
  pub low : a ≤ f
  pub high : f ≤ length t
  pub spaces : Every space (slice t a f)
  pub none : tight ≡ true → slice t a f ≡ []
  pub plain : tight ≡ false → f < length t → space (slice_index t f) ≡ false

-- From place f of t up to place q stands a piece.
pub record Lexed (tight : Bool) (t : List ℕ) (f q : ℕ) : Type 0 where
  pub piece : Piece
  pub low : f < q
  pub high : q ≤ length t
  pub stands : Next tight piece (drop f t) [] (slice t f q) (drop q t)
  pub spells : bytes piece ≡ slice t f q
  pub begins : head_of piece ≡ slice_index t f

-- Read from place a of t, the position p is refused with n at place x of t.
pub record Halts (p : State) (t : List ℕ) (a n x : ℕ) : Type 0 where
  pub low : a ≤ x
  pub refused : Refused (form text p a) (drop a t) n (x - a)

-- At place a of t the text may end at the position p.
pub record Finished (p : State) (t : List ℕ) (a : ℕ) : Type 0 where
  pub spaces : Every space (drop a t)
  pub none : tight_at p.cursor.spot ≡ true → drop a t ≡ []
  pub ends : ends_at p.cursor.spot (drop a t) ≡ true

-- At place a of t a piece stands that may stand at the position p, with no fault.
pub record Read (p : State) (t : List ℕ) (a : ℕ) (x : Found) : Type 0 where
  pub low : a < x.name.to
  pub high : x.name.to ≤ length t
  pub step : Step (form text p a) (form text (moved p (spelled t x.name) x.byte x.name.from) x.name.to) (slice t a x.name.to) (drop x.name.to t)

-- What comes next: a piece, or the end.
abbrev pub ComesNext : State → List ℕ → ℕ → Option Found → Type 0
ComesNext p t a None = Finished p t a
ComesNext p t a (Some x) = Read p t a x

-- The registers of a draft, and the keys that they stand for.
use Rattle.std.proofs.Common.{◌≡◌, ℕ, ◌<◌, false, List, map, length, get_or, Some, None, Option, sym, subst, refl, ap, ◌∙◌}
use Rattle.std.proofs.lemmas.List.{get_or-map, length-map}
use Rattle.limits.specs.Limits as L
use Rattle.paths.specs.Outcomes.{FirstUnwritten}
use Rattle.paths.specs.Reads.{Variable, FirstOf}
use Rattle.property.specs.States.{Key}
use Rattle.property.specs.Views.{is_constant, key_of, sofar}
use Rattle.property.specs.declared.draft.Draft.{Draft}
use Rattle.property.specs.declared.table.Register.{Register}
use Rattle.property.specs.declared.table.Register.TheVariants as registers

-- A register is a constant's exactly if its key is.
constant : (t : List ℕ) (g : Register) → (key_of t g).constant ≡ is_constant g
constant t (registers.Constant n) = refl
constant t (registers.Variable n) = refl

nowhere : Register
nowhere = registers.Variable (record { from = 0; to = 0 })

-- A register among some holds a variable exactly if its key does among theirs.
to_key : (t : List ℕ) (gs : List Register) (x : ℕ) → Variable gs x → L.Variable (map (key_of t) gs) x
to_key t gs x (l, v) = (
  subst (λ (n : ℕ). x < n) (sym (length-map gs (key_of t))) l,
  λ d. ap (λ (k : Key). k.constant) (get_or-map (key_of t) gs x nowhere d l) ∙ (constant t (get_or gs x nowhere) ∙ v nowhere),
)

of_key : (t : List ℕ) (gs : List Register) (x : ℕ) → L.Variable (map (key_of t) gs) x → Variable gs x
of_key t gs x (l, v) =
    let k : x < length gs = subst (λ (n : ℕ). x < n) (length-map gs (key_of t)) l in
    (k, λ d. sym (constant t (get_or gs x d)) ∙ (sym (ap (λ (k : Key). k.constant) (get_or-map (key_of t) gs x d (key_of t d) k)) ∙ v (key_of t d)))

-- What is first by the registers of a draft is first in the property that it holds.
pub first : (t : List ℕ) (d : Draft) (o : Option ℕ) → FirstOf d.statements.items d.registers.items o → FirstUnwritten (sofar t d) o
first t d None none = λ x n v. none x n (of_key t d.registers.items x v)
first t d (Some n) ((x, v, r), least) = ((x, to_key t d.registers.items x v, r), λ y m w. least y m (of_key t d.registers.items y w))

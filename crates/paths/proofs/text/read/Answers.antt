use Rattle.std.proofs.Common.{◌≡◌, ℕ, List, Some, None, Option, refl, sym, subst, inr}
use Rattle.paths.specs.Outcomes.{Refuses}
use Rattle.paths.specs.Reads.{FirstOf}
use Rattle.paths.proofs.Keys.{first}
use Rattle.property.specs.declared.table.Register.{Register}
use Rattle.property.specs.declared.table.Statement.{Statement}
use Rattle.paths.proofs.text.read.Goals as goal

both : (ss ts : List Statement) (gs hs : List Register) (o : Option ℕ) → ss ≡ ts → gs ≡ hs → FirstOf ss gs o → FirstOf ts hs o
both ss ts gs hs o e f x = subst (λ (ys : List Statement). FirstOf ys hs o) e (subst (λ (ys : List Register). FirstOf ss ys o) f x)

pub returns-in-Some : goal.returns-in-Some
returns-in-Some c = (
  subst (Refuses c.args.text.now) (sym c.into.ensures)
      (inr (refl, (_, c.in_ok-read.ensures, first c.args.text.now c.read.new.draft (Some c.in-Some.place) (both _ _ _ _ (Some c.in-Some.place) c.deref.ensures.value c.deref-2.ensures.value c.in-Some.ensures)))),
  refl,
)

pub returns : goal.returns
returns c = (c.in_ok-read.ensures, first c.args.text.now c.read.new.draft None (both _ _ _ _ None c.deref.ensures.value c.deref-2.ensures.value c.in_default.ensures))

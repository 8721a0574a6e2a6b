use Rattle.std.proofs.Common.{◌≡◌, ℕ, ◌<◌, Bool, List, MatchOption, Option, Bor, true, false, ◌&&◌, not, get_or, length, sym, subst, refl, rules, tests}
use Rattle.std.proofs.lemmas.Iterator.{first_from_find, YieldsList-from_slice}
use Rattle.std.proofs.lemmas.Bool.{false≢true}
use Rattle.std.specs.List.{AllWithin, HoldsAt}
use Rattle.property.specs.declared.table.Statement.{Statement}
use Rattle.paths.specs.Paths.{Unwritten, along, statement_writes, state}
use Rattle.paths.specs.Search.{found, leads}
use Rattle.paths.proofs.Reached.beyond.Goals as goal

parts : (a b d : Bool) → not a && (b && not d) ≡ true → (a ≡ false) × (b ≡ true) × (d ≡ false)
parts false true false e = (refl, refl, refl)
parts false true true e = absurd (false≢true e)
parts false false d e = absurd (false≢true e)
parts true b d e = absurd (false≢true e)

-- What a search tells: no statement passes the test, or the one that is found does and is among them.
abbrev Found : (Statement → Bool) → List Statement → Option (Bor Statement) → Type 0
Found f ss o =
    MatchOption o (AllWithin (λ s. f s ≡ false) ss 0 (length ss))
    (λ s. (f s.now ≡ true) × (k : ℕ) × (k < length ss) × HoldsAt (λ y. y ≡ s.now) ss k × AllWithin (λ y. f y ≡ false) ss 0 k)

pub returns : goal.returns
returns c =
    let r = c.args.self.now in
    let ss = r.statements.now in
    let x = r.register in
    let s = c.in_ok-found.found.now in
    let there : Found (leads r) ss c.find.result =
    first_from_find _ _ c.find.result (λ s. leads r s ≡ true) (λ s. leads r s ≡ false) c.find.ensures.ran (YieldsList-from_slice ss cc) (λ x q k. search (rules, tests)) (λ x q k. search (rules, tests)) in
    let y = subst (Found (leads r) ss) (c.in_ok-found.was {u = tt}) there in
    let p = parts (statement_writes x s) (found r s.source) (found r s.target) y.0 in (
      p.2,
      λ sound. subst (λ (u : Statement). Unwritten ss x (state u.target)) (y.3 s)
          (along y.1 s y.2 (subst (λ (u : Statement). statement_writes x u ≡ false) (sym (y.3 s)) p.0)
          (sound (state (get_or ss y.1 s).source) (subst (λ (u : Statement). found r u.source ≡ true) (sym (y.3 s)) p.1))),
    )

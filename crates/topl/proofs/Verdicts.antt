-- What the rulings mean for the language, and with a larger cap and book.
use Rattle.std.proofs.Common.{◌≡◌, ℕ, ◌≤◌, ◌++◌, sym, refl, ◌∙◌, arith}
use Rattle.topl.specs.Table.{Table}
use Rattle.topl.specs.Runs.{Registers, World, closing, so_far}
use Rattle.topl.specs.Deciding.{Ruling, breaks, count, decides, goes_on, need, overfills, spills}
use Rattle.topl.specs.Theorems.{LargerRulesAlike, Undecided, Verdicts}
use Rattle.topl.proofs.Persist.{persists, reach_bound}
use Rattle.topl.proofs.Language.{recognizes}
use Rattle.topl.proofs.Deciding.{deciding}

pub verdicts : Verdicts
verdicts P k cap book before L law = (
  λ p e X. let f = (((deciding P k cap book before (so_far L)).when_broken p).0 e).1 in
      (recognizes P k (L ++ X) law).1 (p, (f.0, f.1, (f.2.0, (persists P k L X p f.0 f.2.0 f.2.1).2))),
  λ p e. let f = (((deciding P k cap book before (closing L)).when_broken p).0 e).1 in (recognizes P k L law).1 (p, f),
  λ e h. let r = (recognizes P k L law).0 h in ((deciding P k cap book before (closing L)).when_not.0 e r.0 (reach_bound r.1.2.1)).0 r.1,
)

-- what is undecided stays so
wider : (P : Table) (k : Registers) (cap cap' book book' : ℕ) (before now : World) (p : ℕ) → cap ≤ cap' → book ≤ book' → Undecided P k cap book before now p → Undecided P k cap' book' before now p
wider P k cap cap' book book' before now p l m u =
    let a : count P k now p ≤ cap = u.1 in
    let b : need P k before now p ≤ book = u.2 in
    (u.0, omega arith, omega arith)

pub larger_rules_alike : LargerRulesAlike
larger_rules_alike P k cap cap' book book' before now l m s f = go (decides P k cap book before now) refl
  where
    go : (x : Ruling) → decides P k cap book before now ≡ x → decides P k cap' book' before now ≡ decides P k cap book before now
    go (breaks p) e =
        let r = ((deciding P k cap book before now).when_broken p).0 e in
        ((deciding P k cap' book' before now).when_broken p).1 ((r.0.0, λ q i. wider P k cap cap' book book' before now q l m (r.0.1 q i)), r.1) ∙ sym e
    go spills e = absurd (s e)
    go overfills e = absurd (f e)
    go goes_on e =
        let r = (deciding P k cap book before now).when_not.0 e in
        (deciding P k cap' book' before now).when_not.1 (λ p i. wider P k cap cap' book book' before now p l m (r p i)) ∙ sym e

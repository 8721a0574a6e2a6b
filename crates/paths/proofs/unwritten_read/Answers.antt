use Rattle.std.proofs.Common.{◌≡◌, ℕ, None, List, refl, sym, subst, arith, rules, tests}
use Rattle.std.proofs.lemmas.Iterator.{YieldsList-from_slice}
use Rattle.std.proofs.lemmas.Iterator.Consumers.{YieldsList-from_enumerate}
use Rattle.std.specs.Iterator.Adapters.{filter_map_source, filter_map_callee}
use Rattle.std.specs.List.{enumerate_from}
use Rattle.paths.specs.Reads.{FirstOf}
use Rattle.paths.proofs.Chains.{Gives, least_given}
use Rattle.paths.proofs.Registers.{Here, over, first_none, all_below}
use Rattle.paths.proofs.unwritten_read.Goals as goal

pub returns : goal.returns
returns c =
    let ss = c.args.statements.now in
    let gs = c.args.registers.now in
    let m : (zs : List ℕ) × Gives (Here ss gs) (enumerate_from 0 gs) zs × (c.min.result ≡ _) =
    least_given filter_map_source filter_map_callee _ (Here ss gs) c.filter_map.result c.min.result c.min.ensures.ran
    (YieldsList-from_enumerate (YieldsList-from_slice gs cc) cc) c.filter_map.ensures.closure (λ x o q k. search (rules, tests)) in
    subst (FirstOf ss gs) (sym m.2) (all_below ss gs _ (over ss gs 0 gs m.0 None (omega arith) refl m.1 (first_none ss gs 0)))

use Rattle.std.proofs.Common.{◌≡◌, ℕ, suc, ◌+◌, ◌-◌, ◌%◌, [], ◌∷◌, ◌++◌, length, drop, vec_items, sym, refl, ap, ◌∙◌, subst, arith, length-append}
use Rattle.topl.specs.Runs.{so_far}
use Rattle.topl.specs.Theorems.{seen}
use Rattle.topl.proofs.Bounded.{bounded}
use Rattle.engine.specs.Trails.{room_of}
use Rattle.tables.specs.Meant.{meant}
use Rattle.engine.specs.Fronts.{Cleared}
use Rattle.engine.specs.Grids.{grid_of}
use Rattle.engine.specs.Judging.{Start, Decided}
use Rattle.engine.specs.Windows.{Remembers}
use Rattle.engine.proofs.Properties.{lawful}
use Rattle.engine.proofs.Fronts.{cleared_room}
use Rattle.engine.proofs.Starts.{cleared, start_feed}
use Rattle.engine.proofs.Following.{remembers_more, seen_count, follows_on}
use Rattle.engine.specs.Fills.{Since}
use Rattle.engine.proofs.Since.{same_longer, since_first}
use Rattle.engine.proofs.rows.Rows.take_event.Goals as goal

pub returns-clause-rules : goal.returns-clause-rules
returns-clause-rules g c k L S j F =
    let class = g.K.Kind.class in
    let table = c.args.table.now in
    let P = meant table in
    let N = lawful table in
    let s = c.args.self.now.state in
    let t = c.settle.new.s in
    let X = c.settle.ensures in
    let cap = s.grid.cap in
    let G = c.clear.new.self in
    let n = length L in
    let few = bounded P k cap (room_of (vec_items s.grid.book.entries)) L S in
    let ev = seen class c.args.id c.args.values.now in
    let W = c.witness.new.window in
    let judged : c.min-judged.result ≡ n = omega arith in
    let at = c.of.ensures in
    let slot : c.of.result.at ≡ suc n % 5 = omega arith in
    let C = subst (λ (z : ℕ). Cleared s.grid.front G z) slot c.clear.ensures in
    let R = remembers_more class W L ev (c.witness.ensures.last (drop (n - 3) L) (c.forget.ensures.rest L F.window)) in
    let base : c.saturating_sub.result ≡ n - 3 = omega arith in
    let a = c.forget.ensures.few in
    let b = c.witness.ensures.more in
    let m = length-append L (ev ∷ []) in
    let count : n - 3 + W.seen ≡ suc n = seen_count class W (L ++ ev ∷ []) (n - 3) (suc n) (omega arith) (omega arith) R in
    let last : c.saturating_sub.result + W.seen ≡ suc n = ap (λ (z : ℕ). z + W.seen) base ∙ count in
    let H = cleared class cap (suc n % 5) (grid_of s.grid) G C in
    let S₀ = start_feed class cap (grid_of s.grid) P k L N S F.held F.tracked F.total ev G C in
    let S₁ = subst (λ (z : ℕ). Start class cap H z (suc n) P k L (so_far (L ++ ev ∷ []))) (sym base) S₀ in
    let S₂ = subst (λ (z : ℕ). Start class cap H c.saturating_sub.result z P k L (so_far (L ++ ev ∷ []))) (sym last) S₁ in
    let R₁ = subst (λ (z : ℕ). Remembers class W (drop z (L ++ ev ∷ []))) (sym base) R in
    let N₀ = since_first class G.counts c.min-judged.result (n - 3) (suc n) P k L (so_far (L ++ ev ∷ [])) cap H refl judged (same_longer L ev) S₀.held in
    let N₁ = subst (λ (z : ℕ). Since class cap G.counts c.min-judged.result H z (suc n) P k L (so_far (L ++ ev ∷ []))) (sym base) N₀ in
    let N₂ = subst (λ (z : ℕ). Since class cap G.counts c.min-judged.result H c.saturating_sub.result z P k L (so_far (L ++ ev ∷ []))) (sym last) N₁ in
    let D = X.decides k L (so_far (L ++ ev ∷ [])) refl R₁ N₂ S₂ in
    let D₁ = subst (λ (z : ℕ). Decided class cap H (grid_of t.grid) c.saturating_sub.result z P k L (so_far (L ++ ev ∷ [])) c.settle.result) last D in
    let D₂ = subst (λ (z : ℕ). Decided class cap H (grid_of t.grid) z (suc n) P k L (so_far (L ++ ev ∷ [])) c.settle.result) base D₁ in (
      record { rules = D₂.decides; shown = D₂.shown },
      follows_on class s t H P k L ev c.settle.result D₂ X.stays.cap (subst (λ z. Remembers class z (drop (n - 3) (L ++ ev ∷ []))) (sym X.window) R),
    )

pub invariant_of-state : goal.invariant_of-state
invariant_of-state g c =
    let s = c.args.self.now.state.grid in
    let R = cleared_room s c.clear.new.self c.of.result.at c.clear.ensures in record { few = s.few; wide = s.wide; held = R.held; known = R.known }

use Rattle.std.proofs.Common.{◌≡◌, ℕ, ◌+◌, ◌-◌, length, drop, vec_items, sym, refl, ap, ◌∙◌, subst, arith}
use Rattle.topl.specs.Runs.{closing}
use Rattle.topl.proofs.Bounded.{bounded}
use Rattle.engine.specs.Trails.{room_of}
use Rattle.tables.specs.Meant.{meant}
use Rattle.engine.specs.Grids.{grid_of}
use Rattle.engine.specs.Judging.{Start}
use Rattle.engine.specs.Windows.{Remembers}
use Rattle.engine.proofs.Properties.{lawful}
use Rattle.engine.proofs.Starts.{start_close}
use Rattle.engine.proofs.Following.{seen_count}
use Rattle.engine.specs.Fills.{Since}
use Rattle.engine.proofs.Since.{since_first}
use Rattle.engine.proofs.rows.Rows.end_list.Goals as goal

pub returns-clause-rules : goal.returns-clause-rules
returns-clause-rules g c k L S j F =
    let class = g.K.Kind.class in
    let t = c.args.table.now in
    let P = meant t in
    let N = lawful t in
    let s = c.args.self.now.state.grid in
    let n = length L in
    let few = bounded P k s.cap (room_of (vec_items s.book.entries)) L S in
    let W = c.forget.new.window in
    let R = c.forget.ensures.rest L F.window in
    let base : c.saturating_sub.result ≡ n - 3 = omega arith in
    let a = c.forget.ensures.few in
    let count : n - 3 + W.seen ≡ n = seen_count class W L (n - 3) n (omega arith) refl R in
    let last : c.saturating_sub.result + W.seen ≡ n = ap (λ (z : ℕ). z + W.seen) base ∙ count in
    let S₀ = start_close class s.cap (grid_of s) P k L N S F.held F.tracked F.total in
    let S₁ = subst (λ (z : ℕ). Start class s.cap (grid_of s) z n P k L (closing L)) (sym base) S₀ in
    let S₂ = subst (λ (z : ℕ). Start class s.cap (grid_of s) c.saturating_sub.result z P k L (closing L)) (sym last) S₁ in
    let R₁ = subst (λ (z : ℕ). Remembers class W (drop z L)) (sym base) R in
    let N₀ = since_first class s.front.counts c.min-judged.result (n - 3) n P k L (closing L) s.cap (grid_of s) refl (omega arith) (λ q d u l. refl) F.held in
    let N₁ = subst (λ (z : ℕ). Since class s.cap s.front.counts c.min-judged.result (grid_of s) z n P k L (closing L)) (sym base) N₀ in
    let N₂ = subst (λ (z : ℕ). Since class s.cap s.front.counts c.min-judged.result (grid_of s) c.saturating_sub.result z P k L (closing L)) (sym last) N₁ in
    let D = c.settle.ensures.decides k L (closing L) refl R₁ N₂ S₂ in
    record { rules = D.decides; shown = D.shown }

-- What a broken watch writes of its run: the steps fit a page of 16,384 bytes.
use Rattle.std.proofs.Common.{◌≡◌, ℕ, ◌≤◌, List, ◌++◌, length, take, drop, cond, Bool, ap, ◌∙◌, subst, arith}
use Rattle.std.proofs.Math.Seq.{take-append_seam}
use Rattle.std.proofs.lemmas.Bool.{le-ltb}
use Rattle.std.proofs.lemmas.List.{length_push}
use Rattle.kinds.specs.declared.phase.Phase.TheVariants as phases
use Rattle.kinds.specs.declared.refusal.Refusal.{Refusal}
use Rattle.topl.specs.History.{Means}
use Rattle.topl.specs.Ledger.{Ledger, wrote, unwritten, refusal, path_on, on_page}
use Rattle.kinds.specs.declared.refusal.Reason.TheVariants.{Watch as of_watch}
use Rattle.kinds.specs.declared.watch_reason.WatchReason.TheVariants.{SmallPage}
use Rattle.topl.specs.Lists.{Class}
use Rattle.topl.specs.Runs.{Registers, Configuration, World, Reach, at_start, onward}
use Rattle.topl.specs.Table as T
use Rattle.topl.proofs.Persist.{move_bounds, reach_bound}
use Rattle.engine.specs.declared.state.State.{State}
use Rattle.watch.specs.declared.held.Held.{Held}
use Rattle.watch.specs.Shows.{Agrees}

-- every step goes on
few_steps : {P : T.Table} {k : Registers} {w : World} {p : ℕ} {c : Configuration} {path : List ℕ} → Reach P k w p c path → length path ≤ p
few_steps at_start = omega arith
few_steps (onward {n = n} {path = path} r m) =
    let a : length path ≤ _ = few_steps r in
    let b = (move_bounds (reach_bound r) m).0 in
    let one = length_push path n in
    omega arith

-- the steps of a broken ledger are no more than its judged events
pub shown_fits : {V : Type 0} (class : V → Class) (s : State V) (h : Held) (l : Ledger) → Agrees class s h l → h.judged ≤ 16384 → l.phase ≡ phases.Broken → length l.shown ≤ 16384
shown_fits class s h l sh few b =
    let M : Means l phases.Broken = subst (Means l) b sh.sound in
    let steps : length l.shown ≤ M.0 = few_steps M.2.2 in
    let place : M.0 ≤ length l.judged = reach_bound M.2.2 in
    let count = sh.count in
    omega arith

-- a page that is long enough has them at its front
pub written_whole : (l : Ledger) (page : List ℕ) → l.phase ≡ phases.Broken → length l.shown ≤ length page → path_on l page ≡ wrote (length l.shown) (l.shown ++ drop (length l.shown) page)
written_whole l page b fits =
    ap (on_page l page) b ∙
    ap (λ (t : Bool). cond t (unwritten (refusal l (of_watch SmallPage)) page) (wrote (length l.shown) (l.shown ++ drop (length l.shown) page))) (le-ltb (length page) (length l.shown) fits)

-- and so they are what is cut off it
pub cut : (l : Ledger) (page page' : List ℕ) (n : ℕ) → l.phase ≡ phases.Broken → length l.shown ≤ length page → wrote n page' ≡ path_on l page → take n page' ≡ l.shown
cut l page page' n b fits e =
    let w = written_whole l page b fits in
    let count : n ≡ length l.shown = cc in
    let bytes : page' ≡ l.shown ++ drop (length l.shown) page = cc in
    (λ j. take (count j) (bytes j)) ∙ take-append_seam l.shown (drop (length l.shown) page)

-- the page is never too small
pub never_small : (l : Ledger) (page page' : List ℕ) (f : Refusal) → l.phase ≡ phases.Broken → length l.shown ≤ length page → unwritten f page' ≡ path_on l page → ⊥
never_small l page page' f b fits e =
    let w = written_whole l page b fits in
    let z : ◌≡◌ {A = ℕ} 0 1 = cc in
    omega arith

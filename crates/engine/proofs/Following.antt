-- From one list of events to the next.
use Rattle.std.proofs.Common.{◌≡◌, ℕ, suc, ◌+◌, ◌-◌, ◌%◌, ◌≤◌, List, [], ◌∷◌, ◌++◌, length, take, drop, Ok, Result, sym, ap, ◌∙◌, subst, arith, length-append, length-drop}
use Rattle.std.proofs.lemmas.List.{drop-append-le, length-take-le}
use Rattle.topl.specs.Lists.{Class}
use Rattle.topl.specs.Table as T
use Rattle.topl.specs.Runs.{Registers, so_far}
use Rattle.topl.specs.Deciding.{sum, count}
use Rattle.engine.specs.declared.front.Decision.{Decision}
use Rattle.engine.specs.declared.state.State.{State}
use Rattle.engine.specs.declared.window.Window.{Window}
use Rattle.engine.specs.Fronts.{Grid}
use Rattle.engine.specs.Grids.{grid_of}
use Rattle.engine.specs.Fills.{Tracked}
use Rattle.engine.specs.Judging.{Held, Decided}
use Rattle.engine.specs.Windows.{Remembers}
use Rattle.engine.specs.States.{Follows}
use Rattle.engine.proofs.Windows.{seen_long}

-- the events of a window with one more
pub remembers_more : {V : Type 0} (class : V → Class) (W : Window V) (L : List T.Event) (e : T.Event) → Remembers class W (drop (length L - 3) L ++ e ∷ []) → Remembers class W (drop (length L - 3) (L ++ e ∷ []))
remembers_more class W L e R = subst (Remembers class W) (sym (drop-append-le (length L - 3) L (e ∷ []) (omega arith))) R

-- as many as count
pub seen_count : {V : Type 0} (class : V → Class) (W : Window V) (L : List T.Event) (b n : ℕ) → b ≤ length L → length L ≡ n → Remembers class W (drop b L) → b + W.seen ≡ n
seen_count class W L b n l e R =
    let a = seen_long class (take W.seen W.events) (drop b L) R in
    let d = length-drop b L in
    let four = W.four in
    let few = W.few in
    let t = length-take-le W.seen W.events (omega arith) in
    omega arith

module _ {V : Type 0} (class : V → Class) (s t : State V) (g : Grid V) (P : T.Table) (k : Registers) (L : List T.Event) (e : T.Event) (r : Result (Unit {0}) Decision)
    (D : Decided class s.grid.cap g (grid_of t.grid) (length L - 3) (suc (length L)) P k L (so_far (L ++ e ∷ [])) r) (cap : t.grid.cap ≡ s.grid.cap) (W : Remembers class t.window (drop (length L - 3) (L ++ e ∷ []))) where
  long : length (L ++ e ∷ []) ≡ suc (length L)
  long = let n = length-append L (e ∷ []) in omega arith

  pub follows_on : r ≡ Ok tt → Follows class t P k (L ++ e ∷ [])
  follows_on x = record {
    held = λ q l m. let n = long in subst (λ (c : ℕ). Held class c (grid_of t.grid) P k (so_far (L ++ e ∷ [])) q) (sym cap) (D.held x q (omega arith) (omega arith));
    tracked = λ q l m. let n = long in subst (λ (c : ℕ). Tracked class c P k (so_far (L ++ e ∷ [])) q (grid_of t.grid) (q % 5)) (sym cap) (D.tracked x q (omega arith) (omega arith));
    total = D.total x ∙ ap (λ (z : ℕ). sum (suc z) (count P k (so_far (L ++ e ∷ [])))) (sym long);
    window = let n = long in subst (λ (z : ℕ). Remembers class t.window (drop z (L ++ e ∷ []))) (let z : length L - 3 ≡ length (L ++ e ∷ []) - 4 = omega arith in z) W;
  }

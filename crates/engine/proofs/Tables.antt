-- The statements of a table, one by one.
use Rattle.std.proofs.Common.{◌≡◌, ℕ, zero, suc, ◌+◌, ◌<◌, ◌≤◌, Bool, true, false, not, eqb, ◌&&◌, List, [], ◌∷◌, map, length, get_or, drop, sym, refl, ap, ap₂, ◌∙◌, arith}
use mathlib.Core.List.Memᴰ
use Rattle.std.specs.List.{list_all}
use Rattle.std.proofs.lemmas.Bool.{ne_eqb}
use Rattle.std.proofs.lemmas.List.{get_or-map, length-map}
use Rattle.topl.specs.Lists.{◌∈◌}
use Rattle.topl.specs.Table as T
use Rattle.topl.specs.Runs.{Configuration, Mode, World, calm, calms, fares, quiet}
use Rattle.topl.proofs.Moves as M
use Rattle.tables.specs.declared.parts.Statement.{Statement}
use Rattle.tables.specs.Views.{statement}

number_at : (n : ℕ) (ts : List T.Statement) (i : ℕ) (d : ℕ × T.Statement) → i < length ts → (get_or (T.count_from n ts) i d).0 ≡ n + i
number_at n [] i d l = absurd (omega arith)
number_at n (t ∷ ts) zero d l = omega arith
number_at n (t ∷ ts) (suc i) d l = let e = number_at (suc n) ts i d (omega arith) in omega arith

pub get_or-∈ : {X : Type 0} (xs : List X) (i : ℕ) (d : X) → i < length xs → get_or xs i d ∈ xs
get_or-∈ [] i d l = absurd (omega arith)
get_or-∈ (x ∷ xs) zero d l = Memᴰ.head refl
get_or-∈ (x ∷ xs) (suc i) d l = Memᴰ.tail (get_or-∈ xs i d (omega arith))

module _ (P : T.Table) (ts : List Statement) (e : P.statements ≡ map statement ts) where
  long : length P.statements ≡ length ts
  long = ap length e ∙ length-map ts statement

  length_numbered : length (T.numbered P) ≡ suc (length ts)
  length_numbered = M.length_numbered P ∙ ap suc long

  numbered_at : (i : ℕ) (d : Statement) → i < length ts → get_or (T.numbered P) i (65, T.implied) ≡ (i + 1, statement (get_or ts i d))
  numbered_at i d l =
      let n = long in
      let a : (get_or (T.numbered P) i (65, T.implied)).0 ≡ i + 1 = let z = number_at 1 P.statements i (65, T.implied) (omega arith) in omega arith in
      let b : (get_or (T.numbered P) i (65, T.implied)).1 ≡ statement (get_or ts i d) =
      M.numbered_at P i (statement d) (omega arith) ∙ (ap (λ z. get_or z i (statement d)) e ∙ get_or-map statement ts i d (statement d) l) in
      λ j. (a j, b j)

  -- one that was read, with its number
  pub written_is : (i n : ℕ) (t : Statement) (u : T.Statement) → i < length ts → t ≡ get_or ts i t → n ≡ i + 1 → u ≡ statement t → (i < length (T.numbered P)) × (get_or (T.numbered P) i (65, T.implied) ≡ (n, u))
  written_is i n t u l is en eu = (let m = length_numbered in omega arith, numbered_at i t l ∙ ap (λ z. (i + 1, statement z)) (sym is) ∙ λ j. (sym en j, sym eu j))

  -- behind them the implied one, the last
  pub implied_is : (i n : ℕ) (u : T.Statement) → i ≡ length ts → n ≡ 65 → u ≡ T.implied → (i < length (T.numbered P)) × (get_or (T.numbered P) i (65, T.implied) ≡ (n, u)) × (length (T.numbered P) ≤ i + 1)
  implied_is i n u l en eu = let m = length_numbered in (omega arith, M.numbered_end P i (l ∙ sym long) ∙ λ j. (sym en j, sym eu j), omega arith)

-- whether all statements let a skip go on: a tells it of the written ones
module _ (w : World) (p : ℕ) (c : Configuration) (P : T.Table) (ts : List Statement) (e : P.statements ≡ map statement ts) (a : Bool) (written : a ≡ list_all (λ t. calms w p c (0, statement t)) ts) where
  quiet_is : (a && calms w p c (65, T.implied)) ≡ quiet w p c (T.numbered P)
  quiet_is = ap (λ b. b && calms w p c (65, T.implied)) written ∙ (go 1 ts ∙ ap (λ z. quiet w p c (T.count_from 1 z)) (sym e))
    where
      last : (b : Bool) → b ≡ (b && true)
      last true = refl
      last false = refl

      on : (a b d r : Bool) → (b && d) ≡ r → ((a && b) && d) ≡ (a && r)
      on true b d r h = h
      on false b d r h = refl

      go : (n : ℕ) (ts : List Statement) → (list_all (λ t. calms w p c (0, statement t)) ts && calms w p c (65, T.implied)) ≡ quiet w p c (T.count_from n (map statement ts))
      go n [] = last (calms w p c (65, T.implied))
      go n (t ∷ ts) = on (calms w p c (0, statement t)) (list_all (λ t. calms w p c (0, statement t)) ts) (calms w p c (65, T.implied)) (quiet w p c (T.count_from (suc n) (map statement ts))) (go (suc n) ts)

  pub quiet_not : a ≡ false → a ≡ quiet w p c (T.numbered P)
  quiet_not h = h ∙ (ap (λ b. b && calms w p c (65, T.implied)) (sym h) ∙ quiet_is)

  pub quiet_away : a ≡ true → (c.state ≡ 0 → ⊥) → not (eqb c.state 0) ≡ quiet w p c (T.numbered P)
  quiet_away h n = ap not (ne_eqb c.state 0 n) ∙ (sym (ap₂ ◌&&◌ h (M.calms_away w p c (65, T.implied) (λ z. n (sym z)))) ∙ quiet_is)

  pub quiet_here : a ≡ true → c.state ≡ 0 → (mode : Mode) → w.mode ≡ mode → (b : Bool) → b ≡ calm mode (fares (T.any_event ∷ []) c.registers (drop p w.events)) → b ≡ quiet w p c (T.numbered P)
  quiet_here h n mode m b k =
      k ∙ (ap (λ x. calm x (fares (T.any_event ∷ []) c.registers (drop p w.events))) (sym m) ∙ sym (M.calms_here w p c (65, T.implied) (sym n)) ∙ (ap (λ x. x && calms w p c (65, T.implied)) (sym h) ∙ quiet_is))

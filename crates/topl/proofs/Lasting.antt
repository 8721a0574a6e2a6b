-- Every call keeps the ledger sound.
use Rattle.std.proofs.Common.{◌≡◌, ℕ, zero, suc, ◌+◌, ◌*◌, ◌<◌, ◌≤◌, min, Bool, true, false, cond, not, ◌||◌, eqb, ltb, List, [], ◌∷◌, ◌++◌, length, Some, None, Option, sym, refl, ap, subst, ⊎_elim, arith}
use mathlib.Core.List.Memᴰ
use borrow.Author.Tests.{eqb_apart}
use Rattle.std.proofs.lemmas.Bool.{or_parts}
use Rattle.kinds.specs.declared.phase.Phase.TheVariants.{Running, Kept}
use Rattle.kinds.specs.declared.refusal.Reason.{Reason}
use Rattle.kinds.specs.declared.refusal.Reason.TheVariants.{Watch as of_watch}
use Rattle.kinds.specs.declared.watch_reason.WatchReason.TheVariants.{BegunAlready, BadCap, OtherConstants, SmallBoard}
use Rattle.kinds.specs.Refusals.{Ending}
use Rattle.topl.specs.Lists.{Class, ◌∈◌}
use Rattle.topl.specs.Table.{Event, Table, error}
use Rattle.topl.specs.Runs.{Configuration, Reaches, Registers, closing, first_configuration, reached, runs, so_far}
use Rattle.topl.specs.Deciding.{Ruling, breaks, count, goes_on, overfills, spills}
use Rattle.topl.specs.Ledger.{Answer, Begins, Closes, Feeds, Ledger, Settles, Source, Takes, began, begin_reason, draws_by, initial, is_blank, passed_on, phase_reason, refuse, registers_of, rule, with_event}
use Rattle.topl.specs.Theorems.{Steady}
use Rattle.topl.specs.History.{StaysSound, Sound}
use Rattle.topl.proofs.Persist.{reach_bound}
use Rattle.topl.proofs.Enumerate.{enumerates}
use Rattle.topl.proofs.Deciding.{deciding}
use Rattle.topl.proofs.Resume.{steady_on, beyond}
use Rattle.topl.proofs.Calls.{fed_parts, closed_parts, begun_parts}

abbrev After : Ledger × Answer → Type 0
After r = Sound r.0

module _ (l : Ledger) where
  same_sound : (a : Answer) (r : Ledger × Answer) → Sound l → r ≡ (l, a) → Sound r.0
  same_sound a r S e = subst After (sym e) S

  fed_sound : (e : Event) (x : Ruling) (r : Ledger × Answer) → rule l (with_event l e) ≡ x → Settles l (with_event l e) Running x r → Sound r.0
  unfolding rule
  fed_sound e (breaks p) r h (path, A, i) = subst After (sym i) (p, refl, A)
  fed_sound e spills r h i = subst After (sym i) refl
  fed_sound e overfills r h i = subst After (sym i) refl
  fed_sound e goes_on r h i =
      subst After (sym i) (refl, steady_on l.table (registers_of l) l.cap (min l.book 16384) (so_far l.judged) (l.judged ++ (e ∷ [])) h, refl)

  ended_sound : (x : Ruling) (r : Ledger × Answer) → rule l (closing l.judged) ≡ x → Settles l (closing l.judged) Kept x r → Sound r.0
  unfolding rule
  ended_sound (breaks p) r h (path, A, i) = subst After (sym i) (p, refl, A)
  ended_sound spills r h i = subst After (sym i) refl
  ended_sound overfills r h i = subst After (sym i) refl
  ended_sound goes_on r h i =
      subst After (sym i) (refl, λ p x. ((deciding l.table (registers_of l) l.cap (min l.book 16384) (so_far l.judged) (closing l.judged)).when_not.0 h p (reach_bound x.2.1)).0 x)

  feed_keeps : (e : Event) (r : Ledger × Answer) → Sound l → Feeds l e r → Sound r.0
  feed_keeps e r S f = ⊎_elim (λ x. same_sound (refuse l x.0) r S x.2) (λ x. fed_sound e (rule l (with_event l e)) r refl x.1) (fed_parts l e r f)

  close_keeps : (r : Ledger × Answer) → Sound l → Closes l r → Sound r.0
  close_keeps r S f = ⊎_elim (λ x. same_sound (refuse l x.0) r S x.2) (λ x. ended_sound (rule l (closing l.judged)) r refl x.1) (closed_parts l r f)

  takes_keeps : (es : List Event) (end : Ending) (r : Ledger × Answer) (s : Source) → Sound l → Takes l es end r s → Sound r.0
  takes_keeps [] end r s S t = same_sound (passed_on end) r S t.0
  takes_keeps (e ∷ es) end r s S t = feed_keeps e r S t.0

  draws_keeps : (o : Option Reason) (s s' : Source) (r : Ledger × Answer) → Sound l → draws_by o l s r s' → Sound r.0
  draws_keeps (Some n) s s' r S t = same_sound (refuse l n) r S t.0
  draws_keeps None s s' r S t = takes_keeps s.waiting s.ending r s' S t

-- at the start
alone : (P : Table) (k : Registers) → reached P k (so_far []) 0 ≡ first_configuration k ∷ []
unfolding runs reached
alone P k = refl

steady_start : (P : Table) (k : Registers) (cap book : ℕ) → 0 < cap → 0 < book → Steady P k cap book []
steady_start P k cap book h h' = (λ p x. safe p x.0 x.2 x.1, few, one)
  where
    one : 0 + count P k (so_far []) 0 ≤ book
    one = let e : count P k (so_far []) 0 ≡ 1 = ap length (alone P k) in omega arith

    few : (p : ℕ) → count P k (so_far []) p ≤ cap
    few zero = let e : count P k (so_far []) 0 ≡ 1 = ap length (alone P k) in omega arith
    few (suc p) = let e : count P k (so_far []) (suc p) ≡ 0 = beyond P k (so_far []) (suc p) (omega arith) in omega arith

    safe : (p : ℕ) (c : Configuration) → Reaches P k (so_far []) p c → ¬ (c.state ≡ error)
    safe zero c r e =
        let i : c ≡ first_configuration k = Memᴰ.eq_of_singleton (subst (λ (cs : List Configuration). c ∈ cs) (alone P k) (((enumerates P k (so_far []) 0).2 c).1 r)) in
        let j : c.state ≡ 0 = (λ x. (i x).state) in
        omega arith
    safe (suc p) c r e = let b = reach_bound r.1 in omega arith

-- the tests of begin, where none refuses
passed : (b : Bool) (n : Reason) (later : Option Reason) → cond b (Some n) later ≡ None → (b ≡ false) × (later ≡ None)
passed true n later e = let z : ◌≡◌ {A = ℕ} 0 1 = cc in absurd (omega arith)
passed false n later e = (refl, e)

began_sound : (l : Ledger) (P : Table) (ks : List Class) (cap : ℕ) → begin_reason l P ks cap ≡ None → Sound (began l P ks cap)
began_sound l P ks cap h =
    let a = (passed (not (is_blank l.phase)) (of_watch BegunAlready) _ h).1 in
    let b = passed (eqb cap 0 || ltb 64 cap) (of_watch BadCap) _ a in
    let c = passed (not (eqb (length ks) (length P.constants))) (of_watch OtherConstants) _ b.1 in
    let d = passed (ltb l.board (40 * cap + 64) || eqb l.book 0) (of_watch SmallBoard) _ c.1 in
    let x : ¬ (cap ≡ 0) = eqb_apart cap 0 (or_parts (eqb cap 0) (ltb 64 cap) b.0).0 in
    let y : ¬ (l.book ≡ 0) = eqb_apart l.book 0 (or_parts (ltb l.board (40 * cap + 64)) (eqb l.book 0) d.0).1 in
    (refl, steady_start P (initial P ks) cap (min l.book 16384) (omega arith) (omega arith), refl)

begin_keeps : (l : Ledger) (P : Table) (ks : List Class) (cap : ℕ) (r : Ledger × Answer) → Sound l → Begins l P ks cap r → Sound r.0
begin_keeps l P ks cap r S f =
    ⊎_elim (λ x. same_sound l (refuse l x.0) r S x.2) (λ x. subst After (sym x.1) (began_sound l P ks cap x.0)) (begun_parts l P ks cap r f)

pub lasting : StaysSound
lasting = record {
  fresh_sound = λ board book. (refl, refl, refl);
  begin_sound = λ l P ks cap r S F. begin_keeps l P ks cap r S F;
  feed_sound = λ l e r S F. feed_keeps l e r S F;
  close_sound = λ l r S F. close_keeps l r S F;
  draw_sound = λ l s s' r S F. draws_keeps l (phase_reason l.phase) s s' r S F;
}

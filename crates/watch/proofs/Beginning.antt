-- What making a watch and a begin do to the ledger that it shows.
use Rattle.std.proofs.Common.{◌≡◌, ℕ, ◌+◌, ◌*◌, ◌<◌, ◌≤◌, List, map, length, None, Ok, Err, vec_items, vec_len, Result, sym, refl, ap, ◌∙◌, subst, arith, Bor}
use Rattle.std.proofs.lemmas.List.{length-map}
use Rattle.kinds.specs.declared.phase.Phase.TheVariants as phases
use Rattle.topl.specs.Lists.{Class}
use Rattle.topl.specs.Table as T
use Rattle.topl.specs.Ledger.{Ledger, fresh, begun, opening_reason, begin_reason, began, Begins}
use Rattle.topl.specs.History.{Means}
use Rattle.topl.proofs.Calls.{begins_begun}
use Rattle.topl.proofs.Lawful.{tested}
use Rattle.topl.proofs.Lasting.{lasting}
use Rattle.topl.proofs.Refusing.{refusing}
use Rattle.engine.proofs.Cases.{never}
use Rattle.tables.specs.declared.table.Table.{Table}
use Rattle.tables.specs.Meant.{meant}
use Rattle.tables.specs.Views.{number}
use Rattle.engine.specs.declared.state.State.{State}
use Rattle.engine.specs.declared.rows.Unsuited.{Unsuited}
use Rattle.engine.specs.Opening.{Opens}
use Rattle.watch.specs.declared.held.Held.{Held}
use Rattle.watch.specs.declared.held.Stage.{Stage}
use Rattle.watch.specs.declared.held.Stage.TheVariants.{Blank, Running}
use Rattle.watch.specs.Stages.{phase_of}
use Rattle.watch.specs.Turning.{in_stage}
use Rattle.watch.specs.Shows.{Agrees}

empty_lawful : T.Lawful T.empty_table
empty_lawful = (tested T.empty_table).0 refl

lent_same : (x y : Bor Table) → ◌≡◌ {A = Stage} (Running x) (Running y) → meant x.now ≡ meant y.now
lent_same x y e = let same : x ≡ y = cc in ap (λ (z : Bor Table). meant z.now) same

-- a new watch shows the fresh ledger
pub made : {V : Type 0} (class : V → Class) (s : State V) (board book : ℕ) → vec_len s.grid.board ≡ board → length (vec_items s.grid.book.entries) ≡ book →
    Agrees class s (record { stage = Blank; judged = 0 }) (fresh board book)
made class s board book a b = record {
  phase = refl;
  count = refl;
  position = refl;
  board = a;
  book = b;
  sound = lasting.fresh_sound board book;
  lawful = empty_lawful;
  lent = λ x e. absurd (never cc);
  cap = λ e. absurd (never cc);
  follows = λ e. absurd (never cc);
  known = λ b e. absurd (never cc);
  shown = λ b e. absurd (never cc);
}

module _ {V : Type 0} (class : V → Class) (s : State V) (h : Held) (l : Ledger) (sh : Agrees class s h l) where
  -- what the tests let pass, the ledger does
  pub begin_free : (x : Bor Table) (values : List V) (cap wanted : ℕ) → wanted ≡ length (vec_items x.now.constants) →
      opening_reason (phase_of h.stage) (vec_len s.grid.board) (length (vec_items s.grid.book.entries)) (length values) wanted cap ≡ None → begin_reason l (meant x.now) (map class values) cap ≡ None
  begin_free x values cap wanted w free =
      let n : wanted ≡ length (meant x.now).constants = w ∙ sym (length-map (vec_items x.now.constants) number) in
      (λ j. opening_reason (sym sh.phase j) (sym sh.board j) (sym sh.book j) (length-map values class j) (sym n j) cap) ∙ free

  module _ (x : Bor Table) (values : List V) (cap : ℕ) (free : begin_reason l (meant x.now) (map class values) cap ≡ None) where
    fits : (l.phase ≡ phases.Blank) × (((0 < cap) × (cap ≤ 64)) × ((length (map class values) ≡ length (meant x.now).constants) × ((40 * cap + 64 ≤ l.board) × (0 < l.book))))
    fits = (refusing.0 l.phase l.board l.book (length (map class values)) (length (meant x.now).constants) cap).is_none.0 free

    -- the rows take what the tests let pass
    pub opened : (t : State V) (r : Result (Unit {0}) Unsuited) → Opens class s t (meant x.now) values cap r → r ≡ Ok tt
    opened t (Ok _) o = refl
    opened t (Err _) o =
        let f = fits in
        let n = length-map values class in
        let board = sh.board in
        let book = sh.book in
        absurd (o.1 (omega arith, omega arith, omega arith, omega arith, omega arith))

    pub begin_runs : (t : State V) → T.Lawful (meant x.now) → Opens class s t (meant x.now) values cap (Ok tt) →
        (m : Ledger) × Agrees class t (in_stage (Running x) h) m × Begins l (meant x.now) (map class values) cap (m, begun)
    begin_runs t law o =
        let P = meant x.now in
        let ks = map class values in
        let B = begins_begun l P ks cap free in
        let S : Means l phases.Blank = subst (Means l) fits.0 sh.sound in (
          began l P ks cap,
          record {
            phase = refl;
            count = sh.count ∙ ap length S.1;
            position = refl;
            board = o.1 ∙ sh.board;
            book = ap length o.2 ∙ sh.book;
            sound = lasting.begin_sound l P ks cap (began l P ks cap, begun) sh.sound B;
            lawful = law;
            lent = λ y e. lent_same x y e;
            cap = λ e. o.0;
            follows = λ e. o.3;
            known = λ b e. absurd (never cc);
            shown = λ b e. absurd (never cc);
          },
          B,
        )

-- The report of a worked day is one: where one run alone reaches `error`, the steps that are shown are its own.
use Rattle.std.proofs.Common.{◌≡◌, ℕ, Bool, true, false, ◌↔◌, List, [], ◌∷◌, ◌++◌, map, Ok, Result, sym, refl, ap, ◌∙◌, subst, append_assoc}
use Rattle.forms.proofs.Laws.{apart}
use Rattle.kinds.specs.Readings.{Reading}
use Rattle.kinds.specs.Refusals.{Ending}
use Rattle.kinds.specs.declared.refusal.Fault.{Fault}
use Rattle.kinds.specs.declared.refusal.Refusal.{Refusal}
use Rattle.day.specs.Reporting.{Reported, report_of}
use Rattle.judging.specs.Outcomes.{Comes, ComesBy, ConstantsRead, Ends, Judged, Outcome, begin_refused, broken, broken_by_end, broken_by_event, but_steps, constants_refused, end_undecided, event_refused, event_undecided, head_refused, judged, kept, kept_to_end, refused, source_refused, text_refused}
use Rattle.judging.specs.Ways.{events}
use Rattle.judging.proofs.Once.{one_reading, same_property}
use Rattle.limits.specs.Tables.{table_of}
use Rattle.paths.specs.Outcomes.{Written}
use Rattle.property.specs.States.{Property}
use Rattle.sources.specs.Events.{Happening}
use Rattle.topl.specs.Days.{begun_over}
use Rattle.topl.specs.Ledger.{initial}
use Rattle.topl.specs.Lists.{Class}
use Rattle.topl.specs.Runs.{closing, runs, so_far}
use Rattle.topl.specs.Table.{Event, Table}
use Rattle.topl.specs.Theorems.{ErrsBy}
use Rattle.topl.proofs.Persist.{persists}
use Rattle.topl.proofs.Sole.{errors, only_run}
use Rattle.worked.specs.Journals.{Journals}

-- OUTCOMES
-- The steps that an outcome shows.
abbrev pub shown : Outcome → List ℕ
shown (kept n) = []
shown (broken n p steps) = steps
shown (refused f) = []

-- The outcome with other steps.
abbrev with_steps : Outcome → List ℕ → Outcome
with_steps (kept n) path = kept n
with_steps (broken n p steps) path = broken n p path
with_steps (refused f) path = refused f

-- Whether it is broken.
abbrev pub breaks : Outcome → Bool
breaks (kept n) = false
breaks (broken n p steps) = true
breaks (refused f) = false

-- An outcome is itself but for the steps, with its steps.
rebuilt : (o : Outcome) → with_steps (but_steps o) (shown o) ≡ o
rebuilt (kept n) = refl
rebuilt (broken n p steps) = refl
rebuilt (refused f) = refl

-- Outcomes are one where they are so but for the steps, and the steps are.
same_outcome : (o p : Outcome) → but_steps p ≡ but_steps o → shown p ≡ shown o → p ≡ o
same_outcome o p e s = sym (rebuilt p) ∙ (λ j. with_steps (e j) (s j)) ∙ rebuilt o

-- Only a broken day shows steps.
pub no_steps : (o p : Outcome) → breaks o ≡ false → but_steps p ≡ o → shown p ≡ []
no_steps o (kept n) h e = refl
no_steps o (broken n p steps) h e = apart (breaks o) (sym (ap breaks e)) h
no_steps o (refused f) h e = refl

-- A day reports so where its outcome shows these steps whenever it comes.
pub reports : (text journal constants : List ℕ) (o : Outcome) → Judged text journal constants o
    → ((p : Outcome) → Comes text journal constants p → but_steps p ≡ but_steps o → shown p ≡ shown o)
    → (bytes : List ℕ) → Reported text journal constants bytes ↔ (bytes ≡ report_of o)
reports text journal constants o d steps bytes = (
  λ r. let e = d.only r.0 r.1.comes in r.2 ∙ ap report_of (same_outcome o r.0 e (steps r.0 r.1.comes e)),
  λ e. (o, d, e),
)

-- BROKEN DAYS
-- The steps that break these events, with no constants, where one run alone reaches `error` at the position once they have ended.
module _ (P : Table) (es : List Event) (j p : ℕ) (path : List ℕ) (one : errors (runs P (initial P []) (closing es) p) ≡ path ∷ []) where
  sole : (q : ℕ) (steps : List ℕ) → q ≡ p → ErrsBy P (initial P []) (closing es) q steps → steps ≡ path
  sole q steps e run = (only_run (begun_over 16384 P [] 64) (closing es) p path one steps).0 (subst (λ (z : ℕ). ErrsBy P (initial P []) (closing es) z steps) e run)

  ended_too : (L : List Event) (e : Event) (X : List Event) (q : ℕ) (steps : List ℕ) → es ≡ L ++ e ∷ X → ErrsBy P (initial P []) (so_far (L ++ e ∷ [])) q steps
      → ErrsBy P (initial P []) (closing es) q steps
  ended_too L e X q steps split run =
      subst (λ (z : List Event). ErrsBy P (initial P []) (closing z) q steps) (append_assoc L (e ∷ []) X ∙ sym split)
      (run.0, run.1, (persists P (initial P []) (L ++ e ∷ []) X q run.0 steps run.2).2)

  end_steps : {n : Ending} {o : Outcome} → Ends P (initial P []) es n o → but_steps o ≡ broken j p [] → shown o ≡ path
  end_steps (kept_to_end e q d out) s = apart false (ap breaks s) refl
  end_steps (broken_by_event L e X q steps split quiet free d run all) s = let z : q ≡ p = cc in sole q steps z (ended_too L e X q steps split run)
  end_steps (broken_by_end q steps e quiet d run all) s = let z : q ≡ p = cc in sole q steps z run
  end_steps (event_refused L e X r split quiet why) s = apart false (ap breaks s) refl
  end_steps (event_undecided L e X r split quiet free d) s = apart false (ap breaks s) refl
  end_steps (end_undecided r e quiet d) s = apart false (ap breaks s) refl
  end_steps (source_refused f e quiet) s = apart false (ap breaks s) refl

  -- The same of a day that comes out of a text, a journal and no constants.
  module _ {V : Type 0} (reads : List ℕ → Result (V × ℕ) Fault) (longest : ℕ) (bounded : (bs : List ℕ) → Reading longest bs (reads bs)) (number : ℕ) (class : V → Class)
      (text journal : List ℕ) (Q : Property) (hs : List (Happening V)) (w : Written text Q) (is : table_of Q ≡ P) (r : Journals number reads class journal hs es)
      (none : ConstantsRead reads [] (Ok [])) where
    ok_one : (us vs : List V) → ◌≡◌ {A = Result (List V) Refusal} (Ok us) (Ok vs) → us ≡ vs
    ok_one us vs e = cc

    pub day_steps : {o : Outcome} → ComesBy reads number class text journal [] o → but_steps o ≡ broken j p [] → shown o ≡ path
    day_steps (text_refused f x) s = apart false (ap breaks s) refl
    day_steps (head_refused R f v h) s = apart false (ap breaks s) refl
    day_steps (constants_refused R f v h c) s = apart false (ap breaks s) refl
    day_steps (begin_refused R us v h c n) s = apart false (ap breaks s) refl
    day_steps (judged R us gs m o v h c n x d) s =
        let t : table_of R ≡ P = ap table_of (same_property text Q R w v) ∙ is in
        let u : us ≡ [] = ok_one us [] (one_reading reads longest bounded [] c none) in
        let g : events class gs ≡ es = ap (events class) (r.records.only gs m x.so).0 ∙ r.seen_as in
        end_steps (subst (λ (z : Table × List V × List Event). Ends z.0 (initial z.0 (map class z.1)) z.2 m o) (λ i. (t i, u i, g i)) d) s

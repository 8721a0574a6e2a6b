-- How calls come about: the ways in which code proves them, and in which they are taken apart.
use Rattle.std.proofs.Common.{◌≡◌, ℕ, ◌⊎◌, List, [], ◌∷◌, Some, None, Option, sym, refl, ap, ◌∙◌, subst, inl, inr, arith}
use Rattle.kinds.specs.declared.phase.Phase.{Phase}
use Rattle.kinds.specs.declared.phase.Phase.TheVariants.{Blank, Running, Broken, Spilled, Full, Kept}
use Rattle.kinds.specs.declared.refusal.Reason.{Reason}
use Rattle.kinds.specs.Refusals.{Ending}
use Rattle.topl.specs.Lists.{Class}
use Rattle.topl.specs.Table.{Event, Table}
use Rattle.topl.specs.Runs.{closing}
use Rattle.topl.specs.Deciding.{Ruling}
use Rattle.topl.specs.Ledger.{Answer, Begins, Closes, Draws, Feeds, Ledger, Settles, Source, began, begin_reason, begun, draws_by, event_reason, feed_reason, or_reason, passed_on, phase_reason, refuse, rule, unless, with_event}

-- a call is refused, or does what it does
pub refused_or : (l : Ledger) (does : Ledger × Answer → Type 0) (o : Option Reason) (r : Ledger × Answer) → unless l o does r →
    ((n : Reason) × (o ≡ Some n) × (r ≡ (l, refuse l n))) ⊎ ((o ≡ None) × does r)
refused_or l does (Some n) r u = inl (n, refl, u)
refused_or l does None r u = inr (refl, u)

pub when_not : (l : Ledger) (does : Ledger × Answer → Type 0) (o : Option Reason) (r : Ledger × Answer) → o ≡ None → does r → unless l o does r
when_not l does o r e d = subst (λ (z : Option Reason). unless l z does r) (sym e) d

pub when_refused : (l : Ledger) (does : Ledger × Answer → Type 0) (o : Option Reason) (n : Reason) → o ≡ Some n → unless l o does (l, refuse l n)
when_refused l does o n e = rw e refl

-- where it is refused there is one answer
pub is_refused : (l : Ledger) (does : Ledger × Answer → Type 0) (o : Option Reason) (n : Reason) (r : Ledger × Answer) → o ≡ Some n → unless l o does r → r ≡ (l, refuse l n)
is_refused l does o n r e u = subst (λ (z : Option Reason). unless l z does r) e u

-- where it is not, it does what it does
pub is_none : (l : Ledger) (does : Ledger × Answer → Type 0) (o : Option Reason) (r : Ledger × Answer) → o ≡ None → unless l o does r → does r
is_none l does o r e u = subst (λ (z : Option Reason). unless l z does r) e u

module _ (l : Ledger) where
  -- a begin is refused, or begins
  pub begins_refused : (P : Table) (ks : List Class) (cap : ℕ) (n : Reason) → begin_reason l P ks cap ≡ Some n → Begins l P ks cap (l, refuse l n)
  begins_refused P ks cap n e = when_refused l (λ r. r ≡ (began l P ks cap, begun)) (begin_reason l P ks cap) n e

  pub begins_begun : (P : Table) (ks : List Class) (cap : ℕ) → begin_reason l P ks cap ≡ None → Begins l P ks cap (began l P ks cap, begun)
  begins_begun P ks cap e = when_not l (λ r. r ≡ (began l P ks cap, begun)) (begin_reason l P ks cap) (began l P ks cap, begun) e refl

  -- a feed is refused by the phase, by the event, or ruled
  pub feeds_not : (e : Event) (n : Reason) → phase_reason l.phase ≡ Some n → Feeds l e (l, refuse l n)
  feeds_not e n i = when_refused l (Settles l (with_event l e) Running (rule l (with_event l e))) (feed_reason l e) n (ap (λ (o : Option Reason). or_reason o (event_reason l.table e)) i)

  pub feeds_refused : (e : Event) (n : Reason) → l.phase ≡ Running → event_reason l.table e ≡ Some n → Feeds l e (l, refuse l n)
  feeds_refused e n r i =
      when_refused l (Settles l (with_event l e) Running (rule l (with_event l e))) (feed_reason l e) n (ap (λ (q : Phase). or_reason (phase_reason q) (event_reason l.table e)) r ∙ i)

  pub feeds_ruled : (e : Event) (x : Ruling) (r : Ledger × Answer) → l.phase ≡ Running → event_reason l.table e ≡ None → rule l (with_event l e) ≡ x → Settles l (with_event l e) Running x r → Feeds l e r
  feeds_ruled e x r i j k s =
      when_not l (Settles l (with_event l e) Running (rule l (with_event l e))) (feed_reason l e) r (ap (λ (q : Phase). or_reason (phase_reason q) (event_reason l.table e)) i ∙ j)
      (subst (λ (z : Ruling). Settles l (with_event l e) Running z r) (sym k) s)

  -- a close is refused by the phase, or ruled
  pub closes_not : (n : Reason) → phase_reason l.phase ≡ Some n → Closes l (l, refuse l n)
  closes_not n i = when_refused l (Settles l (closing l.judged) Kept (rule l (closing l.judged))) (phase_reason l.phase) n i

  pub closes_ruled : (x : Ruling) (r : Ledger × Answer) → l.phase ≡ Running → rule l (closing l.judged) ≡ x → Settles l (closing l.judged) Kept x r → Closes l r
  closes_ruled x r i k s =
      when_not l (Settles l (closing l.judged) Kept (rule l (closing l.judged))) (phase_reason l.phase) r (ap phase_reason i)
      (subst (λ (z : Ruling). Settles l (closing l.judged) Kept z r) (sym k) s)

  -- a draw is refused by the phase, finds no event, or feeds the first
  pub draws_not : (s : Source) (n : Reason) → phase_reason l.phase ≡ Some n → Draws l s (l, refuse l n) s
  draws_not s n i = subst (λ (o : Option Reason). draws_by o l s (l, refuse l n) s) (sym i) (refl, refl)

  pub draws_none : (end : Ending) → l.phase ≡ Running → Draws l (record { waiting = []; ending = end }) (l, passed_on end) (record { waiting = []; ending = end })
  draws_none end i = subst (λ (q : Phase). draws_by (phase_reason q) l (record { waiting = []; ending = end }) (l, passed_on end) (record { waiting = []; ending = end })) (sym i) (refl, refl)

  pub draws_fed : (e : Event) (es : List Event) (end : Ending) (r : Ledger × Answer) → l.phase ≡ Running → Feeds l e r → Draws l (record { waiting = e ∷ es; ending = end }) r (record { waiting = es; ending = end })
  draws_fed e es end r i f = subst (λ (q : Phase). draws_by (phase_reason q) l (record { waiting = e ∷ es; ending = end }) r (record { waiting = es; ending = end })) (sym i) (f, refl)

  -- the other way round
  pub fed_parts : (e : Event) (r : Ledger × Answer) → Feeds l e r →
      ((n : Reason) × (feed_reason l e ≡ Some n) × (r ≡ (l, refuse l n))) ⊎ ((feed_reason l e ≡ None) × Settles l (with_event l e) Running (rule l (with_event l e)) r)
  fed_parts e r f = refused_or l (Settles l (with_event l e) Running (rule l (with_event l e))) (feed_reason l e) r f

  pub closed_parts : (r : Ledger × Answer) → Closes l r →
      ((n : Reason) × (phase_reason l.phase ≡ Some n) × (r ≡ (l, refuse l n))) ⊎ ((phase_reason l.phase ≡ None) × Settles l (closing l.judged) Kept (rule l (closing l.judged)) r)
  closed_parts r f = refused_or l (Settles l (closing l.judged) Kept (rule l (closing l.judged))) (phase_reason l.phase) r f

  pub begun_parts : (P : Table) (ks : List Class) (cap : ℕ) (r : Ledger × Answer) → Begins l P ks cap r →
      ((n : Reason) × (begin_reason l P ks cap ≡ Some n) × (r ≡ (l, refuse l n))) ⊎ ((begin_reason l P ks cap ≡ None) × (r ≡ (began l P ks cap, begun)))
  begun_parts P ks cap r f = refused_or l (λ r. r ≡ (began l P ks cap, begun)) (begin_reason l P ks cap) r f

  -- refused by the phase
  pub fed_refused : (e : Event) (n : Reason) (r : Ledger × Answer) → phase_reason l.phase ≡ Some n → Feeds l e r → r ≡ (l, refuse l n)
  fed_refused e n r i f =
      is_refused l (Settles l (with_event l e) Running (rule l (with_event l e))) (feed_reason l e) n r (ap (λ (o : Option Reason). or_reason o (event_reason l.table e)) i) f

  pub closed_refused : (n : Reason) (r : Ledger × Answer) → phase_reason l.phase ≡ Some n → Closes l r → r ≡ (l, refuse l n)
  closed_refused n r i f = is_refused l (Settles l (closing l.judged) Kept (rule l (closing l.judged))) (phase_reason l.phase) n r i f

  pub draws_refused : (n : Reason) (s s' : Source) (r : Ledger × Answer) → phase_reason l.phase ≡ Some n → Draws l s r s' → (r ≡ (l, refuse l n)) × (s' ≡ s)
  draws_refused n s s' r i d = subst (λ (o : Option Reason). draws_by o l s r s') i d

  -- a feed that is not refused is one of a running watch
  pub not_refused : (o later : Option Reason) → or_reason o later ≡ None → o ≡ None
  not_refused (Some n) later e = e
  not_refused None later e = refl

pub phase_runs : (q : Phase) → phase_reason q ≡ None → q ≡ Running
phase_runs Blank e = let z : ◌≡◌ {A = ℕ} 0 1 = cc in absurd (omega arith)
phase_runs Running e = refl
phase_runs Broken e = let z : ◌≡◌ {A = ℕ} 0 1 = cc in absurd (omega arith)
phase_runs Spilled e = let z : ◌≡◌ {A = ℕ} 0 1 = cc in absurd (omega arith)
phase_runs Full e = let z : ◌≡◌ {A = ℕ} 0 1 = cc in absurd (omega arith)
phase_runs Kept e = let z : ◌≡◌ {A = ℕ} 0 1 = cc in absurd (omega arith)

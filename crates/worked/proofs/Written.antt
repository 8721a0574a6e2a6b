-- The texts of the worked days are accepted, and read no variable unwritten.
use Rattle.std.proofs.Common.{◌≡◌, ℕ, zero, suc, ◌<◌, Bool, true, false, cond, eqb, ◌⊎◌, List, [], ◌∷◌, get_or, None, Option, Some, refl, subst, inl, inr, arith, eqb-true, lit≤}
use Rattle.std.specs.List.{filter_map, flat_map}
use Rattle.std.proofs.lemmas.Bool.{cases_Bool}
use Rattle.forms.specs.Forms.{Accepted}
use Rattle.forms.proofs.Laws.{apart, short_accepted}
use Rattle.paths.specs.Outcomes.{Written}
use Rattle.paths.specs.Paths.{Unwritten, start, along, statement_writes, state, events_of, event_writes, slots_of}
use Rattle.paths.specs.Reads.{Among, OpenRead, exposed, reads_in}
use Rattle.property.specs.Cursors.{sourced}
use Rattle.property.specs.Grammar.{any_text, property_text}
use Rattle.property.specs.States.{nothing_read}
use Rattle.property.specs.declared.table.Event.{Event}
use Rattle.property.specs.declared.table.Statement.{Statement}
use Rattle.topl.specs.declared.pattern.Pattern.TheVariants as patterns
use Rattle.worked.specs.Texts.{call, return, slot, stale_text, stale_property, wait_text, wait_property}
use Rattle.worked.proofs.Reading.{accepted, read}

-- The texts, read to their ends.
stale_read : read 80 nothing_read 0 stale_text ≡ Some stale_property
stale_read = refl

wait_read : read 80 nothing_read 0 wait_text ≡ Some wait_property
wait_read = refl

-- So they are accepted.
stale_accepted : Accepted property_text stale_text stale_property
stale_accepted = short_accepted 8192 any_text stale_text stale_property (lit≤ tt) (accepted 80 nothing_read 0 stale_text stale_property stale_read)

wait_accepted : Accepted property_text wait_text wait_property
wait_accepted = short_accepted 8192 any_text wait_text wait_property (lit≤ tt) (accepted 80 nothing_read 0 wait_text wait_property wait_read)

-- The statement of a place that has none.
abbrev other : Statement
other = sourced 0

-- Wait reads no register at all.
pub wait_reads : (x n : ℕ) → OpenRead wait_property.statements x n → ⊥
wait_reads x n o = by o.place o.within o.read
  where
    by : (k : ℕ) → k < 3 → ((d : Statement) → Among n (exposed x (events_of (get_or wait_property.statements k d)))) → ⊥
    by zero l r = r other
    by (suc zero) l r = r other
    by (suc (suc zero)) l r = r other
    by (suc (suc (suc k))) l r = absurd (omega arith)

-- The events of the first statement of Stale.
abbrev fetched : Event
fetched = call 3 (slot (patterns.Write 1) 95 ∷ [])

abbrev fetches : Event
fetches = return 3 (slot (patterns.Write 0) 84)

-- Only `start` is reached with no write of a register that the first statement writes.
stale_start : (x q : ℕ) → statement_writes x (get_or stale_property.statements 0 other) ≡ true → Unwritten stale_property.statements x q → q ≡ 0
stale_start x q h start = refl
stale_start x q h (along k d l w u) = by k l w (stale_start x (state (get_or stale_property.statements k d).source) h u)
  where
    by : (k : ℕ) → k < 3 → statement_writes x (get_or stale_property.statements k d) ≡ false → state (get_or stale_property.statements k d).source ≡ 0
        → state (get_or stale_property.statements k d).target ≡ 0
    by zero l w e = apart (statement_writes x (get_or stale_property.statements 0 other)) h w
    by (suc zero) l w e = absurd (omega arith)
    by (suc (suc zero)) l w e = absurd (omega arith)
    by (suc (suc (suc k))) l w e = absurd (omega arith)

-- The first statement reads nothing, whichever of its events are looked at.
stale_first : (x n : ℕ) (b c : Bool) → Among n (flat_map (λ e. reads_in x (slots_of e)) (fetched ∷ cond b [] (fetches ∷ cond c [] []))) → ⊥
stale_first x n true c r = r
stale_first x n false true r = r
stale_first x n false false r = r

-- Where a register is neither of the two of the last statement, that reads nothing of it.
last_reads : (n : ℕ) (b c : Bool) → b ≡ false → c ≡ false
    → Among n (flat_map (λ (os : List (Option ℕ)). filter_map (λ o. o) os) ((cond b (Some 156) None ∷ cond c (Some 159) None ∷ []) ∷ [])) → ⊥
last_reads n true c e f r = apart true refl e
last_reads n false true e f r = apart true refl f
last_reads n false false e f r = r

-- The last statement is not reached with either of the two unwritten.
stale_last : (x n : ℕ) → Unwritten stale_property.statements x 3 → Among n (exposed x (events_of (get_or stale_property.statements 2 other))) → ⊥
stale_last x n u r = by (cases_Bool (eqb 1 x)) (cases_Bool (eqb 0 x))
  where
    reached : (y : ℕ) → y ≡ x → statement_writes y (get_or stale_property.statements 0 other) ≡ true → ⊥
    reached y e h = let z = stale_start x 3 (subst (λ (k : ℕ). statement_writes k (get_or stale_property.statements 0 other) ≡ true) e h) u in omega arith

    by : ((eqb 1 x ≡ true) ⊎ (eqb 1 x ≡ false)) → ((eqb 0 x ≡ true) ⊎ (eqb 0 x ≡ false)) → ⊥
    by (inl e) f = reached 1 (eqb-true 1 x e) refl
    by (inr e) (inl f) = reached 0 (eqb-true 0 x f) refl
    by (inr e) (inr f) = last_reads n (eqb 1 x) (eqb 0 x) e f r

-- Stale reads none before it is written.
pub stale_reads : (x n : ℕ) → OpenRead stale_property.statements x n → ⊥
stale_reads x n o = by o.place o.within o.reached o.read
  where
    by : (k : ℕ) → k < 3 → ((d : Statement) → Unwritten stale_property.statements x (state (get_or stale_property.statements k d).source))
        → ((d : Statement) → Among n (exposed x (events_of (get_or stale_property.statements k d)))) → ⊥
    by zero l u r = stale_first x n (event_writes x fetched) (event_writes x fetches) (r other)
    by (suc zero) l u r = r other
    by (suc (suc zero)) l u r = stale_last x n (u other) (r other)
    by (suc (suc (suc k))) l u r = absurd (omega arith)

-- The texts are accepted, and have no unwritten read.
pub stale_written : Written stale_text stale_property
stale_written = (stale_accepted, λ x n v o. stale_reads x n o)

pub wait_written : Written wait_text wait_property
wait_written = (wait_accepted, λ x n v o. wait_reads x n o)

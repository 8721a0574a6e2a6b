-- What a property within its limits writes fits a table.
use Rattle.std.proofs.Common.{ℕ, ◌<◌, ◌≤◌, List, length, get_or, All, arith}
use Rattle.topl.specs.declared.pattern.Pattern.{Pattern}
use Rattle.topl.specs.declared.pattern.Pattern.TheVariants as patterns
use Rattle.property.specs.States.{Declared, Key, Property}
use Rattle.property.specs.declared.table.Event.{Event}
use Rattle.property.specs.declared.table.Event.TheVariants as events
use Rattle.property.specs.declared.table.Slot.{Slot}
use Rattle.limits.specs.Limits as limits
use Rattle.limits.specs.Limits.{MethodFits, Within}
use Rattle.limits.specs.Tables.{parameters, spanned}
use Rattle.limits.proofs.Lowering.{call_number, call_arity, answer_number}
use Rattle.tables.specs.Fits as fits

module _ (ms : List Declared) (gs : List Key) (kept : All MethodFits ms) (eight : length gs ≤ 8) where
  -- A register of the property is one of the eight.
  pattern_fits : (p : Pattern ℕ) → limits.PatternFits gs p → fits.PatternFits p
  pattern_fits patterns.Any h = tt
  pattern_fits (patterns.Write r) h = let i : r < length gs = h.0 in omega arith
  pattern_fits (patterns.Same r) h = omega arith
  pattern_fits (patterns.Differs r) h = omega arith

  -- The same of a slot.
  slot_fits : (s : Slot) → limits.SlotFits gs s → fits.SlotFits s
  slot_fits s h = pattern_fits s.pattern h

  -- A call or a return of a declared method fits.
  event_fits : (e : Event) → limits.EventFits ms gs e → fits.EventFits e
  event_fits events.Any h = tt
  event_fits (events.Calls c) h = record {
    number = call_number kept c h;
    arity = call_arity kept c h;
    five = h.five;
    fit = λ k d l. slot_fits (get_or (parameters c) k d) (h.fit k d l);
  }
  event_fits (events.Returns a) h = record { number = answer_number kept a h; fits = slot_fits a.slot h.fits }

-- All its statements fit.
pub statements_fit : (P : Property) → Within P → All fits.StatementFits P.statements
statements_fit P w k d l =
    let s = w.statements_fit k d l in
    let few = w.few_states in
    record {
      some = s.some;
      few = s.few;
      four = s.four;
      from = let h = s.from in omega arith;
      to = let h = s.to in omega arith;
      fit = λ i e h. event_fits P.methods P.registers w.methods_fit w.few_registers (get_or (spanned (get_or P.statements k d)) i e) (s.fit i e h);
    }

-- The table of a property within the limits is lawful.
use Rattle.std.proofs.Common.{◌≡◌, ℕ, ◌+◌, ◌<◌, ◌≤◌, true, List, [], ◌∷◌, ◌++◌, map, length, get_or, sym, refl, ap, ◌∙◌, subst, true≢false, arith}
use Rattle.std.specs.Prelude.{All}
use Rattle.std.proofs.lemmas.List.{length-map}
use Rattle.std.proofs.lemmas.List.Elements.{All-cons, All-nil}
use mathlib.Core.List.Memᴰ
use Rattle.topl.specs.Lists.{◌∈◌, each, Distinct}
use Rattle.topl.specs.Table as T
use Rattle.topl.specs.declared.pattern.Pattern.{Pattern}
use Rattle.topl.specs.declared.pattern.Pattern.TheVariants as patterns
use Rattle.topl.proofs.Basics.{each-∈}
use Rattle.topl.proofs.Lawful.{tested}
use Rattle.property.specs.States.{Declared, Key, Property}
use Rattle.property.specs.declared.table.Answer.{Answer}
use Rattle.property.specs.declared.table.Call.{Call}
use Rattle.property.specs.declared.table.Event.{Event}
use Rattle.property.specs.declared.table.Event.TheVariants as events
use Rattle.property.specs.declared.table.Slot.{Slot}
use Rattle.property.specs.declared.table.Statement.{Statement}
use Rattle.limits.specs.Tables.{pattern, placed, parameters, matcher, spanned, statement, method, constants_from, table_of}
use Rattle.limits.specs.Limits.{written_by, writes, Variable, PatternFits, SlotFits, CallFits, AnswerFits, EventFits, StatementFits, MethodFits, Within, states}
use Rattle.limits.proofs.Members.{of_all, map_twice, each_map}
use Rattle.limits.proofs.Lowering.{call_parameters, statement_events, statement_some, statement_matchers, constant_at, constants_below, constants_distinct}

-- A pattern writes in the table what it writes in the text.
overwrites_written : (p : Pattern ℕ) → T.overwrites (pattern p) ≡ written_by p
overwrites_written patterns.Any = refl
overwrites_written (patterns.Write r) = refl
overwrites_written (patterns.Same r) = refl
overwrites_written (patterns.Differs r) = refl

-- A pattern that fits names registers.
named_held : (gs : List Key) (p : Pattern ℕ) → PatternFits gs p → (r : ℕ) → r ∈ T.names (pattern p) → r < length gs
named_held gs patterns.Any h r m = absurd (Memᴰ.not-nil m)
named_held gs (patterns.Write x) h r m = let e : r ≡ x = Memᴰ.eq_of_singleton m in let l : x < length gs = h.0 in omega arith
named_held gs (patterns.Same x) h r m = let e : r ≡ x = Memᴰ.eq_of_singleton m in omega arith
named_held gs (patterns.Differs x) h r m = let e : r ≡ x = Memᴰ.eq_of_singleton m in omega arith

-- What it writes are variables.
written_variable : (gs : List Key) (p : Pattern ℕ) → PatternFits gs p → (r : ℕ) → r ∈ written_by p → Variable gs r
written_variable gs patterns.Any h r m = absurd (Memᴰ.not-nil m)
written_variable gs (patterns.Write x) h r m = subst (Variable gs) (sym (Memᴰ.eq_of_singleton m)) h
written_variable gs (patterns.Same x) h r m = absurd (Memᴰ.not-nil m)
written_variable gs (patterns.Differs x) h r m = absurd (Memᴰ.not-nil m)

-- No variable is a constant.
variable_free : (gs : List Key) (r : ℕ) → Variable gs r → ¬ (r ∈ constants_from 0 gs)
variable_free gs r v m =
    let x = constant_at 0 gs m in
    let e : r ≡ x.0 = let k : r ≡ 0 + x.0 = x.1 in omega arith in
    let d : Key = record { constant = true; name = [] } in
    true≢false (sym (x.3 d) ∙ ap (λ (k : ℕ). (get_or gs k d).constant) (sym e) ∙ v.1 d)

module _ (gs : List Key) (ss : List Slot) (fit : All (SlotFits gs) ss) where
  -- What slots that fit name are registers.
  slots_named : (r : ℕ) → r ∈ each T.names (map placed ss) → r < length gs
  slots_named r m =
      let x = each-∈ (λ (s : Slot). T.names (placed s)) ss (subst (λ xs. r ∈ xs) (each_map placed T.names (λ s. T.names (placed s)) (λ s. refl) ss) m) in
      named_held gs x.0.pattern (of_all (SlotFits gs) fit x.1) r x.2

  -- They write in the table what they write in the text.
  slots_write : each T.overwrites (map placed ss) ≡ each writes ss
  slots_write = each_map placed T.overwrites writes (λ s. overwrites_written s.pattern) ss

  -- What they write are variables.
  slots_written : (r : ℕ) → r ∈ each T.overwrites (map placed ss) → Variable gs r
  slots_written r m =
      let x = each-∈ writes ss (subst (λ xs. r ∈ xs) slots_write m) in
      written_variable gs x.0.pattern (of_all (SlotFits gs) fit x.1) r x.2

  -- They write no register twice if the text does not.
  slots_once : Distinct (each writes ss) → Distinct (each T.overwrites (map placed ss))
  slots_once d = subst Distinct (sym slots_write) d

module _ (P : Property) (w : Within P) where
  -- A register of the property is one of the eight.
  held : (r : ℕ) → r < length P.registers → r < T.register_count
  held r l = let few : length P.registers ≤ 8 = w.few_registers in omega arith

  -- A declared method is one of the table's.
  declared : (m : Declared) → m ∈ P.methods → method m ∈ (table_of P).methods
  declared m i = Memᴰ.map method i

  -- What a call has to meet is lawful.
  call_lawful : (c : Call) → CallFits P.methods P.registers c → T.LawfulMatcher (table_of P) (matcher (events.Calls c))
  call_lawful c fit =
      let d = fit.declared in
      let long : length (map placed (parameters c)) ≡ d.0.arity = length-map (parameters c) placed ∙ call_parameters w.methods_fit c fit ∙ sym d.3 in
      record {
        shaped = subst (λ (n : ℕ). T.Shaped (table_of P) (T.called n (map placed (parameters c)))) d.2 (T.call_shaped (method d.0) (map placed (parameters c)) (declared d.0 d.1) long);
        in_range = λ r m. held r (slots_named P.registers (parameters c) fit.fit r m);
        once_written = slots_once P.registers (parameters c) fit.fit fit.once;
        constants_stay = λ r m. variable_free P.registers r (slots_written P.registers (parameters c) fit.fit r m);
      }

  -- What a return has to meet is lawful.
  answer_lawful : (a : Answer) → AnswerFits P.methods P.registers a → T.LawfulMatcher (table_of P) (matcher (events.Returns a))
  answer_lawful a fit =
      let d = fit.declared in
      let one : All (SlotFits P.registers) (a.slot ∷ []) = All-cons (SlotFits P.registers) a.slot [] fit.fits (All-nil (SlotFits P.registers)) in
      record {
        shaped = subst (λ (n : ℕ). T.Shaped (table_of P) (T.returned (placed a.slot) n)) d.2 (T.return_shaped (method d.0) (placed a.slot) (declared d.0 d.1));
        in_range = λ r m. held r (slots_named P.registers (a.slot ∷ []) one r m);
        once_written = slots_once P.registers (a.slot ∷ []) one (written_once a.slot.pattern);
        constants_stay = λ r m. variable_free P.registers r (slots_written P.registers (a.slot ∷ []) one r m);
      }
    where
      written_once : (p : Pattern ℕ) → Distinct (written_by p ++ [])
      written_once patterns.Any = tt
      written_once (patterns.Write r) = (Memᴰ.not-nil, tt)
      written_once (patterns.Same r) = tt
      written_once (patterns.Differs r) = tt

  -- What an event has to meet is lawful.
  event_lawful : (e : Event) → EventFits P.methods P.registers e → T.LawfulMatcher (table_of P) (matcher e)
  event_lawful events.Any fit = record {
    shaped = T.any_shaped;
    in_range = λ r m. absurd (Memᴰ.not-nil m);
    once_written = tt;
    constants_stay = λ r m. absurd (Memᴰ.not-nil m);
  }
  event_lawful (events.Calls c) fit = call_lawful c fit
  event_lawful (events.Returns a) fit = answer_lawful a fit

  -- A statement of the table is lawful.
  statement_lawful : (s : Statement) → StatementFits P.methods (states P) P.registers s → T.LawfulStatement (table_of P) (statement s)
  statement_lawful s fit =
      let all : T.matchers (statement s) ≡ map matcher (spanned s) = statement_matchers s (statement_some s fit) in
      let long : T.span (statement s) ≡ s.span = ap length all ∙ length-map (spanned s) matcher ∙ statement_events s fit in
      let few : s.span ≤ 4 = fit.few in
      let from : s.source < states P = fit.from in
      let to : s.target < states P = fit.to in
      let most : states P ≤ 16 = w.few_states in
      record {
        short = omega arith;
        from = omega arith;
        to = omega arith;
        not_from_error = fit.leaves;
        matched = λ m i.
            let x = Memᴰ.of_map matcher (spanned s) (subst (λ ms. m ∈ ms) all i) in
            subst (T.LawfulMatcher (table_of P)) x.2 (event_lawful x.0 (of_all (EventFits P.methods P.registers) fit.fit x.1));
      }

  -- Its table is lawful.
  pub within_lawful : T.Lawful (table_of P)
  within_lawful = record {
    few_methods = let e = length-map P.methods method in let l : length P.methods ≤ 32 = w.few_methods in omega arith;
    numbers = λ m i.
        let x = Memᴰ.of_map method P.methods i in
        subst (λ (m : ℕ × ℕ). (m.0 ≤ 65535) × (m.1 ≤ 5)) x.2 (of_all MethodFits w.methods_fit x.1);
    numbers_distinct = subst Distinct (sym (map_twice method (λ (m : ℕ × ℕ). m.0) P.methods)) w.numbers_apart;
    constants_held = λ r i. let l : r < 0 + length P.registers = constants_below 0 P.registers r i in held r (omega arith);
    constants_distinct = constants_distinct 0 P.registers;
    few_statements = let e = length-map P.statements statement in let l : length P.statements ≤ 64 = w.few_statements in omega arith;
    statements_lawful = λ t i.
        let x = Memᴰ.of_map statement P.statements i in
        subst (T.LawfulStatement (table_of P)) x.2 (statement_lawful x.0 (of_all (StatementFits P.methods (states P) P.registers) w.statements_fit x.1));
  }

  -- The test of a lawful table says so.
  pub within_tested : T.is_lawful (table_of P) ≡ true
  within_tested = (tested (table_of P)).1 within_lawful

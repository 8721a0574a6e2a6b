-- What the limits say of a call, an answer, a statement and the constants: what code needs to make a watch's statement of a property's.
use Rattle.std.proofs.Common.{◌≡◌, ℕ, suc, ◌+◌, ◌<◌, ◌≤◌, Bool, true, false, cond, ◌⊎◌, List, [], ◌∷◌, map, length, get_or, drop, refl, ap, inl, inr, arith}
use Rattle.std.specs.Prelude.{All}
use Rattle.std.proofs.lemmas.List.{drop-map, get_or-map, length-map, length-take-le}
use mathlib.Core.List.Memᴰ
use Rattle.topl.specs.Lists.{◌∈◌, Distinct}
use Rattle.topl.specs.Table as T
use Rattle.property.specs.States.{Declared, Key}
use Rattle.property.specs.declared.table.Answer.{Answer}
use Rattle.property.specs.declared.table.Call.{Call}
use Rattle.property.specs.declared.table.Event.{Event}
use Rattle.property.specs.declared.table.Statement.{Statement}
use Rattle.limits.specs.Tables.{parameters, spanned, matcher, statement, constants_from}
use Rattle.limits.specs.Limits.{CallFits, AnswerFits, StatementFits, MethodFits}
use Rattle.limits.proofs.Members.{of_all, first_and_others}

module _ {ms : List Declared} {gs : List Key} (numbered : All MethodFits ms) where
  -- A call that fits has at most five parameters.
  pub call_arity : (c : Call) → CallFits ms gs c → c.arity ≤ 5
  call_arity c fit =
      let d = fit.declared in
      let h : d.0.arity ≤ 5 = (of_all MethodFits numbered d.1).1 in
      let e : d.0.arity ≡ c.arity = d.3 in
      omega arith

  -- Its method has a number of two bytes.
  pub call_number : (c : Call) → CallFits ms gs c → c.number ≤ 65535
  call_number c fit =
      let d = fit.declared in
      let h : d.0.number ≤ 65535 = (of_all MethodFits numbered d.1).0 in
      let e : d.0.number ≡ c.number = d.2 in
      omega arith

  -- It has a pattern for each parameter.
  pub call_parameters : (c : Call) → CallFits ms gs c → length (parameters c) ≡ c.arity
  call_parameters c fit =
      let h : c.arity ≤ 5 = call_arity c fit in
      let e : length c.slots ≡ 5 = fit.five in
      length-take-le c.arity c.slots (omega arith)

  -- The method of an answer that fits has a number of two bytes.
  pub answer_number : (a : Answer) → AnswerFits ms gs a → a.number ≤ 65535
  answer_number a fit =
      let d = fit.declared in
      let h : d.0.number ≤ 65535 = (of_all MethodFits numbered d.1).0 in
      let e : d.0.number ≡ a.number = d.2 in
      omega arith

-- A statement has as many events as it spans.
pub statement_events : {ms : List Declared} {n : ℕ} {gs : List Key} (s : Statement) → StatementFits ms n gs s → length (spanned s) ≡ s.span
statement_events s fit =
    let few : s.span ≤ 4 = fit.few in
    let four : length s.events ≡ 4 = fit.four in
    length-take-le s.span s.events (omega arith)

-- They are one at least.
pub statement_some : {ms : List Declared} {n : ℕ} {gs : List Key} (s : Statement) → StatementFits ms n gs s → 1 ≤ length (spanned s)
statement_some s fit = let e = statement_events s fit in let some : 1 ≤ s.span = fit.some in omega arith

-- They are at most four.
pub statement_few : {ms : List Declared} {n : ℕ} {gs : List Key} (s : Statement) → StatementFits ms n gs s → length (spanned s) ≤ 4
statement_few s fit = let e = statement_events s fit in let few : s.span ≤ 4 = fit.few in omega arith

-- The matchers of a statement with an event are those of its events.
pub statement_matchers : (s : Statement) → 1 ≤ length (spanned s) → T.matchers (statement s) ≡ map matcher (spanned s)
statement_matchers s some =
    let e : length (map matcher (spanned s)) ≡ length (spanned s) = length-map (spanned s) matcher in
    first_and_others (map matcher (spanned s)) T.any_event (omega arith)

-- The head of a statement is the matcher of its first event.
pub statement_head : (s : Statement) (e : Event) (es : List Event) → spanned s ≡ e ∷ es → (statement s).head ≡ matcher e
statement_head s e es h = ap (λ (xs : List Event). get_or (map matcher xs) 0 T.any_event) h

-- Its rest are the matchers of the others.
pub statement_rest : (s : Statement) (e : Event) (es : List Event) → spanned s ≡ e ∷ es → (statement s).rest ≡ map matcher es
statement_rest s e es h = ap (λ (xs : List Event). drop 1 (map matcher xs)) h

-- The head, where the first event is read at its place.
pub statement_head_at : (s : Statement) (d : Event) → 1 ≤ length (spanned s) → (statement s).head ≡ matcher (get_or (spanned s) 0 d)
statement_head_at s d some = get_or-map matcher (spanned s) 0 d T.any_event (omega arith)

-- The rest, where the others are those from the second place on.
pub statement_rest_from : (s : Statement) → (statement s).rest ≡ map matcher (drop 1 (spanned s))
statement_rest_from s = drop-map matcher 1 (spanned s)

-- The register of a constant among some registers holds one.
pub constant_at : (n : ℕ) (gs : List Key) {r : ℕ} → r ∈ constants_from n gs → (k : ℕ) × (r ≡ n + k) × (k < length gs) × ((d : Key) → (get_or gs k d).constant ≡ true)
constant_at n [] m = absurd (Memᴰ.not-nil m)
constant_at n (g ∷ gs) {r} m = go g.constant refl (constant_at (suc n) gs) m
  where
    Found : ℕ → List Key → Type 0
    Found n hs = (k : ℕ) × (r ≡ n + k) × (k < length hs) × ((d : Key) → (get_or hs k d).constant ≡ true)

    later : Found (suc n) gs → Found n (g ∷ gs)
    later x = let e : r ≡ suc n + x.0 = x.1 in let l : x.0 < length gs = x.2 in (suc x.0, omega arith, omega arith, x.3)

    here : g.constant ≡ true → (r ≡ n) ⊎ (r ∈ constants_from (suc n) gs) → (r ∈ constants_from (suc n) gs → Found (suc n) gs) → Found n (g ∷ gs)
    here t (inl e) below = (0, omega arith, omega arith, λ d. t)
    here t (inr h) below = later (below h)

    go : (b : Bool) → g.constant ≡ b → (r ∈ constants_from (suc n) gs → Found (suc n) gs) → r ∈ cond b (n ∷ constants_from (suc n) gs) (constants_from (suc n) gs) → Found n (g ∷ gs)
    go true t below h = here t (Memᴰ.cases_cons h) below
    go false t below h = later (below h)

-- The registers of constants are among the registers.
pub constants_below : (n : ℕ) (gs : List Key) (r : ℕ) → r ∈ constants_from n gs → r < n + length gs
constants_below n gs r m = let x = constant_at n gs m in let e : r ≡ n + x.0 = x.1 in let l : x.0 < length gs = x.2 in omega arith

-- No constant has two registers.
pub constants_distinct : (n : ℕ) (gs : List Key) → Distinct (constants_from n gs)
constants_distinct n [] = tt
constants_distinct n (g ∷ gs) = go g.constant (constants_distinct (suc n) gs)
  where
    apart : n ∈ constants_from (suc n) gs → ⊥
    apart m = let x = constant_at (suc n) gs m in let e : n ≡ suc n + x.0 = x.1 in absurd (omega arith)

    go : (b : Bool) → Distinct (constants_from (suc n) gs) → Distinct (cond b (n ∷ constants_from (suc n) gs) (constants_from (suc n) gs))
    go true d = (apart, d)
    go false d = d

-- Labels: from their spelling to the positions of the table, and the events that they stand for.
use Rattle.std.proofs.Common.{not, ◌≡◌, ℕ, suc, ◌+◌, ◌≤◌, ◌⊎◌, ◌||◌, ◌&&◌, Bool, true, false, cond, eqb, nat_le, nat_lt, List, [], ◌∷◌, ◌++◌, map, take, length, set, codes, sym, refl, ap, ◌∙◌, subst, inl, inr, arith, append_assoc, zero, ◌<◌, get_or}
use Rattle.std.proofs.lemmas.Slice.Eq.{bytes_eq-Decides}
use Rattle.std.proofs.lemmas.List.Sums.{passes_at_first}
use Rattle.std.specs.List.{position_or_len}
use mathlib.Core.List.Memᴰ
use Rattle.std.proofs.Math.Seq.{take-suc-set}
use Rattle.std.proofs.lemmas.Bool.Decides.{nat_tests}
use Rattle.std.proofs.lemmas.List.{map-append, length-set}
use Rattle.forms.specs.Bytes.{space, Every}
use Rattle.forms.specs.Pieces.{head_of}
use Rattle.forms.specs.Pieces as pieces
use Rattle.forms.proofs.Laws.{apart}
use Rattle.limits.specs.Tables.{matcher, placed}
use Rattle.topl.specs.Lists.{◌∈◌, each}
use Rattle.topl.specs.Table as T
use Rattle.property.specs.Cursors.{to, call_of, events_of, finished, labelled, met, naming, opened, return_of, stated}
use Rattle.property.specs.Grammar.{flaws, fresh_flaws, pattern_flaws, Marked}
use Rattle.property.specs.States.{Declared, Key, State, Property, at, turned, callee_at, method_in, method_of, ninth, variable_key}
use Rattle.property.specs.Words.{reserved, same, past, first_byte, long}
use Rattle.property.specs.declared.cursor.Cursor.{Cursor}
use Rattle.property.specs.declared.spot.Inner.TheVariants as inners
use Rattle.property.specs.declared.spot.Kind.{Kind}
use Rattle.property.specs.declared.spot.Kind.TheVariants as kinds
use Rattle.property.specs.declared.spot.Label.TheVariants as labels
use Rattle.property.specs.declared.spot.Spot.TheVariants as spots
use Rattle.property.specs.declared.table.Event.{Event}
use Rattle.property.specs.declared.table.Event.TheVariants as events
use Rattle.property.specs.declared.table.Slot.{Slot}
use Rattle.property.specs.declared.table.Statement.{Statement}
use Rattle.productions.specs.Meaning.{Known, LabelFits, pattern_keys, label_keys, pattern_of, label_of, method}
use Rattle.productions.specs.Spelling.{word, sign, pattern, leading, label}
use Rattle.productions.specs.Spelling.{becomes as becoming, parameters as bracketed}
use Rattle.productions.specs.Syntax.{Pattern, anything, unlike, constant, Label, any_event, calls, returns, whole}
use Rattle.productions.specs.Syntax.{variable as a_variable}
use Rattle.productions.proofs.Leading.{Clean, Leads, along, Fine, word_letter, by_word, by_mark, by_byte, at_spot}
use Rattle.productions.proofs.Places.{Goes, goes_along}
use Rattle.productions.proofs.Putting.{holds_keys, put, puts}
use Rattle.productions.proofs.Parameters.{Admits, Named, lead, named, returned, becomes, brackets, Given, held_along, held_goes, if_false}
use Rattle.productions.proofs.Reading.{not_mark}

-- EVENTS
-- A statement has room for four events, of which it spans some.
pub record Ready (s : Statement) : Type 0 where
  pub four : length s.events ≡ 4
  pub few : s.span ≤ 4

-- What the events of a statement have to meet.
abbrev pub matched : Statement → List T.Matcher
matched s = map matcher (take s.span s.events)

-- One event more.
pub record Met (s n : Statement) (e : Event) : Type 0 where
  pub ready : Ready n
  pub span : n.span ≡ s.span + 1
  pub matches : matched n ≡ matched s ++ matcher e ∷ []

-- A row of events with one more set behind those that count.
set_more : (s : Statement) (e : Event) → Ready s → s.span ≤ 3 → map matcher (take (s.span + 1) (set s.events s.span e)) ≡ matched s ++ matcher e ∷ []
set_more s e r h =
    let f = r.four in
    let a : s.span + 1 ≡ suc s.span = omega arith in
    ap (λ (i : ℕ). map matcher (take i (set s.events s.span e))) a ∙ (ap (map matcher) (take-suc-set s.events s.span e (omega arith)) ∙ map-append matcher (take s.span s.events) (e ∷ []))

-- An event is met: there is room for it, or there is none.
meets_by : (t : Bool) (e : Event) (c : Cursor) → nat_lt c.statement.span 4 ≡ t → Ready c.statement → c.statement.span ≤ 3
    → Met c.statement (cond t (stated (record { source = c.statement.source; target = c.statement.target; events = set c.statement.events c.statement.span e; span = c.statement.span + 1 }) c) c).statement e
meets_by true e c f r h = record {
  ready = record { four = length-set c.statement.events c.statement.span e ∙ r.four; few = omega arith };
  span = refl;
  matches = set_more c.statement e r h;
}
meets_by false e c f r h = absurd (apart (nat_lt c.statement.span 4) (grind (arith, nat_tests)) f)

-- An event is met.
meets : (e : Event) (c : Cursor) → Ready c.statement → c.statement.span ≤ 3 → Met c.statement (met e c).statement e
meets e c r h = meets_by (nat_lt c.statement.span 4) e c refl r h

-- A statement keeps its states, whatever events are met.
pub record Kept (s n : Statement) : Type 0 where
  pub source : n.source ≡ s.source
  pub target : n.target ≡ s.target

-- Either way the states are kept.
kept_by : (t : Bool) (s : Statement) (c d : Cursor) → Kept s c.statement → Kept s d.statement → Kept s (cond t c d).statement
kept_by true s c d h k = h
kept_by false s c d h k = k

-- An event that is met keeps the states.
kept : (e : Event) (c : Cursor) → Kept c.statement (met e c).statement
kept e c =
    kept_by (nat_lt c.statement.span 4) c.statement (stated (record { source = c.statement.source; target = c.statement.target; events = set c.statement.events c.statement.span e; span = c.statement.span + 1 }) c) c
    (record { source = refl; target = refl }) (record { source = refl; target = refl })

-- They are kept from a statement to another and on.
pub kept_along : (s n o : Statement) → Kept s n → Kept n o → Kept s o
kept_along s n o h k = record { source = k.source ∙ h.source; target = k.target ∙ h.target }

-- They are kept from an equal statement.
pub kept_from : (s t n : Statement) → s ≡ t → Kept s n → Kept t n
kept_from s t n e h = subst (λ (y : Statement). Kept y n) e h

-- The events of a label keep the states.
kept_events : (d : Kind) (c : Cursor) → Kept c.statement (events_of d c).statement
kept_events kinds.Call c = kept (call_of c.label) c
kept_events kinds.Return c = kept (return_of c.label) c
kept_events kinds.Both c = kept_along c.statement (met (call_of c.label) c).statement _ (kept (call_of c.label) c) (kept (return_of c.label) (met (call_of c.label) c))

-- No method has more than five parameters.
abbrev pub Few : List Declared → Type 0
Few ms = (w : List ℕ) → (method_in ms w).arity ≤ 5

-- The matchers ms were added, once the registers gs are all known.
pub record Adds (s n : Statement) (gs : List Key) (ms : List Key → List T.Matcher) : Type 0 where
  pub ready : Ready n
  pub matches : (g : List Key) → Goes gs g → matched n ≡ matched s ++ ms g

-- LABELS
-- A label was read at p: the position behind it, the statement once the label has ended, and what was added.
pub record Labelled (p : State) (a : ℕ) (l : Label) (s r : List ℕ) : Type 0 where
  pub on : State
  pub place : ℕ
  pub leads : Leads p a s on place r
  pub now : Statement
  pub ends : ((on.cursor.spot ≡ spots.Label labels.Star) × (now ≡ (met events.Any on.cursor).statement)) ⊎ ((on.cursor.spot ≡ spots.Label labels.End) × (now ≡ on.cursor.statement))
  pub sofar : on.sofar ≡ holds_keys (label_keys l) p.sofar
  pub kept : Kept p.cursor.statement now
  pub adds : Clean p a s → Few p.sofar.methods → Ready p.cursor.statement → Adds p.cursor.statement now on.sofar.registers (λ g. T.label_matchers (label_of p.sofar.methods g l))
  pub fits : Clean p a s → Few p.sofar.methods → LabelFits p.sofar.methods l

-- The first test of a piece without fault says no.
pub no_first : (t : Bool) (n : ℕ) (k : List (Bool × ℕ)) → ((m : ℕ) → Marked ((t, n) ∷ k) m → ⊥) → t ≡ false
no_first true n k h = absurd (h n (inl (refl, refl)))
no_first false n k h = refl

-- A number that another does not pass.
pub below : (m n : ℕ) → nat_le (suc m) n ≡ false → n ≤ m
below m n h = grind (arith, nat_tests)

-- Of two tests that both say no, the first.
or_left : (a b : Bool) → (a || b) ≡ false → a ≡ false
or_left true b e = e
or_left false b e = refl

-- Of two tests that both say no, the second.
or_right : (a b : Bool) → (a || b) ≡ false → b ≡ false
or_right true b e = apart true refl e
or_right false b e = e

-- `*`
star_read : (p : State) (a : ℕ) (s r : List ℕ) → sign "*" s r → Labelled (turned (spots.Label labels.Begin) p) a any_event s r
star_read p a s r h =
    let q = turned (spots.Label labels.Begin) p in
    let o = turned (spots.Label labels.Star) p in
    let x = by_mark q a 42 s r refl refl h in
    record {
      on = o;
      place = x.place;
      leads = x.leads;
      now = (met events.Any o.cursor).statement;
      ends = inl (refl, refl);
      sofar = refl;
      kept = kept events.Any o.cursor;
      adds = λ c f y.
          let z = no_first (nat_le 4 p.cursor.statement.span || (nat_le 3 p.cursor.statement.span && eqb (first_byte (past space r)) 58)) 11 [] (x.fine c) in
          let m = meets events.Any o.cursor y (below 3 p.cursor.statement.span (or_left (nat_le 4 p.cursor.statement.span) _ z)) in
          record { ready = m.ready; matches = λ g j. m.matches };
      fits = λ c f. tt;
    }

-- A method's name, before its parameters.
abbrev titled : List ℕ → State → State
titled m q = at (labelled (naming (method_of q.sofar m).number (method_of q.sofar m).arity q.cursor.label) q.cursor) q

-- An element at a place of a list is in the list.
get_or_mem : {X : Type 0} (xs : List X) (i : ℕ) (d : X) → i < length xs → get_or xs i d ∈ xs
get_or_mem [] i d h = absurd (omega arith)
get_or_mem (x ∷ xs) zero d h = Memᴰ.head refl
get_or_mem (x ∷ xs) (suc i) d h = Memᴰ.tail (get_or_mem xs i d (omega arith))

-- A method's name that has no fault is declared.
known : (ms : List Declared) (w : List ℕ) (a b : Bool × ℕ)
    → ((n : ℕ) → Marked (a ∷ b ∷ (not (nat_lt (position_or_len (λ m. same w m.name) ms) (length ms)), 12) ∷ []) n → ⊥) → Known ms w
known ms w a b h =
    let none : Declared = record { name = []; number = 0; arity = 0 } in
    let i = position_or_len (λ (m : Declared). same w m.name) ms in
    let e = no_first (not (nat_lt i (length ms))) 12 [] (λ n k. h n (inr (inr k))) in
    let l : i < length ms = within i (length ms) e in
    (get_or_mem ms i none l, sym ((bytes_eq-Decides w (get_or ms i none).name).0 (passes_at_first (λ m. same w m.name) ms none l)))
  where
    within : (i n : ℕ) → not (nat_lt i n) ≡ false → i < n
    within i n e = grind (arith, nat_tests)

-- By the name of the method before the brackets.
callee_opens : (d : Kind) (q : State) (a : ℕ) (m s r : List ℕ) → q.cursor.label.kind ≡ d → ((u : Cursor) → callee_at d u ≡ to (spots.Label labels.Open) u) → word m s r
    → (c : ℕ) × Leads (turned (spots.Label labels.Callee) q) a s (turned (spots.Label labels.Open) (titled m q)) c r × (Clean (turned (spots.Label labels.Callee) q) a s → Known q.sofar.methods m)
callee_opens d q a m s r e f h =
    let o = turned (spots.Label labels.Callee) q in
    let x = by_word o a m s r refl (word_letter m s r h) h in
    let u = labelled (naming (method_of q.sofar m).number (method_of q.sofar m).arity q.cursor.label) o.cursor in
    let i : at (callee_at q.cursor.label.kind u) o ≡ turned (spots.Label labels.Open) (titled m q) = ap (λ (k : Kind). at (callee_at k u) o) e ∙ ap (λ (v : Cursor). at v o) (f u) in
    (x.place, subst (λ (z : State). Leads o a s z x.place r) i x.leads, λ c. known q.sofar.methods m (reserved m, 10) (long m, 11) (x.fine c))

-- Where the brackets have closed the method has as many parameters as there are patterns.
arity_by : (p q : State) (ps : List Pattern) → Given p q ps → p.cursor.label.count ≡ 1 → p.cursor.label.arity ≤ 5 → q.cursor.label.count ≡ q.cursor.label.arity + 1
    → p.cursor.label.arity ≡ length ps
arity_by p q ps v e h f =
    let a = v.arity in
    let c = v.count (omega arith) in
    omega (arith, a, c, e, f)

-- The call of a label whose brackets have closed.
called_by : (p q : State) (ps : List Pattern) → Given p q ps → p.cursor.label.count ≡ 1 → length p.cursor.label.slots ≡ 5 → p.cursor.label.arity ≤ 5
    → q.cursor.label.count ≡ q.cursor.label.arity + 1 → (g : List Key) → Goes q.sofar.registers g
    → matcher (call_of q.cursor.label) ≡ T.called p.cursor.label.number (map (pattern_of g) ps)
called_by p q ps v e l h f g j =
    let a = v.arity in
    let c = v.count (omega arith) in
    let n : q.cursor.label.arity ≡ length ps = omega arith in
    let z : 0 + length ps ≡ length ps = omega arith in
    let s = v.slots 0 e (omega arith) l g j in
    ap (λ (i : ℕ). T.called i (map placed (take q.cursor.label.arity q.cursor.label.slots))) v.number
    ∙ ap (T.called p.cursor.label.number) (ap (λ (i : ℕ). map placed (take i q.cursor.label.slots)) (n ∙ sym z) ∙ s)

-- An equal statement is ready too.
pub ready_from : (s t : Statement) → s ≡ t → Ready s → Ready t
ready_from s t e h = subst Ready e h

-- `call m(ps)`
call_read : (m : List ℕ) (ps : List Pattern) (p : State) (a : ℕ) (s r : List ℕ) → label (calls m ps) s r → Labelled (turned (spots.Label labels.Begin) p) a (calls m ps) s r
call_read m ps p a s r (u1, h, (u2, i, j)) =
    let q = turned (spots.Label labels.Begin) p in
    let x = by_word q a (codes "call") s u1 refl refl h in
    let o : State = at (labelled (opened kinds.Call 1) p.cursor) p in
    let y = callee_opens kinds.Call o x.place m u1 u2 refl (λ u. refl) i in
    let b = brackets ps (titled m o) y.0 u2 r refl j in
    let c = b.on.cursor in
    let v = b.given in
    let k : c.label.kind ≡ kinds.Call = v.kind in
    let lead = along x.leads y.1 in
    record {
      fits = λ e f. (y.2 (x.leads.clean e), arity_by (turned (spots.Label labels.Open) (titled m o)) b.on ps v refl (f m) (b.full (lead.clean e)));
      on = at (finished c) b.on;
      place = b.place;
      leads = along lead b.leads;
      now = (events_of c.label.kind c).statement;
      ends = inr (refl, refl);
      sofar = v.sofar;
      kept = kept_from c.statement p.cursor.statement (events_of c.label.kind c).statement v.statement (kept_events c.label.kind c);
      adds = λ e f z.
          let n = no_first (nat_le 4 p.cursor.statement.span) 11 [] (x.fine e) in
          let w = v.statement in
          let t = meets (call_of c.label) c (ready_from p.cursor.statement c.statement (sym w) z) (subst (λ (y : Statement). y.span ≤ 3) (sym w) (below 3 p.cursor.statement.span n)) in
          let g : (events_of c.label.kind c).statement ≡ (met (call_of c.label) c).statement = ap (λ (d : Kind). (events_of d c).statement) k in
          subst (λ (y : Statement). Adds p.cursor.statement y b.on.sofar.registers (λ g. T.label_matchers (label_of p.sofar.methods g (calls m ps)))) (sym g)
          (record {
            ready = t.ready;
            matches = λ d j.
                t.matches ∙ (ap (λ (y : Statement). matched y ++ matcher (call_of c.label) ∷ []) w
                ∙ ap (λ (y : T.Matcher). matched p.cursor.statement ++ y ∷ []) (called_by (turned (spots.Label labels.Open) (titled m o)) b.on ps v refl refl (f m) (b.full (lead.clean e)) d j));
          });
    }

-- `ret p := m`
return_read : (x : Pattern) (m : List ℕ) (p : State) (a : ℕ) (s r : List ℕ) → label (returns x m) s r → Labelled (turned (spots.Label labels.Begin) p) a (returns x m) s r
return_read x m p a s r (u1, h, (u2, i, (u3, j, l))) =
    let q = turned (spots.Label labels.Begin) p in
    let y = by_word q a (codes "ret") s u1 refl refl h in
    let o : State = turned (spots.Inner inners.Returned) (at (labelled (opened kinds.Return 0) p.cursor) p) in
    let z = returned x (at (labelled (opened kinds.Return 0) p.cursor) p) y.place u1 u2 i in
    let n = put x z.at o in
    let v = puts x z.at o in
    let b = at_spot (λ (w : State). (c : ℕ) × Leads w z.place u2 (turned (spots.Label labels.Callee) n) c u3) n (spots.Label labels.Becomes) v.spot (becomes n z.place u2 u3 j) in
    let w = by_word (turned (spots.Label labels.Callee) n) b.0 m u3 r refl (word_letter m u3 r l) l in
    let c = labelled (naming (method_of n.sofar m).number (method_of n.sofar m).arity n.cursor.label) (to (spots.Label labels.Callee) n.cursor) in
    let k : n.cursor.label.kind ≡ kinds.Return = v.label.kind in
    let e : at (callee_at n.cursor.label.kind c) (turned (spots.Label labels.Callee) n) ≡ at (finished c) n = ap (λ (d : Kind). at (callee_at d c) n) k in
    let lead = along y.leads (along z.leads b.1) in
    record {
      fits = λ e f.
          subst (λ (ms : List Declared). Known ms m) (ap (λ (P : Property). P.methods) v.sofar)
          (known n.sofar.methods m (reserved m, 10) (long m, 11) (w.fine (lead.clean e)));
      on = at (finished c) n;
      place = w.place;
      leads = along lead (subst (λ (t : State). Leads (turned (spots.Label labels.Callee) n) b.0 u3 t w.place r) e w.leads);
      now = (events_of c.label.kind c).statement;
      ends = inr (refl, refl);
      sofar = v.sofar;
      kept = kept_from c.statement p.cursor.statement (events_of c.label.kind c).statement v.statement (kept_events c.label.kind c);
      adds = λ e f z.
          let no = no_first (nat_le 4 p.cursor.statement.span) 11 [] (y.fine e) in
          let i = v.statement in
          let t = meets (return_of c.label) c (ready_from p.cursor.statement c.statement (sym i) z) (subst (λ (y : Statement). y.span ≤ 3) (sym i) (below 3 p.cursor.statement.span no)) in
          let g : (events_of c.label.kind c).statement ≡ (met (return_of c.label) c).statement = ap (λ (d : Kind). (events_of d c).statement) k in
          subst (λ (y : Statement). Adds p.cursor.statement y n.sofar.registers (λ g. T.label_matchers (label_of p.sofar.methods g (returns x m)))) (sym g)
          (record {
            ready = t.ready;
            matches = λ d j.
                t.matches ∙ (ap (λ (y : Statement). matched y ++ matcher (return_of c.label) ∷ []) i
                ∙ (ap (λ (y : Property). matched p.cursor.statement ++ T.returned (placed n.cursor.label.returned) (method_in y.methods m).number ∷ []) v.sofar
                ∙ (ap (λ (y : Slot). matched p.cursor.statement ++ T.returned (placed y) (method p.sofar.methods m) ∷ []) v.label.returned
                ∙ ap (λ (y : T.Pattern). matched p.cursor.statement ++ T.returned y (method p.sofar.methods m) ∷ []) (v.stands d j))));
          });
    }

-- `p := m(ps)`, up to its method.
record Half (p : State) (a : ℕ) (x : Pattern) (s r : List ℕ) : Type 0 where
  on : State
  place : ℕ
  leads : Leads p a s (turned (spots.Label labels.Callee) on) place r
  kind : on.cursor.label.kind ≡ kinds.Both
  count : on.cursor.label.count ≡ 1
  five : length on.cursor.label.slots ≡ 5
  statement : on.cursor.statement ≡ p.cursor.statement
  sofar : on.sofar ≡ holds_keys (pattern_keys x) p.sofar
  stands : (g : List Key) → Goes on.sofar.registers g → placed on.cursor.label.returned ≡ pattern_of g x
  room : Clean p a s → p.cursor.statement.span ≤ 2

-- After spaces a byte that is none comes next.
past_spaces : (sp : List ℕ) (c : ℕ) (u : List ℕ) → Every space sp → space c ≡ false → past space (sp ++ c ∷ u) ≡ c ∷ u
past_spaces [] c u g e = ap (λ (b : Bool). cond b (past space u) (c ∷ u)) e
past_spaces (d ∷ sp) c u g e = ap (λ (b : Bool). cond b (past space (sp ++ c ∷ u)) (d ∷ (sp ++ c ∷ u))) g.0 ∙ past_spaces sp c u g.1 e

-- With `*` for the returned value.
half_star : (p : State) (a : ℕ) (s u r : List ℕ) → sign "*" s u → becoming u r → Half (turned (spots.Label labels.Begin) p) a anything s r
half_star p a s u r h (v, i, j) =
    let q = turned (spots.Label labels.Begin) p in
    let x = by_mark q a 42 s u refl refl h in
    let y = by_mark (turned (spots.Label labels.Star) p) x.place 58 u v refl refl i in
    let o = at (labelled (opened kinds.Both 1) p.cursor) p in
    let z = by_byte (turned (spots.Label labels.Equals) o) y.place 61 v r refl refl j in
    record {
      on = o;
      place = z.place;
      leads = along x.leads (along y.leads z.leads);
      kind = refl;
      count = refl;
      five = refl;
      statement = refl;
      sofar = refl;
      stands = λ g k. refl;
      room = λ c.
          let n = no_first (nat_le 4 p.cursor.statement.span || (nat_le 3 p.cursor.statement.span && eqb (first_byte (past space u)) 58)) 11 [] (x.fine c) in
          let b : eqb (first_byte (past space u)) 58 ≡ true = ap (λ (w : List ℕ). eqb (first_byte (past space w)) 58) i.1.0 ∙ ap (λ (w : List ℕ). eqb (first_byte w) 58) (past_spaces i.0 58 v i.1.1 refl) in
          let d = or_right (nat_le 4 p.cursor.statement.span) _ n in
          below 2 p.cursor.statement.span (and_left (nat_le 3 p.cursor.statement.span) _ b d);
    }
  where
    and_left : (b d : Bool) → d ≡ true → (b && d) ≡ false → b ≡ false
    and_left true d e f = apart d e f
    and_left false d e f = refl

-- The first bytes of a label are no keyword.
abbrev Free : List ℕ → Type 0
Free w = (same w (codes "call") ≡ false) × (same w (codes "ret") ≡ false)

-- A label may begin with a pattern that is not `*` and no keyword.
begin_admits : (p : State) → Admits (turned (spots.Label labels.Begin) p) (at (labelled (opened kinds.Both 0) p.cursor) (turned (spots.Label labels.Begin) p)) Free
begin_admits p = record {
  loose = refl;
  opens = λ c e. e;
  begin = λ w c k g o e. if_false (eqb c 42) (turned (spots.Label labels.Star) p) _ e ∙ (if_false (same w (codes "call")) _ _ g.0 ∙ if_false (same w (codes "ret")) _ _ g.1);
}

-- A pattern that begins a label has room for two events.
room_for : (x : Pattern) (p : State) (s u v : List ℕ) → Named x Free → pattern x s u → Fine (turned (spots.Label labels.Begin) p) (lead x) v → nat_le 3 p.cursor.statement.span ≡ false
room_for anything p s u v n h f = absurd n
room_for (a_variable w) p s u v n h f =
    let q = turned (spots.Label labels.Begin) p in
    let c = head_of (pieces.word w) in
    let l = word_letter w s u h in
    let late = nat_le 3 p.cursor.statement.span in
    let e : flaws q w c v ≡ fresh_flaws late q w =
    if_false (eqb c 42) _ _ (not_mark c 42 l refl)
    ∙ (if_false (same w (codes "call") || same w (codes "ret")) _ _ (neither (same w (codes "call")) (same w (codes "ret")) n.0 n.1)
    ∙ ap (λ (b : Bool). cond b (fresh_flaws late q w) (pattern_flaws late q w c v)) l) in
    let g : (m : ℕ) → Marked (fresh_flaws late q w) m → ⊥ = subst (λ (k : List (Bool × ℕ)). (m : ℕ) → Marked k m → ⊥) e f in
    or_left late (ninth q.sofar (variable_key w)) (or_right (long w) _ (no_first (long w || (late || ninth q.sofar (variable_key w))) 11 [] (λ m k. g m (inr k))))
  where
    neither : (a b : Bool) → a ≡ false → b ≡ false → (a || b) ≡ false
    neither true b e f = e
    neither false b e f = f
room_for (unlike w) p s u v n h f = or_left (nat_le 3 p.cursor.statement.span) _ (no_first _ 11 [] f)
room_for (constant w) p s u v n h f = or_left (nat_le 3 p.cursor.statement.span) _ (no_first _ 11 [] f)

-- With another pattern for the returned value.
half_named : (x : Pattern) (p : State) (a : ℕ) (s u r : List ℕ) → Named x Free → pattern x s u → becoming u r → Half (turned (spots.Label labels.Begin) p) a x s r
half_named x p a s u r f h i =
    let q = turned (spots.Label labels.Begin) p in
    let o = at (labelled (opened kinds.Both 0) p.cursor) q in
    let y = named x q o a s u Free (begin_admits p) f h in
    let n = put x y.at o in
    let v = puts x y.at o in
    let b = at_spot (λ (w : State). (c : ℕ) × Leads w y.place u (turned (spots.Label labels.Callee) n) c r) n (spots.Label labels.Becomes) v.spot (becomes n y.place u r i) in
    record {
      on = n;
      place = b.0;
      leads = along y.leads b.1;
      kind = v.label.kind;
      count = v.label.count;
      five = ap length v.label.slots;
      statement = v.statement;
      sofar = v.sofar;
      stands = λ g j. ap placed v.label.returned ∙ v.stands g j;
      room = λ c. let z = y.fine c in below 2 p.cursor.statement.span (room_for x p s u z.0 f h z.1);
    }

-- From the method on.
whole_read : (x : Pattern) (m : List ℕ) (ps : List Pattern) (p : State) (a : ℕ) (s u r : List ℕ) → Half (turned (spots.Label labels.Begin) p) a x s u → (v : List ℕ) → word m u v → bracketed ps v r
    → Labelled (turned (spots.Label labels.Begin) p) a (whole x m ps) s r
whole_read x m ps p a s u r o v h i =
    let n = o.on in
    let y = callee_opens kinds.Both n o.place m u v o.kind (λ w. refl) h in
    let b = brackets ps (titled m n) y.0 v r (ap (λ (k : ℕ). eqb k 0) o.count) i in
    let c = b.on.cursor in
    let w = b.given in
    let k : c.label.kind ≡ kinds.Both = w.kind ∙ o.kind in
    let z = w.statement ∙ o.statement in
    let lead = along o.leads y.1 in
    let first = met (call_of c.label) c in
    let same_methods : n.sofar.methods ≡ p.sofar.methods = ap (λ (y : Property). y.methods) o.sofar in
    record {
      fits = λ e f.
          let few : (method_in n.sofar.methods m).arity ≤ 5 = subst (λ (ms : List Declared). (method_in ms m).arity ≤ 5) (sym same_methods) (f m) in
          subst (λ (ms : List Declared). LabelFits ms (whole x m ps)) same_methods
          (y.2 (o.leads.clean e), arity_by (turned (spots.Label labels.Open) (titled m n)) b.on ps w o.count few (b.full (lead.clean e)));
      on = at (finished c) b.on;
      place = b.place;
      leads = along lead b.leads;
      now = (events_of c.label.kind c).statement;
      ends = inr (refl, refl);
      sofar = held_along (pattern_keys x) (each pattern_keys ps) p.sofar n.sofar b.on.sofar o.sofar w.sofar;
      kept = kept_from c.statement p.cursor.statement (events_of c.label.kind c).statement z (kept_events c.label.kind c);
      adds = λ e f t.
          let g : (events_of c.label.kind c).statement ≡ (met (return_of c.label) first).statement = ap (λ (d : Kind). (events_of d c).statement) k in
          let room = o.room e in
          let t1 = meets (call_of c.label) c (ready_from p.cursor.statement c.statement (sym z) t) (subst (λ (y : Statement). y.span ≤ 3) (sym z) (omega arith)) in
          let span2 : c.statement.span ≤ 2 = subst (λ (y : Statement). y.span ≤ 2) (sym z) room in
          let t2 = meets (return_of c.label) first t1.ready (let e1 = t1.span in omega (arith, e1, span2)) in
          let few : (method_in n.sofar.methods m).arity ≤ 5 = subst (λ (ms : List Declared). (method_in ms m).arity ≤ 5) (sym same_methods) (f m) in
          subst (λ (y : Statement). Adds p.cursor.statement y b.on.sofar.registers (λ g. T.label_matchers (label_of p.sofar.methods g (whole x m ps)))) (sym g)
          (record {
            ready = t2.ready;
            matches = λ d j.
                let called = called_by (turned (spots.Label labels.Open) (titled m n)) b.on ps w o.count o.five few (b.full (lead.clean e)) d j in
                let number : (method_in n.sofar.methods m).number ≡ method p.sofar.methods m = ap (λ (ms : List Declared). (method_in ms m).number) same_methods in
                let goes : Goes n.sofar.registers d = goes_along n.sofar.registers b.on.sofar.registers d (held_goes (each pattern_keys ps) n.sofar b.on.sofar w.sofar) j in
                let call : matcher (call_of c.label) ≡ T.called (method p.sofar.methods m) (map (pattern_of d) ps) = called ∙ ap (λ (i : ℕ). T.called i (map (pattern_of d) ps)) number in
                let back : matcher (return_of c.label) ≡ T.returned (pattern_of d x) (method p.sofar.methods m) =
                ap (λ (i : ℕ). T.returned (placed c.label.returned) i) (w.number ∙ number)
                ∙ (ap (λ (y : Slot). T.returned (placed y) (method p.sofar.methods m)) w.returned ∙ ap (λ (y : T.Pattern). T.returned y (method p.sofar.methods m)) (o.stands d goes)) in
                t2.matches
                ∙ (ap (λ (ms : List T.Matcher). ms ++ matcher (return_of c.label) ∷ []) t1.matches
                ∙ (append_assoc (matched c.statement) (matcher (call_of c.label) ∷ []) (matcher (return_of c.label) ∷ [])
                ∙ (ap (λ (y : Statement). matched y ++ (matcher (call_of c.label) ∷ matcher (return_of c.label) ∷ [])) z
                ∙ (ap (λ (y : T.Matcher). matched p.cursor.statement ++ (y ∷ matcher (return_of c.label) ∷ [])) call
                ∙ ap (λ (y : T.Matcher). matched p.cursor.statement ++ (T.called (method p.sofar.methods m) (map (pattern_of d) ps) ∷ y ∷ [])) back))));
          });
    }

-- With any pattern for the returned value.
begun : (x : Pattern) (p : State) (a : ℕ) (s u r : List ℕ) → leading x s u → becoming u r → Half (turned (spots.Label labels.Begin) p) a x s r
begun anything p a s u r h i = half_star p a s u r h.1 i
begun (a_variable w) p a s u r h i = half_named (a_variable w) p a s u r h.0 h.1 i
begun (unlike w) p a s u r h i = half_named (unlike w) p a s u r (refl, refl) h.1 i
begun (constant w) p a s u r h i = half_named (constant w) p a s u r (refl, refl) h.1 i

-- Each label.
pub labelled_by : (l : Label) (p : State) (a : ℕ) (s r : List ℕ) → label l s r → Labelled (turned (spots.Label labels.Begin) p) a l s r
labelled_by any_event p a s r h = star_read p a s r h
labelled_by (calls m ps) p a s r h = call_read m ps p a s r h
labelled_by (returns x m) p a s r h = return_read x m p a s r h
labelled_by (whole x m ps) p a s r (u, h, (v, i, (w, j, k))) = whole_read x m ps p a s v r (begun x p a s u v h i) w j k

-- Lines: from their spelling to the positions of the table, and what they write.
use Rattle.std.proofs.Common.{◌≡◌, ℕ, zero, suc, ◌+◌, ◌<◌, ◌≤◌, ◌⊎◌, ◌&&◌, not, ◌==◌, Bool, true, false, cond, eqb, nat_eq, nat_le, nat_lt, get_or, List, [], ◌∷◌, ◌++◌, map, length, codes, sym, refl, ap, ◌∙◌, subst, inl, inr, arith, append-nil, append_assoc, eqb-true, length-append, All}
use Rattle.std.proofs.lemmas.Bool.{cases_Bool, eqb-false}
use Rattle.std.proofs.lemmas.Bool.Decides.{nat_tests}
use Rattle.std.proofs.lemmas.List.{map-append}
use Rattle.std.proofs.lemmas.List.Elements.{All-nil, All-cons}
use Rattle.std.proofs.lemmas.List.Sums.{prefix_len-le-length}
use Rattle.std.specs.List.{list_any, position_or_len}
use Rattle.forms.specs.Bytes.{space, Every, value}
use Rattle.forms.specs.Grammars.{Takes, stop}
use Rattle.forms.specs.Pieces.{head_of}
use Rattle.forms.specs.Pieces as pieces
use Rattle.forms.proofs.Laws.{apart}
use Rattle.limits.specs.Tables.{over}
use Rattle.limits.specs.Tables.{statement as table_statement}
use Rattle.topl.specs.Lists.{each}
use Rattle.topl.specs.Table as T
use Rattle.property.specs.Cursors.{met}
use Rattle.property.specs.Grammar.{text}
use Rattle.property.specs.States.{Declared, Key, State, Property, at, turned, moved, capped, declares, ends_statement, is_error, is_start, leaving, named, nothing_read, reaching, same_key, state_number, visited, with_state, with_statement}
use Rattle.property.specs.Words.{same}
use Rattle.property.specs.declared.spot.Head.TheVariants as heads
use Rattle.property.specs.declared.spot.Label.TheVariants as labels
use Rattle.property.specs.declared.spot.Line.TheVariants as lines
use Rattle.property.specs.declared.spot.Route.TheVariants as routes
use Rattle.property.specs.declared.spot.Spot.TheVariants as spots
use Rattle.property.specs.declared.table.Event.TheVariants as events
use Rattle.property.specs.declared.table.Statement.{Statement as Row}
use Rattle.productions.specs.Meaning.{LabelFits, StatementFits, label_keys, label_of, other_state, state, statement_keys, statement_of, statement_states, Means}
use Rattle.productions.specs.Spelling.{◌⨾◌, NoMethod, Spells, sign, newline, ending, first_line, more_labels, method_line, method_lines, statement_line, statement_lines}
use Rattle.productions.specs.Syntax.{Label, Statement, Tree}
use Rattle.productions.proofs.Leading.{Clean, Leads, along, stay, word_letter, number_digit, by_word, by_number, by_mark, by_byte, at_spot}
use Rattle.productions.proofs.Places.{Goes, goes_along, goes_grow, grow, grow_append, grown_firsts, keys_tell, place_stays, words_tell}
use Rattle.productions.proofs.Putting.{holds_keys}
use Rattle.productions.proofs.Parameters.{held_along, held_goes, if_false}
use Rattle.productions.proofs.Labels.{Adds, Few, Kept, Ready, kept_along, kept_from, labelled_by, matched, no_first, ready_from}
use Rattle.productions.proofs.Reading.{some_come}

-- FURTHER LABELS
-- Behind a label, where its statement is n once the label has ended.
abbrev pub Ends : State → Row → Type 0
Ends p n = ((p.cursor.spot ≡ spots.Label labels.Star) × (n ≡ (met events.Any p.cursor).statement)) ⊎ ((p.cursor.spot ≡ spots.Label labels.End) × (n ≡ p.cursor.statement))

-- The label ends, and another begins.
record Again (p : State) (n : Row) (a : ℕ) (s u : List ℕ) : Type 0 where
  on : State
  place : ℕ
  leads : Leads p a s (turned (spots.Label labels.Begin) on) place u
  statement : on.cursor.statement ≡ n
  sofar : on.sofar ≡ p.sofar

-- By the semicolon.
again : (p : State) (n : Row) (a : ℕ) (s u : List ℕ) → Ends p n → sign ";" s u → Again p n a s u
again p n a s u (inl (e, f)) h =
    subst (λ (m : Row). Again p m a s u) (sym f)
    (at_spot (λ (q : State). Again q (met events.Any q.cursor).statement a s u) p (spots.Label labels.Star) e
    (let q = turned (spots.Label labels.Star) p in
    let x = by_mark q a 59 s u refl refl h in
    record { on = at (met events.Any q.cursor) q; place = x.place; leads = x.leads; statement = refl; sofar = refl }))
again p n a s u (inr (e, f)) h =
    subst (λ (m : Row). Again p m a s u) (sym f)
    (at_spot (λ (q : State). Again q q.cursor.statement a s u) p (spots.Label labels.End) e
    (let q = turned (spots.Label labels.End) p in
    let x = by_mark q a 59 s u refl refl h in
    record { on = p; place = x.place; leads = x.leads; statement = refl; sofar = refl }))

-- Labels were read since p, where the statement was n.
record Series (p : State) (n : Row) (a : ℕ) (ls : List Label) (s r : List ℕ) : Type 0 where
  on : State
  place : ℕ
  leads : Leads p a s on place r
  now : Row
  ends : Ends on now
  sofar : on.sofar ≡ holds_keys (each label_keys ls) p.sofar
  kept : Kept n now
  adds : Clean p a s → Few p.sofar.methods → Ready n → Adds n now on.sofar.registers (λ g. each T.label_matchers (map (label_of p.sofar.methods g) ls))
  fits : Clean p a s → Few p.sofar.methods → All (LabelFits p.sofar.methods) ls

-- Further labels.
series : (ls : List Label) (p : State) (n : Row) (a : ℕ) (s r : List ℕ) → Ends p n → more_labels ls s r → Series p n a ls s r
series [] p n a s r e h = record {
  on = p;
  place = a;
  leads = subst (λ (u : List ℕ). Leads p a s p a u) h (stay p a s);
  now = n;
  ends = e;
  sofar = refl;
  kept = record { source = refl; target = refl };
  adds = λ c f y. record { ready = y; matches = λ g j. sym (append-nil (matched n)) };
  fits = λ c f. All-nil (LabelFits p.sofar.methods);
}
series (l ∷ ls) p n a s r e (u, h, (v, i, j)) =
    let x = again p n a s u e h in
    let y = labelled_by l x.on x.place u v i in
    let z = series ls y.on y.now y.place v r y.ends j in
    let b = x.on in
    let lead = along x.leads y.leads in
    let first : y.on.sofar ≡ holds_keys (label_keys l) p.sofar = y.sofar ∙ ap (holds_keys (label_keys l)) x.sofar in
    let ms : y.on.sofar.methods ≡ p.sofar.methods = ap (λ (P : Property). P.methods) first in
    let mb : b.sofar.methods ≡ p.sofar.methods = ap (λ (P : Property). P.methods) x.sofar in
    record {
      on = z.on;
      place = z.place;
      leads = along lead z.leads;
      now = z.now;
      ends = z.ends;
      sofar = held_along (label_keys l) (each label_keys ls) p.sofar y.on.sofar z.on.sofar first z.sofar;
      kept = kept_along n y.now z.now (kept_from b.cursor.statement n y.now x.statement y.kept) z.kept;
      fits = λ c f.
          All-cons (LabelFits p.sofar.methods) l ls (subst (λ (l' : List Declared). LabelFits l' l) mb (y.fits (x.leads.clean c) (subst Few (sym mb) f)))
          (subst (λ (l' : List Declared). All (LabelFits l') ls) ms (z.fits (lead.clean c) (subst Few (sym ms) f)));
      adds = λ c f w.
          let o = y.adds (x.leads.clean c) (subst Few (sym mb) f) (ready_from n b.cursor.statement (sym x.statement) w) in
          let k = z.adds (lead.clean c) (subst Few (sym ms) f) o.ready in
          record {
            ready = k.ready;
            matches = λ g q.
                let t = goes_along y.on.sofar.registers z.on.sofar.registers g (held_goes (each label_keys ls) y.on.sofar z.on.sofar z.sofar) q in
                k.matches g q
                ∙ (ap (λ (k : List Declared). matched y.now ++ each T.label_matchers (map (label_of k g) ls)) ms
                ∙ (ap (λ (ts : List T.Matcher). ts ++ each T.label_matchers (map (label_of p.sofar.methods g) ls)) (o.matches g t)
                ∙ (append_assoc (matched b.cursor.statement) (T.label_matchers (label_of b.sofar.methods g l)) (each T.label_matchers (map (label_of p.sofar.methods g) ls))
                ∙ (ap (λ (k : List Declared). matched b.cursor.statement ++ (T.label_matchers (label_of k g l) ++ each T.label_matchers (map (label_of p.sofar.methods g) ls))) mb
                ∙ ap (λ (k : Row). matched k ++ (T.label_matchers (label_of p.sofar.methods g l) ++ each T.label_matchers (map (label_of p.sofar.methods g) ls))) x.statement))));
          };
    }

-- STATES
-- The property with these states written in it.
abbrev pub visits : List (List ℕ) → Property → Property
visits ws P = record { name = P.name; methods = P.methods; others = grow same ws P.others; registers = P.registers; statements = P.statements }

-- A state is `start`, `error`, known or new.
visited_by : (a b t : Bool) (w : List ℕ) (P : Property) → position_or_len (same w) P.others == length P.others ≡ t
    → cond (not a && (not b && t)) (with_state w P) P ≡ visits (cond a [] (cond b [] (w ∷ []))) P
visited_by true b t w P e = refl
visited_by false true t w P e = refl
visited_by false false true w P e = ap (λ (c : Bool). record { name = P.name; methods = P.methods; others = cond c (P.others ++ w ∷ []) P.others; registers = P.registers; statements = P.statements }) (sym e)
visited_by false false false w P e = ap (λ (c : Bool). record { name = P.name; methods = P.methods; others = cond c (P.others ++ w ∷ []) P.others; registers = P.registers; statements = P.statements }) (sym e)

-- A state that is written adds itself alone.
visited_is : (w : List ℕ) (P : Property) → visited w P ≡ visits (other_state w) P
visited_is w P = visited_by (is_start w) (is_error w) (position_or_len (same w) P.others == length P.others) w P refl

-- Some states and then others.
visits_along : (vs ws : List (List ℕ)) (P : Property) → visits ws (visits vs P) ≡ visits (vs ++ ws) P
visits_along vs ws P = ap (λ (x : List (List ℕ)). record { name = P.name; methods = P.methods; others = x; registers = P.registers; statements = P.statements }) (sym (grow_append same vs ws P.others))

-- The place of a state that is in the list by now.
place_below : (w : List ℕ) (ws : List (List ℕ)) → position_or_len (same w) ws < length (grow same (w ∷ []) ws)
place_below w ws = elim (cases_Bool (eqb (position_or_len (same w) ws) (length ws))) [
  | inl e ↦
      (let a : length (grow same (w ∷ []) ws) ≡ length (ws ++ w ∷ []) = ap (λ (b : Bool). length (cond b (ws ++ w ∷ []) ws)) e in
      let b = length-append ws (w ∷ []) in
      let c = prefix_len-le-length (λ x. not (same w x)) ws in
      omega (arith, a, b, c))
  | inr e ↦
      (let a : length (grow same (w ∷ []) ws) ≡ length ws = ap (λ (b : Bool). length (cond b (ws ++ w ∷ []) ws)) e in
      let b = eqb-false (position_or_len (same w) ws) (length ws) e in
      let c = prefix_len-le-length (λ x. not (same w x)) ws in
      grind (arith, a, b, c))
]

-- A state's number stays, as long as no state is past the sixteenth.
number_by : (a b : Bool) (w : List ℕ) (ws all : List (List ℕ)) → Goes (grow same (cond a [] (cond b [] (w ∷ []))) ws) all → length all ≤ 14
    → cond a 0 (cond b 1 (cond (nat_lt (position_or_len (same w) ws) 14) (2 + position_or_len (same w) ws) 16)) ≡ cond a 0 (cond b 1 (2 + position_or_len (same w) all))
number_by true b w ws all g h = refl
number_by false true w ws all g h = refl
number_by false false w ws all g h =
    let a = place_stays same words_tell w ws all g in
    let b = place_below w ws in
    let c : length all ≡ length (grow same (w ∷ []) ws) + length g.0 = ap length g.1 ∙ length-append (grow same (w ∷ []) ws) g.0 in
    let d : position_or_len (same w) ws < 14 = omega (arith, b, c, h) in
    few (position_or_len (same w) ws) d ∙ ap (λ (n : ℕ). 2 + n) a
  where
    few : (n : ℕ) → n < 14 → cond (nat_lt n 14) (2 + n) 16 ≡ 2 + n
    few n h = grind (arith, nat_tests)

-- A state's number is its number in the whole property.
number_stays : (w : List ℕ) (ws all : List (List ℕ)) → Goes (grow same (other_state w) ws) all → length all ≤ 14 → state_number ws w ≡ state all w
number_stays w ws all g h = number_by (is_start w) (is_error w) w ws all g h

-- STATEMENTS
-- A statement was read at p.
record Stated (p : State) (a : ℕ) (x : Statement) (s r : List ℕ) : Type 0 where
  on : State
  place : ℕ
  leads : Leads p a s on place r
  now : Row
  ends : Ends on now
  sofar : on.sofar ≡ holds_keys (statement_keys x) (visits (statement_states x) p.sofar)
  source : now.source ≡ state_number p.sofar.others x.source
  target : now.target ≡ state_number (grow same (other_state x.source) p.sofar.others) x.target
  matches : Clean p a s → Few p.sofar.methods → (g : List Key) → Goes on.sofar.registers g
      → matched now ≡ T.label_matchers (label_of p.sofar.methods g x.first) ++ each T.label_matchers (map (label_of p.sofar.methods g) x.others)
  fits : Clean p a s → Few p.sofar.methods → StatementFits p.sofar.methods x

-- A statement is read.
stated : (x : Statement) (p : State) (a : ℕ) (s r : List ℕ) → declares p x.source ≡ false → statement_line x s r → Stated (turned (spots.Line lines.Fresh) p) a x s r
stated x p a s r e (u1, h1, (u2, h2, (u3, h3, (u4, h4, (u5, h5, (u6, h6, h7)))))) =
    let q = turned (spots.Line lines.Fresh) p in
    let y1 = by_word q a x.source s u1 refl (word_letter x.source s u1 h1) h1 in
    let p1 = leaving x.source q in
    let l1 = subst (λ (z : State). Leads q a s z y1.place u1) (if_false (declares p x.source) (turned (spots.Line lines.MethodName) p) p1 e) y1.leads in
    let y2 = by_mark p1 y1.place 45 u1 u2 refl refl h2 in
    let y3 = by_byte (turned (spots.Route routes.Greater) p1) y2.place 62 u2 u3 refl refl h3 in
    let y4 = by_word (turned (spots.Route routes.Target) p1) y3.place x.target u3 u4 refl (word_letter x.target u3 u4 h4) h4 in
    let p2 = reaching x.target p1 in
    let y5 = by_mark p2 y4.place 58 u4 u5 refl refl h5 in
    let y6 = labelled_by x.first p2 y5.place u5 u6 h6 in
    let y7 = series x.others y6.on y6.now y6.place u6 r y6.ends h7 in
    let lead5 = along l1 (along y2.leads (along y3.leads (along y4.leads y5.leads))) in
    let lead6 = along lead5 y6.leads in
    let b1 : p1.sofar ≡ visits (other_state x.source) p.sofar = visited_is x.source p.sofar in
    let b2 : p2.sofar ≡ visits (statement_states x) p.sofar =
    visited_is x.target p1.sofar ∙ (ap (visits (other_state x.target)) b1 ∙ visits_along (other_state x.source) (other_state x.target) p.sofar) in
    let b6 : y6.on.sofar ≡ holds_keys (label_keys x.first) (visits (statement_states x) p.sofar) = y6.sofar ∙ ap (holds_keys (label_keys x.first)) b2 in
    let m2 : p2.sofar.methods ≡ p.sofar.methods = ap (λ (P : Property). P.methods) b2 in
    let m6 : y6.on.sofar.methods ≡ p.sofar.methods = ap (λ (P : Property). P.methods) b6 in
    let k = kept_along p2.cursor.statement y6.now y7.now y6.kept y7.kept in
    record {
      on = y7.on;
      place = y7.place;
      leads = along lead6 y7.leads;
      now = y7.now;
      ends = y7.ends;
      sofar = held_along (label_keys x.first) (each label_keys x.others) (visits (statement_states x) p.sofar) y6.on.sofar y7.on.sofar b6 y7.sofar;
      fits = λ c f. (
        subst (λ (l : List Declared). LabelFits l x.first) m2 (y6.fits (lead5.clean c) (subst Few (sym m2) f)),
        subst (λ (l : List Declared). All (LabelFits l) x.others) m6 (y7.fits (lead6.clean c) (subst Few (sym m6) f)),
      );
      source = k.source;
      target = k.target ∙ ap (λ (P : Property). state_number P.others x.target) b1;
      matches = λ c f g j.
          let o = y6.adds (lead5.clean c) (subst Few (sym m2) f) (record { four = refl; few = omega arith }) in
          let z = y7.adds (lead6.clean c) (subst Few (sym m6) f) o.ready in
          let t = goes_along y6.on.sofar.registers y7.on.sofar.registers g (held_goes (each label_keys x.others) y6.on.sofar y7.on.sofar y7.sofar) j in
          z.matches g j
          ∙ (ap (λ (k : List Declared). matched y6.now ++ each T.label_matchers (map (label_of k g) x.others)) m6
          ∙ (ap (λ (ts : List T.Matcher). ts ++ each T.label_matchers (map (label_of p.sofar.methods g) x.others)) (o.matches g t)
          ∙ ap (λ (k : List Declared). T.label_matchers (label_of k g x.first) ++ each T.label_matchers (map (label_of p.sofar.methods g) x.others)) m2));
    }

-- A statement's row means the statement, once all is known.
row_means : (p : State) (a : ℕ) (x : Statement) (s r : List ℕ) (y : Stated p a x s r) → Clean p a s → Few p.sofar.methods → (ws : List (List ℕ)) (g : List Key)
    → Goes y.on.sofar.others ws → length ws ≤ 14 → Goes y.on.sofar.registers g → table_statement y.now ≡ statement_of ws p.sofar.methods g x
row_means p a x s r y c f ws g j h k =
    let others : y.on.sofar.others ≡ grow same (statement_states x) p.sofar.others = ap (λ (P : Property). P.others) y.sofar in
    let t : Goes (grow same (other_state x.target) (grow same (other_state x.source) p.sofar.others)) ws =
    subst (λ (z : List (List ℕ)). Goes z ws) (others ∙ grow_append same (other_state x.source) (other_state x.target) p.sofar.others) j in
    let u : Goes (grow same (other_state x.source) p.sofar.others) ws =
    goes_along (grow same (other_state x.source) p.sofar.others) (grow same (other_state x.target) (grow same (other_state x.source) p.sofar.others)) ws
    (goes_grow same (other_state x.target) (grow same (other_state x.source) p.sofar.others)) t in
    let a1 : y.now.source ≡ state ws x.source = y.source ∙ number_stays x.source p.sofar.others ws u h in
    let a2 : y.now.target ≡ state ws x.target = y.target ∙ number_stays x.target (grow same (other_state x.source) p.sofar.others) ws t h in
    ap (λ (ms : List T.Matcher). over y.now.source y.now.target ms) (y.matches c f g k)
    ∙ (ap (λ (n : ℕ). over n y.now.target (T.label_matchers (label_of p.sofar.methods g x.first) ++ each T.label_matchers (map (label_of p.sofar.methods g) x.others))) a1
    ∙ ap (λ (n : ℕ). over (state ws x.source) n (T.label_matchers (label_of p.sofar.methods g x.first) ++ each T.label_matchers (map (label_of p.sofar.methods g) x.others))) a2)

-- The end of a statement's line.
record Over (p : State) (n : Row) (a : ℕ) (s u : List ℕ) : Type 0 where
  on : State
  place : ℕ
  leads : Leads p a s (turned (spots.Line lines.Fresh) on) place u
  sofar : on.sofar ≡ with_statement n p.sofar

-- By the line's end.
over_line : (p : State) (n : Row) (a : ℕ) (s u : List ℕ) → Ends p n → newline s u → Over p n a s u
over_line p n a s u (inl (e, f)) h =
    subst (λ (m : Row). Over p m a s u) (sym f)
    (at_spot (λ (q : State). Over q (met events.Any q.cursor).statement a s u) p (spots.Label labels.Star) e
    (let q = turned (spots.Label labels.Star) p in
    let x = by_mark q a 10 s u refl refl h in
    record { on = ends_statement (at (met events.Any q.cursor) q); place = x.place; leads = x.leads; sofar = refl }))
over_line p n a s u (inr (e, f)) h =
    subst (λ (m : Row). Over p m a s u) (sym f)
    (at_spot (λ (q : State). Over q q.cursor.statement a s u) p (spots.Label labels.End) e
    (let q = turned (spots.Label labels.End) p in
    let x = by_mark q a 10 s u refl refl h in
    record { on = ends_statement q; place = x.place; leads = x.leads; sofar = refl }))

-- The end of the text, behind a statement.
last_line : (p : State) (n : Row) (a : ℕ) (s : List ℕ) → Ends p n → ending s [] → Takes text p a (with_statement n p.sofar) s
last_line p n a s e (inl h) =
    let x = over_line p n a s [] e h in
    x.leads.ahead (with_statement n p.sofar) (subst (λ (P : Property). Takes text (turned (spots.Line lines.Fresh) x.on) x.place P []) x.sofar (stop _ x.place x.on.sofar [] tt refl))
last_line p n a s (inl (e, f)) (inr h) =
    let g : Every space s = subst (Every space) (sym (h.2 ∙ append-nil h.0)) h.1 in
    subst (λ (m : Row). Takes text p a (with_statement m p.sofar) s) (sym f)
    (at_spot (λ (q : State). Takes text q a (with_statement (met events.Any q.cursor).statement q.sofar) s) p (spots.Label labels.Star) e
    (stop (turned (spots.Label labels.Star) p) a _ s g refl))
last_line p n a s (inr (e, f)) (inr h) =
    let g : Every space s = subst (Every space) (sym (h.2 ∙ append-nil h.0)) h.1 in
    subst (λ (m : Row). Takes text p a (with_statement m p.sofar) s) (sym f)
    (at_spot (λ (q : State). Takes text q a (with_statement q.cursor.statement q.sofar) s) p (spots.Label labels.End) e
    (stop (turned (spots.Label labels.End) p) a _ s g refl))

-- The rest of a text, behind a statement.
record Written (p : State) (n : Row) (a : ℕ) (xs : List Statement) (s : List ℕ) : Type 0 where
  value : Property
  takes : Takes text p a value s
  name : value.name ≡ p.sofar.name
  methods : value.methods ≡ p.sofar.methods
  others : value.others ≡ grow same (each statement_states xs) p.sofar.others
  registers : value.registers ≡ grow same_key (each statement_keys xs) p.sofar.registers
  statements : Clean p a s → Few p.sofar.methods → length value.others ≤ 14
      → map table_statement value.statements ≡ map table_statement (p.sofar.statements ++ n ∷ []) ++ map (statement_of value.others p.sofar.methods value.registers) xs
  fits : Clean p a s → Few p.sofar.methods → All (StatementFits p.sofar.methods) xs

-- Some statement has come, so that no line declares a method.
declares_none : (w : List ℕ) (p : State) (b : Bool) → eqb (length p.sofar.statements) 0 ≡ false → b && eqb (length p.sofar.statements) 0 ≡ false
declares_none w p true e = e
declares_none w p false e = refl

-- The rest of a text is taken.
written : (xs : List Statement) (p : State) (n : Row) (a : ℕ) (s u : List ℕ) → Ends p n → statement_lines xs s u → ending u [] → Written p n a xs s
written [] p n a s u e h f = record {
  value = with_statement n p.sofar;
  takes = last_line p n a s e (subst (λ (v : List ℕ). ending v []) (sym h) f);
  name = refl;
  methods = refl;
  others = refl;
  registers = refl;
  statements = λ c w k. sym (append-nil (map table_statement (p.sofar.statements ++ n ∷ [])));
  fits = λ c w. All-nil (StatementFits p.sofar.methods);
}
written (x ∷ xs) p n a s u e (v, h, (w, i, j)) f =
    let o = over_line p n a s v e h in
    let b = o.on in
    let bs : b.sofar.statements ≡ p.sofar.statements ++ n ∷ [] = ap (λ (P : Property). P.statements) o.sofar in
    let none : eqb (length b.sofar.statements) 0 ≡ false = ap (λ (l : List Row). eqb (length l) 0) bs ∙ some_come p.sofar.statements n in
    let y = stated x b o.place v w (declares_none x.source b (same x.source (codes "method")) none) i in
    let z = written xs y.on y.now y.place w u y.ends j f in
    let lead = along o.leads y.leads in
    let sofar : y.on.sofar ≡ holds_keys (statement_keys x) (visits (statement_states x) (with_statement n p.sofar)) =
    y.sofar ∙ ap (λ (P : Property). holds_keys (statement_keys x) (visits (statement_states x) P)) o.sofar in
    let ms : y.on.sofar.methods ≡ p.sofar.methods = ap (λ (P : Property). P.methods) sofar in
    let mb : b.sofar.methods ≡ p.sofar.methods = ap (λ (P : Property). P.methods) o.sofar in
    let os : y.on.sofar.others ≡ grow same (statement_states x) p.sofar.others = ap (λ (P : Property). P.others) sofar in
    let gs : y.on.sofar.registers ≡ grow same_key (statement_keys x) p.sofar.registers = ap (λ (P : Property). P.registers) sofar in
    record {
      value = z.value;
      takes = lead.ahead z.value z.takes;
      fits = λ c few.
          All-cons (StatementFits p.sofar.methods) x xs (subst (λ (l : List Declared). StatementFits l x) mb (y.fits (o.leads.clean c) (subst Few (sym mb) few)))
          (subst (λ (l : List Declared). All (StatementFits l) xs) ms (z.fits (lead.clean c) (subst Few (sym ms) few)));
      name = z.name ∙ ap (λ (P : Property). P.name) sofar;
      methods = z.methods ∙ ms;
      others = z.others ∙ (ap (grow same (each statement_states xs)) os ∙ sym (grow_append same (statement_states x) (each statement_states xs) p.sofar.others));
      registers = z.registers ∙ (ap (grow same_key (each statement_keys xs)) gs ∙ sym (grow_append same_key (statement_keys x) (each statement_keys xs) p.sofar.registers));
      statements = λ c few k.
          let ts = z.statements (lead.clean c) (subst Few (sym ms) few) k in
          let go = subst (λ (l : List (List ℕ)). Goes y.on.sofar.others l) (sym z.others) (goes_grow same (each statement_states xs) y.on.sofar.others) in
          let gr = subst (λ (l : List Key). Goes y.on.sofar.registers l) (sym z.registers) (goes_grow same_key (each statement_keys xs) y.on.sofar.registers) in
          let row = row_means (turned (spots.Line lines.Fresh) b) o.place x v w y (o.leads.clean c) (subst Few (sym mb) few) z.value.others z.value.registers go k gr in
          let st : y.on.sofar.statements ≡ p.sofar.statements ++ n ∷ [] = ap (λ (P : Property). P.statements) sofar in
          ts
          ∙ (ap (λ (l : List Row). map table_statement (l ++ y.now ∷ []) ++ map (statement_of z.value.others y.on.sofar.methods z.value.registers) xs) st
          ∙ (ap (λ (l : List T.Statement). l ++ map (statement_of z.value.others y.on.sofar.methods z.value.registers) xs) (map-append table_statement (p.sofar.statements ++ n ∷ []) (y.now ∷ []))
          ∙ (append_assoc (map table_statement (p.sofar.statements ++ n ∷ [])) (table_statement y.now ∷ []) (map (statement_of z.value.others y.on.sofar.methods z.value.registers) xs)
          ∙ (ap (λ (t : T.Statement). map table_statement (p.sofar.statements ++ n ∷ []) ++ (t ∷ map (statement_of z.value.others y.on.sofar.methods z.value.registers) xs)) row
          ∙ (ap (λ (l : List Declared). map table_statement (p.sofar.statements ++ n ∷ []) ++ (statement_of z.value.others l z.value.registers x ∷ map (statement_of z.value.others y.on.sofar.methods z.value.registers) xs)) mb
          ∙ ap (λ (l : List Declared). map table_statement (p.sofar.statements ++ n ∷ []) ++ (statement_of z.value.others p.sofar.methods z.value.registers x ∷ map (statement_of z.value.others l z.value.registers) xs)) ms)))));
    }

-- METHODS
-- A line ends, and another begins, where no statement has come.
line_over : (p : State) (a : ℕ) (s u : List ℕ) → newline s u → (c : ℕ) × Leads (turned (spots.Line lines.Ending) p) a s (turned (spots.Line lines.Fresh) p) c u
line_over p a s u h = let x = by_mark (turned (spots.Line lines.Ending) p) a 10 s u refl refl h in (x.place, x.leads)

-- No arity in a list of methods is over five, nor is that of the method that stands for none.
abbrev Small : List Declared → Type 0
Small ms = (i : ℕ) → (get_or ms i (record { name = []; number = 0; arity = 0 })).arity ≤ 5

-- One method more.
small_more : (ms : List Declared) (m : Declared) → Small ms → m.arity ≤ 5 → Small (ms ++ m ∷ [])
small_more [] m h k zero = k
small_more [] m h k (suc i) = omega arith
small_more (n ∷ ms) m h k zero = h zero
small_more (n ∷ ms) m h k (suc i) = small_more ms m (λ j. h (suc j)) k i

-- Lines of methods were read from p on.
record Methods (p : State) (a : ℕ) (ms : List Declared) (s u : List ℕ) : Type 0 where
  on : State
  place : ℕ
  leads : Leads (turned (spots.Line lines.Ending) p) a s (turned (spots.Line lines.Ending) on) place u
  name : on.sofar.name ≡ p.sofar.name
  others : on.sofar.others ≡ p.sofar.others
  registers : on.sofar.registers ≡ p.sofar.registers
  statements : on.sofar.statements ≡ p.sofar.statements
  methods : Clean (turned (spots.Line lines.Ending) p) a s → Small p.sofar.methods → (on.sofar.methods ≡ p.sofar.methods ++ ms) × Small on.sofar.methods

-- The number that a line writes.
is_capped : (d : List ℕ) (n : ℕ) → value d ≡ n → n ≤ 65535 → capped d ≡ n
is_capped d n e h = by (value d) e
  where
    by : (v : ℕ) → v ≡ n → cond (nat_le v 65535) v 65536 ≡ n
    by v e = grind (arith, nat_tests)

-- A number that does not pass another.
not_over : (m n : ℕ) → nat_lt n m ≡ false → m ≤ n
not_over m n h = grind (arith, nat_tests)

-- Where no statement has come, the word `method` begins a line of a method.
declares_it : (b : Bool) (P Q : State) → b ≡ true → cond (true && b) P Q ≡ P
declares_it true P Q e = refl
declares_it false P Q e = apart false e refl

-- A method's line is read.
method_read : (m : Declared) (p : State) (a : ℕ) (s u : List ℕ) → p.sofar.statements ≡ [] → (newline ⨾ method_line m) s u → Methods p a (m ∷ []) s u
method_read m p a s u e (u0, h0, (u1, h1, (u2, h2, (u3, (d, d1, d2), (f, f1, f2))))) =
    let x0 = line_over p a s u0 h0 in
    let q = turned (spots.Line lines.Fresh) p in
    let x1 = by_word q x0.0 (codes "method") u0 u1 refl refl h1 in
    let p1 = turned (spots.Line lines.MethodName) p in
    let l1 = subst (λ (z : State). Leads q x0.0 u0 z x1.place u1) (declares_it (eqb (length p.sofar.statements) 0) p1 (leaving (codes "method") q) (ap (λ (l : List Row). eqb (length l) 0) e)) x1.leads in
    let x2 = by_word p1 x1.place m.name u1 u2 refl (word_letter m.name u1 u2 h2) h2 in
    let p2 = moved p1 m.name (head_of (pieces.word m.name)) x2.at in
    let x3 = by_number p2 x2.place d u2 u3 refl (number_digit d u2 u3 d2) d2 in
    let p3 = moved p2 d (head_of (pieces.number d)) x3.at in
    let x4 = by_number p3 x3.place f u3 u refl (number_digit f u3 u f2) f2 in
    let p4 = moved p3 f (head_of (pieces.number f)) x4.at in
    let lead2 = along x0.1 (along l1 x2.leads) in
    let lead3 = along lead2 x3.leads in
    record {
      on = p4;
      place = x4.place;
      leads = along lead3 x4.leads;
      name = refl;
      others = refl;
      registers = refl;
      statements = refl;
      methods = λ c k.
          let n1 = not_over (value d) 65535 (no_first (nat_lt 65535 (value d)) 11 ((list_any (λ n. nat_eq (value d) n.number) p.sofar.methods, 12) ∷ []) (x3.fine (lead2.clean c))) in
          let n2 = not_over (value f) 5 (no_first (nat_lt 5 (value f)) 11 [] (x4.fine (lead3.clean c))) in
          let e1 : capped d ≡ m.number = is_capped d m.number d1 (omega (arith, n1, d1)) in
          let e2 : capped f ≡ m.arity = is_capped f m.arity f1 (omega (arith, n2, f1)) in
          let same_one : p4.sofar.methods ≡ p.sofar.methods ++ m ∷ [] =
          ap (λ (n : ℕ). p.sofar.methods ++ (record { name = m.name; number = n; arity = capped f }) ∷ []) e1
          ∙ ap (λ (n : ℕ). p.sofar.methods ++ (record { name = m.name; number = m.number; arity = n }) ∷ []) e2 in
          (same_one, subst Small (sym same_one) (small_more p.sofar.methods m k (omega (arith, n2, f1))));
    }

-- Lines of methods are read.
methods_read : (ms : List Declared) (p : State) (a : ℕ) (s u : List ℕ) → p.sofar.statements ≡ [] → method_lines ms s u → Methods p a ms s u
methods_read [] p a s u e h = record {
  on = p;
  place = a;
  leads = subst (λ (v : List ℕ). Leads (turned (spots.Line lines.Ending) p) a s (turned (spots.Line lines.Ending) p) a v) h (stay (turned (spots.Line lines.Ending) p) a s);
  name = refl;
  others = refl;
  registers = refl;
  statements = refl;
  methods = λ c k. (sym (append-nil p.sofar.methods), k);
}
methods_read (m ∷ ms) p a s u e (u1, h1, (u2, h2, h3)) =
    let x = method_read m p a s u2 e (u1, h1, h2) in
    let y = methods_read ms x.on x.place u2 u (x.statements ∙ e) h3 in
    record {
      on = y.on;
      place = y.place;
      leads = along x.leads y.leads;
      name = y.name ∙ x.name;
      others = y.others ∙ x.others;
      registers = y.registers ∙ x.registers;
      statements = y.statements ∙ x.statements;
      methods = λ c k.
          let z = x.methods c k in
          let w = y.methods (x.leads.clean c) z.1 in
          (w.0 ∙ (ap (λ (l : List Declared). l ++ ms) z.0 ∙ append_assoc p.sofar.methods (m ∷ []) ms), w.1);
    }

-- THE REST OF A TEXT, behind its first line and the lines of methods
record Finished (p : State) (a : ℕ) (xs : List Statement) (s : List ℕ) : Type 0 where
  value : Property
  takes : Takes text (turned (spots.Line lines.Ending) p) a value s
  name : value.name ≡ p.sofar.name
  methods : value.methods ≡ p.sofar.methods
  others : value.others ≡ grow same (each statement_states xs) p.sofar.others
  registers : value.registers ≡ grow same_key (each statement_keys xs) p.sofar.registers
  statements : Clean (turned (spots.Line lines.Ending) p) a s → Few p.sofar.methods → length value.others ≤ 14
      → map table_statement value.statements ≡ map (statement_of value.others p.sofar.methods value.registers) xs
  fits : Clean (turned (spots.Line lines.Ending) p) a s → Few p.sofar.methods → All (StatementFits p.sofar.methods) xs

-- The end of the text, where no statement has come.
bare : (p : State) (a : ℕ) (s : List ℕ) → ending s [] → Takes text (turned (spots.Line lines.Ending) p) a p.sofar s
bare p a s (inl h) = let x = line_over p a s [] h in x.1.ahead p.sofar (stop (turned (spots.Line lines.Fresh) p) x.0 p.sofar [] tt refl)
bare p a s (inr h) = stop (turned (spots.Line lines.Ending) p) a p.sofar s (subst (Every space) (sym (h.2 ∙ append-nil h.0)) h.1) refl

-- The statements are read, up to the end.
finished_by : (xs : List Statement) (p : State) (a : ℕ) (s u : List ℕ) → p.sofar.statements ≡ [] → NoMethod xs → statement_lines xs s u → ending u [] → Finished p a xs s
finished_by [] p a s u e n h f = record {
  value = p.sofar;
  takes = bare p a s (subst (λ (v : List ℕ). ending v []) (sym h) f);
  name = refl;
  methods = refl;
  others = refl;
  registers = refl;
  statements = λ c few k. ap (map table_statement) e;
  fits = λ c few. All-nil (StatementFits p.sofar.methods);
}
finished_by (x ∷ xs) p a s u e n (v, h, (w, i, j)) f =
    let o = line_over p a s v h in
    let y = stated x p o.0 v w (ap (λ (b : Bool). b && eqb (length p.sofar.statements) 0) n) i in
    let z = written xs y.on y.now y.place w u y.ends j f in
    let lead = along o.1 y.leads in
    let ms : y.on.sofar.methods ≡ p.sofar.methods = ap (λ (P : Property). P.methods) y.sofar in
    let os : y.on.sofar.others ≡ grow same (statement_states x) p.sofar.others = ap (λ (P : Property). P.others) y.sofar in
    let gs : y.on.sofar.registers ≡ grow same_key (statement_keys x) p.sofar.registers = ap (λ (P : Property). P.registers) y.sofar in
    let ss : y.on.sofar.statements ≡ [] = ap (λ (P : Property). P.statements) y.sofar ∙ e in
    record {
      value = z.value;
      takes = lead.ahead z.value z.takes;
      fits = λ c few.
          All-cons (StatementFits p.sofar.methods) x xs (y.fits (o.1.clean c) few)
          (subst (λ (l : List Declared). All (StatementFits l) xs) ms (z.fits (lead.clean c) (subst Few (sym ms) few)));
      name = z.name ∙ ap (λ (P : Property). P.name) y.sofar;
      methods = z.methods ∙ ms;
      others = z.others ∙ (ap (grow same (each statement_states xs)) os ∙ sym (grow_append same (statement_states x) (each statement_states xs) p.sofar.others));
      registers = z.registers ∙ (ap (grow same_key (each statement_keys xs)) gs ∙ sym (grow_append same_key (statement_keys x) (each statement_keys xs) p.sofar.registers));
      statements = λ c few k.
          let ts = z.statements (lead.clean c) (subst Few (sym ms) few) k in
          let go = subst (λ (l : List (List ℕ)). Goes y.on.sofar.others l) (sym z.others) (goes_grow same (each statement_states xs) y.on.sofar.others) in
          let gr = subst (λ (l : List Key). Goes y.on.sofar.registers l) (sym z.registers) (goes_grow same_key (each statement_keys xs) y.on.sofar.registers) in
          let row = row_means (turned (spots.Line lines.Fresh) p) o.0 x v w y (o.1.clean c) few z.value.others z.value.registers go k gr in
          ts
          ∙ (ap (λ (l : List Row). map table_statement (l ++ y.now ∷ []) ++ map (statement_of z.value.others y.on.sofar.methods z.value.registers) xs) ss
          ∙ (ap (λ (t : T.Statement). t ∷ map (statement_of z.value.others y.on.sofar.methods z.value.registers) xs) row
          ∙ ap (λ (l : List Declared). statement_of z.value.others p.sofar.methods z.value.registers x ∷ map (statement_of z.value.others l z.value.registers) xs) ms));
    }

-- THE FIRST LINE
-- Spaces in the margin change nothing.
margins : (sp : List ℕ) (p : State) (a : ℕ) (r : List ℕ) → Every space sp → (c : ℕ) × Leads (turned (spots.Head heads.Margin) p) a (sp ++ r) (turned (spots.Head heads.Margin) p) c r
margins [] p a r h = (a, stay (turned (spots.Head heads.Margin) p) a r)
margins (b ∷ sp) p a r h =
    let q = turned (spots.Head heads.Margin) p in
    let e = eqb-true b 32 h.0 in
    let x = by_byte q a 32 (b ∷ (sp ++ r)) (sp ++ r) refl refl (ap (λ (n : ℕ). n ∷ (sp ++ r)) e) in
    let y = margins sp p x.place r h.1 in
    (y.0, along x.leads y.1)

-- The keyword and the space behind it.
letters : (p : State) (a : ℕ) (s r : List ℕ) → s ≡ codes "property " ++ r → (c : ℕ) × Leads (turned (spots.Head heads.Margin) p) a s (turned (spots.Head heads.Title) p) c r
letters p a s r e =
    let x0 = by_byte (turned (spots.Head heads.Margin) p) a 112 s _ refl refl e in
    let x1 = by_byte (turned (spots.Head (heads.Keyword 1)) p) x0.place 114 _ _ refl refl refl in
    let x2 = by_byte (turned (spots.Head (heads.Keyword 2)) p) x1.place 111 _ _ refl refl refl in
    let x3 = by_byte (turned (spots.Head (heads.Keyword 3)) p) x2.place 112 _ _ refl refl refl in
    let x4 = by_byte (turned (spots.Head (heads.Keyword 4)) p) x3.place 101 _ _ refl refl refl in
    let x5 = by_byte (turned (spots.Head (heads.Keyword 5)) p) x4.place 114 _ _ refl refl refl in
    let x6 = by_byte (turned (spots.Head (heads.Keyword 6)) p) x5.place 116 _ _ refl refl refl in
    let x7 = by_byte (turned (spots.Head (heads.Keyword 7)) p) x6.place 121 _ _ refl refl refl in
    let x8 = by_byte (turned (spots.Head heads.Gap) p) x7.place 32 _ r refl refl refl in
    (x8.place, along x0.leads (along x1.leads (along x2.leads (along x3.leads (along x4.leads (along x5.leads (along x6.leads (along x7.leads x8.leads))))))))

-- The first line, up to the name's end.
record Titled (w : List ℕ) (s r : List ℕ) : Type 0 where
  on : State
  place : ℕ
  leads : Leads nothing_read 0 s (turned (spots.Line lines.Ending) on) place r
  sofar : on.sofar ≡ named w nothing_read.sofar

-- The first line is read.
titled_by : (w s r : List ℕ) → first_line w s r → Titled w s r
titled_by w s r (u, (sp, g, e), (v, f, h)) =
    let x0 = margins sp nothing_read 0 u g in
    let x1 = letters nothing_read x0.0 u v f in
    let q = turned (spots.Head heads.Title) nothing_read in
    let x2 = by_word q x1.0 w v r refl (word_letter w v r h) h in
    record {
      on = moved q w (head_of (pieces.word w)) x2.at;
      place = x2.place;
      leads = along (subst (λ (z : List ℕ). Leads nothing_read 0 z (turned (spots.Head heads.Margin) nothing_read) x0.0 u) (sym e) x0.1) (along x1.1 x2.leads);
      sofar = refl;
    }

-- THE TEXT
-- A tree's text is taken, as a property that the tree means.
pub record Taken (A : Tree) (t : List ℕ) : Type 0 where
  pub value : Property
  pub takes : Takes text nothing_read 0 value t
  pub means : Clean nothing_read 0 t → length value.others ≤ 14 → Means A value

-- A tree's text is taken.
pub taken : (A : Tree) (t : List ℕ) → Spells A t → Taken A t
taken A t (n, (u1, h1, (u2, h2, (u3, h3, h4)))) =
    let x = titled_by A.name t u1 h1 in
    let st : x.on.sofar.statements ≡ [] = ap (λ (P : Property). P.statements) x.sofar in
    let y = methods_read A.methods x.on x.place u1 u2 st h2 in
    let z = finished_by A.statements y.on y.place u2 u3 (y.statements ∙ st) n h3 h4 in
    let lead = along x.leads y.leads in
    record {
      value = z.value;
      takes = lead.ahead z.value z.takes;
      means = λ c k.
          let d = y.methods (x.leads.clean c) (subst Small (sym (ap (λ (P : Property). P.methods) x.sofar)) (λ i. omega arith)) in
          let ms : y.on.sofar.methods ≡ A.methods = d.0 ∙ ap (λ (P : Property). P.methods ++ A.methods) x.sofar in
          let few : Few y.on.sofar.methods = λ w. d.1 (position_or_len (λ m. same w m.name) y.on.sofar.methods) in
          let vs = z.statements (lead.clean c) few k in
          record {
            name = z.name ∙ (y.name ∙ ap (λ (P : Property). P.name) x.sofar);
            methods = z.methods ∙ ms;
            others = z.others ∙ (ap (grow same (each statement_states A.statements)) (y.others ∙ ap (λ (P : Property). P.others) x.sofar) ∙ grown_firsts same words_tell (each statement_states A.statements));
            registers = z.registers ∙ (ap (grow same_key (each statement_keys A.statements)) (y.registers ∙ ap (λ (P : Property). P.registers) x.sofar) ∙ grown_firsts same_key keys_tell (each statement_keys A.statements));
            declared = subst (λ (l : List Declared). All (StatementFits l) A.statements) ms (z.fits (lead.clean c) few);
            statements = vs ∙ ap (λ (l : List Declared). map (statement_of z.value.others l z.value.registers) A.statements) (sym z.methods);
          };
    }

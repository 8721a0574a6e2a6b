-- One call by the ledger, and a list of them.
use Rattle.std.proofs.Common.{◌≡◌, ℕ, ◌+◌, ◌<◌, List, [], ◌∷◌, ◌++◌, length, get_or, take, set, Some, Option, sym, refl, ap, ◌∙◌, subst, arith}
use Rattle.std.specs.List.{slice_get}
use Rattle.std.proofs.lemmas.List.{length-map, length_push, map-set, get_or-map, take_more}
use Rattle.std.proofs.lemmas.Option.{slice_get-get_or}
use Rattle.kinds.specs.Refusals.{Ending}
use Rattle.topl.specs.Lists.{Class}
use Rattle.topl.specs.Table as T
use Rattle.topl.specs.Ledger as L
use Rattle.topl.specs.Ledger.{Ledger, Source, Draws}
use Rattle.topl.specs.History as H
use Rattle.topl.specs.History.{Moment, Log, Does, draws_at, History, Whole, made}
use Rattle.topl.proofs.Lawful.{tested}
use Rattle.topl.proofs.Telling.{telling}
use Rattle.sources.specs.Events.{Happening}
use Rattle.watch.specs.Shows.{meaning}
use Rattle.history.specs.declared.call.Call.{Call}
use Rattle.history.specs.declared.call.Call.TheVariants.{Draw}
use Rattle.history.specs.declared.call.Answer.{Answer}
use Rattle.history.specs.Calls.{call, answer, log, meant, moment}
use Rattle.history.specs.Whole.{Told}
use Rattle.history.proofs.Lawfully.{throughout, hands_all}

module _ {V : Type 0} (class : V → Class) (shows : Ledger → Type 0) (n : Moment) (X : List Source) (c d : Call V) (a : Answer) (b : L.Answer) (is : c ≡ d) (says : answer a ≡ b) where
  -- what a call does, told by the call's variant and in the ledger's words
  pub turned : ((m : Ledger) × shows m × Does n (call class d) b (moment m X)) → (m : Ledger) × shows m × Does n (call class c) (answer a) (moment m X)
  turned t =
      subst (λ (z : Call V). (m : Ledger) × shows m × Does n (call class z) (answer a) (moment m X)) (sym is)
      (subst (λ (z : L.Answer). (m : Ledger) × shows m × Does n (call class d) z (moment m X)) (sym says) t)

module _ {V S : Type 0} (class : V → Class) (w : S → List (Happening V)) (e : S → Ending) where
  -- a draw from a source, which is what it left then
  pub draw_at : (l m : Ledger) (xs : List S) (c : Call V) (k : ℕ) (d y : S) (b : L.Answer) (a : Answer) → c ≡ Draw k → k < length xs →
      Draws l (meaning class (w (get_or xs k d)) (e (get_or xs k d))) (m, b) (meaning class (w y) (e y)) → answer a ≡ b →
      Does (moment l (meant class w e xs)) (call class c) (answer a) (moment m (meant class w e (set xs k y)))
  draw_at l m xs c k d y b a is h drew says =
      let f : S → Source = λ s. meaning class (w s) (e s) in
      let W : List Source = meant class w e xs in
      let X : List Source = meant class w e (set xs k y) in
      let some : slice_get W k ≡ Some (f (get_or xs k d)) = slice_get-get_or W k (f d) (simp length-map h) ∙ ap Some (get_or-map f xs k d (f d) h) in
      let drawn : Draws l (f (get_or xs k d)) (m, answer a) (f y) = subst (λ (z : L.Answer). Draws l (f (get_or xs k d)) (m, z) (f y)) (sym says) drew in
      let here : draws_at (moment l W) k (slice_get W k) (answer a) (moment m X) = subst (λ (o : Option Source). draws_at (moment l W) k o (answer a) (moment m X)) (sym some) (f y, drawn, map-set f xs k y) in
      subst (λ (z : Call V). Does (moment l W) (call class z) (answer a) (moment m X)) (sym is) here

-- one call more
history_more : (m n o : Moment) (h : Log) (c : H.Call) (a : L.Answer) → History m h n → Does n c a o → History m (h ++ ((c, a) ∷ [])) o
history_more m n o [] c a H d = (o, subst (λ (z : Moment). Does z c a o) H d, refl)
history_more m n o (t ∷ h) c a (p, e, H) d = (p, e, history_more p n o h c a H d)

log_more : {V : Type 0} (class : V → Class) (cs : List (Call V)) (answers : List Answer) (c : Call V) (a : Answer) → length answers ≡ length cs →
    log class (cs ++ (c ∷ [])) (answers ++ (a ∷ [])) ≡ log class cs answers ++ ((call class c, answer a) ∷ [])
log_more class [] [] c a e = refl
log_more class [] (b ∷ answers) c a e = absurd (omega arith)
log_more class (d ∷ cs) [] c a e = absurd (omega arith)
log_more class (d ∷ cs) (b ∷ answers) c a e = ap (λ (h : Log). (call class d, answer b) ∷ h) (log_more class cs answers c a (omega arith))

-- Calls that were answered so, by a watch that was made over a board and a book of these lengths, left these sources, and the watch shows the ledger that they led to.
abbrev pub Led : {V : Type 0} → (V → Class) → (Ledger → Type 0) → ℕ → ℕ → List Source → List (Call V) → List Answer → List Source → Type 0
Led class shows board book W cs answers X =
    (l : Ledger) × shows l × (length answers ≡ length cs) × History (made board book W) (log class cs answers) (moment l X)

module _ {V : Type 0} (class : V → Class) (board book : ℕ) (W X : List Source) where
  -- one call more
  pub led_more : (shows shows' : Ledger → Type 0) (Y : List Source) (cs : List (Call V)) (answers : List Answer) (i : ℕ) (c : Call V) (a : Answer) (answers' : List Answer) → Led class shows board book W (take i cs) answers X →
      i < length cs → c ≡ get_or cs i c → answers' ≡ answers ++ (a ∷ []) → ((l : Ledger) → shows l → (m : Ledger) × shows' m × Does (moment l X) (call class c) (answer a) (moment m Y)) → Led class shows' board book W (take (i + 1) cs) answers' Y
  led_more shows shows' Y cs answers i c a answers' (l, s, e, H) h p q step =
      let d = step l s in
      let front = take i cs in
      let more : take (i + 1) cs ≡ front ++ (c ∷ []) = take_more cs i c h ∙ ap (λ z. front ++ (z ∷ [])) (sym p) in
      let same : log class (take (i + 1) cs) answers' ≡ log class front answers ++ ((call class c, answer a) ∷ []) = (λ j. log class (more j) (q j)) ∙ log_more class front answers c a e in (
        d.0,
        d.1,
        ap length q ∙ length_push answers a ∙ ap (λ n. n + 1) e ∙ sym (ap length more ∙ length_push front c),
        subst (λ (z : Log). History (made board book W) z (moment d.0 Y)) (sym same) (history_more (made board book W) (moment l X) (moment d.0 Y) (log class front answers) (call class c) (answer a) H d.2),
      )

  -- it is told whole
  pub led_told : (shows : Ledger → Type 0) (cs : List (Call V)) (answers : List Answer) → Led class shows board book W cs answers X → Told class board book W cs answers X
  led_told shows cs answers (l, s, e, H) =
      let whole : Whole (made board book W) (log class cs answers) (moment l X) = telling board book W (log class cs answers) (moment l X) H in
      record {
        each = e;
        end = moment l X;
        whole = whole;
        lawful = throughout (made board book W) (moment l X) (log class cs answers) whole ((tested T.empty_table).0 refl) (hands_all class cs answers);
        left = refl;
      }

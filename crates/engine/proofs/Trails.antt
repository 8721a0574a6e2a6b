-- Laws of the book.
use Rattle.std.proofs.Common.{◌≡◌, ℕ, zero, suc, ◌+◌, ◌-◌, ◌<◌, ◌≤◌, List, [], ◌∷◌, ◌++◌, length, get_or, take, drop, set, sym, refl, ap, ◌∙◌, ⊎_elim, append_assoc, arith, length-append, length-set, get_or-set_other, get_or-set_same}
use Rattle.std.proofs.lemmas.List.{get_or_default}
use Rattle.engine.specs.declared.entry.Entry.{Entry}
use Rattle.engine.specs.Trails.{entry_at, Linked, trail, steps_to, Enters}
use Rattle.std.proofs.lemmas.Bool.{cases_lt}

module _ (es : List Entry) (used : ℕ) (linked : Linked es used) where
  -- more room to go back changes nothing
  trail_most : (f g n : ℕ) → n ≤ f → n ≤ g → (0 < n → n < used) → trail f es n ≡ trail g es n
  trail_most zero zero n h i u = refl
  trail_most zero (suc g) zero h i u = refl
  trail_most zero (suc g) (suc n) h i u = absurd (omega arith)
  trail_most (suc f) zero zero h i u = refl
  trail_most (suc f) zero (suc n) h i u = absurd (omega arith)
  trail_most (suc f) (suc g) zero h i u = refl
  trail_most (suc f) (suc g) (suc n) h i u =
      let w : suc n < used = u (omega arith) in
      let b : (entry_at es (suc n)).parent < suc n = linked (suc n) (omega arith) w in
      ap (λ (zs : List ℕ). zs ++ ((entry_at es (suc n)).step ∷ [])) (trail_most f g (entry_at es (suc n)).parent (omega arith) (omega arith) (λ q. omega arith))

  pub steps_more : (n : ℕ) → 0 < n → n < used → steps_to es n ≡ steps_to es (entry_at es n).parent ++ ((entry_at es n).step ∷ [])
  unfolding steps_to
  steps_more zero z u = absurd (omega arith)
  steps_more (suc n) z u =
      let b : (entry_at es (suc n)).parent < suc n = linked (suc n) z u in
      ap (λ (zs : List ℕ). zs ++ ((entry_at es (suc n)).step ∷ [])) (trail_most n (entry_at es (suc n)).parent (entry_at es (suc n)).parent (omega arith) (omega arith) (λ q. omega arith))

  pub steps_some : (n : ℕ) → ¬ (n ≡ 0) → (0 < n → n < used) → 1 ≤ length (steps_to es n)
  steps_some n z u =
      let e : length (steps_to es n) ≡ length (steps_to es (entry_at es n).parent) + 1 = ap length (steps_more n (omega arith) (u (omega arith))) ∙ length-append (steps_to es (entry_at es n).parent) ((entry_at es n).step ∷ []) in
      omega arith

pub steps_none : (es : List Entry) → steps_to es 0 ≡ []
unfolding steps_to
steps_none es = refl

trail_length : (f : ℕ) (es : List Entry) (n : ℕ) → length (trail f es n) ≤ f
trail_length zero es n = omega arith
trail_length (suc f) es zero = omega arith
trail_length (suc f) es (suc n) =
    let h : length (trail f es (entry_at es (suc n)).parent) ≤ f = trail_length f es (entry_at es (suc n)).parent in
    simp length-append (omega arith)

-- there are no more steps than entries before
pub steps_few : (es : List Entry) (n : ℕ) → length (steps_to es n) ≤ n
unfolding steps_to
steps_few es n = trail_length n es n

-- what the lower entries stand for stays when higher ones are written
trail_keeps : (f : ℕ) (es fs : List Entry) (used : ℕ) → Linked es used → ((n : ℕ) → n < used → entry_at fs n ≡ entry_at es n) → (n : ℕ) → (0 < n → n < used) → trail f fs n ≡ trail f es n
trail_keeps zero es fs used linked same n u = refl
trail_keeps (suc f) es fs used linked same zero u = refl
trail_keeps (suc f) es fs used linked same (suc n) u =
    let w : suc n < used = u (omega arith) in
    let e : entry_at fs (suc n) ≡ entry_at es (suc n) = same (suc n) w in
    let b : (entry_at es (suc n)).parent < suc n = linked (suc n) (omega arith) w in
    ap (λ (x : Entry). trail f fs x.parent ++ (x.step ∷ [])) e ∙ ap (λ (zs : List ℕ). zs ++ ((entry_at es (suc n)).step ∷ [])) (trail_keeps f es fs used linked same (entry_at es (suc n)).parent (λ q. omega arith))

pub steps_keep : (es fs : List Entry) (used : ℕ) → Linked es used → ((n : ℕ) → n < used → entry_at fs n ≡ entry_at es n) → (n : ℕ) → (0 < n → n < used) → steps_to fs n ≡ steps_to es n
unfolding steps_to
steps_keep es fs used linked same n u = trail_keeps n es fs used linked same n u

-- a page, filled from the back
pub set_back : (i : ℕ) (xs ts : List ℕ) (v : ℕ) → i < length xs → set (take (suc i) xs ++ ts) i v ≡ take i xs ++ (v ∷ ts)
set_back i [] ts v h = absurd (omega arith)
set_back zero (x ∷ xs) ts v h = refl
set_back (suc i) (x ∷ xs) ts v h = ap (λ (zs : List ℕ). x ∷ zs) (set_back i xs ts v (omega arith))

-- one byte more behind the front
pub set_front : (ss page : List ℕ) (v : ℕ) → length ss < length page → set (ss ++ drop (length ss) page) (length ss) v ≡ (ss ++ (v ∷ [])) ++ drop (suc (length ss)) page
set_front [] [] v h = absurd (omega arith)
set_front [] (x ∷ page) v h = refl
set_front (s ∷ ss) [] v h = absurd (omega arith)
set_front (s ∷ ss) (x ∷ page) v h = ap (λ (zs : List ℕ). s ∷ zs) (set_front ss page v (omega arith))

-- an entry that was read
module _ (es : List Entry) (used at : ℕ) (x : Entry) (linked : Linked es used) (here : x ≡ get_or es at x) (in' : at < length es) (some : ¬ (at ≡ 0)) (low : 0 < at → at < used) where
  read_as : x ≡ entry_at es at
  read_as = here ∙ get_or_default es at x (record { parent = 0; step = 0 }) in'

  pub read_link : x.parent < at
  read_link =
      let h : (entry_at es at).parent < at = linked at (omega arith) (low (omega arith)) in
      let e : x.parent ≡ (entry_at es at).parent = (λ j. (read_as j).parent) in
      omega arith

  pub read_low : x.parent < used
  read_low = let h = read_link in let i : at < used = low (omega arith) in omega arith

  pub read_steps : steps_to es at ≡ steps_to es x.parent ++ (x.step ∷ [])
  read_steps = steps_more es used linked at (omega arith) (low (omega arith)) ∙ ap (λ (y : Entry). steps_to es y.parent ++ (y.step ∷ [])) (sym read_as)

  pub read_count : (count : ℕ) → count + length (steps_to es at) ≡ count + 1 + length (steps_to es x.parent)
  read_count count =
      let e : length (steps_to es at) ≡ length (steps_to es x.parent ++ (x.step ∷ [])) = ap length read_steps in
      let f : length (steps_to es x.parent ++ (x.step ∷ [])) ≡ length (steps_to es x.parent) + 1 = length-append (steps_to es x.parent) (x.step ∷ []) in
      omega arith

-- one turn of the filling
pub fill_back : (S T done page from rest : List ℕ) (left step : ℕ) (steps : List ℕ) → steps ≡ S ++ (step ∷ []) → left ≡ length steps → T ≡ steps ++ done → left ≤ length from
    → page ≡ take left from ++ (done ++ rest) → (T ≡ S ++ (step ∷ done)) × (set page (left - 1) step ≡ take (left - 1) from ++ ((step ∷ done) ++ rest))
fill_back S T done page from rest left step steps more e t room p =
    let n : length steps ≡ length S + 1 = ap length more ∙ length-append S (step ∷ []) in
    let k : left ≡ suc (length S) = omega arith in
    let k' : left - 1 ≡ length S = omega arith in (
      t ∙ ap (λ (z : List ℕ). z ++ done) more ∙ append_assoc S (step ∷ []) done,
      ap (λ (z : List ℕ). set z (left - 1) step) p ∙ ap (λ (z : ℕ). set (take left from ++ (done ++ rest)) z step) k' ∙ ap (λ (z : ℕ). set (take z from ++ (done ++ rest)) (length S) step) k
          ∙ set_back (length S) from (done ++ rest) step (omega arith) ∙ ap (λ (z : ℕ). take z from ++ (step ∷ (done ++ rest))) (sym k'),
    )

-- the whole of what was written, when the start is reached
pub filled_page : (S T done page from rest : List ℕ) (left : ℕ) → S ≡ [] → left ≡ length S → T ≡ S ++ done → page ≡ take left from ++ (done ++ rest) → page ≡ T ++ rest
filled_page S T done page from rest left s e t p =
    let z : left ≡ 0 = e ∙ ap length s in
    p ∙ ap (λ (n : ℕ). take n from ++ (done ++ rest)) z ∙ ap (λ (ts : List ℕ). ts ++ rest) (sym (t ∙ ap (λ (ts : List ℕ). ts ++ done) s))

-- an entry more
module _ (es : List Entry) (used : ℕ) (x : Entry) (linked : Linked es used) (room : used < length es) (known : x.parent < used) where
  below : (k : ℕ) → k < used → entry_at (set es used x) k ≡ entry_at es k
  below k h = get_or-set_other es used k x (record { parent = 0; step = 0 }) (omega arith)

  here : entry_at (set es used x) used ≡ x
  here = get_or-set_same es used x (record { parent = 0; step = 0 }) room

  pub linked_more : Linked (set es used x) (used + 1)
  linked_more n z h = ⊎_elim (λ (l : n < used). let e : (entry_at (set es used x) n).parent ≡ (entry_at es n).parent = (λ j. (below n l j).parent) in let b = linked n z l in omega arith)
      (λ (g : used ≤ n). let e : n ≡ used = omega arith in let p : (entry_at (set es used x) n).parent ≡ x.parent = ap (λ (k : ℕ). (entry_at (set es used x) k).parent) e ∙ (λ j. (here j).parent) in omega arith) (cases_lt n used)

  pub entered : (r : ℕ) → r ≡ used → Enters es used x (set es used x) (used + 1) r
  entered r e = record {
    known = omega arith;
    more = omega arith;
    long = length-set es used x;
    old = λ k h. steps_keep es (set es used x) used linked below k (λ q. h);
    new = λ _. (
      refl,
      ap (steps_to (set es used x)) e ∙ steps_more (set es used x) (used + 1) linked_more used (omega arith) (omega arith) ∙ ap (λ (y : Entry). steps_to (set es used x) y.parent ++ (y.step ∷ [])) here
          ∙ ap (λ (zs : List ℕ). zs ++ (x.step ∷ [])) (steps_keep es (set es used x) used linked below x.parent (λ q. known)),
    );
  }

-- the steps to an entry and one more, in the front of a page
pub page_written : (ss page after : List ℕ) (v n : ℕ) → n ≡ length ss → n < length page → after ≡ ss ++ drop (length ss) page →
    (n + 1 ≡ length (ss ++ (v ∷ []))) × (set after n v ≡ (ss ++ (v ∷ [])) ++ drop (length (ss ++ (v ∷ []))) page)
page_written ss page after v n e l h =
    let m : length (ss ++ (v ∷ [])) ≡ suc (length ss) = (let z = length-append ss (v ∷ []) in omega arith) in
    (omega arith, ap (λ z. set z n v) h ∙ ap (λ (z : ℕ). set (ss ++ drop (length ss) page) z v) e ∙ set_front ss page v (omega arith) ∙ ap (λ (z : ℕ). (ss ++ (v ∷ [])) ++ drop z page) (sym m))

-- Reading piece by piece: how a piece carries on, and what each way to stop says of the text.
use Rattle.std.proofs.Common.{◌≡◌, ℕ, ◌+◌, ◌<◌, ◌≤◌, Bool, true, false, ◌⊎◌, List, [], ◌∷◌, ◌++◌, length, Some, None, Option, sym, refl, ap, ◌∙◌, subst, inl, inr, append_assoc, append-nil, arith, length-append}
use Rattle.std.proofs.lemmas.Bool.{cases_Bool, cases_lt}
use Rattle.forms.specs.Bytes.{space, digit, letter, wordy, Every, Stops}
use Rattle.forms.specs.Forms.{Form, Viable, Dead, Misfit, Refused, Accepted}
use Rattle.forms.specs.Grammars.{Grammar, Takes, stop, go, Faults, here, later, short, form, Closed, Lawful}
use Rattle.forms.specs.Pieces.{Piece, word, number, mark, head_of, Stands, Next, Comes}
use Rattle.forms.specs.Steps.{SameHead, Step}
use Rattle.forms.proofs.Laws.{apart, head_eq, run_unique, stops_head, head_self, no_misfit, past_viable}
use Rattle.forms.proofs.Lexing.{begins, next_unique, every_right, every_both, piece_stops, digit_stops}

-- Something is not nothing.
pub some_none : {A B : Type 0} (o : Option A) (x : A) → o ≡ Some x → o ≡ None → B
some_none o x p q = absurd (let z : ◌≡◌ {A = ℕ} 0 1 = cc in omega arith)

pub some_same : {A : Type 0} (o : Option A) (x y : A) → o ≡ Some x → o ≡ Some y → x ≡ y
some_same o x y p q = cc

-- The piece stands there whatever comes later, as long as the next byte is the same.
pub next_again : (t : Bool) (x : Piece) (s sp b r u : List ℕ) → Next t x s sp b r → SameHead r u → Next t x ((sp ++ b) ++ u) sp b u
next_again false (word w) s sp b r u h k = (append_assoc sp b u, h.1, (h.2.0, h.2.1, h.2.2, stops_head wordy r u k h.2.3))
next_again false (number w) s sp b r u h k = (append_assoc sp b u, h.1, (h.2.0, h.2.1, h.2.2, stops_head digit r u k h.2.3))
next_again false (mark m) s sp b r u h k = (append_assoc sp b u, h.1, h.2)
next_again true (word w) s sp b r u h k = absurd h
next_again true (number w) s sp b r u h k = absurd h
next_again true (mark m) s sp b r u h k = (ap (λ (y : List ℕ). (y ++ b) ++ u) h.1, h.1, h.2)

pub next_whole : (t : Bool) (x : Piece) (s sp b r : List ℕ) → Next t x s sp b r → s ≡ (sp ++ b) ++ r
next_whole false x s sp b r h = h.0 ∙ sym (append_assoc sp b r)
next_whole true (word w) s sp b r h = absurd h
next_whole true (number w) s sp b r h = absurd h
next_whole true (mark m) s sp b r h = h.0 ∙ sym (ap (λ (y : List ℕ). (y ++ b) ++ r) h.1)

-- A piece has a byte.
pub next_some : (t : Bool) (x : Piece) (s sp b r : List ℕ) → Next t x s sp b r → 0 < length b
next_some false x s sp b r h = let y = begins x b r h.2 in let z = ap length y.2 in omega arith
next_some true (word w) s sp b r h = absurd h
next_some true (number w) s sp b r h = absurd h
next_some true (mark m) s sp b r h = let z = ap length h.2 in omega arith

-- Where a piece stands there are not spaces alone.
pub next_spaces : {A : Type 0} (x : Piece) (s sp b r : List ℕ) → Next false x s sp b r → Every space s → A
next_spaces x s sp b r h e =
    let y = begins x b r h.2 in
    let z : Every space (b ++ r) = every_right space sp (b ++ r) (subst (Every space) h.0 e) in
    let w : Every space ((y.0 ∷ y.1) ++ r) = subst (λ (q : List ℕ). Every space (q ++ r)) y.2 z in
    apart (space y.0) w.0 y.4

-- The next piece begins with the next byte that is no space.
pub next_head : (t : Bool) (x : Piece) (s sp sp' b r u : List ℕ) (c : ℕ) → Next t x s sp b r → Comes t s sp' c u → head_of x ≡ c
next_head false x s sp sp' b r u c h k =
    let y = run_unique space sp sp' (b ++ r) (c ∷ u) h.1 k.gap (piece_stops x b r h.2) (k.plain refl) (sym h.0 ∙ k.whole) in
    let z = begins x b r h.2 in
    let y1 = y.1 in
    let z2 = z.2 in
    let z3 = z.3 in
    let e : (z.0 ∷ z.1) ++ r ≡ c ∷ u = cc in
    z3 ∙ head_eq z.0 c (z.1 ++ r) u e
next_head true (word w) s sp sp' b r u c h k = absurd h
next_head true (number w) s sp sp' b r u c h k = absurd h
next_head true (mark m) s sp sp' b r u c h k =
    let h0 = h.0 in
    let h2 = h.2 in
    let k0 = k.whole in
    let k1 = k.none refl in
    let e : m ∷ r ≡ c ∷ u = cc in
    head_eq m c r u e

-- No piece begins with a zero that a digit follows.
zero_none : {A : Type 0} (x : Piece) (b r u : List ℕ) (d : ℕ) → Stands x b r → b ++ r ≡ 48 ∷ d ∷ u → digit d ≡ true → A
zero_none (word []) b r u d h e k = absurd h.2
zero_none (word (c ∷ w)) b r u d h e k =
    let h0 = h.0 in
    let q : c ≡ 48 = cc in apart false (subst (λ (y : ℕ). letter y ≡ true) q h.2) refl
zero_none (number []) b r u d h e k = absurd h.2
zero_none (number (c ∷ [])) b r u d h e k =
    let h0 = h.0 in
    let q : r ≡ d ∷ u = cc in apart (digit d) k (subst (Stops digit) q h.3)
zero_none (number (c ∷ g ∷ w)) b r u d h e k =
    let h0 = h.0 in
    let q : c ≡ 48 = cc in absurd (h.2 q)
zero_none (mark m) b r u d h e k =
    let h0 = h.0 in
    let q : m ≡ 48 = cc in apart true refl (subst (λ (y : ℕ). wordy y ≡ false) q h.2)

module _ {P V : Type 0} (G : Grammar P V) (law : Lawful G) where
  -- Spaces alone are no text with a piece in it, and in a tight place they are no text at all.
  ended : {A : Type 0} (p : P) (v : V) (x : Piece) (s sp b r : List ℕ) → Next (G.tight p) x s sp b r → Every space s → G.ends p s ≡ Some v → A
  ended {A} p v x s sp b r h e f =
      elim (cases_Bool (G.tight p)) [
        | inl y ↦ some_none (G.ends p s) v f (law.whole p s y)
        | inr y ↦ next_spaces x s sp b r (subst (λ (z : Bool). Next z x s sp b r) y h) e
      ]

  pub takes_on : (p q : P) (a : ℕ) (v : V) (x : Piece) (s sp b r : List ℕ) → Takes G p a v s → Next (G.tight p) x s sp b r
      → G.after p x (a + length sp) ≡ Some q → Takes G q (a + length (sp ++ b)) v r
  takes_on p q a v x s sp b r (stop _ _ _ _ e f) h g = ended p v x s sp b r h e f
  takes_on p q a v x s sp b r (go _ q' _ _ x' _ sp' b' r' h' g' t) h g =
      let u = next_unique (G.tight p) x x' s sp sp' b b' r r' h h' in
      let u0 = u.0 in
      let u1 = u.1 in
      let u2 = u.2 in
      let u3 = u.3 in
      let m : G.after p x (a + length sp) ≡ Some q' = cc in
      let n = some_same (G.after p x (a + length sp)) q q' g m in
      let l : a + length (sp' ++ b') ≡ a + length (sp ++ b) = cc in
      subst (λ (z : List ℕ). Takes G q (a + length (sp ++ b)) v z) (sym u3)
      (subst (λ (z : ℕ). Takes G q z v r') l (subst (λ (z : P). Takes G z (a + length (sp' ++ b')) v r') (sym n) t))

  -- A fault where a piece stands is the piece's own, or lies after it.
  pub faults_on : (p q : P) (a n k : ℕ) (x : Piece) (s sp b r : List ℕ) → Faults G p a n k s → Next (G.tight p) x s sp b r
      → G.after p x (a + length sp) ≡ Some q
      → ((k ≡ length sp) × G.bad p x r n) ⊎ ((j : ℕ) × (k ≡ length (sp ++ b) + j) × Faults G q (a + length (sp ++ b)) n j r)
  faults_on p q a n k x s sp b r (here _ q' _ _ x' _ sp' b' r' h' g' f) h g =
      let u = next_unique (G.tight p) x x' s sp sp' b b' r r' h h' in
      inl (ap length (sym u.1), subst (λ (z : List ℕ). G.bad p x z n) (sym u.3) (subst (λ (z : Piece). G.bad p z r' n) (sym u.0) f))
  faults_on p q a n k x s sp b r (later _ q' _ _ j x' _ sp' b' r' h' g' f) h g =
      let u = next_unique (G.tight p) x x' s sp sp' b b' r r' h h' in
      let u0 = u.0 in
      let u1 = u.1 in
      let u2 = u.2 in
      let u3 = u.3 in
      let m : G.after p x (a + length sp) ≡ Some q' = cc in
      let o = some_same (G.after p x (a + length sp)) q q' g m in
      let i : length (sp' ++ b') ≡ length (sp ++ b) = cc in
      let l : a + length (sp' ++ b') ≡ a + length (sp ++ b) = cc in
      let e : length (sp' ++ b') + j ≡ length (sp ++ b) + j = cc in
      inr (
        j,
        e,
        subst (λ (z : List ℕ). Faults G q (a + length (sp ++ b)) n j z) (sym u3)
            (subst (λ (z : ℕ). Faults G q z n j r') l (subst (λ (z : P). Faults G z (a + length (sp' ++ b')) n j r') (sym o) f)),
      )
  faults_on p q a n k x s sp b r (short _ _ _ v _ e f l) h g = ended p v x s sp b r h e f

  -- From each position some text goes on.
  alive : (p : P) (a : ℕ) → (v : V) × (u : List ℕ) × Takes G p a v u × (G.tight p ≡ false → Stops wordy u)
  alive p a =
      let l = law.lives p a in
      (l.value, l.gap ++ (l.body ++ l.rest), go p l.on a l.value l.piece _ l.gap l.body l.rest l.stands l.goes l.more, l.free)

  -- The piece stands before some text that goes on.
  stands_before : (p q : P) (a : ℕ) (x : Piece) (s sp b r u : List ℕ) → Next (G.tight p) x s sp b r → G.after p x a ≡ Some q
      → (G.tight q ≡ false → Stops wordy u) → Next (G.tight p) x ((sp ++ b) ++ u) sp b u
  stands_before p q a x s sp b r u h g f = by (G.tight p) x refl h g
    where
      by : (t : Bool) (x : Piece) → G.tight p ≡ t → Next t x s sp b r → G.after p x a ≡ Some q → Next t x ((sp ++ b) ++ u) sp b u
      by false (word w) e h g = (append_assoc sp b u, h.1, (h.2.0, h.2.1, h.2.2, f (law.word_loose p q w a e h.2.2 g)))
      by false (number w) e h g = (append_assoc sp b u, h.1, (h.2.0, h.2.1, h.2.2, digit_stops u (f (law.number_loose p q w a e h.2.1 h.2.2 g))))
      by false (mark m) e h g = (append_assoc sp b u, h.1, h.2)
      by true (word w) e h g = absurd h
      by true (number w) e h g = absurd h
      by true (mark m) e h g = (ap (λ (y : List ℕ). (y ++ b) ++ u) h.1, h.1, h.2)

  -- A piece that may stand here, with no fault: reading goes on after it.
  pub pass : (p q : P) (a : ℕ) (x : Piece) (s sp b r : List ℕ) → Next (G.tight p) x s sp b r → G.after p x (a + length sp) ≡ Some q
      → ((n : ℕ) → G.bad p x r n → ⊥) → Step (form G p a) (form G q (a + length (sp ++ b))) (sp ++ b) r
  pass p q a x s sp b r h g fine =
      let o = alive q (a + length (sp ++ b)) in
      record {
        ahead = λ v u k t. go p q a v x ((sp ++ b) ++ u) sp b u (next_again (G.tight p) x s sp b r u h k) g t;
        back = λ v u k t. takes_on p q a v x ((sp ++ b) ++ u) sp b u t (next_again (G.tight p) x s sp b r u h k) g;
        down = λ n k f. later p q a n k x ((sp ++ b) ++ r) sp b r (next_again (G.tight p) x s sp b r r h (head_self r)) g f;
        up = λ n k f. elim (faults_on p q a n k x ((sp ++ b) ++ r) sp b r f (next_again (G.tight p) x s sp b r r h (head_self r)) g) [
          | inl y ↦ absurd (fine n y.1)
          | inr y ↦ y
        ];
        live = (
          o.0,
          o.1,
          go p q a o.0 x ((sp ++ b) ++ o.1) sp b o.1 (stands_before p q (a + length sp) x s sp b r o.1 h g o.3) g o.2,
          o.2,
        );
      }

  -- Spaces before any piece, where they are free.
  viable_gap : (p : P) (a : ℕ) (sp : List ℕ) → G.tight p ≡ false → Every space sp → Viable (form G p a) sp
  viable_gap p a sp e k =
      let l = law.lives p (a + length sp) in
      let n : Next false l.piece (l.gap ++ (l.body ++ l.rest)) l.gap l.body l.rest =
      subst (λ (z : Bool). Next z l.piece (l.gap ++ (l.body ++ l.rest)) l.gap l.body l.rest) e l.stands in
      let m : Next false l.piece (sp ++ (l.gap ++ (l.body ++ l.rest))) (sp ++ l.gap) l.body l.rest =
      (sym (append_assoc sp l.gap (l.body ++ l.rest)), every_both space sp l.gap k n.1, n.2) in
      let i : (a + length sp) + length l.gap ≡ a + length (sp ++ l.gap) = omega (arith, length-append sp l.gap) in
      let j : (a + length sp) + length (l.gap ++ l.body) ≡ a + length ((sp ++ l.gap) ++ l.body) =
      omega (arith, length-append sp l.gap, length-append l.gap l.body, length-append (sp ++ l.gap) l.body) in (
        l.value,
        l.gap ++ (l.body ++ l.rest),
        go p l.on a l.value l.piece _ (sp ++ l.gap) l.body l.rest
            (subst (λ (z : Bool). Next z l.piece (sp ++ (l.gap ++ (l.body ++ l.rest))) (sp ++ l.gap) l.body l.rest) (sym e) m)
            (subst (λ (z : ℕ). G.after p l.piece z ≡ Some l.on) i l.goes)
            (subst (λ (z : ℕ). Takes G l.on z l.value l.rest) j l.more),
      )

  -- A tight place is viable as it is.
  viable_here : (p : P) (a : ℕ) (sp : List ℕ) → (G.tight p ≡ true → sp ≡ []) → Every space sp → Viable (form G p a) sp
  viable_here p a sp e k = elim (cases_Bool (G.tight p)) [
    | inl y ↦ (let o = alive p a in (o.0, o.1, subst (λ (z : List ℕ). Takes G p a o.0 (z ++ o.1)) (sym (e y)) o.2))
    | inr y ↦ viable_gap p a sp y k
  ]

  -- A piece with a fault, the least of those that it has: that fault, where the piece begins.
  pub bad_refused : (p q : P) (a n : ℕ) (x : Piece) (s sp b r : List ℕ) → Next (G.tight p) x s sp b r → G.after p x (a + length sp) ≡ Some q
      → G.bad p x r n → ((m : ℕ) → G.bad p x r m → n ≤ m) → Refused (form G p a) s n (length sp)
  bad_refused p q a n x s sp b r h g f least =
      let o = alive q (a + length (sp ++ b)) in
      let w : Viable (form G p a) (sp ++ b) =
      (o.0, o.1, go p q a o.0 x ((sp ++ b) ++ o.1) sp b o.1 (stands_before p q (a + length sp) x s sp b r o.1 h g o.3) g o.2) in
      let long = next_some (G.tight p) x s sp b r h in
      record {
        flawed = inr (here p q a n x s sp b r h g f);
        first = λ m j y. elim y [
          | inl z ↦
              (let k = past_viable (form G p a) (sp ++ b) r j w (subst (λ (u : List ℕ). Misfit (form G p a) u j) (next_whole (G.tight p) x s sp b r h) z.1) in
              inl (omega (arith, k, long, length-append sp b)))
          | inr z ↦ elim (faults_on p q a m j x s sp b r z h g) [
            | inl u ↦ (let i = u.0 in inr (sym i, least m u.1))
            | inr u ↦ (let i = u.1 in inl (omega (arith, i, long, length-append sp b)))
          ]
        ];
      }

  -- Ten at a place is first where no misfit lies below it and nothing else has a fault.
  ten_first : (F : Form V) (g r : List ℕ) → Viable F g → ((n k : ℕ) → F.faults n k (g ++ r) → ⊥) → Dead F g r → Refused F (g ++ r) 10 (length g)
  ten_first F g r v none dead = record {
    flawed = inl (refl, (g, r, refl, refl, v, dead));
    first = λ m j f. elim f [
      | inl x ↦
          (let x0 = x.0 in
          let k = past_viable F g r j v x.1 in
          elim (cases_lt (length g) j) [ inl l ↦ inl l | inr l ↦ (let e : length g ≡ j = omega arith in inr (e, omega arith)) ])
      | inr x ↦ absurd (none m j x)
    ];
  }

  -- In a place where a byte comes that no piece may begin with, nothing is taken, and no piece has a fault.
  module _ (p : P) (c : ℕ) (shut : Closed G p c) where
    shut_takes : (a : ℕ) (v : V) (s sp u : List ℕ) → Takes G p a v s → Comes (G.tight p) s sp c u → ⊥
    shut_takes a v s sp u (stop _ _ _ _ e f) k = elim (cases_Bool (G.tight p)) [
      | inl y ↦ some_none (G.ends p s) v f (law.whole p s y)
      | inr y ↦ (let z : Every space (c ∷ u) = every_right space sp (c ∷ u) (subst (Every space) k.whole e) in apart (space c) z.0 (k.plain y))
    ]
    shut_takes a v s sp u (go _ q _ _ x _ sp' b r h g t) k =
        some_none (G.after p x (a + length sp')) q g (shut x (a + length sp') (next_head (G.tight p) x s sp' sp b r u c h k))

    shut_faults : (a n j : ℕ) (s sp u : List ℕ) → Faults G p a n j s → Comes (G.tight p) s sp c u → ⊥
    shut_faults a n j s sp u (here _ q _ _ x _ sp' b r h g f) k =
        some_none (G.after p x (a + length sp')) q g (shut x (a + length sp') (next_head (G.tight p) x s sp' sp b r u c h k))
    shut_faults a n j s sp u (later _ q _ _ _ x _ sp' b r h g f) k =
        some_none (G.after p x (a + length sp')) q g (shut x (a + length sp') (next_head (G.tight p) x s sp' sp b r u c h k))
    shut_faults a n j s sp u (short _ _ _ v _ e f l) k = shut_takes a v s sp u (stop p a v s e f) k

    -- A byte that begins no piece which may stand here: ten, at that byte.
    pub off_refused : (a : ℕ) (s sp u : List ℕ) → Comes (G.tight p) s sp c u → Refused (form G p a) s 10 (length sp)
    off_refused a s sp u k =
        subst (λ (z : List ℕ). Refused (form G p a) z 10 (length sp)) (sym k.whole)
        (ten_first (form G p a) sp (c ∷ u) (viable_here p a sp k.none k.gap)
        (λ n j f. shut_faults a n j (sp ++ (c ∷ u)) sp u f (record { whole = refl; gap = k.gap; none = k.none; plain = k.plain }))
        (λ v w t. shut_takes a v (sp ++ (c ∷ w)) sp w t (record { whole = refl; gap = k.gap; none = k.none; plain = k.plain })))

  -- A number with a zero before its other digits: ten, at its second digit.
  module _ (p q : P) (a : ℕ) (loose : G.tight p ≡ false) (sp : List ℕ) (gap : Every space sp) (may : G.after p (number (48 ∷ [])) (a + length sp) ≡ Some q) where
    zero_next : (x : Piece) (d : ℕ) (s sp' b r u : List ℕ) → digit d ≡ true → s ≡ sp ++ (48 ∷ d ∷ u) → Next (G.tight p) x s sp' b r → ⊥
    zero_next x d s sp' b r u k e h =
        let n : Next false x s sp' b r = subst (λ (z : Bool). Next z x s sp' b r) loose h in
        let y = run_unique space sp' sp (b ++ r) (48 ∷ d ∷ u) n.1 gap (piece_stops x b r n.2) refl (sym n.0 ∙ e) in
        zero_none x b r u d n.2 y.1 k

    zero_stop : (d : ℕ) (u : List ℕ) → Every space (sp ++ (48 ∷ d ∷ u)) → ⊥
    zero_stop d u e = let z : Every space (48 ∷ d ∷ u) = every_right space sp (48 ∷ d ∷ u) e in apart false z.0 refl

    zero_takes : (v : V) (d : ℕ) (s u : List ℕ) → digit d ≡ true → s ≡ sp ++ (48 ∷ d ∷ u) → Takes G p a v s → ⊥
    zero_takes v d s u k e (stop _ _ _ _ f g) = zero_stop d u (subst (Every space) e f)
    zero_takes v d s u k e (go _ q' _ _ x _ sp' b r h g t) = zero_next x d s sp' b r u k e h

    zero_faults : (n j d : ℕ) (s u : List ℕ) → digit d ≡ true → s ≡ sp ++ (48 ∷ d ∷ u) → Faults G p a n j s → ⊥
    zero_faults n j d s u k e (here _ q' _ _ x _ sp' b r h g f) = zero_next x d s sp' b r u k e h
    zero_faults n j d s u k e (later _ q' _ _ _ x _ sp' b r h g f) = zero_next x d s sp' b r u k e h
    zero_faults n j d s u k e (short _ _ _ v _ f g l) = zero_stop d u (subst (Every space) e f)

    zero_viable : Viable (form G p a) (sp ++ (48 ∷ []))
    zero_viable =
        let o = alive q (a + length (sp ++ (48 ∷ []))) in
        let n : Next (G.tight p) (number (48 ∷ [])) (sp ++ ((48 ∷ []) ++ [])) sp (48 ∷ []) [] =
        subst (λ (z : Bool). Next z (number (48 ∷ [])) (sp ++ ((48 ∷ []) ++ [])) sp (48 ∷ []) []) (sym loose) (refl, gap, (refl, (refl, tt), tt, tt)) in (
          o.0,
          o.1,
          go p q a o.0 (number (48 ∷ [])) ((sp ++ (48 ∷ [])) ++ o.1) sp (48 ∷ []) o.1
              (stands_before p q (a + length sp) (number (48 ∷ [])) (sp ++ ((48 ∷ []) ++ [])) sp (48 ∷ []) [] o.1 n may o.3) may o.2,
        )

    pub zero_refused : (d : ℕ) (s u : List ℕ) → digit d ≡ true → s ≡ sp ++ (48 ∷ d ∷ u) → Refused (form G p a) s 10 (length sp + 1)
    zero_refused d s u k e =
        let i : length (sp ++ (48 ∷ [])) ≡ length sp + 1 = length-append sp (48 ∷ []) in
        let w : s ≡ (sp ++ (48 ∷ [])) ++ (d ∷ u) = e ∙ sym (append_assoc sp (48 ∷ []) (d ∷ u)) in
        subst (λ (z : List ℕ). Refused (form G p a) z 10 (length sp + 1)) (sym w)
        (subst (λ (z : ℕ). Refused (form G p a) ((sp ++ (48 ∷ [])) ++ (d ∷ u)) 10 z) i
        (ten_first (form G p a) (sp ++ (48 ∷ [])) (d ∷ u) zero_viable
        (λ n j f. zero_faults n j d ((sp ++ (48 ∷ [])) ++ (d ∷ u)) u k (append_assoc sp (48 ∷ []) (d ∷ u)) f)
        (λ v y t. zero_takes v d ((sp ++ (48 ∷ [])) ++ (d ∷ y)) y k (append_assoc sp (48 ∷ []) (d ∷ y)) t)))

  -- The text ends.
  module _ (p : P) (a : ℕ) (s : List ℕ) (gap : Every space s) (none : G.tight p ≡ true → s ≡ []) where
    no_next : {A : Type 0} (x : Piece) (sp b r : List ℕ) → Next (G.tight p) x s sp b r → A
    no_next {A} x sp b r h = elim (cases_Bool (G.tight p)) [
      | inl y ↦
          (let i = next_some (G.tight p) x s sp b r h in
          let w = ap length (next_whole (G.tight p) x s sp b r h) in
          let z = ap length (none y) in
          absurd (omega (arith, i, w, z, length-append (sp ++ b) r, length-append sp b)))
      | inr y ↦ next_spaces x s sp b r (subst (λ (z : Bool). Next z x s sp b r) y h) gap
    ]

    end_takes : (v : V) → Takes G p a v s → G.ends p s ≡ Some v
    end_takes v (stop _ _ _ _ e f) = f
    end_takes v (go _ q _ _ x _ sp b r h g t) = no_next x sp b r h

    end_faults : (n k : ℕ) → Faults G p a n k s → (k ≡ length s) × G.lacks p n × ((v : V) × (G.ends p s ≡ Some v))
    end_faults n k (here _ q _ _ x _ sp b r h g f) = no_next x sp b r h
    end_faults n k (later _ q _ _ _ x _ sp b r h g f) = no_next x sp b r h
    end_faults n k (short _ _ _ v _ e f l) = (refl, l, (v, f))

    -- The text breaks off: ten, at its length.
    pub broken_refused : G.ends p s ≡ None → Refused (form G p a) s 10 (length s)
    broken_refused e =
        subst (λ (z : List ℕ). Refused (form G p a) z 10 (length s)) (append-nil s)
        (ten_first (form G p a) s [] (viable_here p a s none gap)
        (λ n j f. let y = end_faults n j (subst (Faults G p a n j) (append-nil s) f) in some_none (G.ends p s) y.2.0 y.2.1 e)
        (λ v t. some_none (G.ends p s) v (end_takes v t) e))

    -- The text may end here, and has no fault.
    pub end_accepted : (v : V) → G.ends p s ≡ Some v → ((n : ℕ) → G.lacks p n → ⊥) → Accepted (form G p a) s v
    end_accepted v e fine = record {
      writes = stop p a v s gap e;
      only = λ w t. some_same (G.ends p s) w v (end_takes w t) e;
      sound = λ m j f. elim f [
        | inl x ↦ no_misfit (form G p a) s v j (stop p a v s gap e) x.1
        | inr x ↦ fine m (end_faults m j x).1
      ];
    }

    -- The text may end here, and lacks something.
    pub end_refused : (v : V) (n : ℕ) → G.ends p s ≡ Some v → G.lacks p n → ((m : ℕ) → G.lacks p m → n ≤ m) → Refused (form G p a) s n (length s)
    end_refused v n e l least = record {
      flawed = inr (short p a n v s gap e l);
      first = λ m j f. elim f [
        | inl x ↦ absurd (no_misfit (form G p a) s v j (stop p a v s gap e) x.1)
        | inr x ↦ (let y = end_faults m j x in inr (sym y.0, least m y.1))
      ];
    }

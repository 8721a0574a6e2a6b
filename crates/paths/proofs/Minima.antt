-- The least of a list of places, and where it is from.
use Rattle.std.proofs.Common.{◌≡◌, ℕ, zero, suc, ◌<◌, ◌≤◌, Bool, true, false, cond, ◌⊎◌, List, [], ◌∷◌, ◌++◌, length, get_or, filter, min, Some, None, Decides, Option, sym, refl, ap, ◌∙◌, subst, inl, inr, arith}
use Rattle.std.proofs.lemmas.Bool.{cases_lt}
use Rattle.std.specs.List.{fold, cons_option, filter_map, flat_map}
use Rattle.paths.specs.Paths.{events_of, state, Unwritten}
use Rattle.paths.specs.Reads.{exposed, least, Among, OpenRead, FirstOpen}
use Rattle.property.specs.declared.table.Statement.{Statement}

-- The smaller of two numbers, of which each may be missing.
abbrev pub lesser : Option ℕ → Option ℕ → Option ℕ
lesser None b = b
lesser (Some n) None = Some n
lesser (Some n) (Some m) = Some (min n m)

pub lesser_assoc : (a b c : Option ℕ) → lesser (lesser a b) c ≡ lesser a (lesser b c)
lesser_assoc None b c = refl
lesser_assoc (Some n) None c = refl
lesser_assoc (Some n) (Some m) None = refl
lesser_assoc (Some n) (Some m) (Some k) = let e : min (min n m) k ≡ min n (min m k) = omega arith in ap Some e

fold_from : (n m : ℕ) (ns : List ℕ) → fold min (min n m) ns ≡ min n (fold min m ns)
fold_from n m [] = refl
fold_from n m (k ∷ ns) =
    let e : min (min n m) k ≡ min n (min m k) = omega arith in
    ap (λ (i : ℕ). fold min i ns) e ∙ fold_from n (min m k) ns

pub least_more : (n : ℕ) (ns : List ℕ) → least (n ∷ ns) ≡ lesser (Some n) (least ns)
least_more n [] = refl
least_more n (m ∷ ns) = ap Some (fold_from n m ns)

least_append : (xs ys : List ℕ) → least (xs ++ ys) ≡ lesser (least xs) (least ys)
least_append [] ys = refl
least_append (x ∷ xs) ys =
    least_more x (xs ++ ys) ∙ (ap (lesser (Some x)) (least_append xs ys) ∙ (sym (lesser_assoc (Some x) (least xs) (least ys)) ∙ ap (λ (o : Option ℕ). lesser o (least ys)) (sym (least_more x xs))))

least_option : (o : Option ℕ) (ns : List ℕ) → least (cons_option o ns) ≡ lesser o (least ns)
least_option None ns = refl
least_option (Some n) ns = least_more n ns

-- The least of the leasts of some lists is the least of them together.
pub least_flat : {A : Type 0} (f : A → List ℕ) (xs : List A) → least (filter_map (λ a. least (f a)) xs) ≡ least (flat_map f xs)
least_flat f [] = refl
least_flat f (x ∷ xs) =
    least_option (least (f x)) (filter_map (λ a. least (f a)) xs) ∙ (ap (lesser (least (f x))) (least_flat f xs) ∙ sym (least_append (f x) (flat_map f xs)))

-- The answer is the least number of ns, and none exactly where ns is empty.
abbrev Least : List ℕ → Option ℕ → Type 0
Least ns None = ns ≡ []
Least ns (Some n) = Among n ns × ((m : ℕ) → Among m ns → n ≤ m)

min_either : (n k : ℕ) → (min n k ≡ n) ⊎ (min n k ≡ k)
min_either n k = elim (cases_lt k n) [
  | inl h ↦ (let e : min n k ≡ k = omega arith in inr e)
  | inr h ↦ (let e : min n k ≡ n = omega arith in inl e)
]

least_fold : (n : ℕ) (ns : List ℕ) → Least (n ∷ ns) (Some (fold min n ns))
least_fold n [] = (inl refl, λ m a. elim a [ inl z ↦ omega arith | inr z ↦ absurd z ])
least_fold n (k ∷ ns) = step (least_fold (min n k) ns)
  where
    step : Least (min n k ∷ ns) (Some (fold min (min n k) ns)) → Least (n ∷ (k ∷ ns)) (Some (fold min (min n k) ns))
    step (a, low) = (pick a, below)
      where
        pick : Among (fold min (min n k) ns) (min n k ∷ ns) → Among (fold min (min n k) ns) (n ∷ (k ∷ ns))
        pick (inl e) = elim (min_either n k) [ inl z ↦ inl (e ∙ z) | inr z ↦ inr (inl (e ∙ z)) ]
        pick (inr b) = inr (inr b)

        below : (m : ℕ) → Among m (n ∷ (k ∷ ns)) → fold min (min n k) ns ≤ m
        below m (inl z) = let y = low (min n k) (inl refl) in omega arith
        below m (inr (inl z)) = let y = low (min n k) (inl refl) in omega arith
        below m (inr (inr z)) = low m (inr z)

least_is : (ns : List ℕ) → Least ns (least ns)
least_is [] = refl
least_is (n ∷ ns) = least_fold n ns

among_either : (n : ℕ) (xs ys : List ℕ) → Among n (xs ++ ys) → Among n xs ⊎ Among n ys
among_either n [] ys a = inr a
among_either n (x ∷ xs) ys (inl e) = inl (inl e)
among_either n (x ∷ xs) ys (inr a) = elim (among_either n xs ys a) [ inl b ↦ inl (inr b) | inr b ↦ inr b ]

among_left : (n : ℕ) (xs ys : List ℕ) → Among n xs → Among n (xs ++ ys)
among_left n [] ys a = absurd a
among_left n (x ∷ xs) ys (inl e) = inl e
among_left n (x ∷ xs) ys (inr a) = inr (among_left n xs ys a)

among_right : (n : ℕ) (xs ys : List ℕ) → Among n ys → Among n (xs ++ ys)
among_right n [] ys a = a
among_right n (x ∷ xs) ys a = inr (among_right n xs ys a)

-- What the elements that pass a test give, one by one.
module _ {A : Type 0} (give : A → List ℕ) (test : A → Bool) (n : ℕ) where
  -- A place where an element gives the number.
  abbrev GivenAt : List A → Type 0
  GivenAt xs = (k : ℕ) × ((k < length xs) × ((d : A) → (test (get_or xs k d) ≡ true) × Among n (give (get_or xs k d))))

  one_on : (x : A) (xs : List A) → GivenAt xs → GivenAt (x ∷ xs)
  one_on x xs y = let h : y.0 < length xs = y.1.0 in let z : suc y.0 < length (x ∷ xs) = omega arith in (suc y.0, (z, y.1.1))

  first_given : (x : A) (xs : List A) → (b : Bool) → test x ≡ b → Among n (flat_map give (cond b (x ∷ filter test xs) (filter test xs)))
      → (Among n (flat_map give (filter test xs)) → GivenAt xs) → GivenAt (x ∷ xs)
  first_given x xs true e a later =
      elim (among_either n (give x) (flat_map give (filter test xs)) a) [
        | inl b ↦ (let h : 0 < length (x ∷ xs) = omega arith in (0, (h, λ _. (e, b))))
        | inr b ↦ one_on x xs (later b)
      ]
  first_given x xs false e a later = one_on x xs (later a)

  given_from : (xs : List A) → Among n (flat_map give (filter test xs)) → GivenAt xs
  given_from [] a = absurd a
  given_from (x ∷ xs) a = first_given x xs (test x) refl a (λ b. given_from xs b)

  one_more : (x : A) (xs : List A) (b : Bool) → Among n (flat_map give (filter test xs)) → Among n (flat_map give (cond b (x ∷ filter test xs) (filter test xs)))
  one_more x xs true a = among_right n (give x) (flat_map give (filter test xs)) a
  one_more x xs false a = a

  given_to : (k : ℕ) (d : A) (xs : List A) → k < length xs → test (get_or xs k d) ≡ true → Among n (give (get_or xs k d)) → Among n (flat_map give (filter test xs))
  given_to k d [] h e a = absurd (omega arith)
  given_to zero d (x ∷ xs) h e a =
      subst (λ (b : Bool). Among n (flat_map give (cond b (x ∷ filter test xs) (filter test xs)))) (sym e) (among_left n (give x) (flat_map give (filter test xs)) a)
  given_to (suc k) d (x ∷ xs) h e a = one_more x xs (test x) (given_to k d xs (omega arith) e a)

module _ (ss : List Statement) (x : ℕ) (f : List Bool) (right : (q : ℕ) → Decides (get_or f q false) (Unwritten ss x q)) where
  abbrev reads : Statement → List ℕ
  reads s = exposed x (events_of s)

  abbrev flag : Statement → Bool
  flag s = get_or f (state s.source) false

  some_statement : Statement
  some_statement = record { source = 0; target = 0; events = []; span = 0 }

  open_from : (n : ℕ) → Among n (flat_map reads (filter flag ss)) → OpenRead ss x n
  open_from n a =
      let y = given_from reads flag n ss a in
      record { place = y.0; within = y.1.0; reached = λ d. (right (state (get_or ss y.0 d).source)).0 (y.1.1 d).0; read = λ d. (y.1.1 d).1 }

  open_to : (n : ℕ) → OpenRead ss x n → Among n (flat_map reads (filter flag ss))
  open_to n r =
      given_to reads flag n r.place some_statement ss r.within ((right (state (get_or ss r.place some_statement).source)).1 (r.reached some_statement)) (r.read some_statement)

  opened : (o : Option ℕ) → Least (flat_map reads (filter flag ss)) o → FirstOpen ss x o
  opened None e = λ n r. subst (Among n) e (open_to n r)
  opened (Some n) (a, low) = (open_from n a, λ m r. low m (open_to m r))

  pub first_open : (o : Option ℕ) → o ≡ least (filter_map (λ s. least (reads s)) (filter flag ss)) → FirstOpen ss x o
  first_open o e =
      subst (FirstOpen ss x) (sym (e ∙ least_flat reads (filter flag ss))) (opened (least (flat_map reads (filter flag ss))) (least_is (flat_map reads (filter flag ss))))

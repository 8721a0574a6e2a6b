-- Laws of lists, which the other files use.
use Rattle.std.proofs.Common.{◌≡◌, ◌≤◌, List, [], ◌∷◌, map, length, get_or, drop, sym, refl, ap, subst, arith}
use Rattle.std.specs.Prelude.{All}
use Rattle.std.proofs.lemmas.List.{drop_more}
use Rattle.std.proofs.lemmas.List.Elements.{All-head, All-tail}
use mathlib.Core.List.Memᴰ
use Rattle.topl.specs.Lists.{◌∈◌, each}

-- What holds of all holds of each that stands in the list.
pub of_all : {X : Type 0} (Q : X → Type 0) {x : X} {xs : List X} → All Q xs → x ∈ xs → Q x
of_all Q h (Memᴰ.head {x = y} {xs = ys} e) = subst Q (sym e) (All-head Q y ys h)
of_all Q h (Memᴰ.tail {x = y} {xs = ys} m) = of_all Q (All-tail Q y ys h) m

-- A map after a map.
pub map_twice : {X Y Z : Type 0} (f : X → Y) (g : Y → Z) (xs : List X) → map g (map f xs) ≡ map (λ x. g (f x)) xs
map_twice f g [] = refl
map_twice f g (x ∷ xs) = ap (λ zs. g (f x) ∷ zs) (map_twice f g xs)

-- The same of each element, mapped before or not.
pub each_map : {X Y Z : Type 0} (f : X → Y) (g : Y → List Z) (h : X → List Z) → ((x : X) → g (f x) ≡ h x) → (xs : List X) → each g (map f xs) ≡ each h xs
each_map f g h e [] = refl
each_map f g h e (x ∷ xs) = let a = e x in let b = each_map f g h e xs in cc

-- A list with an element is its first element and the others.
pub first_and_others : {X : Type 0} (xs : List X) (d : X) → 1 ≤ length xs → (get_or xs 0 d ∷ drop 1 xs) ≡ xs
first_and_others xs d some = sym (drop_more xs 0 d (omega arith))

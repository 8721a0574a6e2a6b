-- What was taken of a source, and what waits. Assumes nothing.
use Rattle.std.proofs.Common.{◌≡◌, suc, List, [], ◌∷◌, ◌++◌, map, length, drop, sym, ap, ◌∙◌, arith}
use Rattle.std.proofs.lemmas.List.{append_assoc, drop_at, length-append, length-map}
use Rattle.sources.specs.Events.{Happening}
use Rattle.sources.specs.Sayings.{says}
use Rattle.sources.specs.declared.event.Event.{Event}

module _ {V : Type 0} (es : List (Event V)) (e : Event V) (ws ws' all : List (Happening V)) (so_far : map says es ++ ws ≡ all) (first : ws ≡ says e ∷ ws') where
  -- one event more was lost
  pub lost_one : ws' ≡ drop (suc (length es)) all
  lost_one =
      let many : length (map says es ++ says e ∷ []) ≡ suc (length es) = let l = length-map es says in simp length-append (omega arith) in
      sym (ap (drop (suc (length es))) (sym so_far ∙ ap (λ xs. map says es ++ xs) first ∙ sym (append_assoc (map says es) (says e ∷ []) ws'))
      ∙ drop_at (map says es ++ says e ∷ []) ws' (suc (length es)) many)

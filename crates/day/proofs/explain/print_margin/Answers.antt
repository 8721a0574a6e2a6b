use Rattle.std.proofs.Common.{ℕ, List, [], ◌∷◌, ◌++◌, ap, map, take, get_or, sym, ◌∙◌, append_assoc}
use Rattle.std.proofs.lemmas.List.{take_more, map-append}
use Rattle.day.specs.Lines.{written}
use Rattle.day.proofs.explain.print_margin.Goals as goal

-- A byte of margin.
blank : ℕ → ℕ
blank b = 32

pub loop-byte-preserved : goal.loop-byte-preserved
unfolding blank
loop-byte-preserved c =
    let bytes : List ℕ = c.args.bytes.now in
    let i = c.loop-byte._byte-index in
    let before = written c.args.page.now in
    let spaces = ap (λ (z : List ℕ). map blank z) (take_more bytes i 0 c.loop-byte-test.true) ∙ map-append blank (take i bytes) (get_or bytes i 0 ∷ []) in
    c.in_ok-write.ensures.so
    ∙ (ap (λ (z : List ℕ). z ++ (32 ∷ [])) c.loop-byte.invariant
    ∙ (append_assoc before (map blank (take i bytes)) (32 ∷ []) ∙ ap (λ (z : List ℕ). before ++ z) (sym spaces)))

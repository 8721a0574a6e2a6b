use Rattle.std.proofs.Common.{codes, refl, arith, inl, inr}
use Rattle.std.proofs.lemmas.Bool.{cases_lt}
use Rattle.forms.specs.Bytes.{space, Every}
use Rattle.property.proofs.Texts.{goes_on}
use Rattle.property.proofs.words.skip_spaces.Goals as goal

eight : Every space (codes "        ")
eight = (refl, (refl, (refl, (refl, (refl, (refl, (refl, (refl, tt))))))))

pub loop-from-preserved : goal.loop-from-preserved
loop-from-preserved c =
    let t = c.args.text.now in
    let f = c.loop-from.from in
    let i = c.loop-from.invariant in
    let low = i.0 in
    let g = goes_on space t (codes "        ") f c.starts_with.result i.1 eight c.starts_with.ensures.value c.loop-from-test.true in (
      omega arith,
      g.0,
      λ k l h. elim (cases_lt k f) [
        | inl b ↦ i.2 k l b
        | inr b ↦ g.1 k b h
      ],
    )

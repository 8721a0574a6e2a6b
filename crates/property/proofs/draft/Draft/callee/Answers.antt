use Rattle.std.proofs.Common.{◌≡◌, List, ℕ, Bool, [], map, Some, None, Option, sym, ap, ◌∙◌}
use Rattle.std.specs.List.{find as first}
use Rattle.property.specs.Cursors.{labelled, naming}
use Rattle.property.specs.Moves.{number_of, arity_of}
use Rattle.property.specs.States.{Declared, method_in, method_of, callee_at, at}
use Rattle.property.specs.Views.{declared, view, spelled}
use Rattle.property.specs.Words.{same}
use Rattle.property.specs.declared.table.Method.{Method}
use Rattle.property.proofs.Searching.{named_some, named_none}
use Rattle.property.proofs.draft.Draft.callee.Goals as goal

module _ (t w : List ℕ) (ms : List Method) where
  abbrev test : Declared → Bool
  test m = same w m.name

  abbrev none : Declared
  none = record { name = []; number = 0; arity = 0 }

  abbrev Gives : Option Method → Type 0
  Gives o = (number_of o ≡ (method_in (map (declared t) ms) w).number) × (arity_of o ≡ (method_in (map (declared t) ms) w).arity)

  gives : (o : Option Method) → o ≡ first (λ m. test (declared t m)) ms → Gives o
  gives None e =
      let h = named_none (declared t) test ms none (sym e) in (sym (ap (λ (m : Declared). m.number) h), sym (ap (λ (m : Declared). m.arity) h))
  gives (Some m) e =
      let h = named_some (declared t) test ms m none (sym e) in (sym (ap (λ (m : Declared). m.number) h), sym (ap (λ (m : Declared). m.arity) h))

pub returns : goal.returns
returns c =
    let t = c.args.text.now in
    let p = view t c.args.self.now in
    let w = spelled t c.args.name in
    let e : c.method-method.result ≡ first (λ m. same w (spelled t m.name)) c.args.self.now.methods.items =
    c.method-method.ensures ∙ ap (λ (v : List ℕ). first (λ m. same v (spelled t m.name)) c.args.self.now.methods.items) c.spelled.ensures in
    let g = gives t w c.args.self.now.methods.items c.method-method.result e in
    let f = λ (n a : ℕ). at (callee_at p.cursor.label.kind (labelled (naming n a p.cursor.label) p.cursor)) p in
    ap (λ u. at u p) c.called-self.ensures ∙ (ap (λ n. f n (arity_of c.method-method.result)) g.0 ∙ ap (f (method_of p.sofar w).number) g.1)

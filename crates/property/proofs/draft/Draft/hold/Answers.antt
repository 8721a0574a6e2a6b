use Rattle.std.proofs.Common.{◌≡◌, ℕ, Bool, true, false, cond, length, unwrap_or, is_some, Option, refl, sym, ap, ◌∙◌, map, [], ◌∷◌}
use Rattle.std.proofs.lemmas.List.{map-append}
use Rattle.property.specs.States.{new_key, same_key, with_register}
use Rattle.property.specs.Views.{view, key_of}
use Rattle.property.proofs.Searching.{next_number, not_held}
use Rattle.property.proofs.draft.Draft.hold.Goals as goal

pub returns-in-Some : goal.returns-in-Some
returns-in-Some c =
    let t = c.args.text.now in
    let k = key_of t c.args.register in
    let p = view t c.args.self.now in
    let gs = c.args.self.now.registers.items in
    let n = next_number (key_of t) (same_key k) gs _ (length gs) c.in-Some.number c.register.ensures refl (sym (ap (λ (o : Option ℕ). unwrap_or o (length gs)) c.in-Some.is)) in
    let e : false ≡ new_key p.sofar k = not_held (key_of t) (same_key k) gs _ false c.register.ensures (ap is_some c.in-Some.is) in
    (n, ap (λ (b : Bool). record { cursor = p.cursor; word = p.word; sofar = cond b (with_register k p.sofar) p.sofar }) e)

pub returns : goal.returns
returns c =
    let t = c.args.text.now in
    let k = key_of t c.args.register in
    let p = view t c.args.self.now in
    let gs = c.args.self.now.registers.items in
    let n = next_number (key_of t) (same_key k) gs _ _ _ c.register.ensures (c.len-number.ensures ∙ c.args.self.now.registers.ok.0) (sym (ap (λ (o : Option ℕ). unwrap_or o c.len-number.result) c.in_default.is)) in
    let e : true ≡ new_key p.sofar k = not_held (key_of t) (same_key k) gs _ true c.register.ensures (ap is_some c.in_default.is) in (
      n,
      ap (λ ks. record { cursor = p.cursor; word = p.word; sofar = record { name = p.sofar.name; methods = p.sofar.methods; others = p.sofar.others; registers = ks; statements = p.sofar.statements } })
          (ap (map (key_of t)) c.in_ok-push.ensures.items ∙ map-append (key_of t) gs (c.args.register ∷ [])) ∙ ap (λ (b : Bool). record { cursor = p.cursor; word = p.word; sofar = cond b (with_register k p.sofar) p.sofar }) e,
    )

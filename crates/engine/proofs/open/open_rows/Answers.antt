use Rattle.std.proofs.Common.{◌≡◌, map, replicate, [], sym, ap, ◌∙◌, arith}
use Rattle.topl.specs.Ledger.{sets, initial}
use Rattle.engine.proofs.Opens.{bare_below, opened_room, opened_follows}
use Rattle.engine.proofs.open.open_rows.Goals as goal

pub invariant_of-grid : goal.invariant_of-grid
invariant_of-grid g c = record {
  few = c.requires.2;
  wide = c.requires.3;
  held = λ k. let z = c.new-grid.ensures k in omega arith;
  known = bare_below c.new-grid.result c.new-grid.ensures c.args.s.now.grid.book.used;
}

pub invariant_of-grid-2 : goal.invariant_of-grid-2
invariant_of-grid-2 g c =
    let t = c.put_configuration.new.grid in
    let R = opened_room g.K.Kind.class c.args.s.now.grid t c.args.cap c.new-grid.result c.add.new.self c.of-slot.result.at c.start_registers-registers.result c.begin.new.self c.of-slot.ensures c.new-grid.ensures
    c.put_configuration.ensures.written c.put_configuration.ensures.others c.add.ensures c.begin.ensures.used c.requires.1 c.requires.3 c.requires.4 c.start_registers-registers.ensures.eight in
    record { few = t.few; wide = t.wide; held = R.held; known = R.known }

pub returns-clause-follows : goal.returns-clause-follows
returns-clause-follows g c P e =
    let class = g.K.Kind.class in
    let k = initial P (map class c.args.values.now) in
    let is : map class c.start_registers-registers.result ≡ k = c.start_registers-registers.ensures.are ∙ ap (λ z. sets (replicate 8 []) z (map class c.args.values.now)) (sym e) in
    let h = opened_follows class c.args.s.now.grid c.put_configuration.new.grid c.args.cap c.new-grid.result c.add.new.self c.of-slot.result.at c.start_registers-registers.result c.begin.new.self c.of-slot.ensures c.new-grid.ensures
    c.put_configuration.ensures.written c.put_configuration.ensures.others c.add.ensures c.begin.ensures.used c.requires.1 c.requires.3 c.requires.4 c.start_registers-registers.ensures.eight P k is in
    record { held = λ q l. h.0 q; tracked = λ q l. h.1 q; total = h.2; window = tt }

use Rattle.std.proofs.Common.{◌≡◌, ℕ, ◌-◌, length, take, drop, subst, arith, length-take}
use Rattle.engine.specs.Views.{Seen}
use Rattle.engine.proofs.Windows.{forget_first, forget_none, shifted}
use Rattle.engine.proofs.remember.forget.Goals as goal

pub returns-then-window-lt4-clause-rest : goal.returns-then-window-lt4-clause-rest
returns-then-window-lt4-clause-rest g c L S =
    let W = c.args.window.now in
    forget_none g.K.Kind.class L (take W.seen W.events) (omega (arith, length-take W.seen W.events, c.if-window-lt4.true)) S

pub returns-clause-rest : goal.returns-clause-rest
returns-clause-rest g c L S =
    let W = c.args.window.now in
    let s : W.seen ≡ 4 = omega (arith, c.if-window-lt4.false, W.few) in
    forget_first g.K.Kind.class L W.events c.copy_within.new.self W.four (shifted W.events c.copy_within.new.self 1 3 (omega (arith, W.four)) c.copy_within.ensures.after) (subst (λ (m : ℕ). Seen g.K.Kind.class (take m W.events) (drop (length L - 4) L)) s S)

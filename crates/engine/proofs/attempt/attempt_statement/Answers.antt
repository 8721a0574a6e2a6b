use Rattle.std.proofs.Common.{map, sym, ◌∙◌, rules}
use Rattle.engine.proofs.Attempts.{fares_short, fares_not, fares_more}
use Rattle.engine.proofs.attempt.attempt_statement.Goals as goal

pub returns-in_default : goal.returns-in_default
returns-in_default g c =
    let class = g.K.Kind.class in
    fares_short class (map class c.args.registers.now) (map class c.loop-j.held) c.args.matchers.now c.args.events.now c.loop-j.j c.loop-j.invariant c.index-matchers-j.result c.loop-j-test.true c.index-matchers-j.is (search rules)

pub returns-then-not-meets_matcher : goal.returns-then-not-meets_matcher
returns-then-not-meets_matcher g c es S =
    let class = g.K.Kind.class in
    fares_not class (map class c.args.registers.now) (map class c.loop-j.held) c.args.matchers.now c.args.events.now c.loop-j.j c.loop-j.invariant c.index-matchers-j.result c.loop-j-test.true c.index-matchers-j.is
    c.in-Some.event.now (search rules) (search rules) es S (λ e s. sym c.if-not-meets_matcher.true ∙ c.meets_matcher.ensures e s)

pub loop-j-preserved : goal.loop-j-preserved
loop-j-preserved g c es S =
    let class = g.K.Kind.class in
    fares_more class (map class c.args.registers.now) (map class c.loop-j.held) c.args.matchers.now c.args.events.now c.loop-j.j c.loop-j.invariant c.index-matchers-j.result c.loop-j-test.true c.index-matchers-j.is
    c.in-Some.event.now (search rules) (search rules) es S (λ e s. sym c.if-not-meets_matcher.false ∙ c.meets_matcher.ensures e s) (map class c.write_matcher.new.registers) c.write_matcher.ensures

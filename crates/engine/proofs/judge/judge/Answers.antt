use Rattle.std.proofs.Common.{◌≡◌, suc, ◌+◌, ◌≤◌, length, Ok, Err, sym, refl, ap, ◌∙◌, subst, arith}
use Rattle.std.proofs.lemmas.Result.{err_from_is_err_and}
use Rattle.engine.specs.Grids.{grid_of}
use Rattle.engine.specs.Judging.{Decided}
use Rattle.engine.proofs.Fills.{room_by}
use Rattle.engine.proofs.Judging.{along_start, along_judged, along_decides, along_more, along_end}
use Rattle.engine.proofs.Since.{since_here, since_more}
use Rattle.engine.proofs.judge.judge.Goals as goal

pub loop-number-init : goal.loop-number-init
loop-number-init g c =
    let s = c.args.grid.now in
    let scene = c.args.scene.now in
    let few = scene.short in
    record {
      cap = refl;
      board = refl;
      long = refl;
      since = λ P k L w N W S. N;
      along = λ P k L w W N S. along_start g.K.Kind.class s.cap scene.base (scene.base + length scene.events.now) P k L w (grid_of s) S (omega arith);
    }

pub returns-in_err-judge_position-clause-decides : goal.returns-in_err-judge_position-clause-decides
returns-in_err-judge_position-clause-decides g c P k L w W N S =
    let s = c.args.grid.now in
    let t = c.loop-number.grid in
    let scene = c.args.scene.now in
    let last = scene.base + length scene.events.now in
    let few = scene.short in
    let I = c.loop-number.invariant in
    let p = c.loop-number.number in
    let low : scene.base ≤ p = c.loop-number.auto.number in
    let high : p ≤ last = omega (arith, c.loop-number-test.true) in
    let X = c.in_err-judge_position.ensures in
    let d = c.in_err-judge_position.field-0.0 in
    let x = err_from_is_err_and c.from_residual.result c.from_residual.ensures.1 in
    subst (Decided g.K.Kind.class s.cap (grid_of s) (grid_of c.judge_position.new.grid) scene.base last P k L w) (sym (x.1 ∙ ap Err x.2))
    (along_decides g.K.Kind.class s.cap scene.base last P k L w (grid_of s) S (omega arith) p (grid_of t) I.long (room_by s.cap t I.cap) (I.along P k L w W N S) low high
    (grid_of c.judge_position.new.grid) (Err d) X.safe.spares t.cap I.cap (λ R B. X.rules P k L w W R B (since_here g.K.Kind.class scene.before.now scene.judged scene.base last P k L w s.cap t I.cap p high (I.since P k L w N W S))) d refl)

pub loop-number-preserved : goal.loop-number-preserved
loop-number-preserved g c =
    let s = c.args.grid.now in
    let t = c.loop-number.grid in
    let scene = c.args.scene.now in
    let last = scene.base + length scene.events.now in
    let few = scene.short in
    let I = c.loop-number.invariant in
    let p = c.loop-number.number in
    let low : scene.base ≤ p = c.loop-number.auto.number in
    let high : p ≤ last = omega (arith, c.loop-number-test.true) in
    let X = c.in_ok-judge_position.ensures in
    record {
      cap = X.safe.cap ∙ I.cap;
      board = X.safe.board ∙ I.board;
      long = X.safe.long ∙ I.long;
      since = λ P k L w N W S.
          let M = I.since P k L w N W S in
          let J = along_judged g.K.Kind.class s.cap scene.base last P k L w (grid_of s) S (omega arith) p (grid_of t) I.long (room_by s.cap t I.cap) (I.along P k L w W N S) low high
          (grid_of c.judge_position.new.grid) (Ok tt) X.safe.spares t.cap I.cap (λ R B. X.rules P k L w W R B (since_here g.K.Kind.class scene.before.now scene.judged scene.base last P k L w s.cap t I.cap p high M)) in
          since_more g.K.Kind.class scene.before.now scene.judged scene.base last P k L w s.cap (grid_of t) (grid_of c.judge_position.new.grid) p (omega arith) low high (J.other refl) (J.onto refl) M;
      along = λ P k L w W N S.
          along_more g.K.Kind.class s.cap scene.base last P k L w (grid_of s) S (omega arith) p (grid_of t) I.long (room_by s.cap t I.cap) (I.along P k L w W N S) low high
          (grid_of c.judge_position.new.grid) (Ok tt) X.safe.spares t.cap I.cap (λ R B. X.rules P k L w W R B (since_here g.K.Kind.class scene.before.now scene.judged scene.base last P k L w s.cap t I.cap p high (I.since P k L w N W S))) refl;
    }

pub returns-in_ok-judge_position-clause-decides : goal.returns-in_ok-judge_position-clause-decides
returns-in_ok-judge_position-clause-decides g c P k L w W N S =
    let s = c.args.grid.now in
    let t = c.loop-number.grid in
    let scene = c.args.scene.now in
    let last = scene.base + length scene.events.now in
    let few = scene.short in
    let I = c.loop-number.invariant in
    let p = c.loop-number.number in
    let low : scene.base ≤ p = c.loop-number.auto.number in
    let high : p ≤ last = omega (arith, c.loop-number-test.true) in
    let X = c.in_ok-judge_position.ensures in
    let j = grid_of c.judge_position.new.grid in
    let e : p + 1 ≡ suc last = omega arith in
    along_end g.K.Kind.class s.cap scene.base last P k L w (grid_of s) S (omega arith) (p + 1) j
    (along_more g.K.Kind.class s.cap scene.base last P k L w (grid_of s) S (omega arith) p (grid_of t) I.long (room_by s.cap t I.cap) (I.along P k L w W N S) low high j
    (Ok tt) X.safe.spares t.cap I.cap (λ R B. X.rules P k L w W R B (since_here g.K.Kind.class scene.before.now scene.judged scene.base last P k L w s.cap t I.cap p high (I.since P k L w N W S))) refl) e

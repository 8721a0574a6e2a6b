use Rattle.std.proofs.Common.{◌≡◌, ℕ, ◌+◌, ◌-◌, ◌<◌, ◌≤◌, Err, sym, ap, ◌∙◌, subst, ap₂}
use Rattle.std.proofs.lemmas.Result.{err_from_is_err_and}
use Rattle.engine.specs.Fronts.{count_at}
use Rattle.engine.specs.Grids.{grid_of}
use Rattle.engine.specs.Judging.{Judged}
use Rattle.engine.proofs.Fronts.{room_for}
use Rattle.engine.proofs.Fills.{room_by}
use Rattle.engine.proofs.Judging.{judged_err, judged_full, judged_goes}
use Rattle.engine.proofs.judge.judge_position.Goals as goal

pub returns-in_err-fill_position-clause-rules : goal.returns-in_err-fill_position-clause-rules
returns-in_err-fill_position-clause-rules g c P k L w W R B S =
    let s = c.args.grid.now in
    let t = c.fill_position.new.grid in
    let p = c.args.position.now.number in
    let x = err_from_is_err_and c.from_residual.result c.from_residual.ensures.1 in
    subst (Judged g.K.Kind.class s.cap (grid_of s) (grid_of t) p P k L w) (sym (x.1 ∙ ap Err x.2))
    (judged_err g.K.Kind.class s.cap (grid_of s) (grid_of t) p P k L w c.in_err-fill_position.field-0.0 (c.in_err-fill_position.ensures.fills P k L w W R S))

pub returns-then-room-need-clause-rules : goal.returns-then-room-need-clause-rules
returns-then-room-need-clause-rules g c P k L w W R B S =
    let s = c.args.grid.now in
    let t = c.fill_position.new.grid in
    let position = c.args.position.now in
    let need = subst (λ (z : ℕ). c.saturating_sub-need.result ≡ s.book.used + count_at t.front z - count_at s.front z) c.of-slot.ensures (c.saturating_sub-need.ensures ∙ ap₂ (λ (a b : ℕ). s.book.used + a - b) c.count_at-after.ensures.is c.count_at-before.ensures.is) in
    judged_full g.K.Kind.class s.cap (grid_of s) (grid_of t) position.number P k L w position.scene.now.base R (room_for s) (room_by s.cap t c.in_ok-fill_position.ensures.safe.cap) B
    (c.in_ok-fill_position.ensures.fills P k L w W R S) c.saturating_sub-need.result need (subst (λ (z : ℕ). z < c.saturating_sub-need.result) c.room.ensures c.if-room-need.true)

pub returns-clause-rules : goal.returns-clause-rules
returns-clause-rules g c P k L w W R B S =
    let s = c.args.grid.now in
    let t = c.fill_position.new.grid in
    let position = c.args.position.now in
    let need = subst (λ (z : ℕ). c.saturating_sub-need.result ≡ s.book.used + count_at t.front z - count_at s.front z) c.of-slot.ensures (c.saturating_sub-need.ensures ∙ ap₂ (λ (a b : ℕ). s.book.used + a - b) c.count_at-after.ensures.is c.count_at-before.ensures.is) in
    judged_goes g.K.Kind.class s.cap (grid_of s) (grid_of t) position.number P k L w position.scene.now.base R (room_for s) (room_by s.cap t c.in_ok-fill_position.ensures.safe.cap) B
    (c.in_ok-fill_position.ensures.fills P k L w W R S) c.saturating_sub-need.result need (subst (λ (z : ℕ). c.saturating_sub-need.result ≤ z) c.room.ensures c.if-room-need.false)

use Rattle.std.proofs.Common.{◌≡◌, ◌<◌, length, subst, arith}
use Rattle.queue_replay.proofs.Windows.{through_none}
use Rattle.queue_replay.specs.Windowed.{GoesThrough, windowed_view}
use Rattle.replay_model.specs.Cut.{steps_at}
use Rattle.replay_model.specs.StepAt.{step_at}
use Rattle.sched_record.specs.Window.{AreTouching, window_view}
use Rattle.sched_record.proofs.WindowIndices.{step_found}
use Rattle.window_audit.proofs.Portions.{all_made, one_more, room_for_one}
use Rattle.window_audit.proofs.member.replay_each.Goals as goal

pub loop-index-init : goal.loop-index-init
loop-index-init c = through_none (windowed_view c.args.replay.now)

pub write_step-requires : goal.write_step-requires
write_step-requires c = c.requires.touching.within c.loop-index.index-index c.loop-index-test.true

pub go_through-requires : goal.go_through-requires
go_through-requires c =
    let before = windowed_view c.args.replay.now in
    let events = window_view c.args.window.now in
    let at = c.requires.touching in
    let h : c.loop-index.index-index < length (steps_at before.cpu events) =
    (let n = at.count in let t = c.loop-index-test.true in omega (arith, n, t)) in
    let one = c.from_ref.ensures.len in
    let room = room_for_one before (steps_at before.cpu events) c.loop-index.index-index
    (windowed_view c.loop-index.replay) c.loop-index.invariant h c.requires.few in
    record { few = omega (arith, room, one) }

pub loop-index-preserved : goal.loop-index-preserved
loop-index-preserved c =
    let before = windowed_view c.args.replay.now in
    let events = window_view c.args.window.now in
    let step = c.write_step.new.step in
    let at = c.requires.touching in
    let h : c.loop-index.index-index < length (steps_at before.cpu events) =
    (let n = at.count in let t = c.loop-index-test.true in omega (arith, n, t)) in
    one_more before (steps_at before.cpu events) c.loop-index.index-index (windowed_view c.loop-index.replay)
    c.loop-index.invariant (windowed_view c.go_through.new.self) step h
    (step_found before.cpu events c.args.indices.now at c.loop-index.index-index step
    c.loop-index-test.true (λ here stands. subst (λ cpu. step ≡ step_at cpu here) c.cpu-cpu.ensures
    (c.write_step.ensures here stands)))
    (subst (λ steps. GoesThrough (windowed_view c.loop-index.replay) steps (windowed_view c.go_through.new.self))
    c.from_ref.ensures.value c.in_ok-go_through.ensures.through)

pub returns : goal.returns
returns c =
    let before = windowed_view c.args.replay.now in
    let events = window_view c.args.window.now in
    let at = c.requires.touching in
    all_made before (steps_at before.cpu events) c.loop-index.index-index _ c.loop-index.invariant
    (let n = at.count in let t = c.loop-index-test.false in omega (arith, n, t))

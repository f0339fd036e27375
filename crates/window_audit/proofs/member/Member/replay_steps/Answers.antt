use Rattle.std.proofs.Common.{◌≡◌, ◌<◌, length, subst, arith}
use Rattle.queue_replay.proofs.Windows.{through_none}
use Rattle.queue_replay.specs.Windowed.{GoesThrough, windowed_view}
use Rattle.replay_model.specs.Cut.{steps_at}
use Rattle.replay_model.specs.StepAt.{step_at}
use Rattle.sched_record.specs.Window.{AreTouching, window_view}
use Rattle.sched_record.proofs.WindowIndices.{step_found}
use Rattle.window_audit.specs.Member.{replay_of}
use Rattle.window_audit.proofs.Portions.{all_made, one_more, room_for_one}
use Rattle.window_audit.proofs.member.Member.replay_steps.Goals as goal

pub returns-in_default-indices : goal.returns-in_default-indices
returns-in_default-indices c =
    let before = replay_of c.args.self.now in
    let events = window_view c.args.window.now in
    let at : AreTouching before.cpu events c.in-Some.indices.now =
    subst (λ cpu. AreTouching cpu events c.in-Some.indices.now) c.cpu-cpu.ensures c.in-Some.ensures.touching in
    all_made before (steps_at before.cpu events) 0 before (through_none before)
    (let n = at.count in let none = c.in_default-indices.len_below in omega (arith, n, none))

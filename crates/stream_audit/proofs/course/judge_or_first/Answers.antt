use Rattle.std.proofs.Common.{◌≡◌, []}
use Rattle.sched_record.specs.Window.{window_view}
use Rattle.stream_audit.specs.Judge.{IsAwaiting, begun}
use Rattle.stream_audit.proofs.Calm.{at_some}
use Rattle.stream_audit.proofs.Joined.{all_known}
use Rattle.stream_audit.proofs.course.judge_or_first.Goals as goal

pub returns-in-Some : goal.returns-in-Some
returns-in-Some c = λ handed idle awaiting.
    let of = begun c.args.aim c.args.joined.now.start in
    let judge = c.in-Some.judge in
    all_known of handed judge
    (at_some (handed ≡ []) (IsAwaiting of handed) c.args.judge judge c.in-Some.is awaiting)
    (at_some (Unit {0}) (λ j. window_view j.window ≡ []) c.args.judge judge c.in-Some.is idle)

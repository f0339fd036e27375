use Rattle.sched_record.specs.Window.{window_view}
use Rattle.stream_audit.proofs.KnownSoFar.{comes}
use Rattle.stream_audit.proofs.progress.Progress.go_on.Goals as goal

pub go_through-requires-clause-next : goal.go_through-requires-clause-next
go_through-requires-clause-next g c κs within =
    let next = c.requires.next in (
      next.0.of,
      next.1,
      comes next.0 next.1 (window_view c.args.window.now) c.args.self.now c.in-Running.audit c.in-Running.is next.2,
    )

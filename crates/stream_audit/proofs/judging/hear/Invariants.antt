-- The two inputs are under way: of the trace whole blocks were read and it goes on as was said, of the companion what
-- these ask for, and no read failed.
use Rattle.std.proofs.Common.{◌≡◌, ◌-◌, false}
use Rattle.audit_input.specs.Known.{most_reads}
use Rattle.stream_audit.specs.Companion.{IsFedBy}
use Rattle.stream_audit.specs.Aim.{AimView}
use Rattle.stream_audit.specs.Listening.{HasHeardNothing, IsReadBy, IsTakenOut, IsUnderWay}
use Rattle.stream_audit.proofs.judging.hear.Given as goal

abbrev pub invariant-loop-goes_on : goal.invariant-loop-goes_on
invariant-loop-goes_on g l =
    let trace = g.T.Feed in
    let companion = g.C.Feed in
    record {
      read : IsReadBy (trace.left l.trace) (trace.calls l.trace) (trace.has_failed l.trace) (trace.has_ended l.trace)
          l.listener.intake.blocks l.goes_on;
      fed : IsFedBy (companion.calls l.companion) (companion.has_ended l.companion) (companion.has_failed l.companion)
          l.listener.intake.course.companion;
      taken : l.goes_on ≡ false → IsTakenOut l.listener.intake;
      under_way : (aim : AimView) → HasHeardNothing aim l.fn.listener
          → IsUnderWay aim (trace.left l.fn.trace) (trace.left l.trace) (companion.left l.fn.companion)
          (companion.left l.companion) l.listener l.goes_on;
    }

abbrev pub decreases-loop-goes_on : goal.decreases-loop-goes_on
decreases-loop-goes_on g l = most_reads - l.listener.intake.blocks.source.reads

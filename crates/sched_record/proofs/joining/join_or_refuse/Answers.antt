use Rattle.std.proofs.Common.{subst}
use Rattle.companion_file.specs.Seen.{companion_view}
use Rattle.sched_record.specs.Join.{Refuses}
use Rattle.sched_record.proofs.joining.join_or_refuse.Goals as goal

pub returns-in-Some-clause-answered : goal.returns-in-Some-clause-answered
returns-in-Some-clause-answered c =
    subst (λ events. Refuses events (companion_view c.args.companion) c.in-Some.fault.line c.in-Some.fault.cause)
    c.events.ensures c.in-Some.ensures.found

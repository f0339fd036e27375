use Rattle.std.proofs.Common.{rules, sym, subst}
use Rattle.std.specs.Prelude.{All}
use Rattle.companion_file.specs.Seen.{companion_view}
use Rattle.sched_record.specs.Join.{BeginsInTime, IsFirstStray, Refuses, IsInside}
use Rattle.sched_record.specs.declared.joining.JoinFault.{JoinFault}
use Rattle.sched_record.proofs.joining.refusal_of.Goals as goal

pub returns-clause-found : goal.returns-clause-found
returns-clause-found c =
    let events = c.args.events.now in
    let companion = companion_view c.args.companion.now in
    let inside : All (IsInside companion.cpus) events = search rules in
    let in_time : BeginsInTime companion.start events = search rules in
    let first : IsFirstStray events companion c.in_ok-line.line = c.in_ok-line.ensures.found in
    subst (λ (fault : JoinFault). Refuses events companion fault.line fault.cause) (sym c.refusal-2.ensures)
    (inside, in_time, first)

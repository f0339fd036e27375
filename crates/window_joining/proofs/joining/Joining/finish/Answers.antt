use Rattle.std.proofs.Common.{Some, None, refl, rules, sym, subst}
use Rattle.std.specs.Prelude.{All}
use Rattle.companion_file.specs.Seen.{companion_view}
use Rattle.sched_record.proofs.Straying.{charges_on_events, claims_on_events, idles_on_births, nices_on_events}
use Rattle.sched_record.specs.Join.{BeginsInTime, GoTogether, IsInside, IsLeastOf, IsStray, RecordAnswer, Refuses}
use Rattle.sched_record.specs.declared.joining.JoinFault.{JoinFault}
use Rattle.window_joining.proofs.Ended.{least_at_end}
use Rattle.window_joining.specs.Joining.{joined_answer}
use Rattle.window_joining.proofs.joining.Joining.finish.Goals as goal

pub returns-in_err-line-clause-answered : goal.returns-in_err-line-clause-answered
returns-in_err-line-clause-answered c companion events joined alike holds =
    let none : IsLeastOf (IsStray events companion) None =
    least_at_end c.args.self.now (companion_view c.args.head.now) companion events c.args.claims.now c.args.nices.now
    c.args.charges.now joined alike holds None c.in_err-line.ensures in
    let inside : All (IsInside companion.cpus) events = search rules in
    let in_time : BeginsInTime companion.start events = search rules in
    let both : GoTogether events companion = record {
      inside = inside;
      in_time = in_time;
      claimed = claims_on_events events companion none;
      reniced = nices_on_events events companion none;
      born = idles_on_births events companion none;
      charged = charges_on_events events companion none;
    } in
    subst (λ told. RecordAnswer events companion (joined_answer events companion told)) (sym c.from_residual.ensures)
    (both, refl)

pub returns-clause-answered : goal.returns-clause-answered
returns-clause-answered c companion events joined alike holds =
    let first : IsLeastOf (IsStray events companion) (Some c.in_ok-line.line) =
    least_at_end c.args.self.now (companion_view c.args.head.now) companion events c.args.claims.now c.args.nices.now
    c.args.charges.now joined alike holds (Some c.in_ok-line.line) c.in_ok-line.ensures in
    let inside : All (IsInside companion.cpus) events = search rules in
    let in_time : BeginsInTime companion.start events = search rules in
    subst (λ (fault : JoinFault). Refuses events companion fault.line fault.cause) (sym c.fault-2.ensures)
    (inside, in_time, first)

use Rattle.std.proofs.Common.{◌∙◌, sym, subst}
use Rattle.std.proofs.lemmas.Option.{same_Some}
use Rattle.audit_crew.specs.Ending.{IsBroughtBack}
use Rattle.audit_crew.specs.declared.underway.Underway.{Underway}
use Rattle.audit_crew.proofs.member.Member.end.Goals as goal

pub finish-requires-clause-own : goal.finish-requires-clause-own
finish-requires-clause-own g c κs within = c.args.self.now.own c.in-Some.begun (sym c.in-Some.ensures.value)

pub returns-in-Some-clause-ended : goal.returns-in-Some-clause-ended
returns-in-Some-clause-ended g c =
    λ begun is.
    let after = c.finish.new.self in
    subst (λ (u : Underway). IsBroughtBack u.replay.stream u.replay.knobs after.posted after.refused after.memory)
    (same_Some c.in-Some.begun begun (c.in-Some.ensures.value ∙ is)) c.finish.ensures.ended

use Rattle.std.proofs.Common.{◌≡◌, ◌∙◌, [], Option, OnOk, OnErr, IfErr, sym, ap, subst}
use Rattle.std.specs.Option.{option_to_list}
use Rattle.queue_replay.specs.declared.tag.Tag.{Tag}
use Rattle.ticket_book.specs.declared.post_fault.PostFault.{PostFault}
use Rattle.audit_crew.specs.Refusal.{IsToldBy}
use Rattle.audit_crew.specs.Tags.{IsOneTag}
use Rattle.audit_crew.proofs.BroughtBack.{brought_back}
use Rattle.audit_crew.proofs.member.Member.finish.Goals as goal

pub returns-clause-ended : goal.returns-clause-ended
returns-clause-ended g c =
    let shelf = c.end-answer.new.shelf in
    let stream = c.args.begun.replay.stream in
    let knobs = c.args.begun.replay.knobs in
    let answer = c.end-answer.result in
    let posted = c.leave-back.result.1 in
    let refused = c.leave-back.result.2 in
    let same_posted = c.leave-back.ensures.posted in
    let same_refused = c.leave-back.ensures.refused in
    brought_back stream knobs shelf.told answer posted refused c.wants_memory.result
    (subst (λ (p : Option Tag). OnOk answer (IsOneTag stream knobs shelf.told (option_to_list p))) (sym same_posted)
    c.end-answer.ensures.posted)
    (subst (λ (r : Option (Tag × PostFault)). OnOk answer (r ≡ _)) (sym same_refused) c.end-answer.ensures.none_refused)
    (subst (λ (p : Option Tag). OnErr answer (option_to_list p ≡ [])) (sym same_posted)
    (subst (λ xs. OnErr answer (option_to_list shelf.posted ≡ xs)) (ap option_to_list c.new-shelf.ensures.posted)
    c.end-answer.ensures.kept))
    (subst (λ (r : Option (Tag × PostFault)). IfErr answer (IsToldBy r stream knobs)) (sym same_refused)
    c.end-answer.ensures.fault)
    c.wants_memory.ensures

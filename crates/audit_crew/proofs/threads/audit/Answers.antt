use Rattle.std.proofs.lemmas.Result.{IfOk-weaker}
use Rattle.sched_record.specs.Record.{record_view}
use Rattle.audit_crew.proofs.Started.{start_of}
use Rattle.audit_crew.proofs.threads.audit.Goals as goal

pub returns-clause-one : goal.returns-clause-one
returns-clause-one g c =
    let r = record_view c.args.joined.now in
    IfOk-weaker c.close_own.result _ _
    (λ closed verdict. c.one_verdict.ensures c.args.knobs r closed.verdict
    (start_of r c.args.joined.now.in_order) verdict)
    c.close_own.ensures.verdict

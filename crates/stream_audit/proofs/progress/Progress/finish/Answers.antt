use Rattle.ticket_book.specs.SaidEvents.{events_of}
use Rattle.ticket_book.specs.declared.verdict.Verdict.TheVariants.{Run}
use Rattle.window_audit.specs.Whole.{beginning_of}
use Rattle.stream_audit.specs.Aim.{audited_at}
use Rattle.stream_audit.proofs.KnownSoFar.{verdict_asked, verdict_found, whole}
use Rattle.stream_audit.proofs.progress.Progress.finish.Goals as goal

pub finish-requires : goal.finish-requires
finish-requires c =
    let end = c.requires in (
      beginning_of (audited_at c.args.aim) end.0,
      events_of end.0,
      whole c.args.aim end.0 c.args.self c.in-Running.audit c.in-Running.is end.1,
    )

pub returns-in-Running : goal.returns-in-Running
returns-in-Running c = λ r end.
    let aim = c.args.aim in
    let audit = c.in-Running.audit in
    let is = c.in-Running.is in
    verdict_found aim r (Run c.finish.result) (verdict_asked aim r c.args.self audit is end)
    (c.finish.ensures (beginning_of (audited_at aim) r) (events_of r)
    (whole aim r c.args.self audit is end))

use Rattle.text_parts.specs.Lines.{lines_of}
use Rattle.stream_audit.proofs.Heard.{pending_of}
use Rattle.stream_audit.proofs.intake.Intake.take_next.Goals as goal

pub returns-clause-pending : goal.returns-clause-pending
returns-clause-pending c = λ aim gave left bytes handed heard.
    let taken = c.take_good.ensures in
    pending_of aim gave left bytes c.args.self.now.reader c.take_good.new.reader c.args.self.now.course handed
    c.take_good.new.events.items heard (taken.given (lines_of bytes) heard.events heard.has_read)
    (taken.next (lines_of bytes) heard.events heard.has_read)

use Rattle.stream_audit.proofs.UnderWay.{before_any}
use Rattle.stream_audit.proofs.intake.Intake.new.Goals as goal

pub returns-clause-coming : goal.returns-clause-coming
returns-clause-coming c = λ trace gave.
    before_any c.args.aim trace gave _ c.new-blocks.ensures c.new-reader.ensures c.new.ensures.items
    (c.new-course.ensures.course gave)

use Rattle.sched_record.proofs.OneRecord.{one_record}
use Rattle.sched_record.proofs.laws.one_record_answer.Goals as goal

pub returns : goal.returns
returns c = one_record

use Rattle.std.proofs.Common.{length, ap, arith}
use Rattle.pid_table.proofs.Marks.{set_past}
use Rattle.pid_table.proofs.pid_marks.PidMarks.new.Goals as goal

pub returns : goal.returns
returns c = λ pid. set_past c.new.result.items pid (omega (arith, ap length c.new.ensures.items))

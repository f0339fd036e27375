use Rattle.std.proofs.Common.{sym, arith}
use Rattle.pid_table.proofs.Marks.{set_past}
use Rattle.pid_table.proofs.pid_marks.PidMarks.may_have.Goals as goal

pub returns-in-None : goal.returns-in-None
returns-in-None c =
    sym (set_past c.args.self.now.words.items c.args.pid (omega (arith, c.in-None.ensures.lookup)))

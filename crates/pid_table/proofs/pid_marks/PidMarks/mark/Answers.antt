use Rattle.std.proofs.Common.{arith}
use Rattle.pid_table.proofs.Marks.{bit_set, bit_set_past}
use Rattle.pid_table.proofs.pid_marks.PidMarks.mark.Goals as goal

pub returns-then-index-len : goal.returns-then-index-len
returns-then-index-len c =
    bit_set c.args.self.now.words.items c.word_of-index.result c.index_mut.result.now c.args.pid
    c.word_of-index.ensures (omega arith) c.index_mut.ensures.value

pub returns-else-index-len : goal.returns-else-index-len
returns-else-index-len c = bit_set_past c.args.self.now.words.items c.args.pid (omega arith)

use Rattle.pid_table.proofs.Indices.{no_pid}
use Rattle.pid_table.proofs.pid_table.PidTable.new.Goals as goal

pub invariant_of-result : goal.invariant_of-result
invariant_of-result g c = no_pid c.new.result.items c.new-2.result.items c.new-3.result c.new-4.result
    c.new.ensures.items c.new-2.ensures.items c.new-4.ensures

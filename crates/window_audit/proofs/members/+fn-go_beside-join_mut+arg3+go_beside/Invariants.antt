use Rattle.std.proofs.Common.{length}
use Rattle.window_audit.proofs.members.+fn-go_beside-join_mut+arg3+go_beside.Given as goal

abbrev pub decreases-join_mut+arg3 : goal.decreases-join_mut+arg3
decreases-join_mut+arg3 g l = length l.rest.now

abbrev pub decreases-go_beside : goal.decreases-go_beside
decreases-go_beside g l = length l.members.now

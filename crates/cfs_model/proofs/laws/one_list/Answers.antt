use Rattle.cfs_model.proofs.OneNext.{one_next, one_list}
use Rattle.cfs_model.proofs.laws.one_list.Goals as goal

pub returns-clause-next : goal.returns-clause-next
returns-clause-next c = one_next

pub returns-clause-list : goal.returns-clause-list
returns-clause-list c = one_list

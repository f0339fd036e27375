use Rattle.window_laws.proofs.Behind.{replay_behind, replay_from_kept}
use Rattle.window_laws.proofs.any_lists.Goals as goal

pub returns-clause-behind : goal.returns-clause-behind
returns-clause-behind c = replay_behind

pub returns-clause-kept : goal.returns-clause-kept
returns-clause-kept c = replay_from_kept

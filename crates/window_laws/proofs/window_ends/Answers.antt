use Rattle.window_laws.proofs.Ended.{so_far_is_run, so_far_tells_summary}
use Rattle.window_laws.proofs.window_ends.Goals as goal

pub returns-clause-run : goal.returns-clause-run
returns-clause-run c = so_far_is_run

pub returns-clause-summary : goal.returns-clause-summary
returns-clause-summary c = so_far_tells_summary

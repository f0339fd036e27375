use Rattle.need_laws.proofs.LeastOfWindows.{needs_go_on, needs_tell_least, none_fails}
use Rattle.need_laws.proofs.least_so_far.Goals as goal

pub returns-clause-least : goal.returns-clause-least
returns-clause-least c = needs_tell_least

pub returns-clause-more : goal.returns-clause-more
returns-clause-more c = needs_go_on

pub returns-clause-none : goal.returns-clause-none
returns-clause-none c = none_fails

use Rattle.window_joining.proofs.Later.{events_stay, joined_stays}
use Rattle.window_joining.proofs.laws.more_said.Goals as goal

pub returns-clause-joined : goal.returns-clause-joined
returns-clause-joined c = joined_stays

pub returns-clause-events : goal.returns-clause-events
returns-clause-events c first later events edge low more = events_stay first later events edge more low

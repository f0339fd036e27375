use Rattle.replay_laws.proofs.following.FollowLaws.{replay_follows, slack_follows}
use Rattle.replay_laws.proofs.replays.Goals as goal

pub returns-clause-part : goal.returns-clause-part
returns-clause-part c = replay_follows

pub returns-clause-slack : goal.returns-clause-slack
returns-clause-slack c = slack_follows

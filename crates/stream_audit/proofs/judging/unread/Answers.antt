use Rattle.stream_audit.proofs.judging.unread.Goals as goal

pub returns-clause-heard : goal.returns-clause-heard
returns-clause-heard g c = (g.met.F.Feed.untouched c.args.feed.now c.requires).0

pub returns-clause-goes_on : goal.returns-clause-goes_on
returns-clause-goes_on g c = (g.met.F.Feed.untouched c.args.feed.now c.requires).1

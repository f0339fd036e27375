use Rattle.queue_replay.proofs.deeds.try_deed.Goals as goal

pub returns-in-Switch-clause-tried : goal.returns-in-Switch-clause-tried
returns-in-Switch-clause-tried c = c.try_switch.ensures.tried c.args.cpu

pub returns-in-Wake-clause-tried : goal.returns-in-Wake-clause-tried
returns-in-Wake-clause-tried c = c.try_wake.ensures.tried c.args.cpu

pub returns-in-Leave-clause-tried : goal.returns-in-Leave-clause-tried
returns-in-Leave-clause-tried c = c.try_leave.ensures.tried c.args.knobs.now

pub returns-in-Arrive-clause-tried : goal.returns-in-Arrive-clause-tried
returns-in-Arrive-clause-tried c = c.try_arrival.ensures.tried c.args.knobs.now

use Rattle.waiting_times.proofs.waiting.switch.Goals as goal

pub returns-clause-within : goal.returns-clause-within
returns-clause-within c = λ n all. c.pick.ensures.within n (c.leave.ensures.within n all)

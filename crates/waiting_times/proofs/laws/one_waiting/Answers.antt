use Rattle.waiting_times.proofs.One.{one_waits}
use Rattle.waiting_times.proofs.laws.one_waiting.Goals as goal

pub returns : goal.returns
returns c = one_waits c.least_settings.ensures.states

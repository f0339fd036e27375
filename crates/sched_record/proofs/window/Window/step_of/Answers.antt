use Rattle.std.proofs.Common.{ap, ◌∙◌}
use Rattle.replay_model.specs.StepAt.{step_at}
use Rattle.sched_record.proofs.WindowIndices.{said_is}
use Rattle.sched_record.proofs.window.Window.step_of.Goals as goal

pub returns : goal.returns
returns c here stands =
    let self = c.args.self.now in
    c.step_at.ensures
    ∙ ap (step_at c.args.cpu) (said_is self.events.items self.sayings c.args.index c.index-event.result.now
    c.get-said.result here self.paired c.requires c.index-event.ensures c.get-said.ensures stands)

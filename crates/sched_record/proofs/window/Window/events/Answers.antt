use Rattle.std.proofs.Common.{take, sym, ap, ◌∙◌}
use Rattle.sched_record.proofs.Windows.{entries_said}
use Rattle.sched_record.proofs.window.Window.events.Goals as goal

pub returns : goal.returns
returns c =
    let self = c.args.self.now in
    ap (take c.len.result) c.deref.ensures.value ∙ ap (λ n. take n self.events.items) c.len.ensures
    ∙ sym (entries_said self.events.items self.sayings)

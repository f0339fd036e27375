use Rattle.companion_file.proofs.EndedSpans.{ended_is}
use Rattle.companion_file.proofs.spans.IdleSpans.end_at.Goals as goal

pub returns : goal.returns
returns c = rw (← c.self.view_is) (ended_is c.self.inside.items.items c.args.index c.args.line c.index_mut.result.now
    c.index_mut.ensures.value (rw (← c.self.view_is) at c.requires))

use Rattle.std.proofs.Common.{arith, ◌∙◌}
use Rattle.sched_record.proofs.Indexing.{none_indexed}
use Rattle.sched_record.proofs.window.Window.clear.Goals as goal

pub invariant_of-self : goal.invariant_of-self
invariant_of-self c =
    rw (c.clear.ensures.items, c.clear-2.ensures) (record {
      paired = omega arith;
      indexed = λ few cpu h. c.clear-3.ensures cpu ∙ none_indexed cpu h;
    })

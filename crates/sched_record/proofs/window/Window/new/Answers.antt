use Rattle.std.proofs.Common.{arith, ap, ◌∙◌}
use Rattle.sched_record.specs.Indices.{indices_at}
use Rattle.sched_record.proofs.Indexing.{none_indexed}
use Rattle.sched_record.proofs.window.Window.new.Goals as goal

pub invariant_of-result : goal.invariant_of-result
invariant_of-result c =
    rw (c.new.ensures.items, c.new-2.ensures) (record {
      paired = omega arith;
      indexed = λ few cpu h. ap (λ lists. indices_at lists cpu) c.new-3.ensures ∙ none_indexed cpu h;
    })

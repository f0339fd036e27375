use Rattle.std.proofs.Common.{◌≡◌, ℕ, ◌+◌, ◌-◌}
use Rattle.sched_record.specs.Indices.{indices_at}
use Rattle.sched_record.proofs.indices.Indices.make_lists.Given as goal

abbrev pub invariant-loop-alloc : goal.invariant-loop-alloc
invariant-loop-alloc l = (other : ℕ) → indices_at l.self-inside.lists.items other ≡ indices_at
    l.initial.self-inside.lists.items other

abbrev pub decreases-loop-alloc : goal.decreases-loop-alloc
decreases-loop-alloc l = l.processor + 1 - l.self-inside.lists.len

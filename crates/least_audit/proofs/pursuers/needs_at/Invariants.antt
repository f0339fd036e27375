use Rattle.std.proofs.Common.{◌≡◌}
use Rattle.cfs_model.specs.Least.{larger}
use Rattle.replay_model.specs.Needs.{idle_need, largest, only_slack}
use Rattle.least_audit.specs.Pursuers.{view_at}
use Rattle.least_audit.proofs.pursuers.needs_at.Given as goal

abbrev pub invariant-loop-pursuer : goal.invariant-loop-pursuer
invariant-loop-pursuer l =
    l.largest ≡ largest (λ cpu. larger (view_at l.pursuers cpu).needs
    (only_slack (idle_need (view_at l.pursuers cpu).state.since l.time))) l.pursuer-index

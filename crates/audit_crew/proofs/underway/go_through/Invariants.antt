use Rattle.std.proofs.Common.{◌≡◌, ◌-◌, ◌<◌, ◌≤◌, length}
use Rattle.queue_replay.specs.Made.{state_of}
use Rattle.queue_replay.specs.declared.state.State.TheVariants.{Going}
use Rattle.audit_crew.proofs.underway.go_through.Given as goal

abbrev pub invariant-stretches : goal.invariant-stretches
invariant-stretches g l = record {
  stream : l.replay.stream ≡ l.initial.replay.stream;
  knobs : l.replay.knobs ≡ l.initial.replay.knobs;
  accepted : g.S.ReservedShelf.accepted l.shelf ≡ g.S.ReservedShelf.accepted l.initial.shelf;
  refused : g.S.ReservedShelf.refused l.shelf ≡ g.S.ReservedShelf.refused l.initial.shelf;
  is_state : l.state ≡ state_of l.replay.page.fault l.replay.made (length l.replay.stream.steps);
  within : l.replay.made ≤ length l.replay.stream.steps;
  some : l.state ≡ Going → 0 < l.replay.made;
}

abbrev pub decreases-stretches : goal.decreases-stretches
decreases-stretches g l = length l.replay.stream.steps - l.replay.made

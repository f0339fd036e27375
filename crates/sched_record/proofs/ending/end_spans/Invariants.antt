use Rattle.std.proofs.Common.{◌≡◌, take}
use Rattle.std.specs.Prelude.{All}
use Rattle.companion_file.specs.Seen.{companion_view}
use Rattle.sched_record.specs.Policies.{EndsAtBirth}
use Rattle.sched_record.proofs.ending.end_spans.Given as goal

abbrev pub invariant-loop-event : goal.invariant-loop-event
invariant-loop-event l = record {
  ended : All (EndsAtBirth (take l.event-index l.events)) l.companion.spans;
  others : companion_view l.companion ≡ companion_view l.initial.companion;
}

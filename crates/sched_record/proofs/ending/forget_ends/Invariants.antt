use Rattle.std.proofs.Common.{◌≡◌, ℕ, ◌<◌, length, get_or}
use Rattle.companion_file.specs.Seen.{companion_view}
use Rattle.companion_file.specs.declared.idle_span.IdleSpan.{IdleSpan}
use Rattle.sched_record.proofs.ending.forget_ends.Given as goal

abbrev pub invariant-loop-index : goal.invariant-loop-index
invariant-loop-index l = record {
  count : length l.companion.spans ≡ length l.initial.companion.spans;
  forgotten : (k : ℕ) (d : IdleSpan) → k < l.index → (get_or l.companion.spans k d).until ≡ 0;
  others : companion_view l.companion ≡ companion_view l.initial.companion;
}

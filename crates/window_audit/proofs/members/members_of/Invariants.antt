use Rattle.std.proofs.Common.{◌≡◌, ◌<◌, ℕ, [], length, get_or}
use Rattle.companion_file.specs.Seen.{companion_view}
use Rattle.replay_model.specs.Cut.{cut}
use Rattle.replay_model.specs.Page.{IsStartOf}
use Rattle.window_audit.specs.Member.{replay_of}
use Rattle.window_audit.specs.States.{AreOwn}
use Rattle.window_audit.specs.declared.member.Member.{Member}
use Rattle.window_audit.proofs.members.members_of.Given as goal

abbrev pub invariant-loop-cpu : goal.invariant-loop-cpu
invariant-loop-cpu l =
    let of = companion_view l.companion in
    record {
      count : length l.members.items ≡ l.cpu;
      own : AreOwn l.knobs 0 l.members.items;
      start : (k : ℕ) (d : Member) → k < length l.members.items
          → IsStartOf (cut of.start of.floors of.tasks [] k) (replay_of (get_or l.members.items k d)).state;
    }

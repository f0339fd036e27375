use Rattle.std.proofs.Common.{◌≡◌, ◌<◌, ℕ, [], length}
use Rattle.cfs_model.specs.Least.{greatest_settings}
use Rattle.companion_file.specs.Seen.{companion_view}
use Rattle.replay_model.specs.Cut.{cut}
use Rattle.replay_model.specs.Needs.{only_slack}
use Rattle.replay_model.specs.Page.{IsStartOf}
use Rattle.window_audit.specs.States.{IsOwn}
use Rattle.least_audit.specs.Pursuers.{view_at}
use Rattle.least_audit.proofs.pursuers.pursuers_of.Given as goal

abbrev pub invariant-loop-cpu : goal.invariant-loop-cpu
invariant-loop-cpu l =
    let of = companion_view l.companion in
    let all = l.pursuers.items in
    record {
      count : length all ≡ l.cpu;
      own : (k : ℕ) → k < length all → IsOwn greatest_settings k 0 (view_at all k);
      start : (k : ℕ) → k < length all
          → IsStartOf (cut of.start of.floors of.tasks [] k) (view_at all k).state;
      needs : (k : ℕ) → k < length all → (view_at all k).needs ≡ only_slack 0;
    }

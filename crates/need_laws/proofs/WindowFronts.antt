-- The replays of the front of a window, from the start of the record on.
use Rattle.std.proofs.Common.{ℕ, ◌+◌, ◌<◌, ◌≤◌, Option, Some, None, ℤ, List, ◌++◌, refl, sym, ap, subst, arith}
use Rattle.cfs_model.specs.Claimed.{Claimed}
use Rattle.cfs_model.specs.Knobs.{KnobsView}
use Rattle.cfs_model.specs.Least.{AtMost, larger}
use Rattle.replay_model.specs.Cut.{cut, steps_at}
use Rattle.replay_model.specs.Needs.{AllPassNeeding}
use Rattle.replay_model.specs.Page.{IsStartOf, ReplayStateView}
use Rattle.replay_model.specs.QueueTests.{IsIdleTooLong}
use Rattle.replay_laws.specs.CutReplay.{IsCutReplay}
use Rattle.window_laws.specs.Kept.{state_behind}
use Rattle.need_laws.specs.Reaching.{NeedsSoFar}
use Rattle.cfs_model.proofs.LeastSettings.{larger_at_most}
use Rattle.window_laws.proofs.Appended.{steps_append}
use Rattle.window_laws.proofs.NeedsAppended.{needs_in_parts}
use Rattle.need_laws.proofs.WithinRuns.{replay_within}
use Rattle.cfs_model.specs.declared.task.Task.{Task}

pub le_itself : (a : ℕ) → a ≤ a
le_itself a = omega arith

-- who idles for too long by one time does so by a later one, and with less slack
pub later_too : (wider other early late : ℕ) (since : Option ℕ) → wider ≤ other → early ≤ late
    → IsIdleTooLong other since early 0 → IsIdleTooLong wider since late 0
later_too wider other early late None h k i = i
later_too wider other early late (Some since) h k i = ((let a : since + other < early = i.0 in omega arith), refl)

module _ (knobs : KnobsView) (start : ℕ) (floors : List ℤ) (tasks : List Task) (before front : List Claimed)
    (cpus : ℕ) (kept : ℕ → ReplayStateView) (had : ℕ → KnobsView)
    (so_far : (cpu : ℕ) → cpu < cpus → NeedsSoFar knobs start floors tasks before cpu (kept cpu) (had cpu)) where
  -- a processor's steps of the front, from the start on
  pub joins : (cpu : ℕ) → (k : cpu < cpus) → (mid : ReplayStateView) (needs : KnobsView)
      → AllPassNeeding knobs cpu (kept cpu) (steps_at cpu front) mid needs
      → AllPassNeeding knobs cpu (so_far cpu k).first (steps_at cpu (before ++ front))
      (state_behind (so_far cpu k).last.page mid) (larger (had cpu) needs)
  joins cpu k mid needs p =
      let n = so_far cpu k in
      subst (λ xs. AllPassNeeding knobs cpu n.first xs (state_behind n.last.page mid) (larger (had cpu) needs))
      (sym (steps_append cpu before front))
      (needs_in_parts knobs cpu n.first n.last mid (steps_at cpu before) (steps_at cpu front) (had cpu) needs n.passes
      (subst (λ s. AllPassNeeding knobs cpu s (steps_at cpu front) mid needs) n.is_kept p))

  pub starts : (cpu : ℕ) → (k : cpu < cpus)
      → IsStartOf (cut start floors tasks (before ++ front) cpu) (so_far cpu k).first
  starts cpu k =
      let s = (so_far cpu k).is_start in
      record { part = s.part; since = s.since; page = s.page }

  -- they are its replay under any settings that are enough
  pub cut_by : (cpu : ℕ) → (k : cpu < cpus) → (by : KnobsView) → (mid : ReplayStateView) (needs : KnobsView)
      → AllPassNeeding knobs cpu (kept cpu) (steps_at cpu front) mid needs → AtMost (had cpu) by → AtMost needs by
      → IsCutReplay by start floors tasks (before ++ front) cpu (state_behind (so_far cpu k).last.page mid)
  cut_by cpu k by mid needs p h more =
      let n = so_far cpu k in
      record {
        first = n.first;
        is_start = starts cpu k;
        replay = (replay_within knobs by cpu n.first (steps_at cpu (before ++ front)) (state_behind n.last.page mid)
            (larger (had cpu) needs) (ap (λ x. x.fault) n.is_start.page) (joins cpu k mid needs p)
            (larger_at_most (had cpu) needs by h more)).0;
      }

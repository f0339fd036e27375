-- Before the first step no replay has a fault, and none is late at the start's time.
use Rattle.std.proofs.Common.{◌≡◌, ℕ, ◌+◌, ◌<◌, Option, Some, None, ℤ, List, [], refl, sym, ap, ◌∙◌, arith}
use Rattle.cfs_model.specs.Knobs.{KnobsView}
use Rattle.replay_model.specs.Cut.{cut}
use Rattle.replay_model.specs.QueueTests.{IsIdleTooLong}
use Rattle.replay_model.specs.Noted.{PageView}
use Rattle.replay_model.specs.Page.{ReplayStateView, IsStartOf}
use Rattle.replay_laws.specs.CutReplay.{PassesCut}
use Rattle.replay_laws.proofs.following.FollowLaws.{starts_at}
use Rattle.window_laws.specs.Kept.{kept_of}
use Rattle.window_laws.specs.Beginnings.{NoEventsSoFar}
use Rattle.cfs_model.specs.declared.task.Task.{Task}

start_passes : (knobs : KnobsView) (start : ℕ) (floors : List ℤ) (tasks : List Task) (cpu : ℕ)
    (first : ReplayStateView) → IsStartOf (cut start floors tasks [] cpu) first
    → PassesCut knobs start floors tasks [] cpu first
start_passes knobs start floors tasks cpu first s = record {
  cut_replay = record { first = first; is_start = s; replay = refl };
  no_fault = ap (λ p. p.fault) s.page;
  in_time = in_time first.since refl;
}
  where
    in_time : (o : Option ℕ) → first.since ≡ o → ¬ IsIdleTooLong knobs.slack o start 0
    in_time None e h = h
    in_time (Some x) e h =
        let at : x ≡ start = starts_at start first.part first.since s.since x e in
        let late : x + knobs.slack < start = h.0 in
        absurd (omega arith)

start_kept : (start : ℕ) (floors : List ℤ) (tasks : List Task) (cpu : ℕ) (first : ReplayStateView)
    → IsStartOf (cut start floors tasks [] cpu) first → first ≡ kept_of first
start_kept start floors tasks cpu first s =
    let with_page : PageView → ReplayStateView = λ page. record first { page = page } in
    ap with_page s.page ∙ ap (λ page. kept_of (with_page page)) (sym s.page)

pub no_events_so_far : NoEventsSoFar
no_events_so_far knobs start floors tasks cpus kept starts = record {
  last = kept;
  passes = λ cpu k. start_passes knobs start floors tasks cpu (kept cpu) (starts cpu k);
  keeps = λ cpu k. start_kept start floors tasks cpu (kept cpu) (starts cpu k);
  tickets = tt;
  births = tt;
  roll = λ pid. refl;
}

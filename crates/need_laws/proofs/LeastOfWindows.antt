-- The needs of the replays in windows are those of the record's replays, of which each is the only one.
use Rattle.std.proofs.Common.{◌≡◌, ℕ, ◌<◌, ℤ, List, ◌++◌, refl, sym, ap, ◌∙◌, subst}
use Rattle.cfs_model.specs.Claimed.{Claimed}
use Rattle.cfs_model.specs.Knobs.{KnobsView}
use Rattle.cfs_model.specs.Least.{larger}
use Rattle.cfs_model.specs.Order.{IsStart}
use Rattle.cfs_model.specs.Start.{start_machine}
use Rattle.cfs_model.specs.declared.task.Task.{Task}
use Rattle.replay_model.specs.Cut.{cut, steps_at}
use Rattle.replay_model.specs.Needs.{AllPassNeeding, IsPageNeeding}
use Rattle.replay_model.specs.Page.{IsReplay, IsStartOf, ReplayStateView}
use Rattle.replay_model.specs.PartWords.{OneRunsIn}
use Rattle.replay_laws.specs.CutReplay.{IsCutReplay}
use Rattle.window_laws.specs.Kept.{state_behind}
use Rattle.need_laws.specs.LeastSoFar.{NeedsGoOn, NeedsTellLeast, NoneFails, needs_at_end}
use Rattle.part_laws.proofs.one_page.OnePage.{replay_one}
use Rattle.replay_laws.proofs.following.FollowLaws.{follows_start}
use Rattle.replay_laws.proofs.needing.PageNeeds.{pages_tell_least}
use Rattle.replay_model.proofs.Replayed.{IsReplay-append}
use Rattle.window_laws.proofs.Appended.{steps_append}
use Rattle.window_laws.proofs.Behind.{replay_from_kept}
use Rattle.window_laws.proofs.NeedsAppended.{needs_in_parts}
use Rattle.need_laws.proofs.WithinRuns.{one_runs_at, replay_itself, same_start}

-- two replays of one processor's steps end alike
same_end : (knobs : KnobsView) (start : ℕ) (floors : List ℤ) (tasks : List Task) (events : List Claimed) (cpu : ℕ)
    (first one other : ReplayStateView) → IsStart floors tasks → IsStartOf (cut start floors tasks events cpu) first
    → IsReplay knobs cpu first (steps_at cpu events) one → IsCutReplay knobs start floors tasks events cpu other
    → one ≡ other
same_end knobs start floors tasks events cpu first one other s at p c =
    let follows = follows_start start floors tasks events cpu first s at in
    replay_one knobs cpu first (steps_at cpu events) one other
    (subst OneRunsIn follows.part (one_runs_at (start_machine start floors tasks) follows.order cpu)) p
    (subst (λ x. IsReplay knobs cpu x (steps_at cpu events) other)
    (sym (same_start (cut start floors tasks events cpu) first c.first at c.is_start)) c.replay)

pub needs_tell_least : NeedsTellLeast
needs_tell_least knobs start floors tasks events cpus behind kept alive needs r so_far known =
    pages_tell_least knobs start floors tasks events cpus (λ cpu. (so_far.last cpu).page)
    (λ cpu. needs_at_end start events (kept cpu) (needs cpu)) r page so_far.tickets so_far.births
  where
    page : (cpu : ℕ) → cpu < cpus → IsPageNeeding (cut start floors tasks events cpu) knobs (so_far.last cpu).page
        (needs_at_end start events (kept cpu) (needs cpu))
    page cpu k =
        let n = known cpu k in
        let same = same_end knobs start floors tasks events cpu n.first n.last (so_far.last cpu) r.is_start n.is_start
        (replay_itself knobs cpu n.first (steps_at cpu events) n.last (needs cpu)
        (ap (λ p. p.fault) n.is_start.page) n.passes) (so_far.passes cpu k).cut_replay in
        record {
          start = n.first;
          is_start = n.is_start;
          end = n.last;
          of_steps = needs cpu;
          all_pass = n.passes;
          page_is = ap (λ (s : ReplayStateView). s.page) (sym same);
          needs_are = ap (λ (s : ReplayStateView). needs_at_end start events s (needs cpu)) n.is_kept;
        }

pub needs_go_on : NeedsGoOn
needs_go_on knobs start floors tasks before window cpu kept ends needs here n p = record {
  first = n.first;
  is_start = record { part = n.is_start.part; since = n.is_start.since; page = n.is_start.page };
  last = state_behind n.last.page ends;
  passes = subst (λ xs. AllPassNeeding knobs cpu n.first xs (state_behind n.last.page ends) (larger needs here))
      (sym (steps_append cpu before window))
      (needs_in_parts knobs cpu n.first n.last ends (steps_at cpu before) (steps_at cpu window) needs here n.passes
      (subst (λ s. AllPassNeeding knobs cpu s (steps_at cpu window) ends here) n.is_kept p));
  is_kept = refl;
}

pub none_fails : NoneFails
none_fails knobs start floors tasks before window cpus cpu behind alive kept ends needs r so_far k n p =
    let whole : IsReplay knobs cpu n.first (steps_at cpu (before ++ window)) (state_behind n.last.page ends) =
    subst (λ xs. IsReplay knobs cpu n.first xs (state_behind n.last.page ends)) (sym (steps_append cpu before window))
    (IsReplay-append knobs cpu n.first (steps_at cpu before) (steps_at cpu window) n.last
    (state_behind n.last.page ends)
    (replay_itself knobs cpu n.first (steps_at cpu before) n.last needs (ap (λ p. p.fault) n.is_start.page) n.passes)
    (replay_from_kept knobs cpu n.last (steps_at cpu window) ends
    (subst (λ s. IsReplay knobs cpu s (steps_at cpu window) ends) n.is_kept p))) in
    let same = same_end knobs start floors tasks (before ++ window) cpu n.first (state_behind n.last.page ends)
    (so_far.last cpu) r.is_start
    (record { part = n.is_start.part; since = n.is_start.since; page = n.is_start.page }) whole
    (so_far.passes cpu k).cut_replay in
    ap (λ (s : ReplayStateView). s.page.fault) same ∙ (so_far.passes cpu k).no_fault

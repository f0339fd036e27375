-- The first fault is at the first step of a window that needs more of a setting than there is: the events before it are
-- a run at these settings too.
use Rattle.std.proofs.Common.{◌≡◌, ◌≢◌, ℕ, ◌<◌, ◌≤◌, Bool, ℤ, inl, inr, List, [], ◌∷◌}
use Rattle.std.proofs.Common.{◌++◌, append_assoc, refl, sym, ap, ◌∙◌, subst}
use Rattle.std.specs.List.{AllByRecursion}
use Rattle.cfs_model.specs.Claimed.{Claimed}
use Rattle.cfs_model.specs.Knobs.{KnobsView, value_at}
use Rattle.cfs_model.specs.Least.{AtMost, larger}
use Rattle.cfs_model.specs.Run.{IsRun}
use Rattle.cfs_model.specs.Start.{start_machine}
use Rattle.replay_model.specs.Cause.{IsFirstFault}
use Rattle.replay_model.specs.Cut.{last_time_of, steps_at}
use Rattle.replay_model.specs.Needs.{AllPassNeeding, PassesNeeding}
use Rattle.replay_model.specs.Page.{ReplayStateView}
use Rattle.replay_model.specs.Record.{IsRecord, TimesRise}
use Rattle.replay_model.specs.StepAt.{step_at}
use Rattle.window_laws.specs.Kept.{state_behind}
use Rattle.window_laws.specs.SoFar.{IsSoFar}
use Rattle.need_laws.specs.Reaching.{AreReached, ReachedIsFault, ReachesFrom}
use Rattle.need_laws.specs.Short.{kind_of, needing}
use Rattle.need_laws.specs.Within.{StaysWithin}
use Rattle.cfs_model.proofs.LeastSettings.{at_most_trans, below_larger, larger_at_most, other_below_larger}
use Rattle.cfs_model.proofs.Prefix.{run_prefix}
use Rattle.replay_laws.proofs.composing.StepLines.{steps_below}
use Rattle.replay_laws.proofs.following.FollowLaws.{slack_follows}
use Rattle.replay_laws.proofs.telling.Fronts.{record_front, rise_back}
use Rattle.window_laws.proofs.Appended.{all_back, steps_append}
use Rattle.need_laws.proofs.FirstReach.{StayBelow, event_of, le_through, stay_below}
use Rattle.need_laws.proofs.ShortFaults.{slack_kept, step_is_fault}
use Rattle.need_laws.proofs.WindowFronts.{cut_by, joins, later_too, le_itself, starts}
use Rattle.need_laws.proofs.WithinRuns.{front_within}
use Rattle.cfs_model.specs.declared.setting.Setting.{Setting}
use Rattle.cfs_model.specs.declared.setting.Setting.TheVariants.{Slack}
use Rattle.cfs_model.specs.declared.task.Task.{Task}
use Rattle.replay_model.specs.declared.step.Step.{Step}

module _ (knobs wider other : KnobsView) (start : ℕ) (floors : List ℤ) (tasks : List Task)
    (before window front rest : List Claimed) (event : Claimed) (cpus : ℕ) (kept ends : ℕ → ReplayStateView)
    (had here : ℕ → KnobsView) (behind : ℕ → ReplayStateView) (alive : ℕ → Bool) (which : Setting)
    (r : IsRecord start floors tasks (before ++ window) cpus)
    (so_far : IsSoFar knobs start floors tasks (before ++ window) cpus behind alive)
    (run : IsRun wider start (start_machine start floors tasks) (before ++ window))
    (reached : AreReached knobs wider other start floors tasks before window cpus kept ends had here which
    event.entry.line)
    (not_slack : which ≢ Slack) (whole : window ≡ front ++ event ∷ rest) where
  joined : before ++ window ≡ (before ++ front) ++ event ∷ rest
  joined = ap (λ xs. before ++ xs) whole ∙ sym (append_assoc before front (event ∷ rest))

  is_record : IsRecord start floors tasks ((before ++ front) ++ event ∷ rest) cpus
  is_record = subst (λ xs. IsRecord start floors tasks xs cpus) joined r

  run_all : IsRun wider start (start_machine start floors tasks) ((before ++ front) ++ event ∷ rest)
  run_all = subst (IsRun wider start (start_machine start floors tasks)) joined run

  run_front : IsRun wider start (start_machine start floors tasks) (before ++ front)
  run_front = run_prefix wider start (start_machine start floors tasks) (before ++ front) (event ∷ rest) run_all

  run_event : IsRun wider start (start_machine start floors tasks) ((before ++ front) ++ event ∷ [])
  run_event = run_prefix wider start (start_machine start floors tasks) ((before ++ front) ++ event ∷ []) rest
      (subst (IsRun wider start (start_machine start floors tasks))
      (sym (append_assoc (before ++ front) (event ∷ []) rest)) run_all)

  times : TimesRise start (before ++ front)
  times = (record_front start floors tasks (before ++ front) (event ∷ rest) cpus is_record).times_rise

  more_slack : wider.slack ≤ other.slack
  more_slack = elim (reached.others Slack) [ inl e ↦ absurd (not_slack (sym e)) | inr h ↦ h ]

  -- what is within the wider settings, and within these of the one, is within these
  at_other : (needs : KnobsView) → AtMost needs wider → value_at needs which ≤ value_at other which → AtMost needs other
  at_other needs h k setting = elim (reached.others setting) [
    | inl e ↦ subst (λ x. value_at needs x ≤ value_at other x) (sym e) k
    | inr le ↦ le_through (value_at needs setting) (value_at wider setting) (value_at other setting) (h setting) le
  ]

  below : (cpu : ℕ) → AllByRecursion (λ (x : Step). x.line < event.entry.line) (steps_at cpu front)
  below cpu = all_back (λ (x : Step). x.line < event.entry.line) (steps_at cpu before) (steps_at cpu front)
      (subst (AllByRecursion (λ (x : Step). x.line < event.entry.line)) (steps_append cpu before front)
      (steps_below cpu 0 (before ++ front) rest event is_record.lines_rise))

  stays : (cpu : ℕ) → cpu < cpus
      → StayBelow knobs cpu (kept cpu) (steps_at cpu front) (here cpu) which (value_at other which)
  stays cpu k = stay_below knobs cpu (kept cpu) (steps_at cpu front) (steps_at cpu (event ∷ rest)) (ends cpu) (here cpu)
      which (value_at other which) event.entry.line
      (subst (λ xs. ReachesFrom knobs cpu (kept cpu) xs (ends cpu) (here cpu) which (value_at other which)
      event.entry.line) (ap (steps_at cpu) whole ∙ steps_append cpu front (event ∷ rest)) (reached.reaches cpu k))
      (below cpu)

  stay : (cpu : ℕ) → cpu < cpus → StaysWithin knobs other start floors tasks (before ++ front) cpu
  stay cpu k =
      let n = reached.so_far cpu k in
      let s = stays cpu k in
      let mine : AtMost s.here wider = at_most_trans s.here (here cpu) wider s.at_most (reached.here_wider cpu k) in
      let last = state_behind n.last.page s.mid in
      let follows = slack_follows wider start floors tasks (before ++ front) cpu last event.entry.time r.is_start times
      run_front (cut_by knobs start floors tasks before front cpus kept had reached.so_far cpu k wider s.mid s.here
      s.passes
      (reached.had_wider cpu k) mine) in
      record {
        first = n.first;
        is_start = starts knobs start floors tasks before front cpus kept had reached.so_far cpu k;
        mid = last;
        needs = larger (had cpu) s.here;
        passes = joins knobs start floors tasks before front cpus kept had reached.so_far cpu k s.mid s.here s.passes;
        within = larger_at_most (had cpu) s.here other
            (at_other (had cpu) (reached.had_wider cpu k) (reached.had_which cpu k)) (at_other s.here mine s.within);
        in_time = λ late. slack_kept wider wider start (start_machine start floors tasks) (before ++ front) event
            run_front
            run_event (le_itself wider.slack) cpu
            (follows.1 (later_too wider.slack other.slack (last_time_of start (before ++ front)) event.entry.time
            last.since
            more_slack (rise_back start (before ++ front) (event ∷ rest) is_record.times_rise).0 late));
      }

  run_other : IsRun other start (start_machine start floors tasks) (before ++ front)
  run_other = front_within knobs other start floors tasks (before ++ front) rest event cpus behind alive is_record
      (subst (λ xs. IsSoFar knobs start floors tasks xs cpus behind alive) joined so_far) stay

pub reached_is_fault : ReachedIsFault
reached_is_fault knobs wider other start floors tasks before window cpus kept ends had here behind alive which cpu
    step r
    so_far run reached not_slack k at =
    let o = event_of cpu window at.front at.back step at.whole in
    let m = start_machine start floors tasks in
    let line : step.line ≡ o.event.entry.line = ap (λ (s : Step). s.line) o.is in
    let mine = subst (AreReached knobs wider other start floors tasks before window cpus kept ends had here which) line
    reached in
    let n = mine.so_far cpu k in
    let front = subst (λ xs. AllPassNeeding knobs cpu (kept cpu) xs at.mid at.before) (sym o.steps) at.passes_before in
    let all_here : AtMost at.here (here cpu) = subst (AtMost at.here) (sym at.needs_are)
    (at_most_trans at.here (larger at.here at.later) (larger at.before (larger at.here at.later))
    (below_larger at.here at.later) (other_below_larger at.before (larger at.here at.later))) in
    let all_before : AtMost at.before (here cpu) = subst (AtMost at.before) (sym at.needs_are)
    (below_larger at.before (larger at.here at.later)) in
    let here_wider = mine.here_wider cpu k in
    let enough = at_other knobs wider other start floors tasks before window o.before o.rest o.event cpus kept ends had
    here behind alive which r so_far run mine not_slack o.whole in
    let found = step_is_fault other wider knobs start floors tasks (before ++ o.before) o.rest o.event cpu
    (state_behind n.last.page at.mid) at.mid at.next at.here which r.is_start
    (times knobs wider other start floors tasks before window o.before o.rest o.event cpus kept ends had here behind
    alive
    which r so_far run mine not_slack o.whole)
    (run_other knobs wider other start floors tasks before window o.before o.rest o.event cpus kept ends had here behind
    alive which r so_far run mine not_slack o.whole)
    (run_event knobs wider other start floors tasks before window o.before o.rest o.event cpus kept ends had here behind
    alive which r so_far run mine not_slack o.whole)
    (more_slack knobs wider other start floors tasks before window o.before o.rest o.event cpus kept ends had here
    behind
    alive which r so_far run mine not_slack o.whole) o.touch
    (cut_by knobs start floors tasks before o.before cpus kept had mine.so_far cpu k other at.mid at.before front
    (enough (had cpu) (mine.had_wider cpu k) (mine.had_which cpu k))
    (enough at.before (at_most_trans at.before (here cpu) wider all_before here_wider) at.within))
    refl refl (subst (λ s. PassesNeeding knobs cpu at.mid s at.next at.here) o.is at.passes) not_slack (record {
      less = at.above;
      others = λ setting ne. elim (mine.others setting) [
        | inl e ↦ absurd (ne e)
        | inr le ↦ le_through (value_at at.here setting) (value_at wider setting) (value_at other setting)
            (at_most_trans at.here (here cpu) wider all_here here_wider setting) le
      ];
    }) in
    subst (λ (s : Step). IsFirstFault other start m (before ++ window) s.line
    (record { cpu = cpu; pid = needing which s; kind = kind_of which })) (sym o.is)
    (subst (λ xs. IsFirstFault other start m xs o.event.entry.line
    (record { cpu = cpu; pid = needing which (step_at cpu o.event); kind = kind_of which }))
    (sym (joined knobs wider other start floors tasks before window o.before o.rest o.event cpus kept ends had here
    behind
    alive which r so_far run mine not_slack o.whole)) found)

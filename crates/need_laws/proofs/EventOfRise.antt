-- The event of a step by which needs rose: the replay up to it is that of a run, so the machine has its part.
use Rattle.std.proofs.Common.{◌≡◌, List, [], ◌∷◌, ◌++◌, append_assoc, refl, sym, ap, ◌∙◌, subst}
use Rattle.cfs_model.specs.Least.{AtMost, larger}
use Rattle.cfs_model.specs.Machine.{Machine}
use Rattle.cfs_model.specs.Run.{IsRun, last_of}
use Rattle.cfs_model.specs.Start.{start_machine}
use Rattle.replay_model.specs.Cut.{steps_at}
use Rattle.replay_model.specs.Needs.{AllPassNeeding, only_slack}
use Rattle.replay_model.specs.Part.{part_of}
use Rattle.replay_model.specs.Record.{IsRecord}
use Rattle.replay_laws.specs.CutReplay.{IsCutReplay}
use Rattle.window_laws.specs.Kept.{state_behind}
use Rattle.need_laws.specs.RiseEvents.{EventStays, RiseHasEvent}
use Rattle.cfs_model.proofs.LeastSettings.{at_most_trans, below_larger, larger_at_most}
use Rattle.cfs_model.proofs.LeastSettings.{other_below_larger}
use Rattle.cfs_model.proofs.LeastSettings.{same_states}
use Rattle.cfs_model.proofs.Prefix.{run_prefix}
use Rattle.replay_laws.proofs.following.Follow.{touched_steps}
use Rattle.replay_laws.proofs.following.FollowLaws.{replay_follows}
use Rattle.replay_laws.proofs.telling.Fronts.{record_front}
use Rattle.window_laws.proofs.Appended.{steps_append}
use Rattle.window_laws.proofs.NeedsAppended.{needs_append}
use Rattle.need_laws.proofs.FirstReach.{event_of}
use Rattle.need_laws.proofs.RoseLast.{larger_none}
use Rattle.need_laws.proofs.WindowFronts.{cut_by}

pub rise_has_event : RiseHasEvent
rise_has_event knobs least start floors tasks before window cpus kept ends had here behind alive which cpu step
    since left
    saw k rose =
    let at = rose.reaches in
    let o = event_of cpu window at.front at.back step at.whole in
    let m = start_machine start floors tasks in
    let all = (before ++ o.before) ++ o.event ∷ [] in
    let joined : before ++ window ≡ all ++ o.rest =
    ap (λ xs. before ++ xs) o.whole ∙ sym (append_assoc before o.before (o.event ∷ o.rest))
    ∙ sym (append_assoc (before ++ o.before) (o.event ∷ []) o.rest) in
    let up_to : IsRun least start m all =
    run_prefix least start m all o.rest (subst (IsRun least start m) joined saw.run) in
    let r = record_front start floors tasks all o.rest cpus
    (subst (λ xs. IsRecord start floors tasks xs cpus) joined saw.is_record) in
    let steps : steps_at cpu (o.before ++ o.event ∷ []) ≡ at.front ++ step ∷ [] =
    steps_append cpu o.before (o.event ∷ []) ∙ ap (λ xs. xs ++ steps_at cpu (o.event ∷ [])) o.steps
    ∙ ap (λ xs. at.front ++ xs) (touched_steps cpu o.event [] o.touch ∙ ap (λ s. s ∷ []) (sym o.is)) in
    let most : AtMost at.before (here cpu) = subst (AtMost at.before) (sym at.needs_are)
    (below_larger at.before (larger at.here at.later)) in
    let more : AtMost at.here (here cpu) = subst (AtMost at.here) (sym at.needs_are)
    (at_most_trans at.here (larger at.here at.later) (larger at.before (larger at.here at.later))
    (below_larger at.here at.later) (other_below_larger at.before (larger at.here at.later))) in
    let passed : AllPassNeeding knobs cpu (kept cpu) (at.front ++ step ∷ []) at.next (larger at.before at.here) =
    needs_append knobs cpu (kept cpu) at.mid at.next at.front (step ∷ []) at.before at.here at.passes_before
    (at.next, at.here, only_slack 0, at.passes, (refl, refl), sym (larger_none at.here)) in
    let whole = cut_by knobs start floors tasks before (o.before ++ o.event ∷ []) cpus kept had saw.needs_before cpu k
    least at.next (larger at.before at.here)
    (subst (λ xs. AllPassNeeding knobs cpu (kept cpu) xs at.next (larger at.before at.here)) (sym steps) passed)
    (saw.had_most cpu k)
    (larger_at_most at.before at.here least (at_most_trans at.before (here cpu) least most (saw.here_most cpu k))
    (at_most_trans at.here (here cpu) least more (saw.here_most cpu k))) in
    let last = state_behind (saw.needs_before cpu k).last.page at.next in
    let follows = replay_follows least start floors tasks all cpu last r.is_start r.times_rise up_to
    (subst (λ xs. IsCutReplay least start floors tasks xs cpu last) (sym (append_assoc before o.before (o.event ∷ [])))
    whole) in
    record {
      front = before ++ o.before;
      event = o.event;
      rest = o.rest;
      whole = ap (λ xs. before ++ xs) o.whole ∙ sym (append_assoc before o.before (o.event ∷ o.rest));
      touch = o.touch;
      is = o.is;
      part = λ other run. ap (λ (xs : List Machine). part_of (last_of m xs) cpu)
          (same_states other least start m all run up_to) ∙ follows.1 ∙ sym rose.left_is;
    }

pub event_stays : EventStays
event_stays start floors tasks events more cpu step left e = record {
  front = e.front;
  event = e.event;
  rest = e.rest ++ more;
  whole = ap (λ xs. xs ++ more) e.whole ∙ append_assoc e.front (e.event ∷ e.rest) more;
  touch = e.touch;
  is = e.is;
  part = e.part;
}

-- A page by all steps, of which none failed, is the page by any settings that are at least what it needs.
use Rattle.std.proofs.Common.{◌≡◌, ℕ, ◌+◌, ◌≤◌, if◌then◌else◌, Bool, Option, Some, None}
use Rattle.std.proofs.Common.{List, [], ◌∷◌, length, inl, refl, sym, ap, ◌∙◌, subst, arith}
use Rattle.std.proofs.lemmas.Bool.{le-leb, le-ltb}
use Rattle.std.proofs.lemmas.List.{take_all}
use Rattle.std.specs.List.{AllByRecursion}
use Rattle.cfs_model.specs.Knobs.{KnobsView, all_settings, value_at}
use Rattle.cfs_model.specs.Least.{AtMost, larger}
use Rattle.cfs_model.specs.declared.kind.Kind.TheVariants.{IdleTooLong}
use Rattle.cfs_model.specs.declared.setting.Setting.TheVariants.{Granularity, Credit, Debit, Slack, Drift}
use Rattle.cfs_model.proofs.LeastSettings.{at_most_trans, below_larger, other_below_larger}
use Rattle.queue_replay.specs.Needing.{HasNeeds}
use Rattle.replay_laws.specs.LeastSettings.{PassesFromNeeds}
use Rattle.replay_model.specs.Cut.{StreamView}
use Rattle.replay_model.specs.Needs.{AllPassNeeding, idle_need, only_slack}
use Rattle.replay_model.specs.Noted.{PageView}
use Rattle.replay_model.specs.Page.{IsPageOf, IsReplay, IsReplayStep, ReplayStateView, end_page}
use Rattle.replay_model.specs.declared.page.StepFault.{StepFault}
use Rattle.replay_model.specs.declared.step.Step.{Step}

-- settings of which each meets what is needed
pub met : (needs knobs : KnobsView) → AllByRecursion (λ which. value_at needs which ≤ value_at knobs which) all_settings
    → AtMost needs knobs
met needs knobs h Granularity = h.0
met needs knobs h Credit = h.1.0
met needs knobs h Debit = h.1.1.0
met needs knobs h Slack = h.1.1.1.0
met needs knobs h Drift = h.1.1.1.1.0

module _ (law : PassesFromNeeds) where
  -- steps that pass are a replay under any settings that are at least what they need
  replay_within : (knobs other : KnobsView) (cpu : ℕ) (before : ReplayStateView) (steps : List Step)
      (after : ReplayStateView) (needs : KnobsView)
      → before.page.fault ≡ None → AllPassNeeding knobs cpu before steps after needs → AtMost needs other
      → IsReplay other cpu before steps after × (after.page.fault ≡ None)
  replay_within knobs other cpu before [] after needs f p h = (p.0, ap (λ x. x.page.fault) p.0 ∙ f)
  replay_within knobs other cpu before (step ∷ steps) after needs f p h =
      let k : AtMost (larger p.1 p.2) other = subst (λ x. AtMost x other) p.5 h in
      let one = (law knobs other cpu before step p.0 p.1 p.3).1
      (at_most_trans p.1 (larger p.1 p.2) other (below_larger p.1 p.2) k) in
      let rest = replay_within knobs other cpu p.0 steps after p.2 (ap (λ x. x.fault) one.page) p.4
      (at_most_trans p.2 (larger p.1 p.2) other (other_below_larger p.1 p.2) k) in (
        (p.0, subst (λ o. IsReplayStep other cpu o before step p.0) (sym f) (inl one), rest.0),
        rest.1,
      )

  -- who idled for no longer than the slack passes the end test
  end_within : (slack : ℕ) (stream : StreamView) (since : Option ℕ) (fault : Option StepFault) (page : PageView)
      → fault ≡ None → idle_need since stream.last_time ≤ slack → end_page slack stream since fault page ≡ page
  end_within slack stream None fault page none h = refl
  end_within slack stream (Some since) (Some fault) page none h = refl
  end_within slack stream (Some since) None page none h =
      ap (λ (b : Bool). if b then record page {
        fault = Some (record {
          line = stream.last_line;
          kind = IdleTooLong;
          pid = 0;
          deadline = Some (since + slack);
        });
      } else page) (le-ltb (since + slack) stream.last_time (omega (arith, h)))

  -- the page is the same by other settings
  pub page_within : (stream : StreamView) (knobs other : KnobsView) (made : ℕ) (page : PageView) (needs : KnobsView)
      → HasNeeds stream knobs made page needs → page.fault ≡ None → length stream.steps ≤ made → AtMost needs other
      → IsPageOf stream other made page
  page_within stream knobs other made page needs has none all h =
      let p = has none all in
      let still = only_slack (idle_need p.end.since stream.last_time) in
      let k : AtMost (larger p.of_steps still) other = subst (λ x. AtMost x other) p.needs_are h in
      let r = replay_within knobs other stream.cpu p.start stream.steps p.end p.of_steps
      (ap (λ x. x.fault) p.is_start.page) p.all_pass
      (at_most_trans p.of_steps (larger p.of_steps still) other (below_larger p.of_steps still) k) in
      record {
        start = p.start;
        is_start = p.is_start;
        end = p.end;
        replay = subst (λ steps. IsReplay other stream.cpu p.start steps p.end) (sym (take_all made stream.steps all))
            r.0;
        result = p.page_is
            ∙ sym (end_within other.slack stream p.end.since p.end.page.fault p.end.page r.1
            (at_most_trans still (larger p.of_steps still) other (other_below_larger p.of_steps still) k Slack))
            ∙ ap (λ (b : Bool). if b then end_page other.slack stream p.end.since p.end.page.fault p.end.page
            else p.end.page) (sym (le-leb (length stream.steps) made all));
      }

-- Steps in two parts need the larger of what each needs.
use Rattle.std.proofs.Common.{◌≡◌, ℕ, List, [], ◌∷◌, ◌++◌, sym, ap, ◌∙◌, subst}
use Rattle.std.proofs.Math.Nat.{zero-max}
use Rattle.cfs_model.specs.Knobs.{KnobsView, value_at}
use Rattle.cfs_model.specs.Least.{larger}
use Rattle.replay_model.specs.Needs.{AllPassNeeding, PassesNeeding, only_slack}
use Rattle.replay_model.specs.Noted.{PageView}
use Rattle.replay_model.specs.Page.{ReplayStateView}
use Rattle.cfs_model.proofs.LeastSettings.{same_settings, larger_of_three}
use Rattle.window_laws.specs.Kept.{kept_of, page_behind, state_behind}
use Rattle.window_laws.specs.NeedsOfParts.{NeedsInParts}
use Rattle.window_laws.proofs.Behind.{noted_behind, kept_behind}
use Rattle.cfs_model.specs.declared.setting.Setting.{Setting}
use Rattle.cfs_model.specs.declared.setting.Setting.TheVariants.{Granularity, Credit, Debit, Slack, Drift}
use Rattle.replay_model.specs.declared.step.Step.{Step}

nothing_larger : (needs : KnobsView) → larger (only_slack 0) needs ≡ needs
nothing_larger needs = same_settings (larger (only_slack 0) needs) needs each
  where
    each : (which : Setting) → value_at (larger (only_slack 0) needs) which ≡ value_at needs which
    each Granularity = zero-max needs.granularity
    each Credit = zero-max needs.credit
    each Debit = zero-max needs.debit
    each Slack = zero-max needs.slack
    each Drift = zero-max needs.drift

pub needs_append : (knobs : KnobsView) (cpu : ℕ) (before between after : ReplayStateView) (steps more : List Step)
    (here later : KnobsView) → AllPassNeeding knobs cpu before steps between here
    → AllPassNeeding knobs cpu between more after later
    → AllPassNeeding knobs cpu before (steps ++ more) after (larger here later)
needs_append knobs cpu before between after [] more here later h k =
    subst (AllPassNeeding knobs cpu before more after)
    (sym (ap (λ x. larger x later) h.1 ∙ nothing_larger later))
    (subst (λ x. AllPassNeeding knobs cpu x more after later) h.0 k)
needs_append knobs cpu before between after (step ∷ steps) more here later h k = (
  h.0,
  h.1,
  larger h.2 later,
  h.3,
  needs_append knobs cpu h.0 between after steps more h.2 later h.4 k,
  ap (λ x. larger x later) h.5 ∙ larger_of_three h.1 h.2 later,
)

needing_behind : (knobs : KnobsView) (cpu : ℕ) (earlier : PageView) (before : ReplayStateView) (step : Step)
    (after : ReplayStateView) (needs : KnobsView) → PassesNeeding knobs cpu before step after needs
    → PassesNeeding knobs cpu (state_behind earlier before) step (state_behind earlier after) needs
needing_behind knobs cpu earlier before step after needs p =
    record {
      passes = record {
        in_time = p.passes.in_time;
        found = p.passes.found;
        passes = p.passes.passes;
        part = p.passes.part;
        since = p.passes.since;
        page = ap (page_behind earlier) p.passes.page
            ∙ noted_behind earlier before.page before.part p.passes.found step;
      };
      needs_are = record {
        granularity = p.needs_are.granularity;
        credit = p.needs_are.credit;
        debit = p.needs_are.debit;
        slack = p.needs_are.slack;
        drift = p.needs_are.drift;
      };
    }

needs_behind : (knobs : KnobsView) (cpu : ℕ) (earlier : PageView) (before after : ReplayStateView) (steps : List Step)
    (needs : KnobsView) → AllPassNeeding knobs cpu before steps after needs
    → AllPassNeeding knobs cpu (state_behind earlier before) steps (state_behind earlier after) needs
needs_behind knobs cpu earlier before after [] needs h = (ap (state_behind earlier) h.0, h.1)
needs_behind knobs cpu earlier before after (step ∷ steps) needs h = (
  state_behind earlier h.0,
  h.1,
  h.2,
  needing_behind knobs cpu earlier before step h.0 h.1 h.3,
  needs_behind knobs cpu earlier h.0 after steps h.2 h.4,
  h.5,
)

pub needs_in_parts : NeedsInParts
needs_in_parts knobs cpu first last end steps more here later h k =
    needs_append knobs cpu first last (state_behind last.page end) steps more here later h
    (subst (λ s. AllPassNeeding knobs cpu s more (state_behind last.page end) later) (kept_behind last)
    (needs_behind knobs cpu last.page (kept_of last) end more later k))

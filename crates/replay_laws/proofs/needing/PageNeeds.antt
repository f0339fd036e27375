-- The largest needs of all processors are the least settings: under them each processor's replay passes, so the events
-- are a run; and along a run under other settings each step of a replay passes under those too.
use Rattle.std.proofs.Common.{◌≡◌, ℕ, zero, suc, ◌+◌, ◌<◌, ◌≤◌, true, false, Some, None, ℤ, ◌⊎◌, inl, inr, List, []}
use Rattle.std.proofs.Common.{◌∷◌, refl, sym, ap, ◌∙◌, subst, arith}
use Rattle.std.proofs.lemmas.Bool.{cases_lt}
use Rattle.cfs_model.specs.Knobs.{KnobsView}
use Rattle.cfs_model.specs.Machine.{Machine}
use Rattle.cfs_model.specs.Start.{start_machine}
use Rattle.cfs_model.specs.Claimed.{Claimed}
use Rattle.cfs_model.specs.Step.{IsStep}
use Rattle.cfs_model.specs.Idling.{KeepsSlack}
use Rattle.cfs_model.specs.Run.{AreSteps, times_of, IsRun}
use Rattle.cfs_model.specs.Least.{AtMost, larger}
use Rattle.replay_model.specs.Part.{part_of}
use Rattle.replay_model.specs.Cut.{touches, steps_at, last_time_of, cut}
use Rattle.replay_model.specs.StepAt.{step_at}
use Rattle.replay_model.specs.Noted.{PageView}
use Rattle.replay_model.specs.Page.{ReplayStateView, IsReplayStep, IsReplay}
use Rattle.replay_model.specs.Record.{TimesRise, IsRecord}
use Rattle.replay_model.specs.Needs.{idle_need, only_slack, AllPassNeeding, IsPageNeeding, largest}
use Rattle.part_laws.specs.TouchedParts.{PartStep}
use Rattle.replay_laws.specs.CutReplay.{PassesCut}
use Rattle.replay_laws.specs.LeastSettings.{PagesTellLeast}
use Rattle.cfs_model.proofs.LeastSettings.{below_larger, other_below_larger, at_most_trans, larger_at_most}
use Rattle.cfs_model.proofs.LeastSettings.{slack_at_most}
use Rattle.part_laws.proofs.one_page.OneLift.{same_found}
use Rattle.part_laws.proofs.Touching.{steps_at_cpu}
use Rattle.replay_laws.proofs.following.Follow.{KeepsUp, machine_idles, touched_steps, untouched_steps, advance}
use Rattle.replay_laws.proofs.following.Followed.{Still, idles_one, still_more, keeps_more}
use Rattle.replay_laws.proofs.following.FollowLaws.{starts_at, follows_start, still_start}
use Rattle.replay_laws.proofs.composing.PagesCompose.{compose_cuts}
use Rattle.replay_laws.proofs.composing.CutReplays.{CutOf, past_cut_of, cut_from}
use Rattle.replay_laws.proofs.needing.StepNeeds.{idle_within, idle_needs, passes_within, needs_of_tests}
use Rattle.cfs_model.specs.declared.setting.Setting.TheVariants.{Slack}
use Rattle.cfs_model.specs.declared.task.Task.{Task}
use Rattle.replay_model.specs.declared.step.Step.{Step}

-- steps that pass are a replay under any settings that are at least what they need
replay_within : (knobs other : KnobsView) (cpu : ℕ) (before : ReplayStateView) (steps : List Step)
    (after : ReplayStateView)
    (needs : KnobsView)
    → before.page.fault ≡ None → AllPassNeeding knobs cpu before steps after needs → AtMost needs other
    → IsReplay other cpu before steps after × (after.page.fault ≡ None)
replay_within knobs other cpu before [] after needs f p h = (p.0, ap (λ x. x.page.fault) p.0 ∙ f)
replay_within knobs other cpu before (step ∷ steps) after needs f p h =
    let k : AtMost (larger p.1 p.2) other = subst (λ x. AtMost x other) p.5 h in
    let one = passes_within knobs other cpu before step p.0 p.1 p.3
    (at_most_trans p.1 (larger p.1 p.2) other (below_larger p.1 p.2) k) in
    let rest = replay_within knobs other cpu p.0 steps after p.2 (ap (λ x. x.fault) one.page) p.4
    (at_most_trans p.2 (larger p.1 p.2) other (other_below_larger p.1 p.2) k) in (
      (p.0, subst (λ o. IsReplayStep other cpu o before step p.0) (sym f) (inl one), rest.0),
      rest.1,
    )

-- a cut passes under any settings that are at least what its page needs
cut_within : (knobs other : KnobsView) (start : ℕ) (floors : List ℤ) (tasks : List Task) (events : List Claimed)
    (cpu : ℕ) (page : PageView) (needs : KnobsView)
    → (p : IsPageNeeding (cut start floors tasks events cpu) knobs page needs) → AtMost needs other
    → PassesCut other start floors tasks events cpu p.end
cut_within knobs other start floors tasks events cpu page needs p h =
    let still = idle_need p.end.since (last_time_of start events) in
    let k : AtMost (larger p.of_steps (only_slack still)) other = subst (λ x. AtMost x other) p.needs_are h in
    let r = replay_within knobs other cpu p.start (steps_at cpu events) p.end p.of_steps
    (ap (λ x. x.fault) p.is_start.page) p.all_pass
    (at_most_trans p.of_steps (larger p.of_steps (only_slack still)) other (below_larger p.of_steps (only_slack still))
    k) in
    record {
      cut_replay = record { first = p.start; is_start = p.is_start; replay = r.0 };
      no_fault = r.1;
      in_time = idle_within other.slack p.end.since (last_time_of start events)
          (at_most_trans (only_slack still) (larger p.of_steps (only_slack still)) other
          (other_below_larger p.of_steps (only_slack still)) k Slack) 0;
    }

-- the cut has the page's tickets, as every processor's is wanted
cut_needing : (knobs other : KnobsView) (start : ℕ) (floors : List ℤ) (tasks : List Task) (events : List Claimed)
    (cpus : ℕ) (page : PageView) (needs : KnobsView) → IsRecord start floors tasks events cpus → (cpu : ℕ)
    → (cpu < cpus → IsPageNeeding (cut start floors tasks events cpu) knobs page needs)
    → (cpu < cpus → AtMost needs other)
    → CutOf other start floors tasks events cpus page cpu
cut_needing knobs other start floors tasks events cpus page needs r cpu passes within = elim (cases_lt cpu cpus) [
  | inl k ↦ (let p = passes k in
      subst (λ shown. CutOf other start floors tasks events cpus shown cpu) (sym p.page_is)
      (cut_from other start floors tasks events cpus p.end r cpu
      (λ h. cut_within knobs other start floors tasks events cpu page needs p (within h))))
  | inr k ↦ past_cut_of other start floors tasks events cpus page r cpu k
]

-- a replay that keeps up with a run under other settings, one event later, and what the event's step needs
record OneLater (knobs other : KnobsView) (cpu : ℕ) (event : Claimed) (after : Machine) (s : ReplayStateView)
    (events : List Claimed) (last : ReplayStateView) (needs : KnobsView) : Type 0 where
  next : ReplayStateView
  follows : KeepsUp cpu after event.entry.time next
  begun : (x : ℕ) → next.since ≡ Some x → (s.since ≡ Some x) ⊎ (x ≡ event.entry.time)
  later : KnobsView
  rest : AllPassNeeding knobs cpu next (steps_at cpu events) last later
  within : AtMost later other → AtMost needs other

-- an event that touches the processor
one_here : (knobs other : KnobsView) (cpu : ℕ) (m : Machine) (time : ℕ) (s : ReplayStateView) (event : Claimed)
    (after : Machine) (events : List Claimed) (last : ReplayStateView) (needs : KnobsView)
    → KeepsUp cpu m time s → IsStep other m event after → time ≤ event.entry.time
    → ((x : ℕ) → s.since ≡ Some x → event.entry.time ≤ x + other.slack)
    → touches cpu event ≡ true
    → PartStep other cpu (part_of m cpu) (step_at cpu event) (part_of after cpu)
    → AllPassNeeding knobs cpu s (step_at cpu event ∷ steps_at cpu events) last needs
    → OneLater knobs other cpu event after s events last needs
one_here knobs other cpu m time s event after events last needs f step late soon touch part p =
    let mine = subst (λ x. PartStep other cpu x (step_at cpu event) (part_of after cpu)) f.part part in
    let here : AtMost p.1 other =
    needs_of_tests knobs other cpu s.part (step_at cpu event) p.3.passes.found mine.found s.since p.1
    p.3.passes.passes mine.passes
    (same_found (step_at cpu event) s.part mine.found p.3.passes.found mine.passes.is_found
    p.3.passes.passes.is_found) p.3.needs_are soon in
    let now = passes_within knobs other cpu s (step_at cpu event) p.0 p.1 p.3 here in
    let one : IsReplay other cpu s (step_at cpu event ∷ []) p.0 =
    (p.0, subst (λ o. IsReplayStep other cpu o s (step_at cpu event) p.0) (sym f.fault) (inl now), refl) in
    let adv = advance other cpu m time s event after [] p.0 f step late soon
    (subst (λ xs. IsReplay other cpu s xs p.0) (sym (touched_steps cpu event [] touch)) one) in
    record {
      next = adv.next;
      follows = adv.follows;
      begun = adv.begun;
      later = p.2;
      rest = subst (λ x. AllPassNeeding knobs cpu x (steps_at cpu events) last p.2) adv.replay p.4;
      within = λ h. subst (λ x. AtMost x other) (sym p.5) (larger_at_most p.1 p.2 other here h);
    }

-- an event that touches another
one_away : (knobs other : KnobsView) (cpu : ℕ) (m : Machine) (time : ℕ) (s : ReplayStateView) (event : Claimed)
    (after : Machine) (events : List Claimed) (last : ReplayStateView) (needs : KnobsView)
    → KeepsUp cpu m time s → IsStep other m event after → time ≤ event.entry.time
    → ((x : ℕ) → s.since ≡ Some x → event.entry.time ≤ x + other.slack)
    → touches cpu event ≡ false
    → AllPassNeeding knobs cpu s (steps_at cpu events) last needs
    → OneLater knobs other cpu event after s events last needs
one_away knobs other cpu m time s event after events last needs f step late soon touch p =
    let adv = advance other cpu m time s event after [] s f step late soon
    (subst (λ xs. IsReplay other cpu s xs s) (sym (untouched_steps cpu event [] touch)) refl) in
    record {
      next = adv.next;
      follows = adv.follows;
      begun = adv.begun;
      later = needs;
      rest = subst (λ x. AllPassNeeding knobs cpu x (steps_at cpu events) last needs) adv.replay p;
      within = λ h. h;
    }

one_later : (knobs other : KnobsView) (cpu : ℕ) (m : Machine) (time : ℕ) (s : ReplayStateView) (event : Claimed)
    (after : Machine) (events : List Claimed) (last : ReplayStateView) (needs : KnobsView)
    → KeepsUp cpu m time s → IsStep other m event after → time ≤ event.entry.time
    → ((x : ℕ) → s.since ≡ Some x → event.entry.time ≤ x + other.slack)
    → AllPassNeeding knobs cpu s (steps_at cpu (event ∷ events)) last needs
    → OneLater knobs other cpu event after s events last needs
one_later knobs other cpu m time s event after events last needs f step late soon p =
    elim (steps_at_cpu other m event after f.order step cpu) [
      | inl h ↦ one_here knobs other cpu m time s event after events last needs f step late soon h.0 h.1
          (subst (λ xs. AllPassNeeding knobs cpu s xs last needs) (touched_steps cpu event events h.0) p)
      | inr h ↦ one_away knobs other cpu m time s event after events last needs f step late soon h.0
          (subst (λ xs. AllPassNeeding knobs cpu s xs last needs) (untouched_steps cpu event events h.0) p)
    ]

-- along a run under other settings these are at least what the steps of a replay need, and no processor idles for
-- longer than their slack
needs_along : (knobs other : KnobsView) (cpu : ℕ) (m : Machine) (time : ℕ) (s : ReplayStateView) (events : List Claimed)
    (states : List Machine) (last : ReplayStateView) (needs : KnobsView)
    → KeepsUp cpu m time s → AreSteps other m events states → TimesRise time events
    → Still other.slack cpu m time s events states
    → KeepsSlack other.slack (times_of time events) (m ∷ states)
    → ((x : ℕ) → s.since ≡ Some x → time ≤ x + other.slack)
    → AllPassNeeding knobs cpu s (steps_at cpu events) last needs
    → AtMost needs other × ((x : ℕ) → last.since ≡ Some x → last_time_of time events ≤ x + other.slack)
needs_along knobs other cpu m time s [] [] last needs f steps rise still keeps now p = (
  subst (λ x. AtMost x other) (sym p.1) (slack_at_most 0 other (omega arith)),
  (λ x e. now x (ap (λ y. y.since) (sym p.0) ∙ e)),
)
needs_along knobs other cpu m time s [] (after ∷ states) last needs f steps rise still keeps now p = absurd steps
needs_along knobs other cpu m time s (event ∷ events) [] last needs f steps rise still keeps now p = absurd steps
needs_along knobs other cpu m time s (event ∷ events) (after ∷ states) last needs f steps rise still keeps now p =
    let soon : (x : ℕ) → s.since ≡ Some x → event.entry.time ≤ x + other.slack =
    λ x e. still x e 1 (omega arith) (omega arith) (idles_one m (after ∷ states) cpu
    (machine_idles cpu m time s f x e)) in
    let l = one_later knobs other cpu m time s event after events last needs f steps.0 rise.0 soon p in
    let rest = needs_along knobs other cpu after event.entry.time l.next events states last l.later l.follows steps.1
    rise.1
    (still_more other.slack cpu m time s event events after states l.next f still keeps l.begun)
    (keeps_more other.slack time (times_of event.entry.time events) m (after ∷ states) keeps)
    (λ x e. elim (l.begun x e) [ inl k ↦ soon x k | inr k ↦ omega arith ])
    l.rest in
    (l.within rest.0, rest.1)

-- the settings of a run are at least what a page needs
page_needs : (knobs other : KnobsView) (start : ℕ) (floors : List ℤ) (tasks : List Task) (events : List Claimed)
    (cpus cpu : ℕ) (page : PageView) (needs : KnobsView)
    → IsRecord start floors tasks events cpus
    → IsPageNeeding (cut start floors tasks events cpu) knobs page needs
    → IsRun other start (start_machine start floors tasks) events → AtMost needs other
page_needs knobs other start floors tasks events cpus cpu page needs r p run =
    let m = start_machine start floors tasks in
    let a = needs_along knobs other cpu m start p.start events run.states p.end p.of_steps
    (follows_start start floors tasks events cpu p.start r.is_start p.is_start) run.steps r.times_rise
    (still_start other.slack start m cpu p.start events run.states p.is_start.since run.slack) run.slack
    (λ x e. (let k : x ≡ start = starts_at start p.start.part p.start.since p.is_start.since x e in omega arith))
    p.all_pass in
    let still = idle_need p.end.since (last_time_of start events) in
    subst (λ x. AtMost x other) (sym p.needs_are)
    (larger_at_most p.of_steps (only_slack still) other a.0
    (slack_at_most still other (idle_needs other.slack p.end.since (last_time_of start events) a.1)))

-- the largest needs are at least each, and at most what each is at most
above_each : (needs : ℕ → KnobsView) (cpus cpu : ℕ) → cpu < cpus → AtMost (needs cpu) (largest needs cpus)
above_each needs zero cpu h = absurd (omega arith)
above_each needs (suc cpus) cpu h = elim (cases_lt cpu cpus) [
  | inl k ↦ at_most_trans (needs cpu) (largest needs cpus) (largest needs (suc cpus)) (above_each needs cpus cpu k)
      (below_larger (largest needs cpus) (needs cpus))
  | inr k ↦ subst (λ c. AtMost (needs c) (largest needs (suc cpus))) (same cpu cpus h k)
      (other_below_larger (largest needs cpus) (needs cpus))
]
  where
    same : (a b : ℕ) → a < suc b → b ≤ a → b ≡ a
    same a b h k = omega arith

largest_within : (needs : ℕ → KnobsView) (cpus : ℕ) (other : KnobsView)
    → ((cpu : ℕ) → cpu < cpus → AtMost (needs cpu) other) → AtMost (largest needs cpus) other
largest_within needs zero other h = slack_at_most 0 other (omega arith)
largest_within needs (suc cpus) other h =
    larger_at_most (largest needs cpus) (needs cpus) other
    (largest_within needs cpus other (λ cpu k. h cpu (omega arith))) (h cpus (omega arith))

pub pages_tell_least : PagesTellLeast
pages_tell_least knobs start floors tasks events cpus pages needs r passes agree new = record {
  run = compose_cuts (largest needs cpus) start floors tasks events cpus pages r
      (λ cpu. cut_needing knobs (largest needs cpus) start floors tasks events cpus (pages cpu) (needs cpu) r cpu
      (passes cpu) (above_each needs cpus cpu)) agree new;
  least = λ other run. largest_within needs cpus other
      (λ cpu k. page_needs knobs other start floors tasks events cpus cpu (pages cpu) (needs cpu) r (passes cpu k) run);
}

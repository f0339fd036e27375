-- The place of the slack, where a window needs more of it than was needed before.
use Rattle.std.proofs.Common.{◌≡◌, ◌≢◌, ℕ, ◌+◌, ◌-◌, ◌<◌, ◌≤◌, ◌⊎◌, max, nat_lt, Bool, true, false, Option, Some, None}
use Rattle.std.proofs.Common.{List, [], ◌∷◌, ◌++◌, if◌then◌else◌, inl, inr, refl, sym, ap, ◌∙◌, subst, arith}
use Rattle.std.specs.Prelude.{option_map}
use Rattle.std.specs.List.{AllByRecursion}
use Rattle.std.proofs.lemmas.Bool.{ltb-true}
use Rattle.cfs_model.specs.Claimed.{Claimed}
use Rattle.cfs_model.specs.declared.act.Entry.{Entry}
use Rattle.cfs_model.specs.declared.setting.Setting.TheVariants.{Slack}
use Rattle.replay_model.specs.Cut.{last_time_of, steps_at}
use Rattle.replay_model.specs.Needs.{idle_need}
use Rattle.replay_model.specs.Part.{Part}
use Rattle.replay_model.specs.Roll.{named, roll_of}
use Rattle.replay_model.specs.declared.step.Step.{Step}
use Rattle.need_laws.specs.LeastSoFar.{needs_at_end}
use Rattle.need_laws.specs.Places.{NeedsAt, SawWindow}
use Rattle.need_laws.specs.Reaching.{IdlesAtEnd, IdlesAtStep, IdlesFrom}
use Rattle.need_laws.specs.Rising.{RoseBy}
use Rattle.need_laws.proofs.FirstReach.{event_of}
use Rattle.need_laws.proofs.PlacesSoFar.{window_has_idling}
use Rattle.need_laws.proofs.RoseLast.{larger_at}
use Rattle.window_laws.proofs.Appended.{all_back}
use Rattle.window_audit.specs.Audit.{Beginning}
use Rattle.least_audit.specs.Candidates.{begin_of, idling_at, idlings_of, since_of}
use Rattle.least_audit.specs.FirstOf.{IsFirstOf, IsFound}
use Rattle.least_audit.specs.Pursuers.{IsWindowPursued, kept_at, needs_behind, rises_of, view_at}
use Rattle.least_audit.specs.Pursuit.{IsNoted}
use Rattle.least_audit.specs.declared.pursuer.Idling.{Idling}
use Rattle.least_audit.specs.declared.pursuer.Pursuer.{Pursuer}
use Rattle.least_audit.specs.declared.rise.Rise.{Rise}
use Rattle.least_audit.proofs.Late.{HasLate}
use Rattle.least_audit.proofs.Lists.{not_below}
use Rattle.least_audit.proofs.WindowSeen.{above_each, from, here, least, needs_are, needs_most, noted, passes, saw}
use Rattle.least_audit.proofs.WindowSeen.{all_within, pursuers_on}

-- a window's end is no later than all of its events
last_low : (start t : ℕ) (xs window : List Claimed) → window ≢ [] → AllByRecursion (λ (x : Claimed). x.entry.time ≤ t)
    window
    → last_time_of start (xs ++ window) ≤ t
last_low start t [] [] some low = absurd (some refl)
last_low start t [] (x ∷ xs) some low = go x xs low
  where
    go : (x : Claimed) (xs : List Claimed) → AllByRecursion (λ (x : Claimed). x.entry.time ≤ t) (x ∷ xs)
        → last_time_of x.entry.time xs ≤ t
    go x [] low = low.0
    go x (y ∷ ys) low = go y ys low.1
last_low start t (x ∷ xs) window some low = last_low x.entry.time t xs window some low

lower_times : (t u : ℕ) (window : List Claimed) → t ≤ u → AllByRecursion (λ (x : Claimed). x.entry.time ≤ t) window
    → AllByRecursion (λ (x : Claimed). x.entry.time ≤ u) window
lower_times t u [] k low = tt
lower_times t u (x ∷ xs) k low = ((let a : x.entry.time ≤ t = low.0 in omega (arith, a, k)), lower_times t u xs k low.1)

module _ (of : Beginning) (so_far window : List Claimed) (before after : List Pursuer)
    (w : IsWindowPursued of so_far window before after) (bound : ℕ)
    (top : (least of so_far window before after w).slack ≡ bound + 1)
    (low : (needs_behind of so_far before).slack ≤ bound) where
  abbrev here_slack : ℕ → ℕ
  here_slack cpu = (here of so_far window before after w cpu).slack

  at_end_before : (one : ℕ) → one < of.cpus
      → max (view_at before one).needs.slack (idle_need (kept_at before one).since (last_time_of of.start so_far))
      ≤ bound
  at_end_before one k =
      let a : max (view_at before one).needs.slack
      (idle_need (kept_at before one).since (last_time_of of.start so_far)) ≤ (needs_behind of so_far before).slack =
      above_each (λ cpu. needs_at_end of.start so_far (kept_at before cpu) (view_at before cpu).needs) of.cpus one k
      Slack in
      omega (arith, a, low)

  had_low : (one : ℕ) → one < of.cpus → (view_at before one).needs.slack ≤ bound
  had_low one k = let a = at_end_before one k in omega (arith, a)

  time_low : (one since : ℕ) → one < of.cpus → (kept_at before one).since ≡ Some since
      → last_time_of of.start so_far ≤ since + bound
  time_low one since k e =
      let a = subst (λ o. max (view_at before one).needs.slack (idle_need o (last_time_of of.start so_far)) ≤ bound) e
      (at_end_before one k) in omega (arith, a)

  slack_at : (one : ℕ) → one < of.cpus
      → (view_at after one).needs.slack ≡ max (view_at before one).needs.slack (here_slack one)
  slack_at one k =
      ap (λ n. n.slack) (needs_are of so_far window before after w one k)
      ∙ larger_at (view_at before one).needs (here of so_far window before after w one) Slack

  abbrev AtEnd : ℕ → ℕ → Type 0
  AtEnd one since =
      IdlesAtEnd of.knobs one (kept_at before one) (steps_at one window) (view_at after one).state
      (here of so_far window before after w one) bound since

  abbrev AtStep : ℕ → ℕ → Type 0
  AtStep one since =
      IdlesAtStep of.knobs one (kept_at before one) (steps_at one window) (view_at after one).state
      (here of so_far window before after w one) bound since

  -- how a processor idles that begins to do so then, or doesn't
  abbrev IdlesSo : ℕ → Option Idling → Type 0
  IdlesSo one None = (here_slack one ≤ bound) × ((view_at after one).state.since ≡ None)
  IdlesSo one (Some idling) =
      (idling.cpu ≡ (view_at after one).cpu) × (AtEnd one idling.since ⊎ AtStep one idling.since)

  -- one that needs more than the bound found the processor idling at a step
  at_step : (one : ℕ) → one < of.cpus → bound < (view_at after one).needs.slack
      → (since : ℕ) × (since_of (rises_of after one).slack ≡ Some since) × AtStep one since
  at_step one k above = go (rises_of after one).slack refl (noted of so_far window before after w one k Slack)
    where
      full : here_slack one ≡ bound + 1
      full =
          let a = slack_at one k in let b = had_low one k in
          let c : (view_at after one).needs.slack ≤ bound + 1 =
          subst (λ n. (view_at after one).needs.slack ≤ n) top
          (needs_most of so_far window before after w one k Slack) in
          omega (arith, a, b, c, above)

      step : (rise : Rise) (left : Part) (rose : RoseBy of.knobs one (kept_at before one) (steps_at one window)
          (view_at after one).state (view_at before one).needs (here of so_far window before after w one) Slack
          rise.step rise.since left)
          → (since : ℕ) × (rise.since ≡ Some since) × AtStep one since
      step rise left rose = by rose.reaches.mid.since refl
        where
          same : rose.bound ≡ bound
          same = (let a : here_slack one ≡ rose.bound + 1 = rose.above in omega (arith, a, full))

          by : (o : Option ℕ) → rose.reaches.mid.since ≡ o
              → (since : ℕ) × (rise.since ≡ Some since) × AtStep one since
          by None e =
              let need : rose.reaches.here.slack ≡ 0 = rose.reaches.passes.needs_are.slack
              ∙ ap (λ o. idle_need o rise.step.time) e in
              let high : rose.bound < rose.reaches.here.slack = rose.reaches.above in
              absurd (omega (arith, need, high))
          by (Some since) e = (
            since,
            rose.since_is ∙ e,
            subst (λ n. IdlesAtStep of.knobs one (kept_at before one) (steps_at one window) (view_at after one).state
                (here of so_far window before after w one) n since) same
                (record { step = rise.step; reaches = rose.reaches; idles = e }),
          )

      go : (o : Option Rise) → (rises_of after one).slack ≡ o
          → IsNoted (from of so_far window before after w one) (steps_at one window) (view_at after one)
          (here of so_far window before after w one) Slack o
          → (since : ℕ) × (since_of (rises_of after one).slack ≡ Some since) × AtStep one since
      go None e n = absurd (let b = had_low one k in let f = full in omega (arith, n, b, f))
      go (Some rise) e n =
          let s = step rise n.0 n.2 in (s.0, ap since_of e ∙ s.1, s.2)

  idles_so : (one : ℕ) → one < of.cpus → IdlesSo one (idlings_of bound after one)
  idles_so one k = go (nat_lt bound (view_at after one).needs.slack) refl
    where
      ended : here_slack one ≤ bound → (o : Option ℕ) → (view_at after one).state.since ≡ o
          → IdlesSo one (option_map (idling_at (view_at after one).cpu) o)
      ended calm None e = (calm, e)
      ended calm (Some since) e = (
        refl,
        inl (record { passes = passes of so_far window before after w one k; within = calm; idles = e }),
      )

      go : (b : Bool) → nat_lt bound (view_at after one).needs.slack ≡ b
          → IdlesSo one (option_map (idling_at (view_at after one).cpu)
          (if b then since_of (rises_of after one).slack else (view_at after one).state.since))
      go true e =
          let s = at_step one k (ltb-true bound (view_at after one).needs.slack e) in
          subst (λ o. IdlesSo one (option_map (idling_at (view_at after one).cpu) o)) (sym s.1) (refl, inr s.2)
      go false e =
          let n = not_below bound (view_at after one).needs.slack e in let a = slack_at one k in
          ended (omega (arith, n, a)) (view_at after one).state.since refl

  -- no processor begins to idle sooner than any that does
  idles_from : (one last_time first : ℕ) → one < of.cpus
      → ((idling : Idling) → idlings_of bound after one ≡ Some idling → first ≤ idling.since)
      → IdlesFrom of.knobs one (kept_at before one) (steps_at one window) (view_at after one).state
      (here of so_far window before after w one) bound last_time first
  idles_from one last_time first k h = go (idlings_of bound after one) refl (idles_so one k)
    where
      go : (o : Option Idling) → idlings_of bound after one ≡ o → IdlesSo one o
          → IdlesFrom of.knobs one (kept_at before one) (steps_at one window) (view_at after one).state
          (here of so_far window before after w one) bound last_time first
      go None e s = inl (record {
        passes = passes of so_far window before after w one k;
        within = s.0;
        in_time = λ since f. (let n = s.1 in absurd cc);
      })
      go (Some idling) e s = elim s.1 [
        | inl ends ↦ inr (inl (idling.since, h idling e, ends))
        | inr at ↦ inr (inr (idling.since, h idling e, at))
      ]

  -- where the window is too short for each that idles, no more would be needed
  never_late : window ≢ []
      → ((one : ℕ) (idling : Idling) → one < of.cpus → idlings_of bound after one ≡ Some idling
      → AllByRecursion (λ (x : Claimed). x.entry.time ≤ idling.since + bound) window) → ⊥
  never_late some short =
      let within : (least of so_far window before after w).slack ≤ bound =
      all_within (λ cpu. needs_at_end of.start (so_far ++ window) (kept_at after cpu) (view_at after cpu).needs) Slack
      of.cpus bound each in
      omega (arith, within, top)
    where
      last : ℕ
      last = last_time_of of.start (so_far ++ window)

      each : (one : ℕ) → one < of.cpus
          → (needs_at_end of.start (so_far ++ window) (kept_at after one) (view_at after one).needs).slack ≤ bound
      each one k = go (idlings_of bound after one) refl (idles_so one k)
        where
          by : here_slack one ≤ bound → (o : Option ℕ) → (view_at after one).state.since ≡ o
              → idle_need o (last_time_of of.start (so_far ++ window)) ≤ bound
              → (needs_at_end of.start (so_far ++ window) (kept_at after one) (view_at after one).needs).slack ≤ bound
          by calm o e idle =
              let a = slack_at one k in let b = had_low one k in
              let i = subst (λ x. idle_need x (last_time_of of.start (so_far ++ window)) ≤ bound) (sym e) idle in
              omega (arith, a, b, i, calm)

          go : (o : Option Idling) → idlings_of bound after one ≡ o → IdlesSo one o
              → (needs_at_end of.start (so_far ++ window) (kept_at after one) (view_at after one).needs).slack ≤ bound
          go None e s = by s.0 None s.1 (omega arith)
          go (Some idling) e s = elim s.1 [
            | inl ends ↦
                let l = last_low of.start (idling.since + bound) so_far window some (short one idling k e) in
                by ends.within (Some idling.since) ends.idles (omega (arith, l))
            | inr at ↦
                let o = event_of one window at.reaches.front at.reaches.back at.step at.reaches.whole in
                let there = all_back (λ (x : Claimed). x.entry.time ≤ idling.since + bound) o.before (o.event ∷ o.rest)
                (subst (AllByRecursion (λ (x : Claimed). x.entry.time ≤ idling.since + bound)) o.whole
                (short one idling k e)) in
                let time : o.event.entry.time ≤ idling.since + bound = there.0 in
                let same : at.step.time ≡ o.event.entry.time = ap (λ (s : Step). s.time) o.is in
                let need : at.reaches.here.slack ≡ at.step.time - idling.since =
                at.reaches.passes.needs_are.slack ∙ ap (λ x. idle_need x at.step.time) at.idles in
                let high : bound < at.reaches.here.slack = at.reaches.above in
                absurd (omega (arith, time, same, need, high))
          ]

  pub none_idles : window ≢ [] → IsFirstOf begin_of (idlings_of bound after) of.cpus None → ⊥
  none_idles some none = never_late some (λ one idling k e. (let n = none one k in absurd cc))

  module _ (first : Idling) (found : IsFound begin_of (idlings_of bound after) of.cpus first) where
    pub none_late : window ≢ [] → AllByRecursion (λ (x : Claimed). x.entry.time ≤ first.since + bound) window → ⊥
    none_late some short =
        never_late some (λ one idling k e. lower_times (first.since + bound) (idling.since + bound) window
        (let l : first.since ≤ idling.since = found.least one idling k e in omega (arith, l)) short)

    so_first : IdlesSo found.index (Some first)
    so_first = subst (IdlesSo found.index) found.there (idles_so found.index found.within)

    pub idling_cpu : first.cpu ≡ found.index
    idling_cpu = so_first.0 ∙ ((pursuers_on of so_far window before after w).own found.index found.within).cpu_is

    -- a window, of which these things are known, with the place in it
    abbrev Known : Entry → List Claimed → Type 0
    Known entry xs =
        SawWindow of.knobs (least of so_far window before after w) of.start of.floors of.tasks so_far xs of.cpus
        (kept_at before) (λ cpu. (view_at after cpu).state) (λ cpu. (view_at before cpu).needs)
        (here of so_far window before after w) w.behind (roll_of (named of.tasks) (so_far ++ window))
        → ((one : ℕ) → one < of.cpus → IdlesFrom of.knobs one (kept_at before one) (steps_at one xs)
        (view_at after one).state (here of so_far window before after w one) bound
        (last_time_of of.start (so_far ++ xs)) first.since)
        → IdlesAtEnd of.knobs found.index (kept_at before found.index) (steps_at found.index xs)
        (view_at after found.index).state (here of so_far window before after w found.index) bound first.since
        ⊎ IdlesAtStep of.knobs found.index (kept_at before found.index) (steps_at found.index xs)
        (view_at after found.index).state (here of so_far window before after w found.index) bound first.since
        → ((lower : ℕ) → lower < found.index → IdlesFrom of.knobs lower (kept_at before lower) (steps_at lower xs)
        (view_at after lower).state (here of so_far window before after w lower) bound
        (last_time_of of.start (so_far ++ xs)) (first.since + 1))
        → NeedsAt of.start of.floors of.tasks (so_far ++ xs) (least of so_far window before after w) Slack entry.line
        found.index 0

    pub idling_needs : (entry : Entry) → HasLate window first.since bound entry
        → NeedsAt of.start of.floors of.tasks (so_far ++ window) (least of so_far window before after w) Slack
        entry.line found.index 0
    idling_needs entry late =
        subst (Known entry) (sym late.whole) (λ saw_it idles so lowest.
        subst (λ (e : Entry). NeedsAt of.start of.floors of.tasks (so_far ++ (late.front ++ late.event ∷ late.rest))
        (least of so_far window before after w) Slack e.line found.index 0) late.is
        (window_has_idling of.knobs (least of so_far window before after w) of.start of.floors of.tasks so_far
        late.front late.rest late.event of.cpus (kept_at before) (λ cpu. (view_at after cpu).state)
        (λ cpu. (view_at before cpu).needs) (here of so_far window before after w) w.behind
        (roll_of (named of.tasks) (so_far ++ window)) found.index bound first.since saw_it top had_low time_low idles
        late.in_time late.late found.within so lowest))
        (saw of so_far window before after w)
        (λ one k. idles_from one (last_time_of of.start (so_far ++ window)) first.since k
        (λ idling e. found.least one idling k e))
        so_first.1
        (λ lower k. idles_from lower (last_time_of of.start (so_far ++ window)) (first.since + 1)
        (let i = found.within in omega (arith, i, k))
        (λ idling e. (let l : first.since < idling.since = found.lowest lower idling k e in omega (arith, l))))

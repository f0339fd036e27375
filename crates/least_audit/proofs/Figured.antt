-- The figures behind a window: where no more is needed of a setting its place stays, else it is in the window.
use Rattle.std.proofs.Common.{◌≡◌, ◌≢◌, ℕ, ◌+◌, ◌<◌, ◌≤◌, Option, Some, None, List, ◌∷◌, ◌++◌, length, append_assoc}
use Rattle.std.proofs.Common.{refl, sym}
use Rattle.std.proofs.Common.{ap, ◌∙◌, subst, arith}
use Rattle.cfs_model.specs.Claimed.{Claimed}
use Rattle.cfs_model.specs.Knobs.{KnobsView, value_at}
use Rattle.cfs_model.specs.Laws.{RunKeepsOrder, StartInOrder}
use Rattle.cfs_model.specs.Least.{AreLeast, AtMost, larger}
use Rattle.cfs_model.specs.declared.act.Entry.{Entry}
use Rattle.cfs_model.specs.declared.setting.Setting.{Setting}
use Rattle.cfs_model.specs.declared.setting.Setting.TheVariants.{Granularity, Credit, Debit, Slack, Drift}
use Rattle.cfs_model.proofs.LeastSettings.{below_larger}
use Rattle.cfs_model.proofs.Prefix.{run_prefix}
use Rattle.least_places.specs.Place.{place_at}
use Rattle.least_places.specs.declared.place.Place.{Place}
use Rattle.least_places.specs.declared.places.Places.{Places}
use Rattle.need_laws.specs.LeastSoFar.{needs_at_end}
use Rattle.need_laws.specs.Places.{NeedsAt}
use Rattle.need_laws.specs.RiseEvents.{IsEventOf}
use Rattle.need_laws.specs.Short.{needing}
use Rattle.need_laws.proofs.PlacesSoFar.{place_stays}
use Rattle.replay_model.specs.Cut.{last_time_of}
use Rattle.replay_model.specs.Needs.{idle_need, largest, only_slack}
use Rattle.replay_model.specs.declared.step.Step.{Step}
use Rattle.window_audit.specs.Audit.{Beginning}
use Rattle.least_audit.specs.Candidates.{begin_of, idlings_of, line_of, over_of, rises_to}
use Rattle.least_audit.specs.FirstOf.{IsFound}
use Rattle.least_audit.specs.Pursuers.{IsWindowPursued, kept_at, needs_behind, view_at}
use Rattle.least_audit.specs.SoFar.{AreFiguresOf, IsOverAt, IsPlaceSoFar, IsPlacedSoFar, first_machine}
use Rattle.least_audit.specs.declared.figures.Figures.{Figures}
use Rattle.least_audit.specs.declared.pursuer.Idling.{Idling}
use Rattle.least_audit.specs.declared.pursuer.Pursuer.{Pursuer}
use Rattle.least_audit.specs.declared.pursuer.RiseAt.{RiseAt}
use Rattle.least_audit.specs.declared.rise.Rise.{Rise}
use Rattle.least_audit.proofs.IdlePlaces.{idling_cpu, idling_needs}
use Rattle.least_audit.proofs.Late.{HasLate}
use Rattle.least_audit.proofs.OverPlaces.{left_over}
use Rattle.least_audit.proofs.RisePlaces.{HasRise, cpu_is, place_event, place_needs, place_step, same_rise}
use Rattle.least_audit.proofs.WindowSeen.{above_each, are_least, least}

module _ (of : Beginning) (so_far window : List Claimed) (before after : List Pursuer)
    (w : IsWindowPursued of so_far window before after) where
  -- no less is needed than before
  pub rises_only : (old : KnobsView) → AreLeast of.start (first_machine of) so_far old
      → AtMost old (least of so_far window before after w)
  rises_only old l =
      l.least (least of so_far window before after w)
      (run_prefix (least of so_far window before after w) of.start (first_machine of) so_far window
      (are_least of so_far window before after w).run)

  -- what is needed by a time is what is needed at the end
  pub needs_then : (time : ℕ) → last_time_of of.start (so_far ++ window) ≡ time
      → largest (λ cpu. larger (view_at after cpu).needs
      (only_slack (idle_need (view_at after cpu).state.since time))) (length after)
      ≡ least of so_far window before after w
  needs_then time is =
      ap (λ t. largest (λ cpu. larger (view_at after cpu).needs
      (only_slack (idle_need (view_at after cpu).state.since t))) (length after)) (sym is)
      ∙ ap (largest (λ cpu. needs_at_end of.start (so_far ++ window) (kept_at after cpu) (view_at after cpu).needs))
      (w.count ∙ w.pursuers.count)

  -- with their places they are the figures
  pub figured : (figures : Figures) → figures.least ≡ least of so_far window before after w
      → ((which : Setting) → IsPlacedSoFar of (so_far ++ window) figures.least which (place_at figures.places which))
      → AreFiguresOf of (so_far ++ window) after figures
  figured figures is places = record {
    needs = is;
    least = subst (AreLeast of.start (first_machine of) (so_far ++ window)) (sym is)
        (are_least of so_far window before after w);
    places = places;
  }

  -- no processor needed more before the window
  pub had_below : (old : KnobsView) → old ≡ needs_behind of so_far before → (cpu : ℕ) → cpu < of.cpus
      → AtMost (view_at before cpu).needs old
  had_below old is cpu k which =
      let at_end : ℕ → KnobsView =
      λ one. needs_at_end of.start so_far (kept_at before one) (view_at before one).needs in
      let a = below_larger (view_at before cpu).needs
      (only_slack (idle_need (kept_at before cpu).since (last_time_of of.start so_far))) which in
      let b = above_each at_end of.cpus cpu k which in
      let e = ap (λ n. value_at n which) is in
      omega (arith, a, b, e)

  pub place_kept : (which : Setting) (old : KnobsView) → AreLeast of.start (first_machine of) so_far old
      → value_at (least of so_far window before after w) which ≤ value_at old which → (place : Option Place)
      → IsPlacedSoFar of so_far old which place
      → IsPlacedSoFar of (so_far ++ window) (least of so_far window before after w) which place
  place_kept which old l no_more None none = omega (arith, no_more, none)
  place_kept which old l no_more (Some place) p =
      let more = rises_only old l which in
      let same : value_at old which ≡ value_at (least of so_far window before after w) which =
      omega (arith, more, no_more) in
      record {
        some = subst (λ n. 0 < n) same p.some;
        needs = place_stays of.start of.floors of.tasks so_far window old (least of so_far window before after w) which
            place.line place.cpu place.pid (rises_only old l) same p.needs;
        front = p.front;
        event = p.event;
        rest = p.rest ++ window;
        whole = ap (λ xs. xs ++ window) p.whole ∙ append_assoc p.front (p.event ∷ p.rest) window;
        line = p.line;
        time = p.time;
        over = p.over;
      }

  -- the place where more is needed than before, of a setting but the slack
  module _ (keeps : RunKeepsOrder) (starts : StartInOrder) (which : Setting) (value : ℕ)
      (top : value ≡ value_at (least of so_far window before after w) which)
      (low : (cpu : ℕ) → cpu < of.cpus → value_at (view_at before cpu).needs which < value) (some : 0 < value)
      (not_slack : which ≢ Slack) (first : RiseAt)
      (found : IsFound line_of (rises_to which value after) of.cpus first) where
    abbrev has : HasRise of so_far window before after w which value top low found.index
    has = place_step of so_far window before after w which value top low not_slack first found

    abbrev event : IsEventOf of.start of.floors of.tasks (so_far ++ window) found.index has.rise.step has.left
    event = place_event of so_far window before after w which value top low not_slack first found

    same : has.rise ≡ first.rise
    same = same_rise of so_far window before after w which value top low not_slack first found

    -- whom the picked task was above
    pub over_is : which ≡ Granularity → IsOverAt of event.front event.event Granularity first.rise.over
    over_is gran =
        let reaches = has.rose.reaches in
        let high : has.rose.bound < value_at reaches.here which = reaches.above in
        let pick : 0 < reaches.here.granularity =
        subst (λ s. 0 < value_at reaches.here s) gran (omega (arith, high)) in
        subst (λ (r : Rise). IsOverAt of event.front event.event Granularity r.over) same
        (left_over keeps starts of w.is_record.is_start (so_far ++ window) found.index has.rise.step has.left
        reaches.passes.passes.found reaches.here.granularity has.rise.over event reaches.passes.needs_are.granularity
        pick has.over)

    over_by : (setting : Setting) → which ≡ setting
        → IsOverAt of event.front event.event setting (over_of setting first.rise)
    over_by Granularity e = over_is e
    over_by Credit e = refl
    over_by Debit e = refl
    over_by Slack e = refl
    over_by Drift e = refl

    place_risen : (over : Option ℕ) → IsOverAt of event.front event.event which over
        → IsPlaceSoFar of (so_far ++ window) (least of so_far window before after w) which (record {
          line = first.rise.step.line;
          time = first.rise.step.time;
          cpu = first.cpu;
          pid = needing which first.rise.step;
          over = over;
        })
    place_risen over is_over = record {
      some = subst (λ n. 0 < n) top some;
      needs =
          subst (λ n. NeedsAt of.start of.floors of.tasks (so_far ++ window) (least of so_far window before after w)
          which first.rise.step.line n (needing which first.rise.step))
          (sym (cpu_is of so_far window before after w which value top low not_slack first found))
          (subst (λ (r : Rise). NeedsAt of.start of.floors of.tasks (so_far ++ window)
          (least of so_far window before after w) which r.step.line found.index (needing which r.step)) same
          (place_needs of so_far window before after w which value top low not_slack first found));
      front = event.front;
      event = event.event;
      rest = event.rest;
      whole = event.whole;
      line = sym (ap (λ (s : Step). s.line) event.is) ∙ ap (λ (r : Rise). r.step.line) same;
      time = sym (ap (λ (s : Step). s.time) event.is) ∙ ap (λ (r : Rise). r.step.time) same;
      over = is_over;
    }

    -- as it is told
    pub risen : (knobs : KnobsView) → knobs ≡ least of so_far window before after w → (pid : ℕ) (over : Option ℕ)
        → pid ≡ needing which first.rise.step → over ≡ over_of which first.rise
        → IsPlaceSoFar of (so_far ++ window) knobs which (record {
          line = first.rise.step.line;
          time = first.rise.step.time;
          cpu = first.cpu;
          pid = pid;
          over = over;
        })
    risen knobs is pid over pid_is over_is =
        subst (λ k. IsPlaceSoFar of (so_far ++ window) k which (record {
          line = first.rise.step.line;
          time = first.rise.step.time;
          cpu = first.cpu;
          pid = pid;
          over = over;
        })) (sym is)
        (subst (λ n. IsPlaceSoFar of (so_far ++ window) (least of so_far window before after w) which (record {
          line = first.rise.step.line;
          time = first.rise.step.time;
          cpu = first.cpu;
          pid = n;
          over = over;
        })) (sym pid_is)
        (place_risen over (subst (IsOverAt of event.front event.event which) (sym over_is) (over_by which refl))))

  -- and of the slack
  place_idled : (bound : ℕ) (top : (least of so_far window before after w).slack ≡ bound + 1)
      → (low : (needs_behind of so_far before).slack ≤ bound) → (first : Idling)
      → IsFound begin_of (idlings_of bound after) of.cpus first → (entry : Entry)
      → HasLate window first.since bound entry
      → IsPlaceSoFar of (so_far ++ window) (least of so_far window before after w) Slack (record {
        line = entry.line;
        time = entry.time;
        cpu = first.cpu;
        pid = 0;
        over = None;
      })
  place_idled bound top low first found entry late = record {
    some = omega (arith, top);
    needs =
        subst (λ n. NeedsAt of.start of.floors of.tasks (so_far ++ window) (least of so_far window before after w) Slack
        entry.line n 0) (sym (idling_cpu of so_far window before after w bound top low first found))
        (idling_needs of so_far window before after w bound top low first found entry late);
    front = so_far ++ late.front;
    event = late.event;
    rest = late.rest;
    whole = ap (λ xs. so_far ++ xs) late.whole ∙ sym (append_assoc so_far late.front (late.event ∷ late.rest));
    line = ap (λ (e : Entry). e.line) late.is;
    time = ap (λ (e : Entry). e.time) late.is;
    over = refl;
  }

  pub idled : (knobs : KnobsView) → knobs ≡ least of so_far window before after w → (bound : ℕ)
      → bound + 1 ≡ knobs.slack → (needs_behind of so_far before).slack ≤ bound → (first : Idling)
      → IsFound begin_of (idlings_of bound after) of.cpus first → (entry : Entry)
      → HasLate window first.since bound entry
      → IsPlaceSoFar of (so_far ++ window) knobs Slack (record {
        line = entry.line;
        time = entry.time;
        cpu = first.cpu;
        pid = 0;
        over = None;
      })
  idled knobs is bound top low first found entry late =
      subst (λ k. IsPlaceSoFar of (so_far ++ window) k Slack (record {
        line = entry.line;
        time = entry.time;
        cpu = first.cpu;
        pid = 0;
        over = None;
      })) (sym is)
      (place_idled bound (ap (λ (k : KnobsView). k.slack) (sym is) ∙ sym top) low first found entry late)

-- what holds of each setting's place
pub each_place : (P : Setting → Option Place → Type 0) (places : Places) → P Granularity places.granularity
    → P Credit places.credit → P Debit places.debit → P Slack places.slack → P Drift places.drift
    → (which : Setting) → P which (place_at places which)
each_place P places g c d s t Granularity = g
each_place P places g c d s t Credit = c
each_place P places g c d s t Debit = d
each_place P places g c d s t Slack = s
each_place P places g c d s t Drift = t

-- A step that passes under some settings passes under others just where these are at least what it needs.
use Rattle.std.proofs.Common.{◌≡◌, ◌≢◌, ℕ, zero, suc, ◌+◌, ◌<◌, ◌≤◌, Option, Some, None, ℤ, pos, nat_abs, ◌+ℤ◌, ◌≤ℤ◌}
use Rattle.std.proofs.Common.{◌<ℤ◌, inl, inr, option_map, refl, sym, ap, ◌∙◌, subst, arith}
use Rattle.std.proofs.lemmas.Int.{ints, clamps}
use Rattle.std.proofs.lemmas.Bool.{cases_lt}
use Rattle.cfs_model.specs.Knobs.{KnobsView}
use Rattle.cfs_model.specs.Least.{AtMost}
use Rattle.cfs_model.specs.Told.{drift_after}
use Rattle.replay_model.specs.Part.{Part, Entity, IsIn, place_in, cost_in, runtime_after, charged_in, charged_part}
use Rattle.replay_model.specs.Part.{told_in, told_part}
use Rattle.replay_model.specs.Found.{IsFound}
use Rattle.replay_model.specs.QueueTests.{IsIdleTooLong, IsWrongCharge}
use Rattle.replay_model.specs.ClaimTests.{if_resting, IsClaimExtra, IsInWakeBounds, IsWakeOutside, IsInForkBounds}
use Rattle.replay_model.specs.ClaimTests.{IsForkOutside, IsNotLeast}
use Rattle.replay_model.specs.Tests.{PassesTests}
use Rattle.replay_model.specs.Page.{ReplayStateView, PassesStep}
use Rattle.replay_model.specs.Needs.{IsExcess, IsPickNeed, IsWakeNeed, IsBirthNeed, idle_need, IsDriftNeed}
use Rattle.replay_model.specs.Needs.{AreStepNeeds, PassesNeeding}
use Rattle.replay_laws.specs.LeastSettings.{PassesFromNeeds}
use Rattle.replay_model.proofs.Clear.{IsClear, clear_of, stands_of, none_of, place_or, is_told, size_within}
use Rattle.replay_model.proofs.Clear.{within_size}
use Rattle.replay_model.proofs.PartFacts.{task_in}
use Rattle.replay_model.proofs.Options.{same_some}
use Rattle.cfs_model.proofs.Moves.{put-same}
use Rattle.part_laws.proofs.one_page.OneLift.{same_found}
use Rattle.part_laws.proofs.stepping.PartRenice.{reniced_drift}
use Rattle.cfs_model.specs.declared.charge_line.ChargeLine.{ChargeLine}
use Rattle.cfs_model.specs.declared.claim.Claim.{Claim}
use Rattle.cfs_model.specs.declared.setting.Setting.TheVariants.{Granularity, Credit, Debit, Slack, Drift}
use Rattle.cfs_model.specs.declared.task.Place.{Place}
use Rattle.cfs_model.specs.declared.task.Place.TheVariants.{Run, Wait, Rest}
use Rattle.replay_model.specs.declared.step.Deed.{Deed}
use Rattle.replay_model.specs.declared.step.Deed.TheVariants.{Switch, Wake, Born, Leave, Arrive}
use Rattle.replay_model.specs.declared.step.Step.{Step}

-- an excess is at most a number just where the value is at most that far above the other
excess_within : (v from : ℤ) (need bound : ℕ) → IsExcess v from need → need ≤ bound → v ≤ℤ (from +ℤ pos bound)
excess_within v from need bound (inl h) k = let a = h.0 in omega (arith, ints)
excess_within v from need bound (inr h) k = omega (arith, ints)

excess_beyond : (v from : ℤ) (need bound : ℕ) → IsExcess v from need → bound < need → (from +ℤ pos bound) <ℤ v
excess_beyond v from need bound (inl h) k = let a = h.1 in absurd (omega arith)
excess_beyond v from need bound (inr h) k = omega (arith, ints)

at_most_or : (a b : ℕ) → (b < a → ⊥) → a ≤ b
at_most_or a b h = elim (cases_lt b a) [ inl k ↦ absurd (h k) | inr k ↦ k ]

none_needed : (need bound : ℕ) → need ≡ 0 → need ≤ bound
none_needed need bound e = omega arith

-- a pick
beyond_least : (least t s : ℤ) (bound : ℕ) → s ≤ℤ (least +ℤ pos bound) → least ≤ℤ t → (t +ℤ pos bound) <ℤ s → ⊥
beyond_least least t s bound h k l = omega (arith, ints)

pick_within : (bound need : ℕ) (part : Part) (deed : Deed) → IsPickNeed part deed need → need ≤ bound → (pid : ℕ)
    → ¬ IsNotLeast bound part deed pid
pick_within bound need part (Switch prev pn way zero nn) n h pid k = k
pick_within bound need part (Switch prev pn way (suc next) nn) n h pid k =
    let far = k.0 in
    let s = n.0 in
    let same : s.runtime ≡ far.0.runtime =
    ap (λ (x : Entity). x.runtime) (same_some (part.tasks (suc next)) s far.0 n.2 far.3) in
    beyond_least n.1 far.1.runtime far.0.runtime bound
    (subst (λ x. x ≤ℤ (n.1 +ℤ pos bound)) same (excess_within s.runtime n.1 need bound n.4 h))
    (n.3.least far.2 far.1 far.4 far.5) far.6
pick_within bound need part (Wake task nice) n h pid k = k
pick_within bound need part (Born task nice policy) n h pid k = k
pick_within bound need part (Leave task nice dest) n h pid k = k
pick_within bound need part (Arrive task nice orig policy) n h pid k = k

pick_needs : (bound need : ℕ) (part : Part) (deed : Deed) → IsPickNeed part deed need
    → ((pid : ℕ) → ¬ IsNotLeast bound part deed pid) → need ≤ bound
pick_needs bound need part (Switch prev pn way zero nn) n h = none_needed need bound n
pick_needs bound need part (Switch prev pn way (suc next) nn) n h = at_most_or need bound
    (λ k. h (suc next) (
      (
        n.0,
        n.3.task,
        n.3.pid,
        n.2,
        n.3.stands,
        n.3.waits,
        subst (λ x. (x +ℤ pos bound) <ℤ n.0.runtime) (sym n.3.runtime)
            (excess_beyond n.0.runtime n.1 need bound n.4 k),
      ),
      refl,
    ))
pick_needs bound need part (Wake task nice) n h = none_needed need bound n
pick_needs bound need part (Born task nice policy) n h = none_needed need bound n
pick_needs bound need part (Leave task nice dest) n h = none_needed need bound n
pick_needs bound need part (Arrive task nice orig policy) n h = none_needed need bound n

-- a wakeup
wake_bounds : (known bound : ℕ) (floor own v : ℤ) → IsInWakeBounds known floor own v → floor ≤ℤ (v +ℤ pos bound)
    → IsInWakeBounds bound floor own v
wake_bounds known bound floor own v h k =
    let a = h.0 in (omega (arith, ints, clamps), h.1)

wake_within : (known bound need : ℕ) (part : Part) (deed : Deed) (claim : Option Claim)
    → IsWakeNeed part deed claim need
    → need ≤ bound → ((pid : ℕ) → ¬ IsWakeOutside known part deed claim pid) → (pid : ℕ)
    → ¬ IsWakeOutside bound part deed claim pid
wake_within known bound need part (Wake task nice) (Some claim) n h none pid k =
    none pid (
      (
        k.0.0,
        k.0.1,
        k.0.2,
        (λ inside. k.0.3 (wake_bounds known bound part.floor k.0.0.runtime claim.v inside
            (excess_within part.floor claim.v need bound n h))),
      ),
      k.1,
    )
wake_within known bound need part (Wake task nice) None n h none pid k = k
wake_within known bound need part (Switch prev pn way next nn) claim n h none pid k = k
wake_within known bound need part (Born task nice policy) claim n h none pid k = k
wake_within known bound need part (Leave task nice dest) claim n h none pid k = k
wake_within known bound need part (Arrive task nice orig policy) claim n h none pid k = k

-- a woken task with a claim rests
none_resting : (pid : ℕ) (o : Option Place) → o ≢ Some Rest → if_resting pid o ≡ None
none_resting pid None h = refl
none_resting pid (Some Run) h = refl
none_resting pid (Some Wait) h = refl
none_resting pid (Some Rest) h = absurd (h refl)

rests_here : (part : Part) (task : ℕ) (nice : ℤ) (claim : Claim)
    → ((pid : ℕ) → ¬ IsClaimExtra part (Wake task nice) (Some claim) pid) → IsIn part Rest task
rests_here part task nice claim h = elim (place_or (place_in part task) Rest) [
  | inl e ↦ e
  | inr ne ↦ absurd (h claim.pid (none_resting task (place_in part task) ne, refl))
]

below_bounds : (bound : ℕ) (floor own v : ℤ) → (v +ℤ pos bound) <ℤ floor → ¬ IsInWakeBounds bound floor own v
below_bounds bound floor own v h k = let a = k.0 in omega (arith, ints, clamps)

wake_needs : (bound need : ℕ) (part : Part) (deed : Deed) (claim : Option Claim) → IsWakeNeed part deed claim need
    → ((pid : ℕ) → ¬ IsClaimExtra part deed claim pid) → ((pid : ℕ) → ¬ IsWakeOutside bound part deed claim pid)
    → need ≤ bound
wake_needs bound need part (Wake task nice) (Some claim) n extra h =
    let s = task_in part Rest task (rests_here part task nice claim extra) in
    at_most_or need bound
    (λ k. h task (
      (
        s.0,
        s.1,
        s.2,
        below_bounds bound part.floor s.0.runtime claim.v
            (excess_beyond part.floor claim.v need bound n k),
      ),
      refl,
    ))
wake_needs bound need part (Wake task nice) None n extra h = none_needed need bound n
wake_needs bound need part (Switch prev pn way next nn) claim n extra h = none_needed need bound n
wake_needs bound need part (Born task nice policy) claim n extra h = none_needed need bound n
wake_needs bound need part (Leave task nice dest) claim n extra h = none_needed need bound n
wake_needs bound need part (Arrive task nice orig policy) claim n extra h = none_needed need bound n

-- a birth
birth_within : (known bound need : ℕ) (part : Part) (deed : Deed) (claim : Option Claim)
    → IsBirthNeed part deed claim need
    → need ≤ bound → ((pid : ℕ) → ¬ IsForkOutside known part deed claim pid) → (pid : ℕ)
    → ¬ IsForkOutside bound part deed claim pid
birth_within known bound need part (Born task nice policy) (Some claim) n h none pid k =
    none pid ((λ inside. k.0 (inside.0, excess_within claim.v part.floor need bound n h)), k.1)
birth_within known bound need part (Born task nice policy) None n h none pid k = k
birth_within known bound need part (Switch prev pn way next nn) claim n h none pid k = k
birth_within known bound need part (Wake task nice) claim n h none pid k = k
birth_within known bound need part (Leave task nice dest) claim n h none pid k = k
birth_within known bound need part (Arrive task nice orig policy) claim n h none pid k = k

above_bounds : (bound : ℕ) (floor v : ℤ) → (floor +ℤ pos bound) <ℤ v → ¬ IsInForkBounds bound floor v
above_bounds bound floor v h k = let a = k.1 in omega (arith, ints)

birth_needs : (bound need : ℕ) (part : Part) (deed : Deed) (claim : Option Claim) → IsBirthNeed part deed claim need
    → ((pid : ℕ) → ¬ IsForkOutside bound part deed claim pid) → need ≤ bound
birth_needs bound need part (Born task nice policy) (Some claim) n h = at_most_or need bound
    (λ k. h task (above_bounds bound part.floor claim.v (excess_beyond claim.v part.floor need bound n k), refl))
birth_needs bound need part (Born task nice policy) None n h = none_needed need bound n
birth_needs bound need part (Switch prev pn way next nn) claim n h = none_needed need bound n
birth_needs bound need part (Wake task nice) claim n h = none_needed need bound n
birth_needs bound need part (Leave task nice dest) claim n h = none_needed need bound n
birth_needs bound need part (Arrive task nice orig policy) claim n h = none_needed need bound n

-- an idle stretch
pub idle_within : (bound : ℕ) (since : Option ℕ) (time : ℕ) → idle_need since time ≤ bound → (pid : ℕ)
    → ¬ IsIdleTooLong bound since time pid
idle_within bound None time h pid k = k
idle_within bound (Some x) time h pid k = let a = k.0 in absurd (omega arith)

pub idle_needs : (bound : ℕ) (since : Option ℕ) (time : ℕ) → ((x : ℕ) → since ≡ Some x → time ≤ x + bound)
    → idle_need since time ≤ bound
idle_needs bound None time h = omega arith
idle_needs bound (Some x) time h = let a = h x refl in omega arith

in_time_by : (bound : ℕ) (since : Option ℕ) (time : ℕ) → ((pid : ℕ) → ¬ IsIdleTooLong bound since time pid) → (x : ℕ)
    → since ≡ Some x → time ≤ x + bound
in_time_by bound since time h x e = at_most_or time (x + bound)
    (λ k. h 0 (subst (λ o. IsIdleTooLong bound o time 0) (sym e) (k, refl)))

-- a told charge: the drift of its task in the part that a deed finds is the one after it
told_drift : (time : ℕ) (charge : ChargeLine) (part : Part) (s : Entity) → part.tasks charge.pid ≡ Some s
    → s.place ≡ Run
    → option_map (λ (t : Entity). t.drift) ((told_part (Some charge) (charged_part part time)).tasks charge.pid)
    ≡ Some (drift_after s.drift charge.v (s.runtime +ℤ pos (cost_in part time s)))
told_drift time charge part s e run =
    let exactly = charged_part part time in
    ap (option_map (λ (t : Entity). t.drift))
    (put-same exactly.tasks charge.pid (option_map (told_in charge.v) (exactly.tasks charge.pid))
    ∙ ap (λ o. option_map (told_in charge.v) (option_map (charged_in part time) o)) e)
    ∙ ap (λ place. Some (drift_after s.drift charge.v (runtime_after place (cost_in part time s) s.runtime))) run

found_drift : (step : Step) (part found : Part) (charge : ChargeLine) (s t : Entity) → step.charge ≡ Some charge
    → IsFound step part found → part.tasks charge.pid ≡ Some s → s.place ≡ Run → found.tasks charge.pid ≡ Some t
    → t.drift ≡ drift_after s.drift charge.v (s.runtime +ℤ pos (cost_in part step.time s))
found_drift step part found charge s t e f h run k =
    same_some (Some t.drift) t.drift
    (drift_after s.drift charge.v (s.runtime +ℤ pos (cost_in part step.time s))) refl
    (ap (option_map (λ (x : Entity). x.drift)) (sym k)
    ∙ ap (λ (p : Part). option_map (λ (x : Entity). x.drift) (p.tasks charge.pid)) f.is_reniced
    ∙ reniced_drift step.nice f.lifted charge.pid
    ∙ ap (λ (p : Part). option_map (λ (x : Entity). x.drift) (p.tasks charge.pid)) f.is_lifted.result
    ∙ ap (λ o. option_map (λ (x : Entity). x.drift) ((told_part o (charged_part part step.time)).tasks charge.pid)) e
    ∙ told_drift step.time charge part s h run)

-- it is within a bound just where the need is
drift_within : (known bound need : ℕ) (step : Step) (part found : Part) (charge : Option ChargeLine)
    → step.charge ≡ charge → IsFound step part found → IsDriftNeed found charge need → need ≤ bound
    → ((pid : ℕ) → ¬ IsWrongCharge known part step.time charge pid)
    → (pid : ℕ) → ¬ IsWrongCharge bound part step.time charge pid
drift_within known bound need step part found None e f n h none pid k = k
drift_within known bound need step part found (Some charge) e f n h none pid k =
    let t = is_told known part step.time charge none in
    let drift = drift_after t.task.drift charge.v (t.task.runtime +ℤ pos (cost_in part step.time t.task)) in
    let same : n.0.drift ≡ drift = found_drift step part found charge t.task n.0 e f t.stands t.runs n.1 in
    k.0 (record {
      task = t.task;
      stands = t.stands;
      runs = t.runs;
      rises = t.rises;
      within = size_within bound drift
          (subst (λ d. nat_abs d ≤ bound) same (subst (λ x. x ≤ bound) n.2 h));
    })

drift_needs : (bound need : ℕ) (step : Step) (part found : Part) (charge : Option ChargeLine)
    → step.charge ≡ charge → IsFound step part found → IsDriftNeed found charge need
    → ((pid : ℕ) → ¬ IsWrongCharge bound part step.time charge pid) → need ≤ bound
drift_needs bound need step part found None e f n none = none_needed need bound n
drift_needs bound need step part found (Some charge) e f n none =
    let t = is_told bound part step.time charge none in
    let drift = drift_after t.task.drift charge.v (t.task.runtime +ℤ pos (cost_in part step.time t.task)) in
    let same : n.0.drift ≡ drift = found_drift step part found charge t.task n.0 e f t.stands t.runs n.1 in
    subst (λ x. x ≤ bound) (sym n.2) (subst (λ d. nat_abs d ≤ bound) (sym same) (within_size bound drift t.within))

-- the tests of a step that passes, under other settings
tests_within : (knobs other : KnobsView) (cpu : ℕ) (part : Part) (step : Step) (found : Part) (since : Option ℕ)
    (needs : KnobsView)
    → PassesTests knobs cpu part step found → AreStepNeeds since found step needs → AtMost needs other
    → PassesTests other cpu part step found
tests_within knobs other cpu part step found since needs p n h =
    let c = clear_of knobs cpu found step p.none in
    record {
      in_range = p.in_range;
      told = drift_within knobs.drift other.drift needs.drift step part found step.charge refl p.is_found n.drift (h
          Drift)
          p.told;
      is_found = p.is_found;
      none = none_of other cpu found step (stands_of knobs cpu found step p.none) (record {
        home = c.home;
        self = c.self;
        prev = c.prev;
        strange = c.strange;
        already = c.already;
        running = c.running;
        prio = c.prio;
        missing = c.missing;
        extra = c.extra;
        other = c.other;
        put_back = c.put_back;
        wake = wake_within knobs.credit other.credit needs.credit found step.deed step.claim n.credit (h Credit) c.wake;
        fork = birth_within knobs.debit other.debit needs.debit found step.deed step.claim n.debit (h Debit) c.fork;
        next = c.next;
        beside = c.beside;
        least = pick_within other.granularity needs.granularity found step.deed n.granularity (h Granularity);
      });
    }

pub passes_within : (knobs other : KnobsView) (cpu : ℕ) (before : ReplayStateView) (step : Step)
    (after : ReplayStateView)
    (needs : KnobsView)
    → PassesNeeding knobs cpu before step after needs → AtMost needs other → PassesStep other cpu before step after
passes_within knobs other cpu before step after needs p h = record {
  in_time = idle_within other.slack before.since step.time
      (subst (λ x. x ≤ other.slack) p.needs_are.slack (h Slack));
  found = p.passes.found;
  passes = tests_within knobs other cpu before.part step p.passes.found before.since needs p.passes.passes p.needs_are
      h;
  part = p.passes.part;
  since = p.passes.since;
  page = p.passes.page;
}

-- settings under which a step's tests pass are at least what it needs
pub needs_of_tests : (knobs other : KnobsView) (cpu : ℕ) (part : Part) (step : Step) (found mine : Part) (since :
    Option ℕ)
    (needs : KnobsView)
    → PassesTests knobs cpu part step found → PassesTests other cpu part step mine → mine ≡ found
    → AreStepNeeds since found step needs
    → ((x : ℕ) → since ≡ Some x → step.time ≤ x + other.slack) → AtMost needs other
needs_of_tests knobs other cpu part step found mine since needs p q e n policy = each
  where
    c : IsClear other cpu found step.deed step.claim
    c = subst (λ x. IsClear other cpu x step.deed step.claim) e (clear_of other cpu mine step q.none)

    each : AtMost needs other
    each Granularity = pick_needs other.granularity needs.granularity found step.deed n.granularity c.least
    each Credit = wake_needs other.credit needs.credit found step.deed step.claim n.credit c.extra c.wake
    each Debit = birth_needs other.debit needs.debit found step.deed step.claim n.debit c.fork
    each Slack = subst (λ x. x ≤ other.slack) (sym n.slack) (idle_needs other.slack since step.time policy)
    each Drift = drift_needs other.drift needs.drift step part found step.charge refl p.is_found n.drift q.told

pub passes_from_needs : PassesFromNeeds
passes_from_needs knobs other cpu before step after needs p = (
  (λ also. needs_of_tests knobs other cpu before.part step p.passes.found also.found before.since needs p.passes.passes
      also.passes
      (same_found step before.part also.found p.passes.found also.passes.is_found p.passes.passes.is_found) p.needs_are
      (in_time_by other.slack before.since step.time also.in_time)),
  (λ h. passes_within knobs other cpu before step after needs p h),
)

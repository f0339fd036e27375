-- The first fault is at the event that needs more of a setting than there is.
use Rattle.std.proofs.Common.{◌≡◌, ◌≢◌, ℕ, ◌+◌, ◌<◌, ◌≤◌, ◌↔◌, nat_eq, Bool, true, false, ◌||◌, if◌then◌else◌, Option}
use Rattle.std.proofs.Common.{Some, None, ℤ, inl, inr}
use Rattle.std.proofs.Common.{List, [], ◌∷◌, ◌++◌, refl, sym, ap, ◌∙◌, subst, true≢false, arith}
use Rattle.std.proofs.lemmas.Bool.{ne_eqb}
use Rattle.std.specs.List.{list_any}
use Rattle.cfs_model.specs.Knobs.{KnobsView, value_at}
use Rattle.cfs_model.specs.Machine.{Machine}
use Rattle.cfs_model.specs.Start.{start_machine}
use Rattle.cfs_model.specs.Claimed.{Claimed}
use Rattle.cfs_model.specs.Touch.{touched}
use Rattle.cfs_model.specs.Idling.{KeepsSlack}
use Rattle.cfs_model.specs.Run.{IsRun, last_of, times_of}
use Rattle.replay_model.specs.Part.{Part}
use Rattle.replay_model.specs.Cause.{FailsAt, FailsOn, FaultCause, IsActCause, SlackFails}
use Rattle.replay_model.specs.Needs.{AreStepNeeds, IsBirthNeed, IsDriftNeed, IsPickNeed, IsWakeNeed, idle_need}
use Rattle.replay_model.specs.Page.{FailsTest, ReplayStateView, deadline_of, with_fault}
use Rattle.replay_model.specs.QueueTests.{IsIdleTooLong}
use Rattle.replay_model.specs.StepAt.{charge_for, deed_at, step_at}
use Rattle.need_laws.specs.Short.{ShortSlackIsFault, ShortStepIsFault, kind_of, needing}
use Rattle.cfs_model.proofs.Moves.{same_or_not}
use Rattle.cfs_model.proofs.OneNext.{one_list}
use Rattle.cfs_model.proofs.Prefix.{run_prefix, steps_length}
use Rattle.cfs_model.proofs.LeastSettings.{same_states}
use Rattle.replay_laws.proofs.following.FollowLaws.{replay_follows, slack_follows}
use Rattle.replay_laws.proofs.ending.RunEnds.{fault_ends_run, last_step, slack_holds}
use Rattle.replay_laws.proofs.ending.RunEndings.{idling_ends_run}
use Rattle.replay_laws.proofs.needing.StepNeeds.{idle_within}
use Rattle.need_laws.proofs.ShortTests.{fails_short}
use Rattle.cfs_model.specs.declared.act.Act.{Act}
use Rattle.cfs_model.specs.declared.act.Act.TheVariants.{Switch, Wake, Born, Shift}
use Rattle.cfs_model.specs.declared.kind.Kind.{Kind}
use Rattle.cfs_model.specs.declared.policy.Policy.{Policy}
use Rattle.cfs_model.specs.declared.setting.Setting.{Setting}
use Rattle.cfs_model.specs.declared.setting.Setting.TheVariants.{Granularity, Credit, Debit, Slack, Drift}
use Rattle.replay_model.specs.declared.step.Deed.TheVariants.{Arrive, Leave}
use Rattle.replay_model.specs.declared.step.Step.{Step}

-- a task that comes needs nothing but slack
none_for_arrival : (found : Part) (since : Option ℕ) (step : Step) (needs : KnobsView) (which : Setting) (pid : ℕ)
    (nice : ℤ) (orig : ℕ) (policy : Policy) → which ≢ Slack → AreStepNeeds since found step needs
    → step.deed ≡ Arrive pid nice orig policy → step.charge ≡ None → value_at needs which ≡ 0
none_for_arrival found since step needs Granularity pid nice orig policy ne n d c =
    subst (λ x. IsPickNeed found x needs.granularity) d n.granularity
none_for_arrival found since step needs Credit pid nice orig policy ne n d c =
    subst (λ x. IsWakeNeed found x step.claim needs.credit) d n.credit
none_for_arrival found since step needs Debit pid nice orig policy ne n d c =
    subst (λ x. IsBirthNeed found x step.claim needs.debit) d n.debit
none_for_arrival found since step needs Slack pid nice orig policy ne n d c = absurd (ne refl)
none_for_arrival found since step needs Drift pid nice orig policy ne n d c =
    subst (λ x. IsDriftNeed found x needs.drift) c n.drift

not_below_none : (bound need : ℕ) → need ≡ 0 → bound < need → ⊥
not_below_none bound need e k = omega arith

-- where a comparison of numbers holds the numbers are the same
same_of : (a b : ℕ) → (nat_eq a b || false) ≡ true → a ≡ b
same_of a b h = elim (same_or_not a b) [
  | inl e ↦ e
  | inr ne ↦ absurd (true≢false (sym h ∙ ap (λ x. x || false) (ne_eqb a b ne)))
]

-- what fails at a processor that an event touches is what is wrong with what it does
act_cause : (knobs : KnobsView) (m : Machine) (event : Claimed) (cpu : ℕ) (cause : FaultCause) (act : Act)
    → event.entry.act ≡ act → list_any (λ other. nat_eq other cpu) (touched act) ≡ true
    → ((orig dest pid : ℕ) (nice : ℤ) → act ≡ Shift orig dest pid nice → orig ≢ cpu → ⊥)
    → FailsAt knobs m cpu event cause → IsActCause knobs m event act cause
act_cause knobs m event cpu cause (Switch here prev pn way next nn) e touch apart f =
    subst (λ x. FailsAt knobs m x event cause) (sym (same_of here cpu touch)) f
act_cause knobs m event cpu cause (Wake here pid nice) e touch apart f =
    subst (λ x. FailsAt knobs m x event cause) (sym (same_of here cpu touch)) f
act_cause knobs m event cpu cause (Born here pid nice) e touch apart f =
    inl (subst (λ x. FailsAt knobs m x event cause) (sym (same_of here cpu touch)) f)
act_cause knobs m event cpu cause (Shift orig dest pid nice) e touch apart f = elim (same_or_not orig cpu) [
  | inl same ↦ inl (subst (λ x. FailsAt knobs m x event cause) (sym same) f)
  | inr ne ↦ absurd (apart orig dest pid nice refl ne)
]

-- what a task that comes is seen to do, and that no charge is told of it there
arrives : (event : Claimed) (cpu orig dest pid : ℕ) (nice : ℤ) → event.entry.act ≡ Shift orig dest pid nice → orig ≢ cpu
    → (step_at cpu event).deed ≡ Arrive pid nice orig event.policy
arrives event cpu orig dest pid nice e ne =
    ap (deed_at cpu event.policy) e
    ∙ ap (λ (b : Bool). if b then Leave pid nice dest else Arrive pid nice orig event.policy) (ne_eqb orig cpu ne)

uncharged : (event : Claimed) (cpu pid orig : ℕ) (nice : ℤ)
    → (step_at cpu event).deed ≡ Arrive pid nice orig event.policy → (step_at cpu event).charge ≡ None
uncharged event cpu pid orig nice d = ap (λ x. charge_for x event.charge) d

-- the first test that fails, that of the idling among them
fails_test : (knobs : KnobsView) (cpu : ℕ) (before : ReplayStateView) (step : Step) (kind : Kind) (pid : ℕ)
    → ((one : ℕ) → ¬ IsIdleTooLong knobs.slack before.since step.time one)
    → FailsOn knobs cpu before.part step kind pid → FailsTest knobs cpu before step kind pid
fails_test knobs cpu before step kind pid idle (inl h) = inl (inr (idle, h))
fails_test knobs cpu before step kind pid idle (inr h) = inr (h.1.0, (idle, h.0), h.1.1, h.1.2)

-- with no more slack than another run of the events has, it doesn't fail
pub slack_kept : (knobs wider : KnobsView) (start : ℕ) (m : Machine) (before : List Claimed) (event : Claimed)
    (run : IsRun knobs start m before) → IsRun wider start m (before ++ event ∷ []) → wider.slack ≤ knobs.slack
    → (cpu : ℕ) → ¬ SlackFails knobs.slack (times_of start before) (m ∷ run.states) cpu event.entry.time
slack_kept knobs wider start m before event run wide k cpu f =
    let l = last_step wider m before event wide.states wide.steps in
    let front : IsRun wider start m before = run_prefix wider start m before (event ∷ []) wide in
    let same = steps_length wider m before l.front l.steps in
    slack_holds wider.slack start m before event l.front l.after same
    (subst (λ xs. KeepsSlack wider.slack (times_of start (before ++ event ∷ [])) (m ∷ xs)) l.whole wide.slack) cpu
    (subst (λ xs. SlackFails wider.slack (times_of start before) (m ∷ xs) cpu event.entry.time)
    (same_states knobs wider start m before run front ∙ one_list wider m before front.states l.front front.steps
    l.steps)
    (record {
      from = f.from;
      is_state = f.is_state;
      idles = f.idles;
      late = let late = f.late in omega arith;
    }))

pub step_is_fault : ShortStepIsFault
step_is_fault knobs wider other start floors tasks before rest event cpu last found after needs which s rise run wide
    slack touch r part since p ne short =
    let m = start_machine start floors tasks in
    let here = step_at cpu event in
    let follows = replay_follows knobs start floors tasks before cpu last s rise run r in
    let fails : FailsOn knobs cpu last.part here (kind_of which) (needing which here) =
    subst (λ x. FailsOn knobs cpu x here (kind_of which) (needing which here)) part
    (fails_short other knobs cpu found here after needs which p ne short) in
    let idle = idle_within knobs.slack last.since here.time
    (subst (λ x. idle_need x here.time ≤ knobs.slack) since
    (subst (λ x. x ≤ knobs.slack) p.needs_are.slack (short.others Slack (λ e. ne (sym e))))) in
    record {
      before = before;
      event = event;
      rest = rest;
      whole = refl;
      line_is = refl;
      why = record {
        run = run;
        why = inr (
          slack_kept knobs wider start m before event run wide slack,
          act_cause knobs (last_of m run.states) event cpu
              (record { cpu = cpu; pid = needing which here; kind = kind_of which }) event.entry.act refl touch
              (λ orig dest pid nice e other_end. not_below_none (value_at knobs which) (value_at needs which)
              (none_for_arrival p.passes.found found.since here needs which pid nice orig event.policy ne p.needs_are
              (arrives event cpu orig dest pid nice e other_end)
              (uncharged event cpu pid orig nice (arrives event cpu orig dest pid nice e other_end))) short.less)
              (record {
                here = refl;
                fails = subst (λ part. FailsOn knobs cpu part here (kind_of which) (needing which here))
                    (sym follows.1) fails;
              }),
        );
      };
      ends = fault_ends_run knobs start floors tasks before event cpu last
          (with_fault last (record {
            line = here.line;
            kind = kind_of which;
            pid = needing which here;
            deadline = deadline_of (kind_of which) knobs.slack last.since;
          })) s rise touch r (record {
            kind = kind_of which;
            pid = needing which here;
            fails = fails_test knobs cpu last here (kind_of which) (needing which here) idle fails;
            result = refl;
          });
    }

too_long : (slack since time : ℕ) (o : Option ℕ) → o ≡ Some since → since + slack < time → IsIdleTooLong slack o time 0
too_long slack since time o e k = subst (λ x. IsIdleTooLong slack x time 0) (sym e) (k, refl)

in_time : (slack time : ℕ) (o : Option ℕ) → ((since : ℕ) → o ≡ Some since → time ≤ since + slack)
    → ¬ IsIdleTooLong slack o time 0
in_time slack time None h k = k
in_time slack time (Some since) h k = let most = h since refl in let late = k.0 in absurd (omega arith)

pub slack_is_fault : ShortSlackIsFault
slack_is_fault knobs start floors tasks before rest event cpu since last s rise run r is late lower =
    let m = start_machine start floors tasks in
    let long = too_long knobs.slack since event.entry.time (last cpu).since is late in
    let follows : (one : ℕ)
    → SlackFails knobs.slack (times_of start before) (m ∷ run.states) one event.entry.time
    ↔ IsIdleTooLong knobs.slack (last one).since event.entry.time 0 =
    λ one. slack_follows knobs start floors tasks before one (last one) event.entry.time s rise run (r one) in
    record {
      before = before;
      event = event;
      rest = rest;
      whole = refl;
      line_is = refl;
      why = record {
        run = run;
        why = inl (record {
          idles = (follows cpu).1 long;
          lowest = λ one below fails. in_time knobs.slack event.entry.time (last one).since
              (λ since e. lower one since below e) ((follows one).0 fails);
          pid = refl;
          kind = refl;
        });
      };
      ends = idling_ends_run knobs start floors tasks before event cpu (last cpu) s rise (r cpu) long;
    }

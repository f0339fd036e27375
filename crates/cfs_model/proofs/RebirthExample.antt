-- The examples of a birth with and without the idle policy: behind the birth the task is picked, and runs. What 4 ms
-- cost is a parameter.
use Rattle.std.proofs.Common.{◌≡◌, ℕ, zero, suc, Some, None, ℤ, pos, ◌+ℤ◌, ◌-ℤ◌, ◌≤ℤ◌}
use Rattle.std.proofs.Common.{◌⊎◌, inl, inr, List, [], ◌∷◌, refl, sym, ◌∙◌, subst, arith, lit≤}
use Rattle.std.proofs.lemmas.Int.{ints}
use Rattle.std.specs.Int.{int_max}
use Rattle.cfs_model.specs.Charge.{IsInRange}
use Rattle.cfs_model.specs.Machine.{Machine, Stands, put, put_pair, with_floor}
use Rattle.cfs_model.specs.Machine.{with_move, with_runtime}
use Rattle.cfs_model.specs.Claimed.{Claimed, named_policy}
use Rattle.cfs_model.specs.Lifted.{charged, CanCharge, IsLeast, IsLifted}
use Rattle.cfs_model.specs.Step.{IsSwitch, IsWakeQueued, IsWakeResting, after_next, IsStep}
use Rattle.cfs_model.specs.Idling.{Idles, KeepsSlack}
use Rattle.cfs_model.specs.Run.{AreSteps}
use Rattle.cfs_model.specs.Examples.{standard, start_time, at_claim, rebirth_start, rebirth_events}
use Rattle.cfs_model.specs.Examples.{IdleBirthExample, RebirthExample}
use Rattle.cfs_model.proofs.EndAndBirth.{nobody_waits, nobody_runs, first_event, first_state, first_step}
use Rattle.cfs_model.proofs.EndAndBirth.{second_event, second_state, second_step, joined, waits_one}
use Rattle.cfs_model.proofs.Moves.{IsPutAt, move_placed}
use Rattle.cfs_model.proofs.OneNext.{one_lifted, one_next}
use Rattle.cfs_model.proofs.Range.{lifted_range, change_range}
use Rattle.cfs_model.proofs.Worked.{value_at, below_at, can_charge_one, can_charge_none}
use Rattle.cfs_model.specs.declared.act.Act.TheVariants.{Switch, Wake}
use Rattle.cfs_model.specs.declared.act.Way.TheVariants.{Stays}
use Rattle.cfs_model.specs.declared.idle_line.IdleLine.{IdleLine}
use Rattle.cfs_model.specs.declared.task.Place.{Place}
use Rattle.cfs_model.specs.declared.task.Place.TheVariants.{Run, Wait, Rest}
use Rattle.cfs_model.specs.declared.policy.Policy.{Policy}
use Rattle.cfs_model.specs.declared.policy.Policy.TheVariants.{Normal, Idle}

-- the wakeup
abbrev fourth_event : ℤ → Claimed
fourth_event w = record {
  entry = record { line = 4; time = 100004000000; act = Wake 0 102 (pos 0) };
  claim = Some (at_claim 4 102 w);
  nice = None;
  charge = None;
  policy = Normal;
}

module _ (was now : Policy) where
  -- the pick
  abbrev third_event : Claimed
  third_event = record {
    entry = record { line = 3; time = start_time; act = Switch 0 0 (pos 0) Stays 101 (pos 5) };
    claim = None;
    nice = None;
    charge = None;
    policy = Normal;
  }

  abbrev third_lifted : Machine
  third_lifted = with_floor (charged (second_state was now) 0 start_time) 0 (pos 0)

  abbrev third_state : Machine
  third_state = after_next third_lifted 0 101

  third_least : IsLeast (charged (second_state was now) 0 start_time) 0 (pos 0)
  unfolding put put_pair
  third_least = record {
    pid = 101;
    queued = inr refl;
    runtime = refl;
    least = λ q w h e. elim h [
      | inl x ↦ absurd (nobody_runs was 0 q x)
      | inr x ↦ below_at (charged (second_state was now) 0 start_time).runtime 101 q (pos 0) (pos 0) w
          (waits_one was now 0 q x) refl e (omega (arith, ints))
    ];
  }

  third_lift : IsLifted 0 start_time None (0 ∷ []) (second_state was now) third_lifted
  unfolding put
  third_lift = (
    third_lifted,
    record {
      can_charge = can_charge_none (second_state was now) 0 start_time (nobody_runs was 0);
      told = charged (second_state was now) 0 start_time;
      charges = refl;
      floor = pos 0;
      raised = inr (pos 0, third_least, refl);
      result = refl;
    },
    refl,
  )

  third_step : IsStep standard (second_state was now) third_event third_state
  unfolding put put_pair
  third_step =
      let changes : IsSwitch standard third_lifted 0 0 (pos 0) Stays 101 (pos 5) None third_state = record {
        differ = λ e. omega arith;
        current = nobody_runs was 0;
        prev_prio = tt;
        next_prio = refl;
        put_back = refl;
        pick = (
          pos 0,
          refl,
          refl,
          λ q w h e. subst (λ y. pos 0 ≤ℤ (y +ℤ pos 1000000)) (value_at third_lifted.runtime 101 q (pos 0) w
              (waits_one was now 0 q h) refl e) (omega (arith, ints)),
        );
        result = refl;
      } in
      record {
        lifted = third_lifted;
        is_lifted = third_lift;
        found = third_lifted;
        is_reniced = refl;
        changes = changes;
        in_range = change_range standard third_lifted third_event.entry.act None Normal third_state changes tt
            (lifted_range 0 start_time None (0 ∷ []) (second_state was now) third_lifted third_lift tt
            (second_step was now).in_range);
      }

  -- 101 alone runs, and nobody waits
  moved : IsPutAt third_lifted third_state 101 Run 0
  moved = move_placed third_lifted 101 Wait 0 Run 0 alone
    where
      alone : (r : Place) (d : ℕ) → Stands third_lifted r d 101 → (r ≡ Wait) × (d ≡ 0)
      alone Run d h = absurd (nobody_runs was d 101 h)
      alone Wait d h = elim ((joined was now).cases Wait d 101 h) [ inl x ↦ (refl, x.2) | inr x ↦ absurd (x.0 refl) ]
      alone Rest d h = elim ((joined was now).cases Rest d 101 h)
          [ inl x ↦ let e = x.1 in absurd cc | inr x ↦ absurd (x.0 refl) ]

  runs_again : (d q : ℕ) → Stands third_state Run d q → 101 ≡ q
  runs_again d q h = elim (moved.cases Run d q h) [ inl x ↦ sym x.0 | inr x ↦ absurd (nobody_runs was d q x.1) ]

  none_waits : (d q : ℕ) → ¬ Stands third_state Wait d q
  none_waits d q h = elim (moved.cases Wait d q h) [
    | inl x ↦ let e = x.1 in cc
    | inr x ↦ x.0 (sym (waits_one was now d q x.1))
  ]

  abbrev after_charge : Machine
  after_charge = charged third_state 0 100004000000

  -- what 4 ms cost
  module _ (top : ℤ) (is_top : after_charge.runtime 101 ≡ Some top) (can_charge : CanCharge third_state 0 100004000000)
    where
      abbrev fourth_lifted : Machine
      fourth_lifted = with_floor after_charge 0 (int_max (pos 0) top)

      fourth_lift : IsLifted 0 100004000000 None (0 ∷ []) third_state fourth_lifted
      unfolding put put_pair
      fourth_lift = (
        fourth_lifted,
        record {
          can_charge = can_charge;
          told = after_charge;
          charges = refl;
          floor = int_max (pos 0) top;
          raised = inr (
            top,
            record {
              pid = 101;
              queued = inl refl;
              runtime = is_top;
              least = λ q w h e. elim h [
                | inl x ↦ below_at after_charge.runtime 101 q top top w (runs_again 0 q x) is_top e
                    (omega (arith, ints))
                | inr x ↦ absurd (none_waits 0 q x)
              ];
            },
            refl,
          );
          result = refl;
        },
        refl,
      )

      module _ (w : ℤ) where
        abbrev fourth_state : Machine
        fourth_state = with_runtime (with_move fourth_lifted 102 Rest 0 Wait 0) 102 w

        fourth_step : IsInRange w → int_max (pos 0) (int_max (pos 0) top -ℤ pos 3000000) ≤ℤ w
            → w ≤ℤ int_max (pos 0) (int_max (pos 0) top) → IsStep standard third_state (fourth_event w) fourth_state
        unfolding put put_pair
        fourth_step range low high =
            let changes : IsWakeResting standard fourth_lifted 0 102 (pos 0) (fourth_event w).claim
            fourth_state = record {
              rests = refl;
              prio = refl;
              own = pos 0;
              runtime = refl;
              placed = w;
              claimed = (refl, refl, refl);
              from = low;
              to = high;
              result = refl;
            } in
            record {
              lifted = fourth_lifted;
              is_lifted = fourth_lift;
              found = fourth_lifted;
              is_reniced = refl;
              changes = inr changes;
              in_range = change_range standard fourth_lifted (fourth_event w).entry.act (fourth_event w).claim Normal
                  fourth_state (inr changes) range
                  (lifted_range 0 100004000000 None (0 ∷ []) third_state fourth_lifted fourth_lift tt
                  third_step.in_range);
            }

        -- any step places 102 there
        fourth_bounds : (after : Machine) → IsStep standard third_state (fourth_event w) after
            → (int_max (pos 0) (int_max (pos 0) top -ℤ pos 3000000) ≤ℤ w)
            × (w ≤ℤ int_max (pos 0) (int_max (pos 0) top))
        unfolding put put_pair
        fourth_bounds after s = go (subst (λ m. IsWakeQueued m 0 102 (pos 0) (fourth_event w).claim after
            ⊎ IsWakeResting standard m 0 102 (pos 0) (fourth_event w).claim after) found s.changes)
          where
            found : s.found ≡ fourth_lifted
            found = s.is_reniced
                ∙ one_lifted 0 0 100004000000 None (0 ∷ []) third_state s.lifted fourth_lifted s.is_lifted fourth_lift

            go : IsWakeQueued fourth_lifted 0 102 (pos 0) (fourth_event w).claim after
                ⊎ IsWakeResting standard fourth_lifted 0 102 (pos 0) (fourth_event w).claim after
                → (int_max (pos 0) (int_max (pos 0) top -ℤ pos 3000000) ≤ℤ w)
                × (w ≤ℤ int_max (pos 0) (int_max (pos 0) top))
            go (inl x) = let e = x.no_claim in absurd cc
            go (inr x) =
                let own = value_at fourth_lifted.runtime 102 102 x.own (pos 0) refl x.runtime refl in
                let from : int_max (pos 0) (int_max (pos 0) top -ℤ pos 3000000) ≤ℤ x.placed = subst
                (λ o. int_max o (int_max (pos 0) top -ℤ pos 3000000) ≤ℤ x.placed) own x.from in
                let to : x.placed ≤ℤ int_max (pos 0) (int_max (pos 0) top) = subst
                (λ o. x.placed ≤ℤ int_max o (int_max (pos 0) top)) own x.to in (
                  subst (λ y. int_max (pos 0) (int_max (pos 0) top -ℤ pos 3000000) ≤ℤ y) (sym x.claimed.2) from,
                  subst (λ y. y ≤ℤ int_max (pos 0) (int_max (pos 0) top)) (sym x.claimed.2) to,
                )

  -- nobody waits before the birth and after the pick, which are at one time, so no slack is used
  keeps_slack : (last : Machine) → KeepsSlack 100000
      (start_time ∷ start_time ∷ start_time ∷ start_time ∷ 100004000000 ∷ [])
      (rebirth_start was ∷ (first_state was) ∷ (second_state was now) ∷ third_state ∷ last ∷ [])
  keeps_slack last cpu zero j below within idles =
      let idle : Idles (rebirth_start was) cpu = idles 0 (lit≤ tt) below in
      absurd (nobody_waits was cpu idle.pid idle.waits)
  keeps_slack last cpu (suc zero) j below within idles =
      let idle : Idles (first_state was) cpu = idles 1 (lit≤ tt) below in
      absurd (nobody_waits was cpu idle.pid idle.waits)
  keeps_slack last cpu (suc (suc zero)) zero below within idles = absurd (omega arith)
  keeps_slack last cpu (suc (suc zero)) (suc zero) below within idles = absurd (omega arith)
  keeps_slack last cpu (suc (suc zero)) (suc (suc zero)) below within idles = absurd (omega arith)
  keeps_slack last cpu (suc (suc zero)) (suc (suc (suc zero))) below within idles = lit≤ tt
  keeps_slack last cpu (suc (suc zero)) (suc (suc (suc (suc j)))) below within idles =
      let idle : Idles third_state cpu = idles 3 (lit≤ tt) (omega arith) in
      absurd (none_waits cpu idle.pid idle.waits)
  keeps_slack last cpu (suc (suc (suc zero))) j below within idles =
      let idle : Idles third_state cpu = idles 3 (lit≤ tt) below in
      absurd (none_waits cpu idle.pid idle.waits)
  keeps_slack last cpu (suc (suc (suc (suc i)))) j below within idles = absurd (omega arith)

-- any steps come to the wakeup by these states
last_step : (was : Policy) (idles : List IdleLine) (w : ℤ) (states : List Machine)
    → AreSteps standard (rebirth_start was) (rebirth_events was idles w) states
    → (after : Machine) × IsStep standard (third_state was (named_policy idles 2 101)) (fourth_event w) after
last_step was idles w [] steps = absurd steps
last_step was idles w (m ∷ []) steps = absurd steps.1
last_step was idles w (m ∷ n ∷ []) steps = absurd steps.1.1
last_step was idles w (m ∷ n ∷ o ∷ []) steps = absurd steps.1.1.1
last_step was idles w (m ∷ n ∷ o ∷ p ∷ q ∷ states) steps = absurd steps.1.1.1.1
last_step was idles w (m ∷ n ∷ o ∷ p ∷ []) steps =
    let now = named_policy idles 2 101 in
    let first = one_next standard (rebirth_start was) (first_event was) m (first_state was) steps.0 (first_step was) in
    let birth : IsStep standard (first_state was) (second_event was now) n = subst
    (λ x. IsStep standard x (second_event was now) n) first steps.1.0 in
    let second = one_next standard (first_state was) (second_event was now) n (second_state was now) birth
    (second_step was now) in
    let pick : IsStep standard (second_state was now) (third_event was now) o = subst
    (λ x. IsStep standard x (third_event was now) o) second steps.1.1.0 in
    let third = one_next standard (second_state was now) (third_event was now) o (third_state was now) pick
    (third_step was now) in
    (p, subst (λ x. IsStep standard x (fourth_event w) p) third steps.1.1.1.0)

can_charge_idle : (was : Policy) → CanCharge (third_state was Idle) 0 100004000000
unfolding put put_pair
can_charge_idle was = can_charge_one (third_state was Idle) 0 100004000000 101 (pos 5) (pos 0)
    (runs_again was Idle 0) refl refl (lit≤ tt) (omega (arith, ints))

can_charge_light : (was : Policy) → CanCharge (third_state was Normal) 0 100004000000
unfolding put put_pair
can_charge_light was = can_charge_one (third_state was Normal) 0 100004000000 101 (pos 5) (pos 0)
    (runs_again was Normal 0) refl refl (lit≤ tt) (omega (arith, ints))

idle_cost : (was : Policy) → (after_charge was Idle).runtime 101 ≡ Some (pos 1365333333)
unfolding put put_pair
idle_cost was = refl

light_cost : (was : Policy) → (after_charge was Normal).runtime 101 ≡ Some (pos 12226865)
unfolding put put_pair
light_cost was = refl

pub idle_birth_lem : IdleBirthExample
idle_birth_lem was w = (
  (λ run.
      let last = last_step was (record { line = 2; pid = 101 } ∷ []) w run.states run.steps in
      fourth_bounds was Idle (pos 1365333333) (idle_cost was) (can_charge_idle was) w last.0 last.1),
  (λ h. record {
    states = first_state was ∷ second_state was Idle ∷ third_state was Idle
        ∷ fourth_state was Idle (pos 1365333333) (idle_cost was) (can_charge_idle was) w ∷ [];
    steps = (
      first_step was,
      (
        second_step was Idle,
        (
          third_step was Idle,
          (
            fourth_step was Idle (pos 1365333333) (idle_cost was) (can_charge_idle was) w
                (omega (arith, ints), omega (arith, ints)) h.0 h.1,
            tt,
          ),
        ),
      ),
    );
    slack = keeps_slack was Idle (fourth_state was Idle (pos 1365333333) (idle_cost was) (can_charge_idle was) w);
  }),
)

pub rebirth_lem : RebirthExample
rebirth_lem was w = (
  (λ run.
      let last = last_step was [] w run.states run.steps in
      fourth_bounds was Normal (pos 12226865) (light_cost was) (can_charge_light was) w last.0 last.1),
  (λ h. record {
    states = first_state was ∷ second_state was Normal ∷ third_state was Normal
        ∷ fourth_state was Normal (pos 12226865) (light_cost was) (can_charge_light was) w ∷ [];
    steps = (
      first_step was,
      (
        second_step was Normal,
        (
          third_step was Normal,
          (
            fourth_step was Normal (pos 12226865) (light_cost was) (can_charge_light was) w
                (omega (arith, ints), omega (arith, ints)) h.0 h.1,
            tt,
          ),
        ),
      ),
    );
    slack = keeps_slack was Normal (fourth_state was Normal (pos 12226865) (light_cost was) (can_charge_light was) w);
  }),
)

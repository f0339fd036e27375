-- How much a tally of a run can be: an event touches at most two processors, and charges each once.
use Rattle.std.proofs.Common.{◌≡◌, ◌≢◌, ℕ, suc, ◌+◌, ◌-◌, ◌*◌, ◌≤◌, nat_eq, Bool, true, false, ◌||◌, cond, Option, Some}
use Rattle.std.proofs.Common.{None}
use Rattle.std.proofs.Common.{ℤ, pos, neg_ℤ, nat_abs, ◌+ℤ◌, ◌-ℤ◌, ◌≤ℤ◌, ◌⊎◌, inl, inr, List, [], ◌∷◌, length, map, sum}
use Rattle.std.proofs.Common.{refl, sym, ap, ◌∙◌, subst, arith}
use Rattle.std.specs.List.{AllByRecursion, list_any}
use Rattle.std.proofs.lemmas.Bool.{eq-eqb, ne_eqb, cases_lt}
use Rattle.std.proofs.lemmas.Int.{ints}
use Rattle.std.proofs.lemmas.List.Sums.{count_by-le-length}
use Rattle.cfs_model.specs.Charge.{greatest}
use Rattle.cfs_model.specs.Knobs.{KnobsView}
use Rattle.cfs_model.specs.Machine.{Machine}
use Rattle.cfs_model.specs.Start.{start_machine}
use Rattle.cfs_model.specs.Claimed.{Claimed}
use Rattle.cfs_model.specs.Touch.{touched}
use Rattle.cfs_model.specs.Told.{drift_after, IsWithin}
use Rattle.cfs_model.specs.ToldLaws.{AreDriftsWithin}
use Rattle.cfs_model.specs.Step.{IsStep}
use Rattle.cfs_model.specs.Run.{AreSteps}
use Rattle.cfs_model.specs.Order.{IsInOrder}
use Rattle.replay_model.specs.Part.{Part, Entity, cost_in, part_of}
use Rattle.replay_model.specs.QueueTests.{IsOutOfRange, IsWrongCharge}
use Rattle.replay_model.specs.Cut.{touches}
use Rattle.replay_model.specs.StepAt.{step_at}
use Rattle.replay_model.specs.Noted.{told_cost}
use Rattle.replay_model.specs.Summary.{picks, added_up, ran_at, cost_as_told, charged_at}
use Rattle.tally_laws.specs.Tallying.{TalliesBounded}
use Rattle.cfs_model.proofs.DriftSums.{step_within}
use Rattle.cfs_model.proofs.Moves.{same_or_not}
use Rattle.cfs_model.proofs.StartOrder.{start_in_order}
use Rattle.cfs_model.proofs.StepOrder.{apart_of, step_in_order}
use Rattle.replay_model.proofs.Clear.{is_told, within_size}
use Rattle.replay_model.proofs.Options.{same_some}
use Rattle.replay_model.proofs.PartFacts.{stands_as}
use Rattle.part_laws.proofs.Touching.{steps_at_cpu}
use Rattle.tally_laws.proofs.TalliesCharged.{of_runner, charge_to}
use Rattle.tally_laws.proofs.TalliesInMachine.{charge_is}
use Rattle.tally_laws.proofs.TalliesInRun.{charge_there}
use Rattle.cfs_model.specs.declared.charge_line.ChargeLine.{ChargeLine}
use Rattle.cfs_model.specs.declared.act.Act.{Act}
use Rattle.cfs_model.specs.declared.act.Act.TheVariants.{Switch, Wake, Born, Shift}
use Rattle.cfs_model.specs.declared.task.Place.{Place}
use Rattle.cfs_model.specs.declared.task.Place.TheVariants.{Run, Wait, Rest}

-- how long a task ran is no more than the time of the event
ran_below : (m : Machine) (time last pid cpu : ℕ) → time ≤ last → ran_at m time pid cpu ≤ last
ran_below m time last pid cpu h = go (m.running cpu pid)
  where
    go : (b : Bool) → cond b (time - m.mark cpu) 0 ≤ last
    go true = omega arith
    go false = omega arith

-- what is told of a task is above its exact charge by no more than the drift before it and the one after
told_above : (own v drift : ℤ) (cost bound : ℕ) → own ≤ℤ v → neg_ℤ (pos bound) ≤ℤ drift
    → drift_after drift v (own +ℤ pos cost) ≤ℤ pos bound → nat_abs (v -ℤ own) ≤ cost + 2 * bound
told_above own v drift cost bound rises low high =
    within_size (cost + 2 * bound) (v -ℤ own) (omega (arith, ints), omega (arith, ints))

told_below : (part : Part) (time bound : ℕ) (charge : Option ChargeLine) (pid : ℕ) (s : Entity)
    → part.tasks pid ≡ Some s → cost_in part time s ≤ greatest
    → ((other : ℕ) → ¬ IsWrongCharge bound part time charge other) → IsWithin bound s.drift
    → told_cost charge part time pid s ≤ greatest + 2 * bound
told_below part time bound None pid s e cost right within = omega arith
told_below part time bound (Some charge) pid s e cost right within = go (same_or_not charge.pid pid)
  where
    go : (charge.pid ≡ pid) ⊎ (charge.pid ≢ pid)
        → cond (nat_eq charge.pid pid) (nat_abs (charge.v -ℤ s.runtime)) (cost_in part time s) ≤ greatest + 2 * bound
    go (inl same) =
        let t = is_told bound part time charge right in
        let is : t.task ≡ s = same_some (part.tasks pid) t.task s (ap part.tasks (sym same) ∙ t.stands) e in
        let above = told_above s.runtime charge.v s.drift (cost_in part time s) bound
        (subst (λ (x : Entity). x.runtime ≤ℤ charge.v) is t.rises) within.0
        (subst (λ (x : Entity). drift_after x.drift charge.v (x.runtime +ℤ pos (cost_in part time x)) ≤ℤ pos bound) is
        t.within.1) in
        subst (λ b. cond b (nat_abs (charge.v -ℤ s.runtime)) (cost_in part time s) ≤ greatest + 2 * bound)
        (sym (eq-eqb charge.pid pid same)) (through above)
      where
        through : nat_abs (charge.v -ℤ s.runtime) ≤ cost_in part time s + 2 * bound
            → nat_abs (charge.v -ℤ s.runtime) ≤ greatest + 2 * bound
        through above = omega arith
    go (inr ne) =
        subst (λ b. cond b (nat_abs (charge.v -ℤ s.runtime)) (cost_in part time s) ≤ greatest + 2 * bound)
        (sym (ne_eqb charge.pid pid ne)) (omega arith)

-- a part that is in range charges nobody more than the greatest, and twice the drift
charge_below : (part : Part) (time bound : ℕ) (charge : Option ChargeLine) (pid : ℕ) → ¬ IsOutOfRange part time pid
    → ((other : ℕ) → ¬ IsWrongCharge bound part time charge other)
    → ((s : Entity) → part.tasks pid ≡ Some s → IsWithin bound s.drift)
    → charge_to part time charge pid (part.tasks pid) ≤ greatest + 2 * bound
charge_below part time bound charge pid within right drifts = go (part.tasks pid) refl
  where
    runner : (s : Entity) → part.tasks pid ≡ Some s → s.place ≡ Run → cost_in part time s ≤ greatest
    runner s e run = elim (cases_lt greatest (cost_in part time s)) [
      | inl k ↦ absurd (within (record { task = s; stands = e; runs = run; above = inl k }))
      | inr k ↦ k
    ]

    at : (s : Entity) → part.tasks pid ≡ Some s → (place : Place) → s.place ≡ place
        → of_runner place (told_cost charge part time pid s) ≤ greatest + 2 * bound
    at s e Run run = told_below part time bound charge pid s e (runner s e run) right (drifts s e)
    at s e Wait run = omega arith
    at s e Rest run = omega arith

    go : (o : Option Entity) → part.tasks pid ≡ o → charge_to part time charge pid o ≤ greatest + 2 * bound
    go None e = omega arith
    go (Some s) e = at s e s.place refl

-- an amount at the processors that an event touches
touched_below : (event : Claimed) (f : ℕ → ℕ) (most : ℕ) → ((cpu : ℕ) → touches cpu event ≡ true → f cpu ≤ most)
    → sum (map f (touched event.entry.act)) ≤ 2 * most
touched_below event f most h = go event.entry.act refl
  where
    one : (a : ℕ) → touched event.entry.act ≡ a ∷ [] → sum (map f (a ∷ [])) ≤ 2 * most
    one a e =
        let k = h a (ap (list_any (λ other. nat_eq other a)) e
        ∙ ap (λ b. b || false) (eq-eqb a a refl)) in
        omega arith

    two : (a b : ℕ) → touched event.entry.act ≡ a ∷ b ∷ [] → sum (map f (a ∷ b ∷ [])) ≤ 2 * most
    two a b e =
        let k = h a (ap (list_any (λ other. nat_eq other a)) e
        ∙ ap (λ x. x || (nat_eq b a || false)) (eq-eqb a a refl)) in
        let l = h b (ap (list_any (λ other. nat_eq other b)) e
        ∙ ap (λ x. nat_eq a b || (x || false)) (eq-eqb b b refl) ∙ turn (nat_eq a b)) in
        omega arith
      where
        turn : (x : Bool) → (x || true) ≡ true
        turn true = refl
        turn false = refl

    go : (act : Act) → event.entry.act ≡ act → sum (map f (touched event.entry.act)) ≤ 2 * most
    go (Switch cpu prev pn way next nn) e = rw (ap touched e) (one cpu (ap touched e))
    go (Wake cpu pid nice) e = rw (ap touched e) (one cpu (ap touched e))
    go (Born cpu pid nice) e = rw (ap touched e) (one cpu (ap touched e))
    go (Shift orig dest pid nice) e = rw (ap touched e) (two orig dest (ap touched e))

-- what is charged at a processor that an event touches
charged_below : (knobs : KnobsView) (m : Machine) (event : Claimed) (after : Machine) → IsInOrder m
    → AreDriftsWithin knobs.drift m → IsStep knobs m event after → (pid cpu : ℕ) → touches cpu event ≡ true
    → charged_at m event pid cpu ≤ greatest + 2 * knobs.drift
charged_below knobs m event after o d s pid cpu t = elim (steps_at_cpu knobs m event after o s cpu) [
  | inl h ↦ subst (λ n. n ≤ greatest + 2 * knobs.drift)
      (charge_is m (apart_of m o) cpu event.entry.time pid (step_at cpu event).charge
      ∙ ap (λ c. cond (m.running cpu pid) (cost_as_told m event.entry.time c pid cpu) 0)
      (charge_there event.entry.act event.policy event.charge cpu t))
      (charge_below (part_of m cpu) event.entry.time knobs.drift (step_at cpu event).charge pid
      (h.1.passes.in_range pid) h.1.passes.told
      (λ x e. subst (IsWithin knobs.drift) (stands_as m cpu pid x e).drift (d pid)))
  | inr h ↦ absurd (let e : true ≡ false = sym t ∙ h.0 in cc)
]

-- an amount that is at most so much for each processor that an event touches
ran_added : (knobs : KnobsView) (m : Machine) (events : List Claimed) (states : List Machine) (last pid : ℕ)
    → AreSteps knobs m events states → AllByRecursion (λ (event : Claimed). event.entry.time ≤ last) events
    → added_up (λ m event cpu. ran_at m event.entry.time pid cpu) m events states ≤ length events * (2 * last)
ran_added knobs m [] states last pid steps h = omega arith
ran_added knobs m (event ∷ events) [] last pid steps h = absurd steps
ran_added knobs m (event ∷ events) (after ∷ states) last pid steps h =
    let a = touched_below event (λ cpu. ran_at m event.entry.time pid cpu) last
    (λ cpu t. ran_below m event.entry.time last pid cpu h.0) in
    let b = ran_added knobs after events states last pid steps.1 h.1 in
    omega arith

charged_added : (knobs : KnobsView) (m : Machine) (events : List Claimed) (states : List Machine) (pid : ℕ)
    → IsInOrder m → AreDriftsWithin knobs.drift m → AreSteps knobs m events states
    → added_up (λ m event cpu. charged_at m event pid cpu) m events states
    ≤ length events * (2 * (greatest + 2 * knobs.drift))
charged_added knobs m [] states pid o d steps = omega arith
charged_added knobs m (event ∷ events) [] pid o d steps = absurd steps
charged_added knobs m (event ∷ events) (after ∷ states) pid o d steps =
    let a = touched_below event (λ cpu. charged_at m event pid cpu) (greatest + 2 * knobs.drift)
    (λ cpu t. charged_below knobs m event after o d steps.0 pid cpu t) in
    let b = charged_added knobs after events states pid (step_in_order knobs m event after o steps.0)
    (λ q. step_within knobs m event after steps.0 q (d q)) steps.1 in
    more (greatest + 2 * knobs.drift) (length events)
    (sum (map (λ cpu. charged_at m event pid cpu) (touched event.entry.act)))
    (added_up (λ m event cpu. charged_at m event pid cpu) after events states) a b
  where
    more : (most count here rest : ℕ) → here ≤ 2 * most → rest ≤ count * (2 * most)
        → here + rest ≤ suc count * (2 * most)
    more most count here rest a b = omega arith

pub tallies_bounded : TalliesBounded
tallies_bounded knobs start floors tasks events last pid s times run = (
  ran_added knobs (start_machine start floors tasks) events run.states last pid run.steps times,
  charged_added knobs (start_machine start floors tasks) events run.states pid (start_in_order start floors tasks s)
      (λ q. (omega (arith, ints), omega (arith, ints))) run.steps,
  count_by-le-length (λ (event : Claimed). picks pid event.entry.act) events,
)

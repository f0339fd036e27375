-- Where the machine switches, the processor's part passes the tests of the switch.
use Rattle.std.proofs.Common.{◌≡◌, ◌≢◌, ℕ, zero, suc, Option, Some, None, option_map, ℤ, pos, ◌+ℤ◌, ◌≤ℤ◌, ◌<ℤ◌, inl}
use Rattle.std.proofs.Common.{inr, refl, sym, ap, ◌∙◌, subst, arith}
use Rattle.std.proofs.lemmas.Int.{ints}
use Rattle.cfs_model.specs.Knobs.{KnobsView}
use Rattle.cfs_model.specs.Machine.{Machine, Stands}
use Rattle.cfs_model.specs.Step.{IsCurrent, PrintsOwn, IsPutBack, after_prev, IsPick, IsSwitch}
use Rattle.replay_model.specs.Part.{Entity, part_of, entity_at, IsIn}
use Rattle.replay_model.specs.Deeds.{part_after_prev}
use Rattle.replay_model.specs.QueueTests.{IsRunner, HasOtherNice, HasOtherPrio}
use Rattle.replay_model.specs.ClaimTests.{IsClaimMissing, IsClaimExtra, IsClaimPid, IsWrongPutBack, IsNextNotWaiting}
use Rattle.replay_model.specs.ClaimTests.{IsIdleBesideWaiting, IsNotLeast}
use Rattle.cfs_model.proofs.KeptOrder.{IsApart}
use Rattle.cfs_model.proofs.StepOrder.{prev_apart}
use Rattle.replay_model.proofs.PartFacts.{stands_as, is_in, stands_at, values_of}
use Rattle.replay_model.proofs.Options.{same_some, no_some, some_no}
use Rattle.replay_model.proofs.Clear.{IsClear}
use Rattle.part_laws.proofs.stepping.PartSwitch.{prev_part, prev_others}
use Rattle.cfs_model.specs.declared.act.Way.{Way}
use Rattle.cfs_model.specs.declared.act.Way.TheVariants.{Stays, Sleeps, Ends}
use Rattle.cfs_model.specs.declared.claim.Claim.{Claim}
use Rattle.cfs_model.specs.declared.task.Place.TheVariants.{Run, Wait}
use Rattle.replay_model.specs.declared.step.Deed.TheVariants.{Switch}

pub not_beyond : (u v : ℤ) → u ≤ℤ v → v <ℤ u → ⊥
not_beyond u v h k = omega (arith, ints)

runner_of : (m : Machine) → IsApart m → (cpu prev : ℕ) → IsCurrent m cpu prev → IsRunner (part_of m cpu) prev
runner_of m a cpu zero h = λ q k. h q (stands_at m Run cpu q k)
runner_of m a cpu (suc n) h = is_in m a Run cpu (suc n) h

-- a task's own nice value is no other
pub own_not_other : (m : Machine) (cpu pid : ℕ) (nice : ℤ) → m.nice pid ≡ Some nice
    → ¬ HasOtherNice (part_of m cpu) pid nice
own_not_other m cpu pid nice e h = h.other
    (same_some (m.nice pid) h.task.nice nice (stands_as m cpu pid h.task h.stands).nice e)

prints_not : (m : Machine) (cpu pid : ℕ) (nice : ℤ) → PrintsOwn m pid nice → ¬ HasOtherPrio (part_of m cpu) pid nice
prints_not m cpu zero nice h k = k
prints_not m cpu (suc n) nice h k = own_not_other m cpu (suc n) nice h k

module _ (m : Machine) (cpu : ℕ) (pn : ℤ) (next : ℕ) (nn : ℤ) where
  not_missing : (prev : ℕ) (way : Way) (claim : Option Claim) → IsPutBack m prev way claim → (pid : ℕ)
      → ¬ IsClaimMissing (part_of m cpu) (Switch prev pn way next nn) claim pid
  not_missing zero way claim h pid k = no_some pid k.0
  not_missing (suc n) Stays None h pid k = h.2
  not_missing (suc n) Stays (Some claim) h pid k = k.1 h.2.0
  not_missing (suc n) Sleeps claim h pid k = no_some pid k.0
  not_missing (suc n) Ends claim h pid k = no_some pid k.0

  not_extra : (prev : ℕ) (way : Way) (claim : Option Claim) → IsPutBack m prev way claim → (pid : ℕ)
      → ¬ IsClaimExtra (part_of m cpu) (Switch prev pn way next nn) claim pid
  not_extra prev way None h pid k = k
  not_extra zero way (Some claim) h pid k = some_no claim h
  not_extra (suc n) Stays (Some claim) h pid k = some_no (suc n) k.0
  not_extra (suc n) Sleeps (Some claim) h pid k = some_no claim h
  not_extra (suc n) Ends (Some claim) h pid k = some_no claim h

  not_other : (prev : ℕ) (way : Way) (claim : Option Claim) → IsPutBack m prev way claim → (pid : ℕ)
      → ¬ IsClaimPid (part_of m cpu) (Switch prev pn way next nn) claim pid
  not_other prev way None h pid k = k
  not_other zero way (Some claim) h pid k = no_some k.0.0 k.0.1
  not_other (suc n) Stays (Some claim) h pid k = k.0.2 (h.2.1 ∙ same_some (Some (suc n)) (suc n) k.0.0 refl k.0.1)
  not_other (suc n) Sleeps (Some claim) h pid k = no_some k.0.0 k.0.1
  not_other (suc n) Ends (Some claim) h pid k = no_some k.0.0 k.0.1

  not_wrong : (prev : ℕ) (way : Way) (claim : Option Claim) → IsPutBack m prev way claim → (pid : ℕ)
      → ¬ IsWrongPutBack (part_of m cpu) (Switch prev pn way next nn) claim pid
  not_wrong zero way claim h pid k = k
  not_wrong (suc n) Stays None h pid k = k
  not_wrong (suc n) Stays (Some claim) h pid k = k.0.2
      (h.2.2 ∙ same_some (m.runtime (suc n)) h.0 k.0.0.runtime h.1 (stands_as m cpu (suc n) k.0.0 k.0.1).runtime)
  not_wrong (suc n) Sleeps claim h pid k = k
  not_wrong (suc n) Ends claim h pid k = k

-- what the pick says, by the machine without its previous task
module _ (granularity : ℕ) (m between : Machine) (a : IsApart between) (cpu prev : ℕ) (pn : ℤ) (way : Way) (nn : ℤ)
    (e : part_of between cpu ≡ part_after_prev (part_of m cpu) prev way) where
  before_next : (next : ℕ) → prev ≢ next → (s : Option Entity) → (part_of m cpu).tasks next ≡ s
      → entity_at between cpu next ≡ s
  before_next next ne s h = ap (λ x. x.tasks next) e ∙ prev_others (part_of m cpu) prev way next (λ f. ne (sym f)) ∙ h

  next_waits : (next : ℕ) → prev ≢ next → IsPick granularity between cpu next → (pid : ℕ)
      → ¬ IsNextNotWaiting (part_of m cpu) (Switch prev pn way next nn) pid
  next_waits zero ne h pid k = k
  next_waits (suc n) ne h pid k =
      let w = values_of between a Wait cpu (suc n) h.2 in
      k.0 (ap (option_map (λ (t : Entity). t.place))
      (sym (before_next (suc n) ne ((part_of m cpu).tasks (suc n)) refl) ∙ w.2) ∙ ap Some w.1)

  nobody_waits : (next : ℕ) → IsPick granularity between cpu next → (pid : ℕ)
      → ¬ IsIdleBesideWaiting (part_of m cpu) (Switch prev pn way next nn) pid
  nobody_waits zero h pid k = h k.0.0 (stands_at between Wait cpu k.0.0 (subst (λ x. IsIn x Wait k.0.0) (sym e) k.0.1))
  nobody_waits (suc n) h pid k = k

  next_least : (next : ℕ) → prev ≢ next → IsPick granularity between cpu next → (pid : ℕ)
      → ¬ IsNotLeast granularity (part_of m cpu) (Switch prev pn way next nn) pid
  next_least zero ne h pid k = k
  next_least (suc n) ne h pid k =
      let s = k.0.0 in let t = k.0.1 in let other = k.0.2 in
      let x = stands_as between cpu (suc n) s (before_next (suc n) ne (Some s) k.0.3) in
      let y = stands_as between cpu other t (ap (λ x. x.tasks other) e ∙ k.0.4) in
      let v : h.0 ≡ s.runtime = same_some (between.runtime (suc n)) h.0 s.runtime h.1 x.runtime in
      not_beyond s.runtime (t.runtime +ℤ pos granularity)
      (subst (λ z. z ≤ℤ (t.runtime +ℤ pos granularity)) v
      (h.3 other t.runtime (subst (λ z. Stands between z cpu other) k.0.5 y.stands) y.runtime)) k.0.6

pub switch_clear : (knobs : KnobsView) (m : Machine) → IsApart m
    → (cpu prev : ℕ) (pn : ℤ) (way : Way) (next : ℕ) (nn : ℤ) (claim : Option Claim) (after : Machine)
    → IsSwitch knobs m cpu prev pn way next nn claim after
    → IsClear knobs cpu (part_of m cpu) (Switch prev pn way next nn) claim
switch_clear knobs m a cpu prev pn way next nn claim after s =
    let between = after_prev m cpu prev way in
    let apart = (prev_apart m cpu prev way a s.current).0 in
    let e = (prev_part m a cpu prev way s.current).0 in
    record {
      home = λ pid h. h;
      self = λ pid h. s.differ h.0;
      prev = λ pid h. h.0 (runner_of m a cpu prev s.current);
      strange = λ pid h. h;
      already = λ pid h. h;
      running = λ pid h. h;
      prio = λ pid h. elim h
          [ inl x ↦ prints_not m cpu prev pn s.prev_prio x.0 | inr x ↦ prints_not m cpu next nn s.next_prio x.1 ];
      missing = not_missing m cpu pn next nn prev way claim s.put_back;
      extra = not_extra m cpu pn next nn prev way claim s.put_back;
      other = not_other m cpu pn next nn prev way claim s.put_back;
      put_back = not_wrong m cpu pn next nn prev way claim s.put_back;
      wake = λ pid h. h;
      fork = λ pid h. h;
      next = next_waits knobs.granularity m between apart cpu prev pn way nn e next s.differ s.pick;
      beside = nobody_waits knobs.granularity m between apart cpu prev pn way nn e next s.pick;
      least = next_least knobs.granularity m between apart cpu prev pn way nn e next s.differ s.pick;
    }

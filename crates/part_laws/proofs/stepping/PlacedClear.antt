-- Where the machine wakes a task or has a birth, the processor's part passes the tests of it.
use Rattle.std.proofs.Common.{◌≡◌, ℕ, Option, Some, None, IsSome, option_map, ℤ, ◌⊎◌, inl, inr, refl, sym, ap}
use Rattle.std.proofs.Common.{◌∙◌, subst, true≢false}
use Rattle.cfs_model.specs.Knobs.{KnobsView}
use Rattle.cfs_model.specs.Machine.{Machine, Stands, IsQueued}
use Rattle.cfs_model.specs.Claimed.{ClaimSays}
use Rattle.cfs_model.specs.Step.{IsWakeQueued, IsWakeResting, IsBirth}
use Rattle.replay_model.specs.Part.{Part, Entity, part_of, entity_at, IsIn}
use Rattle.replay_model.specs.ClaimTests.{if_resting, claimant, HasClaim, IsClaimMissing, IsClaimExtra, IsClaimPid}
use Rattle.replay_model.specs.ClaimTests.{IsInWakeBounds, IsWakeOutside, IsInForkBounds, IsForkOutside}
use Rattle.cfs_model.proofs.KeptOrder.{IsApart}
use Rattle.replay_model.proofs.PartFacts.{stands_as, is_in}
use Rattle.replay_model.proofs.Options.{same_some, no_some, some_no}
use Rattle.replay_model.proofs.Clear.{IsClear}
use Rattle.part_laws.proofs.stepping.SwitchClear.{own_not_other}
use Rattle.cfs_model.specs.declared.claim.Claim.{Claim}
use Rattle.cfs_model.specs.declared.claim.ClaimSort.TheVariants.{At}
use Rattle.cfs_model.specs.declared.task.Place.{Place}
use Rattle.cfs_model.specs.declared.task.Place.TheVariants.{Run, Wait, Rest}
use Rattle.replay_model.specs.declared.step.Deed.{Deed}
use Rattle.replay_model.specs.declared.step.Deed.TheVariants.{Wake, Born}
use Rattle.cfs_model.specs.declared.policy.Policy.{Policy}

-- a deed whose claim says what is needed has it, of the right pid, and not too much
pub said_missing : (part : Part) (deed : Deed) (claim : Option Claim) (task : ℕ) (v : ℤ) → ClaimSays claim At task v
    → ((c : Claim) → c.sort ≡ At → HasClaim deed (Some c)) → (pid : ℕ) → ¬ IsClaimMissing part deed claim pid
said_missing part deed None task v h has_tally pid k = h
said_missing part deed (Some claim) task v h has_tally pid k = k.1 (has_tally claim h.0)

pub said_pid : (part : Part) (deed : Deed) (claim : Option Claim) (task : ℕ) (v : ℤ) → ClaimSays claim At task v
    → claimant part deed ≡ Some task → (pid : ℕ) → ¬ IsClaimPid part deed claim pid
said_pid part deed None task v h e pid k = h
said_pid part deed (Some claim) task v h e pid k = k.0.2 (h.1 ∙ same_some (claimant part deed) task k.0.0 e k.0.1)

no_extra_wake : (part : Part) (task : ℕ) (nice : ℤ) (claim : Option Claim) → claimant part (Wake task nice) ≡ Some task
    → (pid : ℕ) → ¬ IsClaimExtra part (Wake task nice) claim pid
no_extra_wake part task nice None e pid k = k
no_extra_wake part task nice (Some claim) e pid k = some_no task (sym e ∙ k.0)

no_extra_born : (part : Part) (task : ℕ) (nice : ℤ) (policy : Policy) (claim : Option Claim) (pid : ℕ)
    → ¬ IsClaimExtra part (Born task nice policy) claim pid
no_extra_born part task nice policy None pid k = k
no_extra_born part task nice policy (Some claim) pid k = some_no task k.0

queued_place : (m : Machine) → IsApart m → (cpu pid : ℕ) → IsQueued m cpu pid
    → (place : Place) × (if_resting pid (Some place) ≡ None) × IsIn (part_of m cpu) place pid
queued_place m a cpu pid (inl h) = (Run, refl, is_in m a Run cpu pid h)
queued_place m a cpu pid (inr h) = (Wait, refl, is_in m a Wait cpu pid h)

pub not_strange : (m : Machine) (place : Place) (cpu pid : ℕ) → IsIn (part_of m cpu) place pid
    → entity_at m cpu pid ≡ None → ⊥
not_strange m place cpu pid h e = no_some place (sym (ap (option_map (λ (t : Entity). t.place)) e) ∙ h)

queued_clear : (knobs : KnobsView) (m : Machine) → IsApart m → (cpu pid : ℕ) (nice : ℤ) (after : Machine)
    → IsWakeQueued m cpu pid nice None after → IsClear knobs cpu (part_of m cpu) (Wake pid nice) None
queued_clear knobs m a cpu pid nice after s =
    let w = queued_place m a cpu pid s.queued in
    let needs : claimant (part_of m cpu) (Wake pid nice) ≡ None = ap (if_resting pid) w.2 ∙ w.1 in
    record {
      home = λ q h. h;
      self = λ q h. h;
      prev = λ q h. h;
      strange = λ q h. not_strange m w.0 cpu pid w.2 h.0;
      already = λ q h. h;
      running = λ q h. h;
      prio = λ q h. own_not_other m cpu pid nice s.prio h.0;
      missing = λ q h. no_some q (sym needs ∙ h.0);
      extra = λ q h. h;
      other = λ q h. h;
      put_back = λ q h. h;
      wake = λ q h. h;
      fork = λ q h. h;
      next = λ q h. h;
      beside = λ q h. h;
      least = λ q h. h;
    }

resting_wake : (knobs : KnobsView) (m : Machine) → IsApart m
    → (cpu pid : ℕ) (nice : ℤ) (claim : Option Claim) (after : Machine) → IsWakeResting knobs m cpu pid nice claim after
    → (q : ℕ) → ¬ IsWakeOutside knobs.credit (part_of m cpu) (Wake pid nice) claim q
resting_wake knobs m a cpu pid nice None after s q k = k
resting_wake knobs m a cpu pid nice (Some claim) after s q k =
    let own : s.own ≡ k.0.0.runtime = same_some (m.runtime pid) s.own k.0.0.runtime s.runtime
    (stands_as m cpu pid k.0.0 k.0.1).runtime in
    k.0.3 (subst (λ x. IsInWakeBounds knobs.credit (m.floor cpu) x claim.v) own
    (subst (λ x. IsInWakeBounds knobs.credit (m.floor cpu) s.own x) (sym s.claimed.2) (s.from, s.to)))

resting_clear : (knobs : KnobsView) (m : Machine) → IsApart m
    → (cpu pid : ℕ) (nice : ℤ) (claim : Option Claim) (after : Machine) → IsWakeResting knobs m cpu pid nice claim after
    → IsClear knobs cpu (part_of m cpu) (Wake pid nice) claim
resting_clear knobs m a cpu pid nice claim after s =
    let here = is_in m a Rest cpu pid s.rests in
    let needs : claimant (part_of m cpu) (Wake pid nice) ≡ Some pid = ap (if_resting pid) here in
    record {
      home = λ q h. h;
      self = λ q h. h;
      prev = λ q h. h;
      strange = λ q h. not_strange m Rest cpu pid here h.0;
      already = λ q h. h;
      running = λ q h. h;
      prio = λ q h. own_not_other m cpu pid nice s.prio h.0;
      missing = said_missing (part_of m cpu) (Wake pid nice) claim pid s.placed s.claimed (λ c h. h);
      extra = no_extra_wake (part_of m cpu) pid nice claim needs;
      other = said_pid (part_of m cpu) (Wake pid nice) claim pid s.placed s.claimed needs;
      put_back = λ q h. h;
      wake = resting_wake knobs m a cpu pid nice claim after s;
      fork = λ q h. h;
      next = λ q h. h;
      beside = λ q h. h;
      least = λ q h. h;
    }

pub wake_clear : (knobs : KnobsView) (m : Machine) → IsApart m
    → (cpu pid : ℕ) (nice : ℤ) (claim : Option Claim) (after : Machine)
    → IsWakeQueued m cpu pid nice claim after ⊎ IsWakeResting knobs m cpu pid nice claim after
    → IsClear knobs cpu (part_of m cpu) (Wake pid nice) claim
wake_clear knobs m a cpu pid nice claim after (inl s) =
    subst (λ x. IsClear knobs cpu (part_of m cpu) (Wake pid nice) x) (sym s.no_claim)
    (queued_clear knobs m a cpu pid nice after
    (record { queued = s.queued; prio = s.prio; no_claim = refl; result = s.result }))
wake_clear knobs m a cpu pid nice claim after (inr s) = resting_clear knobs m a cpu pid nice claim after s

birth_fork : (knobs : KnobsView) (m : Machine) (cpu pid : ℕ) (nice : ℤ) (claim : Option Claim) (policy : Policy)
    (after : Machine) → IsBirth knobs m cpu pid nice claim policy after
    → (q : ℕ) → ¬ IsForkOutside knobs.debit (part_of m cpu) (Born pid nice policy) claim q
birth_fork knobs m cpu pid nice None policy after s q k = k
birth_fork knobs m cpu pid nice (Some claim) policy after s q k =
    k.0 (subst (λ x. IsInForkBounds knobs.debit (m.floor cpu) x) (sym s.claimed.2) (s.from, s.to))

pub nowhere_none : (m : Machine) (cpu pid : ℕ) → ((place : Place) → ¬ Stands m place cpu pid)
    → IsSome (entity_at m cpu pid) → ⊥
nowhere_none m cpu pid h k = go (entity_at m cpu pid) refl k
  where
    go : (o : Option Entity) → entity_at m cpu pid ≡ o → IsSome o → ⊥
    go None e k = true≢false (sym k)
    go (Some s) e k = h s.place (stands_as m cpu pid s e).stands

pub birth_clear : (knobs : KnobsView) (m : Machine) (cpu pid : ℕ) (nice : ℤ) (claim : Option Claim) (policy : Policy)
    (after : Machine) → IsBirth knobs m cpu pid nice claim policy after
    → IsClear knobs cpu (part_of m cpu) (Born pid nice policy) claim
birth_clear knobs m cpu pid nice claim policy after s = record {
  home = λ q h. h;
  self = λ q h. h;
  prev = λ q h. h;
  strange = λ q h. h;
  already = λ q h. nowhere_none m cpu pid (λ place. s.nowhere place cpu) h.0;
  running = λ q h. h;
  prio = λ q h. h;
  missing = said_missing (part_of m cpu) (Born pid nice policy) claim pid s.placed s.claimed (λ c h. h);
  extra = no_extra_born (part_of m cpu) pid nice policy claim;
  other = said_pid (part_of m cpu) (Born pid nice policy) claim pid s.placed s.claimed refl;
  put_back = λ q h. h;
  wake = λ q h. h;
  fork = birth_fork knobs m cpu pid nice claim policy after s;
  next = λ q h. h;
  beside = λ q h. h;
  least = λ q h. h;
}

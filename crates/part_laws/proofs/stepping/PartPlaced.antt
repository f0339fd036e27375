-- A wakeup and a birth: the machine has one just where the processor's part passes the tests (and a pid that is born
-- stands nowhere), and then the part changes so.
use Rattle.std.proofs.Common.{◌≡◌, ◌≢◌, ℕ, Option, Some, None, option_map, ℤ, pos, ◌+ℤ◌, ◌-ℤ◌, ◌≤ℤ◌, ◌<ℤ◌, ◌⊎◌}
use Rattle.std.proofs.Common.{inl, inr, refl, sym, ap, ◌∙◌, subst, arith}
use Rattle.std.proofs.lemmas.Int.{ints, by_lt_z}
use Rattle.std.specs.Int.{int_max}
use Rattle.cfs_model.specs.Knobs.{KnobsView}
use Rattle.cfs_model.specs.Machine.{Machine, Stands, with_move, with_runtime, with_nice, with_task, with_policy}
use Rattle.cfs_model.specs.Machine.{with_drift}
use Rattle.cfs_model.specs.Claimed.{ClaimSays}
use Rattle.cfs_model.specs.Step.{IsWakeQueued, IsWakeResting, IsBirth}
use Rattle.replay_model.specs.Part.{Part, Entity, part_of, entity_at, place_in}
use Rattle.replay_model.specs.AfterDeed.{after_deed, woken, wakes}
use Rattle.replay_model.specs.Deeds.{with_entity}
use Rattle.replay_model.specs.ClaimTests.{if_resting}
use Rattle.cfs_model.proofs.KeptOrder.{IsApart, same_sets}
use Rattle.cfs_model.proofs.Moves.{put-same, put-other, same_or_not, move_placed, join_placed}
use Rattle.cfs_model.proofs.StepOrder.{alone, placed_same}
use Rattle.replay_model.proofs.PartFacts.{same_part, stands_as, is_stander}
use Rattle.replay_model.proofs.Clear.{IsClear, is_at}
use Rattle.part_laws.proofs.stepping.PartMoves.{KeepsRest, put_tasks, placed_part, placed_away, none_there, elsewhere}
use Rattle.part_laws.proofs.stepping.PartSwitch.{own_nice}
use Rattle.cfs_model.specs.declared.claim.Claim.{Claim}
use Rattle.cfs_model.specs.declared.claim.ClaimSort.TheVariants.{At}
use Rattle.cfs_model.specs.declared.task.Place.{Place}
use Rattle.cfs_model.specs.declared.task.Place.TheVariants.{Run, Wait, Rest}
use Rattle.replay_model.specs.declared.step.Deed.TheVariants.{Wake, Born}
use Rattle.cfs_model.specs.declared.policy.Policy.{Policy}

-- a wakeup without a claim changes nothing
wakes_none : (p : Part) (pid : ℕ) → wakes p pid None ≡ p
wakes_none p pid =
    sym (same_part p (wakes p pid None)
    (put_tasks p.tasks p.tasks pid (option_map (λ s. woken None s.place s) (p.tasks pid)) (go (p.tasks pid))
    (λ q ne. refl)) refl refl)
  where
    go : (o : Option Entity) → o ≡ option_map (λ s. woken None s.place s) o
    go None = refl
    go (Some s) = refl

-- the claimed place of a woken task
woken_to : (claim : Option Claim) (pid : ℕ) (nice : ℤ) (policy : Policy) (own placed drift : ℤ)
    → ClaimSays claim At pid placed
    → option_map (λ s. woken claim s.place s)
    (Some (record { place = Rest; nice = nice; policy = policy; runtime = own; drift = drift }))
    ≡ Some (record { place = Wait; nice = nice; policy = policy; runtime = placed; drift = drift })
woken_to None pid nice policy own placed drift h = absurd h
woken_to (Some claim) pid nice policy own placed drift h =
    ap (λ v. Some (record { place = Wait; nice = nice; policy = policy; runtime = v; drift = drift })) h.2

born_to : (claim : Option Claim) (pid : ℕ) (nice : ℤ) (policy : Policy) (placed : ℤ) → ClaimSays claim At pid placed
    → option_map (λ (c : Claim). let s : Entity = record
    { place = Wait; nice = nice; policy = policy; runtime = c.v; drift = pos 0 } in s) claim
    ≡ Some (record { place = Wait; nice = nice; policy = policy; runtime = placed; drift = pos 0 })
born_to None pid nice policy placed h = absurd h
born_to (Some claim) pid nice policy placed h =
    ap (λ v. Some (record { place = Wait; nice = nice; policy = policy; runtime = v; drift = pos 0 })) h.2

-- a wakeup of the machine is one of the part, and other parts stay
pub wake_part : (knobs : KnobsView) (m : Machine) → IsApart m
    → (cpu pid : ℕ) (nice : ℤ) (claim : Option Claim) (after : Machine)
    → IsWakeQueued m cpu pid nice claim after ⊎ IsWakeResting knobs m cpu pid nice claim after
    → (part_of after cpu ≡ after_deed (part_of m cpu) (Wake pid nice) claim)
    × ((d : ℕ) → d ≢ cpu → part_of after d ≡ part_of m d)
wake_part knobs m a cpu pid nice claim after (inl s) = (
  ap (λ x. part_of x cpu) s.result ∙ sym (wakes_none (part_of m cpu) pid)
      ∙ ap (wakes (part_of m cpu) pid) (sym s.no_claim),
  (λ d ne. ap (λ x. part_of x d) s.result),
)
wake_part knobs m a cpu pid nice claim after (inr s) =
    let moved = with_move m pid Rest cpu Wait cpu in
    let next = with_runtime moved pid s.placed in
    let p = placed_same m moved next pid Wait cpu (same_sets moved next refl refl refl)
    (move_placed m pid Rest cpu Wait cpu (alone m a Rest cpu pid s.rests)) in
    let keeps : KeepsRest m next pid = record {
      runtimes = put-other m.runtime pid (Some s.placed);
      nices = λ q _. refl;
      policies = λ q _. refl;
      drifts = λ q _. refl;
      floors = refl;
      marks = refl;
    } in (
      ap (λ x. part_of x cpu) s.result
          ∙ placed_part m next pid Wait cpu nice (m.policy pid) s.placed (m.drift pid) p keeps s.prio refl
          (put-same m.runtime pid (Some s.placed)) refl
          ∙ ap (with_entity (part_of m cpu) pid)
          (sym (ap (option_map (λ (t : Entity). woken claim t.place t))
          (is_stander m a Rest cpu pid nice s.own s.rests s.prio s.runtime)
          ∙ woken_to claim pid nice (m.policy pid) s.own s.placed (m.drift pid) s.claimed)),
      (λ d ne. ap (λ x. part_of x d) s.result ∙ placed_away m next pid Wait cpu p keeps d ne
          ∙ none_there m d pid (elsewhere m a Rest cpu pid s.rests d ne)),
    )

-- a birth of the machine is one of the part, and other parts stay
pub birth_part : (knobs : KnobsView) (m : Machine) (cpu pid : ℕ) (nice : ℤ) (claim : Option Claim) (policy : Policy)
    (after : Machine) → IsBirth knobs m cpu pid nice claim policy after
    → (part_of after cpu ≡ after_deed (part_of m cpu) (Born pid nice policy) claim)
    × ((d : ℕ) → d ≢ cpu → part_of after d ≡ part_of m d)
birth_part knobs m cpu pid nice claim policy after s =
    let joined = with_task m Wait cpu pid in
    let next = with_drift (with_policy (with_nice (with_runtime joined pid s.placed) pid nice) pid policy) pid (pos
    0) in
    let p = placed_same m joined next pid Wait cpu (same_sets joined next refl refl refl)
    (join_placed m pid Wait cpu s.nowhere) in
    let keeps : KeepsRest m next pid = record {
      runtimes = put-other m.runtime pid (Some s.placed);
      nices = put-other m.nice pid (Some nice);
      policies = put-other m.policy pid policy;
      drifts = put-other m.drift pid (pos 0);
      floors = refl;
      marks = refl;
    } in (
      ap (λ x. part_of x cpu) s.result
          ∙ placed_part m next pid Wait cpu nice policy s.placed (pos 0) p keeps (put-same m.nice pid (Some nice))
          (put-same m.policy pid policy) (put-same m.runtime pid (Some s.placed)) (put-same m.drift pid (pos 0))
          ∙ ap (with_entity (part_of m cpu) pid) (sym (born_to claim pid nice policy s.placed s.claimed)),
      (λ d ne. ap (λ x. part_of x d) s.result ∙ placed_away m next pid Wait cpu p keeps d ne
          ∙ none_there m d pid (λ r. s.nowhere r d)),
    )

not_above : (u v : ℤ) → (v <ℤ u → ⊥) → u ≤ℤ v
not_above u v h = by_lt_z v u (λ k. absurd (h k)) (λ k. k)

below_not : (u v : ℤ) → u ≤ℤ v → v <ℤ u → ⊥
below_not u v h k = omega (arith, ints)

-- what isn't outside of bounds is within them
bounds_of : (low high v : ℤ) → ((¬ ((low ≤ℤ v) × (v ≤ℤ high))) → ⊥) → (low ≤ℤ v) × (v ≤ℤ high)
bounds_of low high v h =
    (not_above low v (λ k. h (λ b. below_not low v b.0 k)), not_above v high (λ k. h (λ b. below_not v high b.1 k)))

-- a wakeup of one who runs or waits
queued_exists : (knobs : KnobsView) (m : Machine) → IsApart m
    → (cpu pid : ℕ) (nice : ℤ) (claim : Option Claim) (s : Entity) → entity_at m cpu pid ≡ Some s
    → if_resting pid (Some s.place) ≡ None → Stands m Run cpu pid ⊎ Stands m Wait cpu pid
    → IsClear knobs cpu (part_of m cpu) (Wake pid nice) claim → IsWakeQueued m cpu pid nice claim m
queued_exists knobs m a cpu pid nice None s e f q c =
    record {
      queued = q;
      prio = own_nice m a s.place cpu pid nice (stands_as m cpu pid s e).stands
          (λ h. c.prio pid (h, refl));
      no_claim = refl;
      result = refl;
    }
queued_exists knobs m a cpu pid nice (Some claim) s e f q c =
    absurd (c.extra claim.pid (ap (λ o. if_resting pid (option_map (λ (t : Entity). t.place) o)) e ∙ f, refl))

-- a wakeup of one who rests
resting_exists : (knobs : KnobsView) (m : Machine) → IsApart m
    → (cpu pid : ℕ) (nice : ℤ) (claim : Option Claim) (s : Entity) → entity_at m cpu pid ≡ Some s → s.place ≡ Rest
    → IsClear knobs cpu (part_of m cpu) (Wake pid nice) claim
    → (after : Machine) × IsWakeResting knobs m cpu pid nice claim after
resting_exists knobs m a cpu pid nice None s e f c =
    absurd (c.missing pid (
      ap (λ o. if_resting pid (option_map (λ (t : Entity). t.place) o)) e
          ∙ ap (λ x. if_resting pid (Some x)) f,
      (λ x. x),
    ))
resting_exists knobs m a cpu pid nice (Some claim) s e f c =
    let needs : if_resting pid (place_in (part_of m cpu) pid) ≡ Some pid = ap
    (λ o. if_resting pid (option_map (λ (t : Entity). t.place) o)) e ∙ ap (λ x. if_resting pid (Some x)) f in
    let k = stands_as m cpu pid s e in
    let sort : claim.sort ≡ At = is_at claim.sort (λ ne. c.missing pid (needs, ne)) in
    let who : claim.pid ≡ pid = elim
    (same_or_not claim.pid pid) [ inl e ↦ e | inr ne ↦ absurd (c.other claim.pid ((pid, needs, ne), refl)) ] in
    let b = bounds_of (int_max s.runtime (m.floor cpu -ℤ pos knobs.credit)) (int_max s.runtime (m.floor cpu)) claim.v
    (λ h. c.wake pid ((s, e, f, h), refl)) in (
      with_runtime (with_move m pid Rest cpu Wait cpu) pid claim.v,
      record {
        rests = subst (λ x. Stands m x cpu pid) f k.stands;
        prio = own_nice m a s.place cpu pid nice k.stands (λ h. c.prio pid (h, refl));
        own = s.runtime;
        runtime = k.runtime;
        placed = claim.v;
        claimed = (sort, who, refl);
        from = b.0;
        to = b.1;
        result = refl;
      },
    )

-- a part that passes the tests of a wakeup lets the machine wake the task
pub wake_exists : (knobs : KnobsView) (m : Machine) → IsApart m → (cpu pid : ℕ) (nice : ℤ) (claim : Option Claim)
    → IsClear knobs cpu (part_of m cpu) (Wake pid nice) claim
    → (after : Machine) × (IsWakeQueued m cpu pid nice claim after ⊎ IsWakeResting knobs m cpu pid nice claim after)
wake_exists knobs m a cpu pid nice claim c = go (entity_at m cpu pid) refl
  where
    at : (s : Entity) → entity_at m cpu pid ≡ Some s → (place : Place) → s.place ≡ place
        → (after : Machine) × (IsWakeQueued m cpu pid nice claim after ⊎ IsWakeResting knobs m cpu pid nice claim after)
    at s e Run f = (
      m,
      inl
          (queued_exists knobs m a cpu pid nice claim s e (ap (λ x. if_resting pid (Some x)) f)
          (inl (subst (λ x. Stands m x cpu pid) f (stands_as m cpu pid s e).stands)) c),
    )
    at s e Wait f = (
      m,
      inl
          (queued_exists knobs m a cpu pid nice claim s e (ap (λ x. if_resting pid (Some x)) f)
          (inr (subst (λ x. Stands m x cpu pid) f (stands_as m cpu pid s e).stands)) c),
    )
    at s e Rest f = let w = resting_exists knobs m a cpu pid nice claim s e f c in (w.0, inr w.1)

    go : (o : Option Entity) → entity_at m cpu pid ≡ o
        → (after : Machine) × (IsWakeQueued m cpu pid nice claim after ⊎ IsWakeResting knobs m cpu pid nice claim after)
    go None e = absurd (c.strange pid (e, refl))
    go (Some s) e = at s e s.place refl

-- a part that passes the tests of a birth lets the machine have it, where the pid stands nowhere
pub birth_exists : (knobs : KnobsView) (m : Machine) (cpu pid : ℕ) (nice : ℤ) (claim : Option Claim) (policy : Policy)
    → IsClear knobs cpu (part_of m cpu) (Born pid nice policy) claim
    → ((place : Place) (other : ℕ) → ¬ Stands m place other pid)
    → (after : Machine) × IsBirth knobs m cpu pid nice claim policy after
birth_exists knobs m cpu pid nice None policy c nowhere = absurd (c.missing pid (refl, (λ x. x)))
birth_exists knobs m cpu pid nice (Some claim) policy c nowhere =
    let sort : claim.sort ≡ At = is_at claim.sort (λ ne. c.missing pid (refl, ne)) in
    let who : claim.pid ≡ pid = elim
    (same_or_not claim.pid pid) [ inl e ↦ e | inr ne ↦ absurd (c.other claim.pid ((pid, refl, ne), refl)) ] in
    let b = bounds_of (m.floor cpu) (m.floor cpu +ℤ pos knobs.debit) claim.v (λ h. c.fork pid (h, refl)) in (
      with_drift (with_policy (with_nice (with_runtime (with_task m Wait cpu pid) pid claim.v) pid nice) pid policy) pid
          (pos 0),
      record { nowhere = nowhere; placed = claim.v; claimed = (sort, who, refl); from = b.0; to = b.1; result = refl },
    )

-- A step that passes the tests leaves at most one task running.
use Rattle.std.proofs.Common.{◌≡◌, ◌≢◌, ℕ, zero, suc, Option, Some, None, option_map, ℤ, pos, ◌⊎◌, inl, inr, refl}
use Rattle.std.proofs.Common.{sym}
use Rattle.std.proofs.Common.{ap, ◌∙◌, subst}
use Rattle.cfs_model.specs.Knobs.{KnobsView}
use Rattle.replay_model.specs.Part.{Part, Entity, place_in, IsIn, NobodyIn}
use Rattle.replay_model.specs.PartWords.{OneRunsIn}
use Rattle.replay_model.specs.Found.{IsFound}
use Rattle.replay_model.specs.Deeds.{with_entity, goes, part_after_prev, place_of_sort}
use Rattle.replay_model.specs.AfterDeed.{part_after_next, woken, after_deed}
use Rattle.replay_model.specs.QueueTests.{IsRunner}
use Rattle.cfs_model.proofs.Moves.{put-same, put-other, same_or_not}
use Rattle.replay_model.proofs.Clear.{IsClear, place_or}
use Rattle.replay_model.proofs.Options.{no_some}
use Rattle.replay_model.proofs.PartFacts.{place_lifted}
use Rattle.part_laws.proofs.stepping.PartRenice.{reniced_in}
use Rattle.cfs_model.specs.declared.act.Way.{Way}
use Rattle.cfs_model.specs.declared.act.Way.TheVariants.{Stays, Sleeps, Ends}
use Rattle.cfs_model.specs.declared.claim.Claim.{Claim}
use Rattle.cfs_model.specs.declared.claim.ClaimSort.{ClaimSort}
use Rattle.cfs_model.specs.declared.claim.ClaimSort.TheVariants.{At, Pass}
use Rattle.cfs_model.specs.declared.task.Place.{Place}
use Rattle.cfs_model.specs.declared.task.Place.TheVariants.{Run, Wait, Rest}
use Rattle.replay_model.specs.declared.step.Deed.{Deed}
use Rattle.replay_model.specs.declared.step.Deed.TheVariants.{Switch, Wake, Born, Leave, Arrive}
use Rattle.replay_model.specs.declared.step.Step.{Step}
use Rattle.cfs_model.specs.declared.policy.Policy.{Policy}

abbrev place_of : Option Entity → Option Place
place_of o = option_map (λ (s : Entity). s.place) o

-- who runs after a change at one pid
changed_in : (l : Part) (pid : ℕ) (o : Option Entity) (p : ℕ) → IsIn (with_entity l pid o) Run p
    → ((p ≡ pid) × (place_of o ≡ Some Run)) ⊎ ((p ≢ pid) × IsIn l Run p)
changed_in l pid o p h = elim (same_or_not p pid) [
  | inl e ↦ inl (e, ap place_of (sym (ap (λ q. (with_entity l pid o).tasks q) e ∙ put-same l.tasks pid o)) ∙ h)
  | inr ne ↦ inr (ne, ap place_of (sym (put-other l.tasks pid o p ne)) ∙ h)
]

-- a change that lets nobody else run
none_more : (l : Part) → OneRunsIn l → (pid : ℕ) (o : Option Entity) → (place_of o ≡ Some Run → IsIn l Run pid)
    → OneRunsIn (with_entity l pid o)
none_more l one pid o h p q a b = one p q (go p a) (go q b)
  where
    go : (p : ℕ) → IsIn (with_entity l pid o) Run p → IsIn l Run p
    go p a = elim (changed_in l pid o p a) [ inl x ↦ subst (IsIn l Run) (sym x.0) (h x.1) | inr x ↦ x.1 ]

not_run : (place : Place) → place ≢ Run → (o : Option Entity)
    → place_of (option_map (λ (s : Entity). record s { place = place }) o) ≡ Some Run → ⊥
not_run place ne None h = no_some Run h
not_run place ne (Some s) h = ne cc

-- a change that lets nobody run
nobody_left : (l : Part) → OneRunsIn l → (pid : ℕ) → IsIn l Run pid → (o : Option Entity) → (place_of o ≡ Some Run → ⊥)
    → NobodyIn (with_entity l pid o) Run
nobody_left l one pid h o none p a = elim (changed_in l pid o p a) [ inl x ↦ none x.1 | inr x ↦ x.0 (one p pid x.1 h) ]

prev_nobody : (l : Part) → OneRunsIn l → (prev : ℕ) (way : Way) → IsRunner l prev
    → NobodyIn (part_after_prev l prev way) Run
prev_nobody l one zero way h = h
prev_nobody l one (suc n) Stays h = nobody_left l one (suc n) h
    (option_map (λ (s : Entity). record s { place = Wait }) (l.tasks (suc n)))
    (not_run Wait (λ e. cc) (l.tasks (suc n)))
prev_nobody l one (suc n) Sleeps h = nobody_left l one (suc n) h
    (option_map (λ (s : Entity). record s { place = Rest }) (l.tasks (suc n)))
    (not_run Rest (λ e. cc) (l.tasks (suc n)))
prev_nobody l one (suc n) Ends h = nobody_left l one (suc n) h None (λ e. no_some Run e)

next_one_runs : (l : Part) → NobodyIn l Run → (next : ℕ) → OneRunsIn (part_after_next l next)
next_one_runs l nobody zero p q a b = absurd (nobody p a)
next_one_runs l nobody (suc n) p q a b = go p a ∙ sym (go q b)
  where
    go : (p : ℕ) → IsIn (goes l (suc n) Run) Run p → p ≡ suc n
    go p a = elim (changed_in l (suc n) (option_map (λ (s : Entity). record s { place = Run }) (l.tasks (suc n))) p a)
        [ inl x ↦ x.0 | inr x ↦ absurd (nobody p x.1) ]

runner_is : (l : Part) (prev : ℕ) → ((¬ IsRunner l prev) → ⊥) → IsRunner l prev
runner_is l zero h = λ p k. h (λ r. r p k)
runner_is l (suc n) h = elim (place_or (place_in l (suc n)) Run) [ inl e ↦ e | inr ne ↦ absurd (h ne) ]

woken_run : (claim : Option Claim) (s : Entity) (place : Place) → s.place ≡ place → (woken claim place s).place ≡ Run
    → s.place ≡ Run
woken_run None s place e h = h
woken_run (Some claim) s Run e h = h
woken_run (Some claim) s Wait e h = h
woken_run (Some claim) s Rest e h = absurd cc

wake_run : (claim : Option Claim) (o : Option Entity) → place_of (option_map (λ s. woken claim s.place s) o) ≡ Some Run
    → place_of o ≡ Some Run
wake_run claim None h = h
wake_run claim (Some s) h = ap Some (woken_run claim s s.place refl cc)

born_run : (nice : ℤ) (policy : Policy) (claim : Option Claim)
    → place_of (option_map
    (λ (c : Claim). let s : Entity = record { place = Wait; nice = nice; policy = policy; runtime = c.v; drift = pos 0 }
    in s) claim)
    ≡ Some Run → ⊥
born_run nice policy None h = no_some Run h
born_run nice policy (Some claim) h = cc

come_run : (nice : ℤ) (policy : Policy) (claim : Option Claim)
    → place_of (option_map
    (λ (c : Claim). let s : Entity = record
    { place = place_of_sort c.sort; nice = nice; policy = policy; runtime = c.v; drift = pos 0 } in s) claim)
    ≡ Some Run → ⊥
come_run nice policy None h = no_some Run h
come_run nice policy (Some claim) h = go claim.sort h
  where
    go : (sort : ClaimSort) → Some (place_of_sort sort) ≡ Some Run → ⊥
    go At h = cc
    go Pass h = cc

deed_one_runs : (knobs : KnobsView) (cpu : ℕ) (l : Part) (deed : Deed) (claim : Option Claim) → OneRunsIn l
    → IsClear knobs cpu l deed claim → OneRunsIn (after_deed l deed claim)
deed_one_runs knobs cpu l (Switch prev pn way next nn) claim one c =
    next_one_runs (part_after_prev l prev way)
    (prev_nobody l one prev way (runner_is l prev (λ h. c.prev prev (h, refl)))) next
deed_one_runs knobs cpu l (Wake pid nice) claim one c =
    none_more l one pid (option_map (λ s. woken claim s.place s) (l.tasks pid)) (wake_run claim (l.tasks pid))
deed_one_runs knobs cpu l (Born pid nice policy) claim one c = none_more l one pid _
    (λ h. absurd (born_run nice policy claim h))
deed_one_runs knobs cpu l (Leave pid nice dest) claim one c = none_more l one pid None (λ h. no_some Run h)
deed_one_runs knobs cpu l (Arrive pid nice orig policy) claim one c = none_more l one pid _
    (λ h. absurd (come_run nice policy claim h))

-- nor does a change of a nice value
place_in_found : (step : Step) (part found : Part) → IsFound step part found → (pid : ℕ)
    → place_in found pid ≡ place_in part pid
place_in_found step part found f pid =
    ap (λ (x : Part). place_in x pid) f.is_reniced ∙ reniced_in step.nice f.lifted pid
    ∙ place_lifted step.time step.charge part f.lifted f.is_lifted pid

-- after a step that passes
pub step_one_runs : (knobs : KnobsView) (cpu : ℕ) (part found : Part) (step : Step)
    → OneRunsIn part → IsFound step part found → IsClear knobs cpu found step.deed step.claim
    → OneRunsIn (after_deed found step.deed step.claim)
step_one_runs knobs cpu part found step one f c =
    deed_one_runs knobs cpu found step.deed step.claim
    (λ p q a b. one p q (sym (place_in_found step part found f p) ∙ a) (sym (place_in_found step part found f q) ∙ b)) c

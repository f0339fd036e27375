-- What a deed can rely on, once its tests have passed, and the tests of a switch's pick.
use Rattle.std.proofs.Common.{◌≡◌, ◌≢◌, ℕ, zero, suc, IsSome, Option, Some, None, is_some, option_map, ℤ, refl}
use Rattle.std.proofs.Common.{sym, ap, subst}
use Rattle.replay_model.specs.Deeds.{part_after_prev}
use Rattle.replay_model.specs.AfterDeed.{woken, wakes}
use Rattle.replay_model.specs.Part.{Part, Entity}
use Rattle.replay_model.specs.ClaimTests.{IsClaimMissing}
use Rattle.replay_model.specs.QueueTests.{IsPrevNotRunning, IsRunner}
use Rattle.cfs_model.specs.declared.act.Way.{Way}
use Rattle.cfs_model.specs.declared.act.Way.TheVariants.{Stays, Sleeps, Ends}
use Rattle.cfs_model.specs.declared.claim.Claim.{Claim}
use Rattle.replay_model.specs.declared.page.StepFault.{StepFault}
use Rattle.replay_model.specs.declared.step.Deed.TheVariants.{Switch, Arrive}
use Rattle.cfs_model.specs.declared.task.Place.{Place}
use Rattle.cfs_model.specs.declared.task.Place.TheVariants.{Run, Wait, Rest}
use Rattle.cfs_model.specs.Knobs.{KnobsView}
use Rattle.queue_replay.specs.FirstTest.{IsFirst}
use Rattle.queue_replay.specs.Rows.{IsUnclaimed, moved_tests, pick_tests}
use Rattle.cfs_model.proofs.Moves.{put-other}
use Rattle.runqueue.proofs.Parts.{written_over}
use Rattle.cfs_model.specs.declared.policy.Policy.{Policy}

-- a wakeup without a claim
pub unwoken : (part : Part) (pid : ℕ) → wakes part pid None ≡ part
unwoken part pid =
    sym (written_over part pid (option_map (λ s. woken None s.place s) (part.tasks pid)) (go (part.tasks pid)))
  where
    stays : (p : Place) (s : Entity) → woken None p s ≡ s
    stays Run s = refl
    stays Wait s = refl
    stays Rest s = refl

    go : (o : Option Entity) → option_map (λ s. woken None s.place s) o ≡ o
    go None = refl
    go (Some s) = ap Some (stays s.place s)

-- a pid that doesn't stand here already
pub is_apart : (part : Part) (pid : ℕ) → ((p : ℕ) → ¬ (IsSome (part.tasks pid) × (p ≡ pid))) → part.tasks pid ≡ None
is_apart part pid none = go (part.tasks pid) refl
  where
    go : (o : Option Entity) → part.tasks pid ≡ o → part.tasks pid ≡ None
    go None e = e
    go (Some s) e = absurd (none pid (ap is_some e, refl))

-- the claim of a birth or an arrival is there
pub birth_claimed : (pid : ℕ) (claim : Option Claim) → ((p : ℕ) → ¬ IsUnclaimed (Some pid) claim p) → claim ≢ None
birth_claimed pid None none e = none pid (refl, λ h. h)
birth_claimed pid (Some c) none e = absurd cc

pub arrival_claimed : (part : Part) (pid : ℕ) (nice : ℤ) (orig : ℕ) (policy : Policy) (claim : Option Claim)
    → ((p : ℕ) → ¬ IsClaimMissing part (Arrive pid nice orig policy) claim p) → claim ≢ None
arrival_claimed part pid nice orig policy None none e = none pid (refl, λ h. h)
arrival_claimed part pid nice orig policy (Some c) none e = absurd cc

-- the previous task of a switch runs
pub ran_prev : (part : Part) (prev : ℕ) (prev_nice : ℤ) (way : Way) (next : ℕ) (next_nice : ℤ)
    → ((p : ℕ) → ¬ IsPrevNotRunning part (Switch prev prev_nice way next next_nice) p) → (IsRunner part prev → ⊥) → ⊥
ran_prev part prev prev_nice way next next_nice none not = none prev (not, refl)

-- the next task of a switch stands as it did, once the previous one has gone its way
pub next_stays : (part : Part) (prev : ℕ) (way : Way) (next : ℕ) → prev ≢ next
    → (part_after_prev part prev way).tasks next ≡ part.tasks next
next_stays part zero way next ne = refl
next_stays part (suc n) Stays next ne = put-other part.tasks (suc n) _ next (λ e. ne (sym e))
next_stays part (suc n) Sleeps next ne = put-other part.tasks (suc n) _ next (λ e. ne (sym e))
next_stays part (suc n) Ends next ne = put-other part.tasks (suc n) None next (λ e. ne (sym e))

-- the tests of a switch's pick, on the part that its previous task has left
pub pick_tests_same : (knobs : KnobsView) (part : Part) (prev : ℕ) (prev_nice : ℤ) (way : Way) (next : ℕ) (next_nice
    : ℤ)
    (own : Option Entity)
    → (next ≢ 0 → own ≡ part.tasks next)
    → (found : Option StepFault) → IsFirst found
    (moved_tests knobs.granularity own (part_after_prev part prev way) next)
    → IsFirst found (pick_tests knobs part (Switch prev prev_nice way next next_nice))
pick_tests_same knobs part prev prev_nice way next next_nice own o found h =
    go next o h
  where
    go : (n : ℕ) → (n ≢ 0 → own ≡ part.tasks n)
        → IsFirst found (moved_tests knobs.granularity own (part_after_prev part prev way) n)
        → IsFirst found (pick_tests knobs part (Switch prev prev_nice way n next_nice))
    go zero o h = h
    go (suc n) o h =
        subst (λ (x : Option Entity). IsFirst found
        (moved_tests knobs.granularity x (part_after_prev part prev way) (suc n))) (o (λ e. cc)) h

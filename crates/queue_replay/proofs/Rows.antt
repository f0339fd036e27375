-- Each deed's row of tests against the ordered list of all: the tests that are left out hold of no pid at that deed.
use Rattle.std.proofs.Common.{◌≡◌, ◌≢◌, ℕ, List, [], ◌∷◌, Option, Some, None, ℤ, inl, inr, sym, ap, ◌∙◌, subst}
use Rattle.std.specs.Prelude.{⊤}
use Rattle.replay_model.specs.AfterDeed.{after_deed}
use Rattle.replay_model.specs.Part.{Part}
use Rattle.replay_model.specs.Tests.{Test, NoneHolds, FirstHolds, late_tests}
use Rattle.replay_model.specs.declared.page.StepFault.{StepFault}
use Rattle.replay_model.specs.declared.step.Deed.{Deed}
use Rattle.replay_model.specs.declared.step.Deed.TheVariants.{Switch, Wake, Born, Leave, Arrive}
use Rattle.replay_model.specs.declared.step.Step.{Step}
use Rattle.cfs_model.specs.Knobs.{KnobsView}
use Rattle.cfs_model.specs.declared.act.Way.{Way}
use Rattle.cfs_model.specs.declared.claim.Claim.{Claim}
use Rattle.cfs_model.specs.declared.kind.Kind.{Kind}
use Rattle.cfs_model.specs.declared.kind.Kind.TheVariants.{IdleTooLong}
use Rattle.queue_replay.specs.Counting.{ticket_by}
use Rattle.queue_replay.specs.FirstTest.{IsFirst, IsOn}
use Rattle.queue_replay.specs.Needing.{IsNeed}
use Rattle.queue_replay.specs.Rows.{IsDeedTried, arrival_tests, birth_tests, claim_tests, leave_tests, switch_tests}
use Rattle.queue_replay.specs.Rows.{wake_tests}
use Rattle.queue_replay.specs.declared.made_deed.MadeDeed.{MadeDeed}
use Rattle.queue_replay.specs.declared.outcome.Outcome.TheVariants.{Made, Failed}
use Rattle.cfs_model.specs.declared.policy.Policy.{Policy}

-- what is first among some tests is first among more
pub record Widens (less more : List Test) : Type 0 where
  pub none : NoneHolds less → NoneHolds more
  pub first : (kind : Kind) (pid : ℕ) → FirstHolds less kind pid → FirstHolds more kind pid

end : Widens [] []
end = record { none = λ h. h; first = λ kind pid h. h }

-- a test that holds of no pid
skip : {less more : List Test} {test : Test} → ((pid : ℕ) → ¬ test.holds pid) → Widens less more
    → Widens less (test ∷ more)
skip none w = record { none = λ h. (none, w.none h); first = λ kind pid h. inr (none, w.first kind pid h) }

-- a test that both have
keep : {less more : List Test} {test : Test} → Widens less more → Widens (test ∷ less) (test ∷ more)
keep {less} {more} {test} w = record { none = λ h. (h.0, w.none h.1); first = go }
  where
    go : (kind : Kind) (pid : ℕ) → FirstHolds (test ∷ less) kind pid → FirstHolds (test ∷ more) kind pid
    go kind pid (inl h) = inl h
    go kind pid (inr h) = inr (h.0, w.first kind pid h.1)

-- the ordered list, for a deed and its claim
abbrev pub all_tests : KnobsView → ℕ → Part → Deed → Option Claim → List Test
all_tests knobs cpu part deed claim = late_tests knobs cpu part
    (record { line = 0; time = 0; deed = deed; claim = claim; nice = None; charge = None })

-- what is first among the tests of a claim is so before other tests
pub claims_first : (needed : Option ℕ) (claim : Option Claim) (rest : List Test) (kind : Kind) (pid : ℕ)
    → FirstHolds (claim_tests needed claim []) kind pid → FirstHolds (claim_tests needed claim rest) kind pid
claims_first needed claim rest kind pid (inl h) = inl h
claims_first needed claim rest kind pid (inr (a, inl h)) = inr (a, inl h)
claims_first needed claim rest kind pid (inr (a, inr (b, inl h))) = inr (a, inr (b, inl h))
claims_first needed claim rest kind pid (inr (a, inr (b, inr (d, h)))) = absurd h

-- a switch
pub switch_row : (knobs : KnobsView) (cpu : ℕ) (part : Part) (prev : ℕ) (prev_nice : ℤ) (way : Way) (next : ℕ)
    (next_nice : ℤ) (claim : Option Claim)
    → Widens (switch_tests knobs part (Switch prev prev_nice way next next_nice) claim)
    (all_tests knobs cpu part (Switch prev prev_nice way next next_nice) claim)
switch_row knobs cpu part prev prev_nice way next next_nice None =
    skip (λ p h. h) (skip (λ p h. h) (keep
    (keep (skip (λ p h. h) (skip (λ p h. h)
    (skip (λ p h. h) (keep
    (keep (keep (keep (keep (skip (λ p h. h) (skip (λ p h. h) (keep (keep (keep end))))))))))))))))
switch_row knobs cpu part prev prev_nice way next next_nice (Some c) =
    skip (λ p h. h) (skip (λ p h. h) (keep
    (keep (skip (λ p h. h) (skip (λ p h. h)
    (skip (λ p h. h) (keep
    (keep (keep (keep (keep (skip (λ p h. h) (skip (λ p h. h) (keep (keep (keep end))))))))))))))))

-- a wakeup
pub wake_row : (knobs : KnobsView) (cpu : ℕ) (part : Part) (pid : ℕ) (nice : ℤ) (claim : Option Claim)
    → Widens (wake_tests knobs.credit part (Wake pid nice) claim) (all_tests knobs cpu part (Wake pid nice) claim)
wake_row knobs cpu part pid nice None = skip (λ p h. h)
    (skip (λ p h. h) (skip (λ p h. h) (skip (λ p h. h)
    (keep (skip (λ p h. h) (skip (λ p h. h)
    (keep (keep (keep (keep (skip (λ p h. h)
    (keep (skip (λ p h. h) (skip (λ p h. h) (skip (λ p h. h) (skip (λ p h. h) end))))))))))))))))
wake_row knobs cpu part pid nice (Some c) =
    skip (λ p h. h) (skip (λ p h. h) (skip (λ p h. h)
    (skip (λ p h. h) (keep (skip (λ p h. h)
    (skip (λ p h. h) (keep
    (keep (keep (keep (skip (λ p h. h) (keep
    (skip (λ p h. h) (skip (λ p h. h) (skip (λ p h. h) (skip (λ p h. h) end))))))))))))))))

-- a birth
pub birth_row : (knobs : KnobsView) (cpu : ℕ) (part : Part) (pid : ℕ) (nice : ℤ) (policy : Policy) (claim : Option
    Claim)
    → Widens (birth_tests knobs.debit part (Born pid nice policy) claim)
    (all_tests knobs cpu part (Born pid nice policy) claim)
birth_row knobs cpu part pid nice policy None =
    skip (λ p h. h) (skip (λ p h. h) (skip (λ p h. h)
    (skip (λ p h. h) (skip (λ p h. h) (keep
    (skip (λ p h. h) (skip (λ p h. h) (keep
    (skip (λ p h. h) (keep (skip (λ p h. h)
    (skip (λ p h. h) (keep (skip (λ p h. h) (skip (λ p h. h) (skip (λ p h. h) end))))))))))))))))
birth_row knobs cpu part pid nice policy (Some c) =
    skip (λ p h. h) (skip (λ p h. h) (skip (λ p h. h)
    (skip (λ p h. h) (skip (λ p h. h) (keep
    (skip (λ p h. h) (skip (λ p h. h) (keep
    (skip (λ p h. let e : Some pid ≡ None = h.0 in absurd cc)
    (keep (skip (λ p h. h) (skip (λ p h. h) (keep (skip (λ p h. h) (skip (λ p h. h) (skip (λ p h. h) end))))))))))))))))

-- a task that leaves
pub leave_row : (knobs : KnobsView) (cpu : ℕ) (part : Part) (pid : ℕ) (nice : ℤ) (dest : ℕ) (claim : Option Claim)
    → Widens (leave_tests cpu part (Leave pid nice dest)) (all_tests knobs cpu part (Leave pid nice dest) claim)
leave_row knobs cpu part pid nice dest None =
    skip (λ p h. h) (keep (skip (λ p h. h)
    (skip (λ p h. h) (keep (skip (λ p h. h)
    (keep (keep (skip (λ p h. let e : None ≡ Some p = h.0 in absurd cc)
    (skip (λ p h. h) (skip (λ p h. h) (skip (λ p h. h)
    (skip (λ p h. h) (skip (λ p h. h) (skip (λ p h. h) (skip (λ p h. h) (skip (λ p h. h) end))))))))))))))))
leave_row knobs cpu part pid nice dest (Some c) =
    skip (λ p h. h) (keep (skip (λ p h. h)
    (skip (λ p h. h) (keep (skip (λ p h. h)
    (keep (keep (skip (λ p h. let e : None ≡ Some p = h.0 in absurd cc)
    (skip (λ p h. h) (skip (λ p h. let e : None ≡ Some h.0.0 = h.0.1 in absurd cc)
    (skip (λ p h. h) (skip (λ p h. h) (skip (λ p h. h)
    (skip (λ p h. h) (skip (λ p h. h) (skip (λ p h. h) end))))))))))))))))

-- a task that comes
pub arrival_row : (knobs : KnobsView) (cpu : ℕ) (part : Part) (pid : ℕ) (nice : ℤ) (orig : ℕ) (policy : Policy)
    (claim : Option Claim)
    → Widens (arrival_tests part (Arrive pid nice orig policy) claim)
    (all_tests knobs cpu part (Arrive pid nice orig policy) claim)
arrival_row knobs cpu part pid nice orig policy None =
    skip (λ p h. h) (skip (λ p h. h) (skip (λ p h. h)
    (skip (λ p h. h) (skip (λ p h. h) (keep
    (skip (λ p h. h) (skip (λ p h. h) (keep
    (skip (λ p h. h) (keep (skip (λ p h. h)
    (skip (λ p h. h) (skip (λ p h. h) (skip (λ p h. h) (skip (λ p h. h) (skip (λ p h. h) end))))))))))))))))
arrival_row knobs cpu part pid nice orig policy (Some c) =
    skip (λ p h. h) (skip (λ p h. h) (skip (λ p h. h)
    (skip (λ p h. h) (skip (λ p h. h) (keep
    (skip (λ p h. h) (skip (λ p h. h) (keep
    (skip (λ p h. let e : Some pid ≡ None = h.0 in absurd cc)
    (keep (skip (λ p h. h) (skip (λ p h. h)
    (skip (λ p h. h) (skip (λ p h. h) (skip (λ p h. h) (skip (λ p h. h) end))))))))))))))))

-- a step's deed, by its row
module _ (knobs : KnobsView) (cpu : ℕ) (part : Part) (step : Step) (deed : Deed) (claim : Option Claim)
    (tests : List Test)
    (row : Widens tests (all_tests knobs cpu part deed claim)) (is : step.deed ≡ deed) (says : step.claim ≡ claim) where
  among_all : Widens tests (late_tests knobs cpu part (record step { nice = None }))
  among_all =
      subst (λ (d : Deed). Widens tests (all_tests knobs cpu part d step.claim)) (sym is)
      (subst (λ (c : Option Claim). Widens tests (all_tests knobs cpu part deed c)) (sym says) row)

  -- it fails
  pub fails : (after : Part) (fault : StepFault) → IsOn step.line fault → IsFirst (Some fault) tests
      → IsDeedTried knobs cpu part step after (Failed fault)
  fails after fault on h = (among_all.first fault.kind fault.pid h, on)

  -- it passes
  pub passes : (after : Part) (made : MadeDeed) → IsFirst None tests → after ≡ after_deed part deed claim
      → made.ticket ≡ ticket_by part (record step { claim = claim }) deed → IsNeed part deed claim made.need
      → IsDeedTried knobs cpu part step after (Made made)
  passes after made h e t n = (
    among_all.none h,
    e ∙ sym (ap (after_deed part deed) says) ∙ sym (ap (λ (d : Deed). after_deed part d step.claim) is),
    t ∙ sym (ap (λ (c : Option Claim). ticket_by part (record step { claim = c }) deed) says)
        ∙ sym (ap (λ (d : Deed). ticket_by part step d) is),
    subst (λ (d : Deed). IsNeed part d step.claim made.need) (sym is)
        (subst (λ (c : Option Claim). IsNeed part deed c made.need) (sym says) n),
  )

-- none of the tests is the first of a step's
abbrev AreLater : List Test → Type 0
AreLater [] = ⊤
AreLater (test ∷ tests) = (test.kind ≢ IdleTooLong) × AreLater tests

later_kind : (tests : List Test) → AreLater tests → (kind : Kind) (pid : ℕ) → FirstHolds tests kind pid
    → kind ≢ IdleTooLong
later_kind [] all kind pid h = absurd h
later_kind (test ∷ tests) all kind pid (inl h) = λ e. all.0 (sym h.1 ∙ e)
later_kind (test ∷ tests) all kind pid (inr h) = later_kind tests all.1 kind pid h.1

pub is_later : (knobs : KnobsView) (cpu : ℕ) (part : Part) (step : Step) (kind : Kind) (pid : ℕ)
    → FirstHolds (late_tests knobs cpu part step) kind pid
    → kind ≢ IdleTooLong
is_later knobs cpu part step = later_kind (late_tests knobs cpu part step) (
  λ e. cc,
  (
    λ e. cc,
    (
      λ e. cc,
      (
        λ e. cc,
        (
          λ e. cc,
          (
            λ e. cc,
            (
              λ e. cc,
              (
                λ e. cc,
                (λ e. cc, (λ e. cc, (λ e. cc, (λ e. cc, (λ e. cc, (λ e. cc, (λ e. cc, (λ e. cc, (λ e. cc, tt))))))))),
              ),
            ),
          ),
        ),
      ),
    ),
  ),
)

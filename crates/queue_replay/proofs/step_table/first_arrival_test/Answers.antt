use Rattle.std.proofs.Common.{inl, inr, refl}
use Rattle.queue_replay.proofs.step_table.first_arrival_test.Goals as goal

pub returns-in-Some-clause-first : goal.returns-in-Some-clause-first
returns-in-Some-clause-first c part nice orig policy at = inl (c.in-Some.ensures part at, refl)

pub returns-in-Some-arrival_claim_missing-clause-first : goal.returns-in-Some-arrival_claim_missing-clause-first
returns-in-Some-arrival_claim_missing-clause-first c part nice orig policy at =
    inr (c.in_default.ensures part at, inl (c.in-Some-arrival_claim_missing.ensures part nice orig policy, refl))

pub returns-in-Some-claim_pid-clause-first : goal.returns-in-Some-claim_pid-clause-first
returns-in-Some-claim_pid-clause-first c part nice orig policy at =
    inr (
      c.in_default.ensures part at,
      inr
          (c.in_default-arrival_claim_missing.ensures part nice orig policy, inl (c.in-Some-claim_pid.ensures, refl)),
    )

pub returns-clause-first : goal.returns-clause-first
returns-clause-first c part nice orig policy at = (
  c.in_default.ensures part at,
  (c.in_default-arrival_claim_missing.ensures part nice orig policy, (c.in_default-claim_pid.ensures, tt)),
)

use Rattle.std.proofs.Common.{inl, inr, refl}
use Rattle.queue_replay.proofs.step_table.first_claim_test.Goals as goal

pub returns-then-is_as_needed-clause-first : goal.returns-then-is_as_needed-clause-first
returns-then-is_as_needed-clause-first c = (
  λ p. (c.is_as_needed.ensures c.if-is_as_needed.true p).0,
  (
    λ p. (c.is_as_needed.ensures c.if-is_as_needed.true p).1,
    (λ p. (c.is_as_needed.ensures c.if-is_as_needed.true p).2, tt),
  ),
)

pub returns-in-Some-clause-first : goal.returns-in-Some-clause-first
returns-in-Some-clause-first c = inl (c.in-Some.ensures, refl)

pub returns-in-Some-claim_extra-clause-first : goal.returns-in-Some-claim_extra-clause-first
returns-in-Some-claim_extra-clause-first c = inr (c.in_default.ensures, inl (c.in-Some-claim_extra.ensures, refl))

pub returns-in-Some-claim_pid-clause-first : goal.returns-in-Some-claim_pid-clause-first
returns-in-Some-claim_pid-clause-first c =
    inr (c.in_default.ensures, inr (c.in_default-claim_extra.ensures, inl (c.in-Some-claim_pid.ensures, refl)))

pub returns-clause-first : goal.returns-clause-first
returns-clause-first c = (
  c.in_default.ensures,
  (c.in_default-claim_extra.ensures, (c.in_default-claim_pid.ensures, tt)),
)

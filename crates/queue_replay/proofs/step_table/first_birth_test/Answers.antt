use Rattle.std.proofs.Common.{ℕ, inl, inr, refl, subst}
use Rattle.replay_model.specs.ClaimTests.{IsForkOutside}
use Rattle.replay_model.specs.declared.step.Deed.TheVariants.{Born}
use Rattle.runqueue.specs.Queue.{runqueue_view}
use Rattle.queue_replay.proofs.step_table.first_birth_test.Goals as goal

pub returns-in-Some-clause-first : goal.returns-in-Some-clause-first
returns-in-Some-clause-first c nice policy = inl (c.in-Some.ensures (runqueue_view c.args.queue.now) c.requires, refl)

pub returns-in-Some-claim_missing-clause-first : goal.returns-in-Some-claim_missing-clause-first
returns-in-Some-claim_missing-clause-first c nice policy =
    inr (c.in_default.ensures (runqueue_view c.args.queue.now) c.requires, inl (c.in-Some-claim_missing.ensures, refl))

pub returns-in-Some-claim_pid-clause-first : goal.returns-in-Some-claim_pid-clause-first
returns-in-Some-claim_pid-clause-first c nice policy = inr (
  c.in_default.ensures (runqueue_view c.args.queue.now) c.requires,
  inr
      (c.in_default-claim_missing.ensures, inl (c.in-Some-claim_pid.ensures, refl)),
)

pub returns-in-Some-fork_outside-clause-first : goal.returns-in-Some-fork_outside-clause-first
returns-in-Some-fork_outside-clause-first c nice policy =
    inr (
      c.in_default.ensures (runqueue_view c.args.queue.now) c.requires,
      inr (
        c.in_default-claim_missing.ensures,
        inr (
          c.in_default-claim_pid.ensures,
          inl (
            subst (λ (k : ℕ). IsForkOutside k (runqueue_view c.args.queue.now)
                (Born c.args.pid nice policy) c.args.step.now.claim c.in-Some-fork_outside.pid) c.debit.ensures.same
                (c.in-Some-fork_outside.ensures nice policy),
            refl,
          ),
        ),
      ),
    )

pub returns-clause-first : goal.returns-clause-first
returns-clause-first c nice policy = (
  c.in_default.ensures (runqueue_view c.args.queue.now) c.requires,
  (
    c.in_default-claim_missing.ensures,
    (
      c.in_default-claim_pid.ensures,
      (
        subst (λ (k : ℕ). (p : ℕ)
            → ¬ IsForkOutside k (runqueue_view c.args.queue.now) (Born c.args.pid nice policy) c.args.step.now.claim p)
            c.debit.ensures.same (c.in_default-fork_outside.ensures nice policy),
        tt,
      ),
    ),
  ),
)

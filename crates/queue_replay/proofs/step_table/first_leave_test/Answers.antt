use Rattle.std.proofs.Common.{inl, inr, refl}
use Rattle.queue_replay.proofs.step_table.first_leave_test.Goals as goal

pub returns-in-Some-clause-first : goal.returns-in-Some-clause-first
returns-in-Some-clause-first c part at = inl (c.in-Some.ensures c.args.nice, refl)

pub returns-in-Some-strange-clause-first : goal.returns-in-Some-strange-clause-first
returns-in-Some-strange-clause-first c part at = inr (
  c.in_default.ensures c.args.nice,
  inl
      (c.in-Some-strange.ensures part at, refl),
)

pub returns-in-Some-move_running-clause-first : goal.returns-in-Some-move_running-clause-first
returns-in-Some-move_running-clause-first c part at =
    inr (
      c.in_default.ensures c.args.nice,
      inr
          (c.in_default-strange.ensures part at, inl (c.in-Some-move_running.ensures part at, refl)),
    )

pub returns-in-Some-wrong_prio-clause-first : goal.returns-in-Some-wrong_prio-clause-first
returns-in-Some-wrong_prio-clause-first c part at = inr (
  c.in_default.ensures c.args.nice,
  inr (
    c.in_default-strange.ensures part at,
    inr
        (c.in_default-move_running.ensures part at, inl (c.in-Some-wrong_prio.ensures part at, refl)),
  ),
)

pub returns-clause-first : goal.returns-clause-first
returns-clause-first c part at = (
  c.in_default.ensures c.args.nice,
  (
    c.in_default-strange.ensures part at,
    (c.in_default-move_running.ensures part at, (c.in_default-wrong_prio.ensures part at, tt)),
  ),
)

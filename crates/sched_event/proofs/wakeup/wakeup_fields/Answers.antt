-- Where a field is missing the reading ends there: the fields before it are handed over one by one.
use Rattle.std.proofs.Common.{◌≡◌, true, false, eqb, length, refl, rules}
use Rattle.sched_event.specs.Reading.{wakeup_at}
use Rattle.sched_event.proofs.wakeup.wakeup_fields.Goals as goal

pub returns-in_err-task : goal.returns-in_err-task
unfolding wakeup_at
returns-in_err-task c = rw (c.from_residual.ensures, c.in_err-task.ensures) refl

pub returns-in_err-pid : goal.returns-in_err-pid
unfolding wakeup_at
returns-in_err-pid c = rw (c.from_residual-in_err-pid.ensures, c.in_ok-task.ensures, c.in_err-pid.ensures) refl

pub returns-in_err-task_prio : goal.returns-in_err-task_prio
unfolding wakeup_at
returns-in_err-task_prio c = rw (
  c.from_residual-in_err-task_prio.ensures,
  c.in_ok-task.ensures,
  c.in_ok-pid.ensures,
  c.in_err-task_prio.ensures,
) refl

pub returns-in_err-target : goal.returns-in_err-target
unfolding wakeup_at
returns-in_err-target c =
    rw (
      c.from_residual-in_err-target.ensures,
      c.in_ok-task.ensures,
      c.in_ok-pid.ensures,
      c.in_ok-task_prio.ensures,
      ← c.optional_numeral.ensures,
      c.in_err-target.ensures,
    ) refl

pub returns-then-not-is_empty : goal.returns-then-not-is_empty
unfolding wakeup_at
returns-then-not-is_empty c =
    let more : eqb (length c.in_ok-target.rest.now) 0 ≡ false = search rules in
    rw (
      c.in_ok-task.ensures,
      c.in_ok-pid.ensures,
      c.in_ok-task_prio.ensures,
      ← c.optional_numeral.ensures,
      c.in_ok-target.ensures,
      more,
    ) refl

pub returns : goal.returns
unfolding wakeup_at
returns c =
    let end : eqb (length c.in_ok-target.rest.now) 0 ≡ true = search rules in
    rw (
      c.in_ok-task.ensures,
      c.in_ok-pid.ensures,
      c.in_ok-task_prio.ensures,
      ← c.optional_numeral.ensures,
      c.in_ok-target.ensures,
      end,
    ) refl

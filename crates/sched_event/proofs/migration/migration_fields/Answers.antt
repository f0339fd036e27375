-- Where a field is missing the reading ends there: the fields before it are handed over one by one.
use Rattle.std.proofs.Common.{◌≡◌, true, false, eqb, length, refl, rules}
use Rattle.sched_event.specs.Reading.{migration_at}
use Rattle.sched_event.proofs.migration.migration_fields.Goals as goal

pub returns-in_err-task : goal.returns-in_err-task
unfolding migration_at
returns-in_err-task c = rw (c.from_residual.ensures, c.in_err-task.ensures) refl

pub returns-in_err-pid : goal.returns-in_err-pid
unfolding migration_at
returns-in_err-pid c = rw (c.from_residual-in_err-pid.ensures, c.in_ok-task.ensures, c.in_err-pid.ensures) refl

pub returns-in_err-task_prio : goal.returns-in_err-task_prio
unfolding migration_at
returns-in_err-task_prio c = rw (
  c.from_residual-in_err-task_prio.ensures,
  c.in_ok-task.ensures,
  c.in_ok-pid.ensures,
  c.in_err-task_prio.ensures,
) refl

pub returns-in_err-orig : goal.returns-in_err-orig
unfolding migration_at
returns-in_err-orig c = rw (
  c.from_residual-in_err-orig.ensures,
  c.in_ok-task.ensures,
  c.in_ok-pid.ensures,
  c.in_ok-task_prio.ensures,
  c.in_err-orig.ensures,
) refl

pub returns-in_err-dest : goal.returns-in_err-dest
unfolding migration_at
returns-in_err-dest c = rw (
  c.from_residual-in_err-dest.ensures,
  c.in_ok-task.ensures,
  c.in_ok-pid.ensures,
  c.in_ok-task_prio.ensures,
  c.in_ok-orig.ensures,
  c.in_err-dest.ensures,
) refl

pub returns-then-not-is_empty : goal.returns-then-not-is_empty
unfolding migration_at
returns-then-not-is_empty c =
    let more : eqb (length c.in_ok-dest.rest.now) 0 ≡ false = search rules in
    rw (
      c.in_ok-task.ensures,
      c.in_ok-pid.ensures,
      c.in_ok-task_prio.ensures,
      c.in_ok-orig.ensures,
      c.in_ok-dest.ensures,
      more,
    ) refl

pub returns : goal.returns
unfolding migration_at
returns c =
    let end : eqb (length c.in_ok-dest.rest.now) 0 ≡ true = search rules in
    rw (
      c.in_ok-task.ensures,
      c.in_ok-pid.ensures,
      c.in_ok-task_prio.ensures,
      c.in_ok-orig.ensures,
      c.in_ok-dest.ensures,
      end,
    ) refl

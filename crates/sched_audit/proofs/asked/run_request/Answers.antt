-- By what is asked the one call is made whose clause says so.
use Rattle.sched_audit.proofs.asked.run_request.Goals as goal

pub returns-in-true-default-true : goal.returns-in-true-default-true
returns-in-true-default-true g c =
    rw (c.in-true-default-true.is-0, c.in-true-default-true.is-2) c.run_least_waits.ensures

pub returns-in-true-default-false : goal.returns-in-true-default-false
returns-in-true-default-false g c =
    rw (c.in-true-default-false.is-0, c.in-true-default-false.is-2) c.run_least_in_blocks.ensures

pub returns-in-false-true-true : goal.returns-in-false-true-true
returns-in-false-true-true g c =
    rw (c.in-false-true-true.is-0, c.in-false-true-true.is-1, c.in-false-true-true.is-2) c.run_counted_waits.ensures

pub returns-in-false-true-false : goal.returns-in-false-true-false
returns-in-false-true-false g c =
    rw (c.in-false-true-false.is-0, c.in-false-true-false.is-1, c.in-false-true-false.is-2)
    c.run_counted_in_blocks.ensures

pub returns-in-false-false-true : goal.returns-in-false-false-true
returns-in-false-false-true g c =
    rw (c.in-false-false-true.is-0, c.in-false-false-true.is-1, c.in-false-false-true.is-2) c.run_waits.ensures

pub returns-in-false-false-false : goal.returns-in-false-false-false
returns-in-false-false-false g c =
    rw (c.in-false-false-false.is-0, c.in-false-false-false.is-1, c.in-false-false-false.is-2) c.run_in_blocks.ensures

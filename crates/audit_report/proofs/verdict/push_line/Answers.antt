use Rattle.std.proofs.Common.{sym, true≢false, arith}
use Rattle.audit_report.proofs.Rooms.{pid_digits, picks_digits, sum_digits}
use Rattle.audit_report.proofs.verdict.push_line.Goals as goal

pub returns-in_err-push_number-clause-fits : goal.returns-in_err-push_number-clause-fits
returns-in_err-push_number-clause-fits c h =
    let pid = pid_digits c.args.pid c.ranges.pid.fits in
    absurd (true≢false (sym (c.in_err-push_number.ensures.fits (omega (arith, h, pid)))))

pub returns-in_err-push_number-2-clause-fits : goal.returns-in_err-push_number-2-clause-fits
returns-in_err-push_number-2-clause-fits c h =
    let pid = pid_digits c.args.pid c.ranges.pid.fits in
    let ran = sum_digits c.args.ran c.ranges.ran.fits in
    absurd (true≢false (sym (c.in_err-push_number-2.ensures.fits (omega (
      arith,
      h,
      c.in_ok-push_number.ensures.len,
      c.in_ok-push_number.ensures.room,
      pid,
      ran,
    )))))

pub returns-in_err-push_number-3-clause-fits : goal.returns-in_err-push_number-3-clause-fits
returns-in_err-push_number-3-clause-fits c h =
    let pid = pid_digits c.args.pid c.ranges.pid.fits in
    let ran = sum_digits c.args.ran c.ranges.ran.fits in
    let charged = sum_digits c.args.charged c.ranges.charged.fits in
    absurd (true≢false (sym (c.in_err-push_number-3.ensures.fits (omega (
      arith,
      h,
      c.in_ok-push_number.ensures.len,
      c.in_ok-push_number.ensures.room,
      c.in_ok-push_number-2.ensures.len,
      c.in_ok-push_number-2.ensures.room,
      pid,
      ran,
      charged,
    )))))

pub returns-in_err-push_number-4-clause-fits : goal.returns-in_err-push_number-4-clause-fits
returns-in_err-push_number-4-clause-fits c h =
    let pid = pid_digits c.args.pid c.ranges.pid.fits in
    let ran = sum_digits c.args.ran c.ranges.ran.fits in
    let charged = sum_digits c.args.charged c.ranges.charged.fits in
    let picks = picks_digits c.args.picks c.ranges.picks.fits in
    absurd (true≢false (sym (c.in_err-push_number-4.ensures.fits (omega (
      arith,
      h,
      c.in_ok-push_number.ensures.len,
      c.in_ok-push_number.ensures.room,
      c.in_ok-push_number-2.ensures.len,
      c.in_ok-push_number-2.ensures.room,
      c.in_ok-push_number-3.ensures.len,
      c.in_ok-push_number-3.ensures.room,
      pid,
      ran,
      charged,
      picks,
    )))))

pub returns-clause-fits : goal.returns-clause-fits
returns-clause-fits c h =
    let pid = pid_digits c.args.pid c.ranges.pid.fits in
    let ran = sum_digits c.args.ran c.ranges.ran.fits in
    let charged = sum_digits c.args.charged c.ranges.charged.fits in
    let picks = picks_digits c.args.picks c.ranges.picks.fits in
    c.push_str.ensures.succeeds (omega (
      arith,
      h,
      c.in_ok-push_number.ensures.len,
      c.in_ok-push_number.ensures.room,
      c.in_ok-push_number-2.ensures.len,
      c.in_ok-push_number-2.ensures.room,
      c.in_ok-push_number-3.ensures.len,
      c.in_ok-push_number-3.ensures.room,
      c.in_ok-push_number-4.ensures.len,
      c.in_ok-push_number-4.ensures.room,
      pid,
      ran,
      charged,
      picks,
    ))

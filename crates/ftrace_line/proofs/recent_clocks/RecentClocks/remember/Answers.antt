use Rattle.ftrace_line.proofs.Remembered.{clock_in_front}
use Rattle.ftrace_line.proofs.recent_clocks.RecentClocks.remember.Goals as goal

pub of-requires-clause-unbroken : goal.of-requires-clause-unbroken
of-requires-clause-unbroken c =
    let clock =
    clock_in_front c.args.text.now c.in_ok-seconds.rest.now c.in_ok-seconds.seconds c.in_ok-seconds.ensures in
    clock.unbroken

pub of-requires-clause-read : goal.of-requires-clause-read
of-requires-clause-read c =
    let clock =
    clock_in_front c.args.text.now c.in_ok-seconds.rest.now c.in_ok-seconds.seconds c.in_ok-seconds.ensures in
    clock.read

use Rattle.text_parts.specs.Pieces.{is_space}
use Rattle.text_parts.proofs.Runs.{numeral_taken, run_taken}
use Rattle.ftrace_line.proofs.Remembered.{seconds_here}
use Rattle.ftrace_line.proofs.recent_clocks.seconds_at.Goals as goal

pub returns : goal.returns
returns c =
    seconds_here c.args.text.now c.in_ok-clock.clock.now c.after_flags.result.now c.in_ok-seconds.rest.now
    c.in_ok-seconds.seconds (run_taken is_space _ _ c.in_ok-clock.ensures) c.after_flags.ensures
    (numeral_taken _ _ _ c.in_ok-seconds.ensures)

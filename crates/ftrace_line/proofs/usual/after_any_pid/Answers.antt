use Rattle.text_parts.specs.Numerals.{is_digit}
use Rattle.text_parts.specs.Pieces.{is_space}
use Rattle.text_parts.proofs.Runs.{run_taken}
use Rattle.ftrace_line.proofs.Columns.{pid_anywhere}
use Rattle.ftrace_line.proofs.usual.after_any_pid.Goals as goal

pub returns : goal.returns
returns c =
    pid_anywhere c.args.text.now c.in_ok-gap.gap.now c.in_ok-rest.rest.now
    (run_taken is_digit _ _ c.in_ok-gap.ensures) (run_taken is_space _ _ c.in_ok-rest.ensures)

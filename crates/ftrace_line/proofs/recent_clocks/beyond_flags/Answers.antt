use Rattle.std.proofs.Common.{List, ℕ, ◌++◌, ap, ◌∙◌}
use Rattle.text_parts.specs.Pieces.{is_space}
use Rattle.text_parts.proofs.Runs.{run_taken}
use Rattle.ftrace_line.specs.Clock.{is_mark}
use Rattle.ftrace_line.proofs.Fronts.{flags_stand}
use Rattle.ftrace_line.proofs.recent_clocks.beyond_flags.Goals as goal

pub returns : goal.returns
returns c =
    let marks = run_taken is_mark c.args.text.now c.in_ok-gap.gap.now c.in_ok-gap.ensures in
    let space = run_taken is_space c.in_ok-gap.gap.now c.in_ok-rest.rest.now c.in_ok-rest.ensures in
    flags_stand c.args.text.now marks.0 space.0 c.in_ok-rest.rest.now marks.1 space.1
    (marks.2 ∙ ap (λ (t : List ℕ). marks.0 ++ t) space.2)

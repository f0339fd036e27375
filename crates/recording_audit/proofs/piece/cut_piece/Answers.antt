use Rattle.std.proofs.Common.{◌+◌, ◌++◌, Some, length, subst}
use Rattle.text_parts.specs.Lines.{lines_of}
use Rattle.recording_audit.specs.Causes.{IsKnown}
use Rattle.recording_audit.proofs.Causing.{counted_any}
use Rattle.recording_audit.proofs.piece.cut_piece.Goals as goal

-- the text goes on behind the cut
pub returns-clause-caused : goal.returns-clause-caused
returns-clause-caused c =
    λ limits before begin begins known.
    let shown = c.shown_cause-shown.ensures.shown limits before begin c.split_lines.result.1.now c.event_count.result
    begins (subst (λ text. IsKnown (begin ++ text) (length (lines_of begin) + 1) (Some c.args.cause))
    c.split_lines.ensures.bytes known) in (
      shown,
      counted_any c.split_lines.result.0.now c.event_count.result c.shown_cause-shown.result c.event_count.ensures,
      c.in_ok-task.ensures limits before c.event_count.result shown,
    )

use Rattle.text_parts.proofs.WholeLines.{after_whole}
use Rattle.text_parts.proofs.lines.lines_after_whole.Goals as goal

pub returns : goal.returns
returns c = after_whole

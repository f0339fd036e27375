use Rattle.text_parts.proofs.Marked.{marks_behind}
use Rattle.text_parts.proofs.marks.marks_behind.Goals as goal

pub returns : goal.returns
returns c = marks_behind c.args.text.now c.args.marks c.args.count c.requires.marks

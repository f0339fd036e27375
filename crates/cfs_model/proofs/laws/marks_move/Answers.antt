use Rattle.cfs_model.proofs.MarksMove.{marks_move}
use Rattle.cfs_model.proofs.laws.marks_move.Goals as goal

pub returns : goal.returns
returns c = marks_move

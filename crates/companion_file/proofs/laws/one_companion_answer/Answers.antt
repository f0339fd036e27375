use Rattle.companion_file.proofs.OneMeaning.{one_of}
use Rattle.companion_file.proofs.laws.one_companion_answer.Goals as goal

pub returns : goal.returns
returns c = one_of

use Rattle.companion_file.proofs.OneMeaning.{only_this}
use Rattle.companion_file.proofs.reading.read_companion.Goals as goal

pub returns-clause-only : goal.returns-clause-only
returns-clause-only c = only_this c.args.text.now c.companion_of.result c.companion_of.ensures

use Rattle.companion_file.proofs.OneMeaning.{only_this}
use Rattle.companion_file.proofs.reading_wide.read_companion_wide.Goals as goal

pub returns-clause-only : goal.returns-clause-only
returns-clause-only g c = only_this c.args.text.now c.companion_of.result c.companion_of.ensures

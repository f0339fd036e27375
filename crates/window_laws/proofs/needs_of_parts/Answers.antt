use Rattle.window_laws.proofs.NeedsAppended.{needs_in_parts}
use Rattle.window_laws.proofs.needs_of_parts.Goals as goal

pub returns : goal.returns
returns c = needs_in_parts

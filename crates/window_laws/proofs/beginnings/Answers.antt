use Rattle.window_laws.proofs.Begun.{no_events_so_far}
use Rattle.window_laws.proofs.beginnings.Goals as goal

pub returns : goal.returns
returns c = no_events_so_far

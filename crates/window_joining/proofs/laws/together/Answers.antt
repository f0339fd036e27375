use Rattle.window_joining.proofs.Ended.{together_so_far}
use Rattle.window_joining.proofs.laws.together.Goals as goal

pub returns : goal.returns
returns c = together_so_far

use Rattle.window_laws.proofs.ClaimsApart.{claimed_in_parts}
use Rattle.window_laws.proofs.claimed_parts.Goals as goal

pub returns : goal.returns
returns c = claimed_in_parts

use Rattle.least_audit.specs.Candidates.{begin_of, idlings_of}
use Rattle.least_audit.specs.FirstOf.{IsFirstOf}
use Rattle.least_audit.proofs.pursuers.first_idling.Given as goal

abbrev pub invariant-loop-pursuer : goal.invariant-loop-pursuer
invariant-loop-pursuer l =
    IsFirstOf begin_of (idlings_of l.bound l.pursuers) l.pursuer-index l.first

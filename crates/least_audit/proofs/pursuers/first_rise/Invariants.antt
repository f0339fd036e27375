use Rattle.least_audit.specs.Candidates.{line_of, rises_to}
use Rattle.least_audit.specs.FirstOf.{IsFirstOf}
use Rattle.least_audit.proofs.pursuers.first_rise.Given as goal

abbrev pub invariant-loop-pursuer : goal.invariant-loop-pursuer
invariant-loop-pursuer l =
    IsFirstOf line_of (rises_to l.setting l.value l.pursuers) l.pursuer-index l.first

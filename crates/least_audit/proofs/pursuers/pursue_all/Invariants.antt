use Rattle.std.proofs.Common.{◌≡◌, ◌<◌, ◌≤◌, ℕ, get_or}
use Rattle.sched_record.specs.Window.{window_view}
use Rattle.least_audit.specs.Pursuers.{PursuedOn}
use Rattle.least_audit.specs.declared.pursuer.Pursuer.{Pursuer}
use Rattle.least_audit.proofs.pursuers.pursue_all.Given as goal

abbrev pub invariant-loop-pursuer : goal.invariant-loop-pursuer
invariant-loop-pursuer l = record {
  done : (k : ℕ) (d : Pursuer) → k < l.pursuer-index
      → PursuedOn (window_view l.window) (get_or l.fn.pursuers k d) (get_or l.pursuers k d);
  rest : (k : ℕ) (d : Pursuer) → l.pursuer-index ≤ k → get_or l.pursuers k d ≡ get_or l.fn.pursuers k d;
}

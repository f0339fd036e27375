-- What the audit goes on with by a window.
use Rattle.std.proofs.Common.{All, ◌≡◌, ◌+◌, ◌^◌, ◌<◌, ◌≤◌, Option, Some, None, is_some, false, true, List, ◌++◌}
use Rattle.std.proofs.Common.{length, get_or}
use Rattle.std.proofs.Common.{sym, subst, arith}
use Rattle.cfs_model.specs.Claimed.{Claimed}
use Rattle.queue_replay.specs.Windowed.{windowed_view}
use Rattle.replay_model.specs.Cut.{steps_at}
use Rattle.replay_model.specs.declared.first_fault.FirstFault.{FirstFault}
use Rattle.window_audit.specs.Audit.{Beginning, ComesNext, IsAuditOf, IsToldOf}
use Rattle.window_audit.specs.States.{state_at}
use Rattle.window_audit.specs.declared.audit.WindowAudit.{WindowAudit}
use Rattle.window_audit.proofs.Lists.{steps_few}
use Rattle.least_audit.specs.Audit.{IsLeastAuditOf, IsLeastToldOf, LeastComesNext}
use Rattle.least_audit.specs.Pursuers.{AllPursuedOn, IsWindowPursued}
use Rattle.least_audit.specs.SoFar.{AreFiguresOf}
use Rattle.least_audit.specs.declared.audit.LeastAudit.{LeastAudit}
use Rattle.least_audit.specs.declared.pursuer.Pursuer.{Pursuer}
use Rattle.least_audit.proofs.Lists.{view_here}
use Rattle.least_audit.proofs.WindowSeen.{pursuers_on}

module _ (of : Beginning) (so_far window : List Claimed) (audit : LeastAudit)
    (next : LeastComesNext of so_far window audit) where
  -- the window comes next in the audit beside it
  pub audit_next : ComesNext of so_far window audit.audit
  audit_next = record {
    audit_is = next.audit_is.audited;
    is_record = next.is_record;
    some = next.some;
    few = next.few;
    fit = next.fit;
  }

  -- no replay makes too many steps
  pub few_steps : All (λ (p : Pursuer). (windowed_view p.replay).made
      + length (steps_at (windowed_view p.replay).cpu window) < 2 ^ 64) audit.pursuers.items
  few_steps k d lt =
      let pursued = next.audit_is.pursued in
      let within : k < of.cpus = (let n = pursued.count in omega (arith, n, lt)) in
      let here = view_here audit.pursuers.items k d lt in
      let made = subst (λ v. v.made ≤ length so_far) here (pursued.own k within).made in
      let steps = steps_few (windowed_view (get_or audit.pursuers.items k d).replay).cpu window in
      let fit = next.fit in
      omega (arith, made, steps, fit)

  -- a fault that was told
  pub told_fault : (told : Option FirstFault) (after : WindowAudit) (new : LeastAudit) → is_some told ≡ true
      → IsToldOf of so_far window told after → IsLeastToldOf of so_far window told new
  told_fault None after new some h = absurd cc
  told_fault (Some fault) after new some h = h

  passed : (told : Option FirstFault) (after : WindowAudit) → is_some told ≡ false
      → IsToldOf of so_far window told after → IsAuditOf of (so_far ++ window) after
  passed None after none h = h
  passed (Some fault) after none h = absurd cc

  -- what all went through
  pub window_pursued : (told : Option FirstFault) (after : WindowAudit) (pursuers : List Pursuer)
      → is_some told ≡ false → IsToldOf of so_far window told after
      → length pursuers ≡ length audit.pursuers.items → AllPursuedOn window audit.pursuers.items pursuers
      → IsWindowPursued of so_far window audit.pursuers.items pursuers
  window_pursued told after pursuers none h count all = record {
    is_record = next.is_record;
    behind = state_at after.members.items;
    run = (passed told after none h).run;
    pursuers = next.audit_is.pursued;
    count = count;
    pursued = all;
  }

  -- and what then holds
  pub went_on : (told : Option FirstFault) (after : WindowAudit) (new : LeastAudit) → is_some told ≡ false
      → IsToldOf of so_far window told after → new.audit ≡ after
      → IsWindowPursued of so_far window audit.pursuers.items new.pursuers.items
      → AreFiguresOf of (so_far ++ window) new.pursuers.items new.figures → IsLeastAuditOf of (so_far ++ window) new
  went_on told after new none h same w figures = record {
    greatest = next.audit_is.greatest;
    audited = subst (IsAuditOf of (so_far ++ window)) (sym same) (passed told after none h);
    pursued = pursuers_on of so_far window audit.pursuers.items new.pursuers.items w;
    figures = figures;
  }

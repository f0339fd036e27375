use Rattle.std.proofs.Common.{◌≡◌, ◌≤◌, length, map, take}
use Rattle.cfs_model.specs.declared.act.Entry.{Entry}
use Rattle.cfs_model.specs.declared.claim.Claim.{Claim}
use Rattle.cfs_model.specs.declared.nice_line.NiceLine.{NiceLine}
use Rattle.cfs_model.specs.declared.charge_line.ChargeLine.{ChargeLine}
use Rattle.sched_record.specs.RecordView.{policy_of}
use Rattle.sched_record.specs.Record.{record_view}
use Rattle.sched_record.proofs.Indexing.{step_of, touching}
use Rattle.sched_record.proofs.Walk.{HasPassed}
use Rattle.sched_record.proofs.record.Record.steps_of.Given as goal

abbrev pub invariant-loop-index : goal.invariant-loop-index
invariant-loop-index l = record {
  claims_within : l.claims_from ≤ length l.claims;
  claims_passed : HasPassed (λ (claim : Claim). claim.line) (λ (event : Entry). event.line) l.claims
      (touching l.cpu l.events) l.claims_from l.index-index;
  nices_within : l.nices_from ≤ length l.nices;
  nices_passed : HasPassed (λ (change : NiceLine). change.line) (λ (event : Entry). event.line) l.nices
      (touching l.cpu l.events) l.nices_from l.index-index;
  charges_within : l.charges_from ≤ length l.charges;
  charges_passed : HasPassed (λ (charge : ChargeLine). charge.line) (λ (event : Entry). event.line) l.charges
      (touching l.cpu l.events) l.charges_from l.index-index;
  dealt : l.steps.items ≡ map (step_of l.cpu l.claims l.nices l.charges (policy_of (record_view l.self)))
      (take l.index-index (touching l.cpu l.events));
}

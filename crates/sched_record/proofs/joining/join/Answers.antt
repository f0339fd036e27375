use Rattle.sched_record.specs.declared.joining.JoinCause.TheVariants.{CpuOutside, StartLate, ClaimNoEvent}
use Rattle.sched_record.proofs.OneRecord.{one_record, due}
use Rattle.sched_record.proofs.joining.join.Goals as goal

pub returns-clause-only : goal.returns-clause-only
returns-clause-only c answer holds = one_record _ _ _ answer c.join_or_refuse.ensures.answered holds

pub returns-clause-cpu_outside : goal.returns-clause-cpu_outside
returns-clause-cpu_outside c = due _ _ _ c.join_or_refuse.ensures.answered CpuOutside

pub returns-clause-start_late : goal.returns-clause-start_late
returns-clause-start_late c = due _ _ _ c.join_or_refuse.ensures.answered StartLate

pub returns-clause-claim_no_event : goal.returns-clause-claim_no_event
returns-clause-claim_no_event c = due _ _ _ c.join_or_refuse.ensures.answered ClaimNoEvent

use Rattle.std.proofs.Common.{◌≡◌, ℕ, Option, Some, sym, subst}
use Rattle.cfs_model.specs.declared.charge_line.ChargeLine.{ChargeLine}
use Rattle.runqueue.specs.declared.sched_entity.SchedEntity.{SchedEntity}
use Rattle.replay_model.specs.Part.{Part, charged_part, told_part}
use Rattle.replay_model.specs.QueueTests.{IsWrongCharge}
use Rattle.runqueue.specs.Entities.{IsQueue, entities}
use Rattle.runqueue.specs.Tasks.{CanBeCharged, CanBeChargedAs, IsChargeFaultOf, charged_as, charged_task}
use Rattle.runqueue.specs.Queue.{runqueue_view}
use Rattle.runqueue.proofs.Lifts.{idle_in_range, idle_charged, idle_wrong, fits_in_range, charged_queue, charged_is}
use Rattle.runqueue.proofs.Lifts.{charged_runner_row, told_right, fault_there}
use Rattle.runqueue.proofs.TaskRows.{runner_row_is}
use Rattle.runqueue.specs.TaskRows.{IsRunnerRow}
use Rattle.runqueue.proofs.runqueue.Runqueue.charge.Goals as goal

pub returns-in-Some-charge-clause-fault : goal.returns-in-Some-charge-clause-fault
returns-in-Some-charge-clause-fault c =
    let q = c.args.self.now in
    let line = c.in-Some-charge.line in (
      idle_in_range q.runner q.tasks q.waiting q.floor q.mark c.args.time q.kept c.in_default.is,
      subst (λ (o : Option ChargeLine). IsWrongCharge c.args.drift (runqueue_view q) c.args.time o line.pid)
          (sym c.in-Some-charge.is)
          (idle_wrong q.runner q.tasks q.waiting q.floor q.mark c.args.time q.kept c.in_default.is c.args.drift line),
    )

pub returns-in_default-clause-in_range : goal.returns-in_default-clause-in_range
returns-in_default-clause-in_range c =
    let q = c.args.self.now in
    idle_in_range q.runner q.tasks q.waiting q.floor q.mark c.args.time q.kept c.in_default.is

pub returns-in_default-clause-charged : goal.returns-in_default-clause-charged
returns-in_default-clause-charged c =
    let q = c.args.self.now in
    let K : Option ChargeLine → Type 0 = λ o.
    (let p : Part = record { tasks = entities q.runner q.tasks; floor = q.floor; mark = c.args.time } in
    p ≡ told_part o (charged_part (runqueue_view q) c.args.time)) in
    subst K (sym c.in_default-charge.is)
    (idle_charged q.runner q.tasks q.waiting q.floor q.mark c.args.time q.kept c.in_default.is)

pub invariant_of-self-in-Ok : goal.invariant_of-self-in-Ok
invariant_of-self-in-Ok c =
    let q = c.args.self.now in
    let t = c.in-Some.task in
    let after = c.in-Ok.after in
    let P : ℕ → Type 0 = λ d. after ≡ charged_as c.args.charge (charged_task d t) in
    let K : SchedEntity → Type 0 = λ u. IsQueue (Some u) q.tasks q.waiting in
    record {
      kept = subst K (sym (subst P c.saturating_sub.ensures c.in-Ok.ensures.fits.2))
          (charged_queue q.runner q.tasks q.waiting q.floor q.mark c.args.time q.kept t c.in-Some.is c.args.charge);
      in_row = subst (λ (u : SchedEntity). IsRunnerRow (Some u) q.tasks.pids q.runner_row) (sym c.in-Ok.ensures.fits.2)
          (charged_runner_row c.args.charge c.saturating_sub.result t q.tasks.pids q.runner_row
          (runner_row_is q.runner q.tasks.pids q.runner_row q.in_row t c.in-Some.is));
    }

pub returns-in-Ok-clause-in_range : goal.returns-in-Ok-clause-in_range
returns-in-Ok-clause-in_range c =
    let q = c.args.self.now in
    let t = c.in-Some.task in
    fits_in_range q.runner q.tasks q.waiting q.floor q.mark c.args.time q.kept t c.in-Some.is
    (subst (λ (d : ℕ). CanBeCharged d t) c.saturating_sub.ensures c.in-Ok.ensures.fits.0)

pub returns-in-Ok-clause-told : goal.returns-in-Ok-clause-told
returns-in-Ok-clause-told c =
    let q = c.args.self.now in
    let t = c.in-Some.task in
    told_right q.runner q.tasks q.waiting q.floor q.mark c.args.time q.kept t c.in-Some.is c.args.drift c.args.charge
    (subst (λ (d : ℕ). CanBeChargedAs c.args.drift c.args.charge t.v (charged_task d t)) c.saturating_sub.ensures
    c.in-Ok.ensures.fits.1)

pub returns-in-Ok-clause-charged : goal.returns-in-Ok-clause-charged
returns-in-Ok-clause-charged c =
    let q = c.args.self.now in
    let t = c.in-Some.task in
    let after = c.in-Ok.after in
    let P : ℕ → Type 0 = λ d. after ≡ charged_as c.args.charge (charged_task d t) in
    let K : SchedEntity → Type 0 = λ u.
    (let p : Part = record { tasks = entities (Some u) q.tasks; floor = q.floor; mark = c.args.time } in
    p ≡ told_part c.args.charge (charged_part (runqueue_view q) c.args.time)) in
    subst K (sym (subst P c.saturating_sub.ensures c.in-Ok.ensures.fits.2))
    (charged_is q.runner q.tasks q.waiting q.floor q.mark c.args.time q.kept t c.in-Some.is c.args.drift c.args.charge
    (subst (λ (d : ℕ). CanBeChargedAs c.args.drift c.args.charge t.v (charged_task d t)) c.saturating_sub.ensures
    c.in-Ok.ensures.fits.1))

pub returns-in-Err-clause-fault : goal.returns-in-Err-clause-fault
returns-in-Err-clause-fault c =
    let q = c.args.self.now in
    let t = c.in-Some.task in
    fault_there q.runner q.tasks q.waiting q.floor q.mark c.args.time q.kept t c.in-Some.is c.args.drift c.args.charge
    c.in-Err.fault
    (subst (λ (d : ℕ). IsChargeFaultOf c.args.drift d c.args.charge t c.in-Err.fault) c.saturating_sub.ensures
    c.in-Err.ensures.fault)

use Rattle.std.proofs.Common.{◌≡◌, ℤ, true, refl, subst, sym, ap, ◌∙◌, rules, Some, option_map, to_z, of_z, w64}
use Rattle.cfs_model.specs.declared.task.Place.TheVariants.{Wait}
use Rattle.runqueue.specs.Queue.{runqueue_view}
use Rattle.runqueue.specs.Entities.{entities, waiting_task}
use Rattle.runqueue.specs.Tasks.{entity_of}
use Rattle.runqueue.specs.WaitingTasks.{Updates}
use Rattle.runqueue.proofs.Moved.{nobody_woken, not_woken, wake_has, woken_queue, woken_part}
use Rattle.runqueue.proofs.TaskRows.{keeps_same, runner_row_kept}
use Rattle.runqueue.proofs.runqueue.Runqueue.wake.Goals as goal

pub returns-in_default-clause-part : goal.returns-in_default-clause-part
returns-in_default-clause-part c =
    let q = c.args.self.now in
    nobody_woken (runqueue_view q) c.args.pid c.args.claim (sym c.requires ∙ ap (option_map entity_of) c.in_default.is)

pub returns-in-Run : goal.returns-in-Run
returns-in-Run c =
    let q = c.args.self.now in
    let t = c.in-Some.task in
    let e : Some (entity_of t) ≡ entities q.runner q.tasks c.args.pid = ap (option_map entity_of) (sym c.in-Some.is)
    ∙ c.requires in
    record {
      part = not_woken (runqueue_view q) c.args.pid c.args.claim (entity_of t) (sym e) (search rules);
      pids = refl;
      same = tt;
    }

pub write_over-requires : goal.write_over-requires
write_over-requires c =
    let q = c.args.self.now in
    let t = c.in-Some.task in
    let e : Some (entity_of t) ≡ entities q.runner q.tasks c.args.pid = ap (option_map entity_of) (sym c.in-Some.is)
    ∙ c.requires in
    wake_has q.runner q.tasks q.tasks q.waiting q.kept c.args.pid t e c.in-Rest.is

pub invariant_of-self-in-Rest : goal.invariant_of-self-in-Rest
invariant_of-self-in-Rest c =
    let q = c.args.self.now in
    let t = c.in-Some.task in
    let v = c.args.claim.v in
    let e : Some (entity_of t) ≡ entities q.runner q.tasks c.args.pid = ap (option_map entity_of) (sym c.in-Some.is)
    ∙ c.requires in
    let whole : to_z w64 (of_z w64 v) ≡ v = search rules in
    record {
      kept = woken_queue q.runner q.tasks c.write_over.new.tasks q.waiting q.kept c.args.pid t e c.in-Rest.is _
          c.write_over.ensures.written v
          (ap (λ (x : ℤ). record { place = Wait; nice = t.nice; policy = t.policy; runtime = x; drift = t.drift })
          whole)
          c.insert.new.self
          (subst (λ (x : ℤ). Updates q.waiting c.insert.new.self (waiting_task x c.args.pid) true) whole
          c.in_ok-insert-in-Rest.ensures.updates);
      in_row = runner_row_kept q.runner q.tasks.pids c.write_over.new.tasks.pids q.runner_row q.in_row
          (keeps_same q.tasks.pids c.write_over.new.tasks.pids c.write_over.ensures.pids);
    }

pub returns-in_ok-insert-in-Rest-clause-part : goal.returns-in_ok-insert-in-Rest-clause-part
returns-in_ok-insert-in-Rest-clause-part c =
    let q = c.args.self.now in
    let t = c.in-Some.task in
    let v = c.args.claim.v in
    let e : Some (entity_of t) ≡ entities q.runner q.tasks c.args.pid = ap (option_map entity_of) (sym c.in-Some.is)
    ∙ c.requires in
    let whole : to_z w64 (of_z w64 v) ≡ v = search rules in
    woken_part q.runner q.tasks c.write_over.new.tasks q.waiting q.kept c.args.pid t e c.in-Rest.is _
    c.write_over.ensures.written v
    (ap (λ (x : ℤ). record { place = Wait; nice = t.nice; policy = t.policy; runtime = x; drift = t.drift }) whole)
    q.floor q.mark
    c.args.claim refl

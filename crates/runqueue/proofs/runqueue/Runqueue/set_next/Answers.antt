use Rattle.std.proofs.Common.{◌≡◌, ℤ, false, sym, ap, ◌∙◌, subst, refl, rules, Some, None, Option, option_map, to_z}
use Rattle.std.proofs.Common.{of_z, w64}
use Rattle.cfs_model.specs.declared.task.Place.TheVariants.{Run}
use Rattle.runqueue.specs.declared.sched_entity.SchedEntity.{SchedEntity}
use Rattle.replay_model.specs.AfterDeed.{part_after_next}
use Rattle.replay_model.specs.Part.{Part}
use Rattle.runqueue.specs.Entities.{entities, waiting_task}
use Rattle.runqueue.specs.Tasks.{entity_of}
use Rattle.runqueue.specs.WaitingTasks.{Updates}
use Rattle.runqueue.proofs.TaskRows.{has_row, runner_row_at}
use Rattle.runqueue.proofs.Moved.{kept_runner, listed_has, next_entities, next_queue, no_next}
use Rattle.runqueue.proofs.EntitiesKept.{no_runner}
use Rattle.runqueue.proofs.runqueue.Runqueue.set_next.Goals as goal

pub unreachable-requires : goal.unreachable-requires
unreachable-requires c =
    let q = c.args.self.now in
    let none = no_runner q.runner q.tasks q.waiting q.floor q.mark q.kept c.requires.nobody in
    let t = c.in-Some.task in
    let has : Some (entity_of t) ≡ entities None q.tasks c.args.next =
    sym (ap (option_map entity_of) c.in-Some.is) ∙ c.requires.task c.if-next-eq-IDLE_PID.false
    ∙ ap (λ (r : Option SchedEntity). entities r q.tasks c.args.next) none in
    has_row q.tasks c.args.next (listed_has q.tasks c.args.next (entity_of t) (sym has))
    (sym c.index_near.ensures.index ∙ c.in_default-index_near.is)

pub invariant_of-self : goal.invariant_of-self
invariant_of-self c =
    let q = c.args.self.now in
    let none = no_runner q.runner q.tasks q.waiting q.floor q.mark q.kept c.requires.nobody in
    let t = c.in-Some.task in
    let whole : to_z w64 (of_z w64 t.v) ≡ t.v = search rules in
    let has : Some (entity_of t) ≡ entities None q.tasks c.args.next =
    sym (ap (option_map entity_of) c.in-Some.is) ∙ c.requires.task c.if-next-eq-IDLE_PID.false
    ∙ ap (λ (r : Option SchedEntity). entities r q.tasks c.args.next) none in
    record {
      kept = next_queue q.tasks q.waiting c.remove.new.self t _
          (kept_runner q.runner q.tasks q.waiting None q.kept none) (sym has)
          (subst (λ (v : ℤ). Updates q.waiting c.remove.new.self
          (waiting_task v c.args.next) false) whole c.remove.ensures.updates) refl;
      in_row = runner_row_at _ q.tasks.pids c.in-Some-index_near.row
          (sym c.index_near.ensures.index ∙ c.in-Some-index_near.is);
    }

pub returns-in-Some-index_near-clause-part : goal.returns-in-Some-index_near-clause-part
returns-in-Some-index_near-clause-part c =
    let q = c.args.self.now in
    let none = no_runner q.runner q.tasks q.waiting q.floor q.mark q.kept c.requires.nobody in
    let t = c.in-Some.task in
    let has : Some (entity_of t) ≡ entities None q.tasks c.args.next =
    sym (ap (option_map entity_of) c.in-Some.is) ∙ c.requires.task c.if-next-eq-IDLE_PID.false
    ∙ ap (λ (r : Option SchedEntity). entities r q.tasks c.args.next) none in
    next_entities q.tasks t (record {
      pid = c.args.next;
      nice = t.nice;
      policy = t.policy;
      place = Run;
      v = t.v;
      drift = t.drift;
    }) q.floor q.mark (sym has) c.if-next-eq-IDLE_PID.false
    refl
    ∙ ap (λ (r : Option SchedEntity). part_after_next
    (record { tasks = entities r q.tasks; floor = q.floor; mark = q.mark }) c.args.next) (sym none)

pub returns-in_default-clause-part : goal.returns-in_default-clause-part
returns-in_default-clause-part c =
    let q = c.args.self.now in
    let none = no_runner q.runner q.tasks q.waiting q.floor q.mark q.kept c.requires.nobody in
    let e : entities None q.tasks c.args.next ≡ None =
    ap (λ (r : Option SchedEntity). entities r q.tasks c.args.next) (sym none)
    ∙ sym (c.requires.task c.if-next-eq-IDLE_PID.false) ∙ ap (option_map entity_of) c.in_default.is in
    let P : Option SchedEntity → Type 0 = λ r.
    (let p : Part = record { tasks = entities r q.tasks; floor = q.floor; mark = q.mark } in
    p ≡ part_after_next p c.args.next) in
    subst P (sym none) (no_next q.tasks c.args.next q.floor q.mark e c.if-next-eq-IDLE_PID.false)

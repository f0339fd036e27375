-- What one more task makes of the runqueue, and of the part that it stands for.
use Rattle.std.proofs.Common.{◌≡◌, ◌≢◌, ℕ, true, Option, Some, None, is_some, option_map, ℤ, inl, inr, refl, sym, ap}
use Rattle.std.proofs.Common.{◌∙◌, subst, Result, Ok, Err, OnErr}
use Rattle.std.specs.BTreeSet.{BTreeSet}
use Rattle.std.proofs.lemmas.Bool.{cases_eq}
use Rattle.std.proofs.lemmas.Option.{same_Some}
use Rattle.replay_model.specs.Deeds.{with_entity}
use Rattle.cfs_model.specs.Machine.{put}
use Rattle.cfs_model.specs.declared.task.Place.{Place}
use Rattle.cfs_model.specs.declared.task.Place.TheVariants.{Run, Wait, Rest}
use Rattle.runqueue.specs.declared.sched_entity.SchedEntity.{SchedEntity}
use Rattle.runqueue.specs.Entities.{listed, entities, runtime_if, waiting_runtime, IsQueue, waiting_task}
use Rattle.runqueue.specs.TaskRows.{TaskRows, Writes}
use Rattle.runqueue.specs.declared.waiting_task.WaitingTask.{WaitingTask}
use Rattle.runqueue.specs.Tasks.{entity_of}
use Rattle.runqueue.specs.WaitingTasks.{Updates}
use Rattle.runqueue.proofs.Parts.{part_with, its_place, same_tasks, put-at, put-under}
use Rattle.runqueue.proofs.EntitiesKept.{queue_is, waiting_in, only_in, listed_in, listed_some, listed_kept}
use Rattle.runqueue.proofs.EntitiesKept.{runner_apart}
use Rattle.runqueue.proofs.EntitiesKept.{map_at, map_other, rewritten, joins, stays, only_kept}
use Rattle.runqueue.proofs.EntitiesKept.{only_comes}
use Rattle.runqueue.proofs.Moved.{kept_runner}

-- a place that isn't the runner's
apart_places : (p q : Place) → p ≡ q → q ≢ Run → Some p ≡ Some Run → ⊥
apart_places p q e ne f = ne (sym e ∙ same_Some p Run f)

wait_run : Wait ≢ Run
wait_run e = cc

rest_run : Rest ≢ Run
rest_run e = cc

-- what holds anyhow holds where there is an error
pub on_err : {T E : Type 0} (r : Result T E) (X : Type 0) → X → OnErr r X
on_err (Ok x) X h = tt
on_err (Err e) X h = h

-- one more stands here
module _ (runner : Option SchedEntity) (m n : TaskRows) (a : BTreeSet WaitingTask) (kept : IsQueue
    runner m a)
    (t : SchedEntity)
    (none : entities runner m t.pid ≡ None) (u : Writes m n t.pid (Some t)) where
  apart_new : (x : SchedEntity) → runner ≡ Some x → x.pid ≢ t.pid
  apart_new = runner_apart runner m a kept t.pid (λ e. let f : None ≡ Some Run = sym (ap its_place none) ∙ e in cc)

  pub come_waits : (b : BTreeSet WaitingTask) → Updates a b (waiting_task t.v t.pid) true
      → t.place ≡ Wait → IsQueue runner n b
  come_waits b s waits =
      queue_is runner n b
      (joins (entities runner m) (entities runner n) t.pid (Some (entity_of t))
      (rewritten runner m n t.pid (Some t) u apart_new) a b t.v (waiting_in runner m a kept) s
      (ap waiting_runtime none) (ap (λ p. runtime_if p t.v) waits))
      (only_kept (entities runner m) (entities runner n) t.pid (Some (entity_of t))
      (rewritten runner m n t.pid (Some t) u apart_new) runner (only_in runner m a kept)
      (apart_places t.place Wait waits wait_run))
      (listed_kept runner m n t.pid (Some t) u apart_new (listed_in runner m a kept))

  pub come_rests : t.place ≡ Rest → IsQueue runner n a
  come_rests rests =
      queue_is runner n a
      (stays (entities runner m) (entities runner n) t.pid (Some (entity_of t))
      (rewritten runner m n t.pid (Some t) u apart_new) a (waiting_in runner m a kept)
      (ap (λ p. runtime_if p t.v) rests ∙ sym (ap waiting_runtime none)))
      (only_kept (entities runner m) (entities runner n) t.pid (Some (entity_of t))
      (rewritten runner m n t.pid (Some t) u apart_new) runner (only_in runner m a kept)
      (apart_places t.place Rest rests rest_run))
      (listed_kept runner m n t.pid (Some t) u apart_new (listed_in runner m a kept))

  pub come_part : (floor : ℤ) (mark : ℕ)
      → part_with (entities runner n) floor mark ≡ with_entity (part_with (entities runner m) floor mark) t.pid
      (Some (entity_of t))
  come_part floor mark = same_tasks (entities runner n) (put (entities runner m) t.pid (Some (entity_of t))) floor mark
      (rewritten runner m n t.pid (Some t) u apart_new)

-- one more runs here
module _ (m n : TaskRows) (a : BTreeSet WaitingTask) (kept : IsQueue None m a) (t : SchedEntity)
    (none : listed m t.pid ≡ None)
    (u : Writes m n t.pid (Some t)) where
  run_is : (q : ℕ) → entities (Some t) n q ≡ put (listed m) t.pid (Some (entity_of t)) q
  run_is q =
      elim (cases_eq q t.pid) [
        | inl same ↦ put-at (listed n) t.pid (Some (entity_of t)) q same
            ∙ sym (put-at (listed m) t.pid (Some (entity_of t)) q same)
        | inr other ↦ put-under (listed n) (listed m) t.pid (Some (entity_of t)) q
            (ap (option_map entity_of) (map_other m n t.pid (Some t) u q other))
      ]

  pub come_runs : t.place ≡ Run → IsQueue (Some t) n a
  come_runs runs =
      queue_is (Some t) n a
      (stays (listed m) (entities (Some t) n) t.pid (Some (entity_of t)) run_is a (waiting_in None m a kept)
      (ap (λ p. runtime_if p t.v) runs ∙ sym (ap waiting_runtime none)))
      (only_comes (listed m) (entities (Some t) n) t.pid (Some (entity_of t)) run_is t refl (only_in None m a kept))
      (listed_some n t runs (ap is_some (map_at m n t.pid (Some t) u)))

  pub run_part : (floor : ℤ) (mark : ℕ) → part_with (entities (Some t) n) floor mark ≡ with_entity
      (part_with (entities None m) floor mark) t.pid (Some (entity_of t))
  run_part floor mark = same_tasks (entities (Some t) n) (put (listed m) t.pid (Some (entity_of t))) floor mark run_is

-- the same, where it is told by an equation that nobody ran
pub come_runs_alone : (runner : Option SchedEntity) (m n : TaskRows) (a : BTreeSet WaitingTask)
    → IsQueue runner m a
    → runner ≡ None → (t : SchedEntity)
    → entities runner m t.pid ≡ None → Writes m n t.pid (Some t) → t.place ≡ Run → IsQueue (Some t) n a
come_runs_alone runner m n a kept e t none u runs =
    come_runs m n a (kept_runner runner m a None kept e) t
    (subst (λ (r : Option SchedEntity). entities r m t.pid ≡ None) e none) u runs

pub run_part_alone : (runner : Option SchedEntity) (m n : TaskRows) (a : BTreeSet WaitingTask)
    → IsQueue runner m a
    → runner ≡ None → (t : SchedEntity)
    → entities runner m t.pid ≡ None → Writes m n t.pid (Some t) → (floor : ℤ) (mark : ℕ)
    → part_with (entities (Some t) n) floor mark ≡ with_entity (part_with (entities runner m) floor mark) t.pid
    (Some (entity_of t))
run_part_alone runner m n a kept e t none u floor mark =
    subst (λ (r : Option SchedEntity). part_with (entities (Some t) n) floor mark ≡ with_entity
    (part_with (entities r m) floor mark) t.pid (Some (entity_of t))) (sym e)
    (run_part m n a (kept_runner runner m a None kept e) t
    (subst (λ (r : Option SchedEntity). entities r m t.pid ≡ None) e none) u floor mark)

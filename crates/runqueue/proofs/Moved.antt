-- What a move of one task makes of the runqueue, and of the part that it stands for.
use Rattle.std.proofs.Common.{◌≡◌, ◌≢◌, ℕ, zero, suc, true, false, IsSome, Option, Some, None, option_map, ℤ, pos}
use Rattle.std.proofs.Common.{inl, inr, refl, sym, ap, ◌∙◌, subst}
use Rattle.std.specs.BTreeMap.{is_at}
use Rattle.std.specs.BTreeSet.{BTreeSet, contains}
use Rattle.std.specs.List.{list_any}
use Rattle.std.proofs.lemmas.Bool.{cases_eq}
use Rattle.replay_model.specs.Deeds.{with_entity, goes, part_after_prev}
use Rattle.replay_model.specs.AfterDeed.{part_after_next, woken, wakes}
use Rattle.cfs_model.specs.Machine.{put}
use Rattle.replay_model.specs.Part.{Part, Entity}
use Rattle.replay_model.specs.QueueTests.{IsRunner}
use Rattle.cfs_model.specs.declared.act.Way.{Way}
use Rattle.cfs_model.specs.declared.act.Way.TheVariants.{Stays, Sleeps, Ends}
use Rattle.cfs_model.specs.declared.claim.Claim.{Claim}
use Rattle.cfs_model.specs.declared.task.Place.{Place}
use Rattle.cfs_model.specs.declared.task.Place.TheVariants.{Run, Wait, Rest}
use Rattle.runqueue.specs.declared.sched_entity.SchedEntity.{SchedEntity}
use Rattle.runqueue.specs.Queue.{IsTheRunner}
use Rattle.runqueue.specs.Entities.{by_runtime, listed, entities, runtime_if, waiting_runtime, IsQueue, waiting_task}
use Rattle.runqueue.specs.TaskRows.{TaskRows, Writes, task_in}
use Rattle.runqueue.specs.declared.waiting_task.WaitingTask.{WaitingTask}
use Rattle.runqueue.specs.Tasks.{entity_of}
use Rattle.runqueue.specs.WaitingTasks.{Updates}
use Rattle.cfs_model.proofs.Moves.{put-other}
use Rattle.runqueue.proofs.Parts.{part_with, its_place, same_tasks, put-at, written_over}
use Rattle.runqueue.proofs.EntitiesKept.{queue_is, waiting_in, only_in, listed_in, listed_none, listed_some}
use Rattle.runqueue.proofs.EntitiesKept.{listed_kept}
use Rattle.runqueue.proofs.EntitiesKept.{is_listed, the_runner, runner_apart, entities_listed, entities_same, rewritten}
use Rattle.runqueue.proofs.EntitiesKept.{put_away, runtime_own, joins, parts, stays, only_kept, only_left, only_comes}

-- a switch's two tasks, where they aren't pid 0
pub after_stays : (part : Part) (prev : ℕ) → prev ≢ 0 → goes part prev Wait ≡ part_after_prev part prev Stays
after_stays part zero ne = absurd (ne refl)
after_stays part (suc n) ne = refl

pub after_sleeps : (part : Part) (prev : ℕ) → prev ≢ 0 → goes part prev Rest ≡ part_after_prev part prev Sleeps
after_sleeps part zero ne = absurd (ne refl)
after_sleeps part (suc n) ne = refl

pub after_ends : (part : Part) (prev : ℕ) → prev ≢ 0 → with_entity part prev None ≡ part_after_prev part prev Ends
after_ends part zero ne = absurd (ne refl)
after_ends part (suc n) ne = refl

pub next_goes : (part : Part) (next : ℕ) → next ≢ 0 → goes part next Run ≡ part_after_next part next
next_goes part zero ne = absurd (ne refl)
next_goes part (suc n) ne = refl

-- what a switch makes of its previous task
abbrev after_way : Way → Entity → Option Entity
after_way Stays s = Some (record s { place = Wait })
after_way Sleeps s = Some (record s { place = Rest })
after_way Ends s = None

-- who runs is the previous task
pub prev_is : (part : Part) (t : SchedEntity) → IsTheRunner part (Some t) → (prev : ℕ) → ((IsRunner part prev → ⊥) → ⊥)
    → (prev ≢ 0) × (prev ≡ t.pid)
prev_is part t r zero h = absurd (h (λ nobody. nobody t.pid (ap its_place r.0 ∙ ap Some r.1)))
prev_is part t r (suc n) h =
    elim (cases_eq (suc n) t.pid) [
      | inl same ↦ ((λ e. cc), same)
      | inr other ↦ absurd (h (λ i. other (r.2 (suc n) i)))
    ]

module _ (m n : TaskRows) (a : BTreeSet WaitingTask) (t : SchedEntity) (kept : IsQueue (Some t) m a) (w :
    Option SchedEntity)
    (u : Writes m n t.pid w) where
  ran : IsTheRunner (part_with (entities (Some t) m) (pos 0) 0) (Some t)
  ran = the_runner (Some t) m a (pos 0) 0 kept

  runner_unwaited : waiting_runtime (entities (Some t) m t.pid) ≡ None
  runner_unwaited = ap waiting_runtime ran.0 ∙ ap (λ p. runtime_if p t.v) ran.1

  -- who ran waits
  pub back_queue : (b : BTreeSet WaitingTask) → Updates a b (waiting_task t.v t.pid) true
      → option_map entity_of w ≡ Some (record {
        place = Wait;
        nice = t.nice;
        policy = t.policy;
        runtime = t.v;
        drift =
            t.drift;
      })
      → IsQueue None n b
  back_queue b s is =
      let e : waiting_runtime (option_map entity_of w) ≡ Some t.v = ap waiting_runtime is in
      let ne : its_place (option_map entity_of w) ≡ Some Run
      → ⊥ = λ f. let g : Some Wait ≡ Some Run = sym (ap its_place is) ∙ f in cc in
      queue_is None n b
      (joins (entities (Some t) m) (entities None n) t.pid (option_map entity_of w) (put_away t m n w u) a b t.v
      (waiting_in (Some t) m a kept) s runner_unwaited e)
      (only_left (entities (Some t) m) (entities None n) t.pid (option_map entity_of w) (put_away t m n w u) t refl
      (only_in (Some t) m a kept) ne)
      (listed_none n)

  -- who ran rests or is gone
  pub away_queue : (its_place (option_map entity_of w) ≡ Some Run → ⊥) → waiting_runtime (option_map entity_of w) ≡ None
      → IsQueue None n a
  away_queue ne none =
      queue_is None n a
      (stays (entities (Some t) m) (entities None n) t.pid (option_map entity_of w) (put_away t m n w u) a
      (waiting_in (Some t) m a kept) (none ∙ sym runner_unwaited))
      (only_left (entities (Some t) m) (entities None n) t.pid (option_map entity_of w) (put_away t m n w u) t refl
      (only_in (Some t) m a kept) ne)
      (listed_none n)

  pub prev_entities : (floor : ℤ) (mark : ℕ) (way : Way) → option_map entity_of w ≡ after_way way (entity_of t)
      → (prev : ℕ)
      → ((IsRunner (part_with (entities (Some t) m) floor mark) prev → ⊥) → ⊥)
      → part_with (entities None n) floor mark ≡ part_after_prev (part_with (entities (Some t) m) floor mark) prev way
  prev_entities floor mark way is prev h =
      let old : Part = part_with (entities (Some t) m) floor mark in
      let p = prev_is (part_with (entities (Some t) m) floor mark) t (the_runner (Some t) m a floor mark kept) prev h in
      subst (λ x. part_with (entities None n) floor mark ≡ part_after_prev
      (part_with (entities (Some t) m) floor mark) x way) (sym p.1)
      (same_tasks (entities None n) (put (entities (Some t) m) t.pid (option_map entity_of w)) floor mark
      (put_away t m n w u)
      ∙ go way is (λ e. p.0 (p.1 ∙ e)))
    where
      go : (x : Way) → option_map entity_of w ≡ after_way x (entity_of t) → t.pid ≢ 0
          → with_entity (part_with (entities (Some t) m) floor mark) t.pid (option_map entity_of w) ≡ part_after_prev
          (part_with (entities (Some t) m) floor mark) t.pid x
      go Stays e ne =
          ap (with_entity (part_with (entities (Some t) m) floor mark) t.pid) (e
          ∙ sym (ap (option_map (λ (s : Entity). record s { place = Wait })) ran.0))
          ∙ after_stays (part_with (entities (Some t) m) floor mark) t.pid ne
      go Sleeps e ne =
          ap (with_entity (part_with (entities (Some t) m) floor mark) t.pid) (e
          ∙ sym (ap (option_map (λ (s : Entity). record s { place = Rest })) ran.0))
          ∙ after_sleeps (part_with (entities (Some t) m) floor mark) t.pid ne
      go Ends e ne =
          ap (with_entity (part_with (entities (Some t) m) floor mark) t.pid) e
          ∙ after_ends (part_with (entities (Some t) m) floor mark) t.pid ne

-- the same, where the runner is told by an equation
pub kept_runner : (runner : Option SchedEntity) (m : TaskRows) (a : BTreeSet WaitingTask) (r : Option
    SchedEntity)
    → IsQueue runner m a → runner ≡ r
    → IsQueue r m a
kept_runner runner m a r kept e = subst (λ (x : Option SchedEntity). IsQueue x m a) e kept

pub runner_listed : (runner : Option SchedEntity) (m : TaskRows) (a : BTreeSet WaitingTask) (t :
    SchedEntity)
    → IsQueue runner m a → runner ≡ Some t
    → IsSome (task_in m t.pid)
runner_listed runner m a t kept e = (is_listed runner m (listed_in runner m a kept) t e).1

pub runner_leaves : (runner : Option SchedEntity) (m n : TaskRows) (a : BTreeSet WaitingTask) (t :
    SchedEntity)
    → IsQueue runner m a → runner ≡ Some t
    → (w : Option SchedEntity) → Writes m n t.pid w → (floor : ℤ) (mark : ℕ) (way : Way)
    → option_map entity_of w ≡ after_way way (entity_of t)
    → (prev : ℕ) → ((IsRunner (part_with (entities runner m) floor mark) prev → ⊥) → ⊥)
    → part_with (entities None n) floor mark ≡ part_after_prev (part_with (entities runner m) floor mark) prev way
runner_leaves runner m n a t kept e w u floor mark way is =
    subst (λ (r : Option SchedEntity). (prev : ℕ) → ((IsRunner (part_with (entities r m) floor mark) prev → ⊥) → ⊥)
    → part_with (entities None n) floor mark ≡ part_after_prev (part_with (entities r m) floor mark) prev way) (sym e)
    (prev_entities m n a t (kept_runner runner m a (Some t) kept e) w u floor mark way is)

-- nobody runs: the previous task is the idle one
pub idle_prev : (part : Part) → IsTheRunner part None → (way : Way) (prev : ℕ) → ((IsRunner part prev → ⊥) → ⊥)
    → part ≡ part_after_prev part prev way
idle_prev part nobody way zero h = refl
idle_prev part nobody way (suc n) h = absurd (h (λ i. nobody (suc n) i))

pub nobody_leaves : (runner : Option SchedEntity) (m : TaskRows) (a : BTreeSet WaitingTask)
    → IsQueue runner m a
    → runner ≡ None
    → (floor : ℤ) (mark : ℕ) (way : Way) (prev : ℕ)
    → ((IsRunner (part_with (entities runner m) floor mark) prev → ⊥) → ⊥)
    → part_with (entities runner m) floor mark ≡ part_after_prev (part_with (entities runner m) floor mark) prev way
nobody_leaves runner m a kept e floor mark way prev =
    idle_prev (part_with (entities runner m) floor mark)
    (subst (IsTheRunner (part_with (entities runner m) floor mark)) e (the_runner runner m a floor mark kept)) way prev

-- the next task runs
pub next_queue : (m : TaskRows) (a b : BTreeSet WaitingTask) (t new : SchedEntity) → IsQueue None m a
    → listed m new.pid ≡ Some (entity_of t)
    → Updates a b (waiting_task t.v new.pid) false → new.place ≡ Run → IsQueue (Some new) m b
next_queue m a b t new kept has s runs =
    let own : (v : ℤ) → waiting_runtime (listed m new.pid) ≡ Some v → v ≡ t.v = λ v e.
    runtime_own t.place t.v v (sym (ap waiting_runtime has) ∙ e) in
    queue_is (Some new) m b
    (parts (listed m) (entities (Some new) m) new.pid (Some (entity_of new)) (λ q. refl) a b t.v
    (waiting_in None m a kept) s own (ap (λ p. runtime_if p new.v) runs))
    (only_comes (listed m) (entities (Some new) m) new.pid (Some (entity_of new)) (λ q. refl) new refl
    (only_in None m a kept))
    (listed_some m new runs (go (task_in m new.pid) has))
  where
    go : (o : Option SchedEntity) → option_map entity_of o ≡ Some (entity_of t) → IsSome o
    go None e = cc
    go (Some x) e = refl

pub next_entities : (m : TaskRows) (t new : SchedEntity) (floor : ℤ) (mark : ℕ) → listed m new.pid
    ≡ Some (entity_of t)
    → new.pid ≢ 0
    → entity_of new ≡ record { place = Run; nice = t.nice; policy = t.policy; runtime = t.v; drift = t.drift }
    → part_with (entities (Some new) m) floor mark ≡ part_after_next (part_with (entities None m) floor mark) new.pid
next_entities m t new floor mark has ne is =
    ap (with_entity (part_with (listed m) floor mark) new.pid)
    (ap Some is ∙ sym (ap (option_map (λ (s : Entity). record s { place = Run })) has))
    ∙ next_goes (part_with (entities None m) floor mark) new.pid ne

pub no_next : (m : TaskRows) (next : ℕ) (floor : ℤ) (mark : ℕ) → listed m next ≡ None → next ≢ 0
    → part_with (entities None m) floor mark ≡ part_after_next (part_with (entities None m) floor mark) next
no_next m next floor mark none ne =
    written_over (part_with (listed m) floor mark) next
    (option_map (λ (s : Entity). record s { place = Run }) (listed m next))
    (ap (option_map (λ (s : Entity). record s { place = Run })) none ∙ sym none)
    ∙ next_goes (part_with (entities None m) floor mark) next ne

-- one who doesn't run leaves
module _ (runner : Option SchedEntity) (m n : TaskRows) (a : BTreeSet WaitingTask) (kept : IsQueue
    runner m a)
    (pid : ℕ)
    (at_rest : its_place (entities runner m pid) ≡ Some Run → ⊥) (u : Writes m n pid None) where
  apart : (t : SchedEntity) → runner ≡ Some t → t.pid ≢ pid
  apart = runner_apart runner m a kept pid at_rest

  pub gone_queue : (b : BTreeSet WaitingTask) (t : SchedEntity) → task_in m pid ≡ Some t
      → Updates a b (waiting_task t.v pid) false → IsQueue runner n b
  gone_queue b t has s =
      let own : (v : ℤ) → waiting_runtime (entities runner m pid) ≡ Some v → v ≡ t.v = λ v e.
      runtime_own t.place t.v v
      (sym (ap waiting_runtime (entities_listed runner m pid apart)
      ∙ ap (λ (o : Option SchedEntity). waiting_runtime (option_map entity_of o)) has) ∙ e) in
      queue_is runner n b
      (parts (entities runner m) (entities runner n) pid None (rewritten runner m n pid None u apart) a b t.v
      (waiting_in runner m a kept) s own refl)
      (only_kept (entities runner m) (entities runner n) pid None (rewritten runner m n pid None u apart) runner
      (only_in runner m a kept) (λ e. cc))
      (listed_kept runner m n pid None u apart (listed_in runner m a kept))

  pub nowhere_queue : task_in m pid ≡ None → IsQueue runner n a
  nowhere_queue none =
      queue_is runner n a
      (stays (entities runner m) (entities runner n) pid None (rewritten runner m n pid None u apart) a
      (waiting_in runner m a kept)
      (sym (ap waiting_runtime (entities_listed runner m pid apart)
      ∙ ap (λ (o : Option SchedEntity). waiting_runtime (option_map entity_of o)) none)))
      (only_kept (entities runner m) (entities runner n) pid None (rewritten runner m n pid None u apart) runner
      (only_in runner m a kept) (λ e. cc))
      (listed_kept runner m n pid None u apart (listed_in runner m a kept))

  pub gone_entities : (floor : ℤ) (mark : ℕ)
      → part_with (entities runner n) floor mark ≡ with_entity (part_with (entities runner m) floor mark) pid None
  gone_entities floor mark = same_tasks (entities runner n) (put (entities runner m) pid None) floor mark
      (rewritten runner m n pid None u apart)

-- who stands where nobody runs has a task in the rows
pub listed_has : (m : TaskRows) (pid : ℕ) (s : Entity) → listed m pid ≡ Some s → IsSome (task_in m pid)
listed_has m pid s has = go (task_in m pid) has
  where
    go : (o : Option SchedEntity) → option_map entity_of o ≡ Some s → IsSome o
    go None e = cc
    go (Some x) e = refl

-- one who rests is woken
module _ (runner : Option SchedEntity) (m n : TaskRows) (a : BTreeSet WaitingTask) (kept : IsQueue
    runner m a)
    (pid : ℕ)
    (t : SchedEntity)
    (stands : Some (entity_of t) ≡ entities runner m pid) (rests : t.place ≡ Rest) where
  apart_rest : (x : SchedEntity) → runner ≡ Some x → x.pid ≢ pid
  apart_rest = runner_apart runner m a kept pid (λ e. let f : Some Rest ≡ Some Run = ap Some (sym rests)
      ∙ ap its_place stands ∙ e in cc)

  pub wake_has : IsSome (task_in m pid)
  wake_has = go (task_in m pid) (stands ∙ entities_listed runner m pid apart_rest)
    where
      go : (o : Option SchedEntity) → Some (entity_of t) ≡ option_map entity_of o → IsSome o
      go None e = cc
      go (Some x) e = refl

  module _ (w : SchedEntity) (u : Writes m n pid (Some w)) (v : ℤ)
      (is : entity_of w ≡ record { place = Wait; nice = t.nice; policy = t.policy; runtime = v; drift = t.drift }) where
    pub woken_queue : (b : BTreeSet WaitingTask) → Updates a b (waiting_task v pid) true
        → IsQueue runner n b
    woken_queue b s =
        queue_is runner n b
        (joins (entities runner m) (entities runner n) pid (Some (entity_of w))
        (rewritten runner m n pid (Some w) u apart_rest) a b v (waiting_in runner m a kept) s
        (sym (ap waiting_runtime stands) ∙ ap (λ p. runtime_if p t.v) rests)
        (ap (λ (x : Entity). runtime_if x.place x.runtime) is))
        (only_kept (entities runner m) (entities runner n) pid (Some (entity_of w))
        (rewritten runner m n pid (Some w) u apart_rest) runner (only_in runner m a kept)
        (λ e. let f : Some Wait ≡ Some Run = sym (ap (λ (x : Entity). Some x.place) is) ∙ e in cc))
        (listed_kept runner m n pid (Some w) u apart_rest (listed_in runner m a kept))

    pub woken_part : (floor : ℤ) (mark : ℕ) (claim : Claim) → claim.v ≡ v
        → part_with (entities runner n) floor mark ≡ wakes (part_with (entities runner m) floor mark) pid (Some claim)
    woken_part floor mark claim same =
        same_tasks (entities runner n) (put (entities runner m) pid (Some (entity_of w))) floor mark
        (rewritten runner m n pid (Some w) u apart_rest)
        ∙ ap (with_entity (part_with (entities runner m) floor mark) pid)
        (ap Some is ∙ ap (λ (x : ℤ). Some (record {
          place = Wait;
          nice = t.nice;
          policy = t.policy;
          runtime = x;
          drift =
              t.drift;
        }))
        (sym same)
        ∙ ap (λ p. Some (woken (Some claim) p (entity_of t))) (sym rests)
        ∙ ap (option_map (λ (s : Entity). woken (Some claim) s.place s)) stands)

-- one who doesn't rest stays as it is, and so does one who isn't there
pub not_woken : (part : Part) (pid : ℕ) (claim : Claim) → (s : Entity) → part.tasks pid ≡ Some s → s.place ≢ Rest
    → part ≡ wakes part pid (Some claim)
not_woken part pid claim s e ne =
    written_over part pid (option_map (λ s. woken (Some claim) s.place s) (part.tasks pid))
    (ap (option_map (λ (x : Entity). woken (Some claim) x.place x)) e ∙ ap Some (go s.place ne) ∙ sym e)
  where
    go : (p : Place) → p ≢ Rest → woken (Some claim) p s ≡ s
    go Run ne = refl
    go Wait ne = refl
    go Rest ne = absurd (ne refl)

pub nobody_woken : (part : Part) (pid : ℕ) (claim : Claim) → part.tasks pid ≡ None → part ≡ wakes part pid (Some claim)
nobody_woken part pid claim e =
    written_over part pid (option_map (λ s. woken (Some claim) s.place s) (part.tasks pid))
    (ap (option_map (λ (x : Entity). woken (Some claim) x.place x)) e ∙ sym e)

-- what the map has of a pid is what stands, but for the runner's
pub stands_alone : (runner : Option SchedEntity) (m : TaskRows) (pid : ℕ) → runner ≡ None
    → listed m pid ≡ entities runner m pid
stands_alone runner m pid e = ap (λ r. entities r m pid) (sym e)

pub stands_apart : (runner : Option SchedEntity) (m : TaskRows) (pid : ℕ) (t : SchedEntity) → runner
    ≡ Some t
    → t.pid ≢ pid
    → listed m pid ≡ entities runner m pid
stands_apart runner m pid t e ne =
    sym (put-other (listed m) t.pid (Some (entity_of t)) pid (λ f. ne (sym f))) ∙ ap (λ r. entities r m pid) (sym e)

pub stands_there : (runner : Option SchedEntity) (m : TaskRows) (pid : ℕ) (t : SchedEntity) → runner
    ≡ Some t
    → t.pid ≡ pid
    → Some (entity_of t) ≡ entities runner m pid
stands_there runner m pid t e same =
    sym (put-at (listed m) t.pid (Some (entity_of t)) pid (sym same)) ∙ ap (λ r. entities r m pid) (sym e)

-- keys that are as they were
pub same_waiting_keys : (a b : BTreeSet WaitingTask) → b.keys ≡ a.keys → (v : ℤ) (q : ℕ)
    → contains by_runtime b (waiting_task v q) ≡ contains by_runtime a (waiting_task v q)
same_waiting_keys a b e v q = ap (list_any (is_at (by_runtime (waiting_task v q)))) e

-- a lift that is taken back
pub restored_part : (runner r : Option SchedEntity) (m n : TaskRows) (floor f : ℤ) (mark k : ℕ) → r
    ≡ runner
    → f ≡ floor
    → k ≡ mark
    → ((q : ℕ) → task_in n q ≡ task_in m q)
    → part_with (entities r n) f k ≡ part_with (entities runner m) floor mark
restored_part runner r m n floor f mark k e g h same =
    same_tasks (entities r n) (entities r m) f k (entities_same r m n same)
    ∙ ap (λ x. part_with (entities x m) f k) e
    ∙ ap (λ x. part_with (entities runner m) x k) g
    ∙ ap (λ x. part_with (entities runner m) floor x) h

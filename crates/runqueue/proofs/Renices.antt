-- What another nice value of one task makes of the runqueue, and of the part that it stands for.
use Rattle.std.proofs.Common.{◌≡◌, ◌≢◌, ℕ, Bool, true, false, cond, eqb, IsSome, List, Option, Some, None, option_map}
use Rattle.std.proofs.Common.{◌⊎◌, ℤ, inl, inr, refl, sym, ap, ◌∙◌, subst}
use Rattle.std.specs.BTreeSet.{BTreeSet, contains}
use Rattle.std.proofs.lemmas.Bool.{cases_eq, cond-true, cond-false, eq-eqb, ne_eqb}
use Rattle.cfs_model.specs.Machine.{put}
use Rattle.runqueue.specs.declared.sched_entity.SchedEntity.{SchedEntity}
use Rattle.replay_model.specs.Deeds.{with_entity}
use Rattle.replay_model.specs.Part.{Part, Entity}
use Rattle.runqueue.specs.Queue.{HoldsSame, IsReniced, nice_listed}
use Rattle.runqueue.specs.Entities.{by_runtime, HasNice, IsOnlyRunner, IsQueue, IsRunnerListed, listed, entities}
use Rattle.runqueue.specs.Entities.{waiting_runtime, reniced_task, waiting_task}
use Rattle.runqueue.specs.Tasks.{entity_of}
use Rattle.runqueue.specs.declared.runqueue.Runqueue.{Runqueue}
use Rattle.runqueue.specs.TaskRows.{IsRunnerRow, TaskRows, Writes, task_in}
use Rattle.runqueue.proofs.TaskRows.{runner_row_at, runner_row_is, runner_row_none}
use Rattle.pid_table.specs.Rows.{index_in}
use Rattle.runqueue.specs.declared.waiting_task.WaitingTask.{WaitingTask}
use Rattle.cfs_model.proofs.Moves.{put-other}
use Rattle.runqueue.proofs.Parts.{part_with, its_place, put-at, same_tasks, written_over}
use Rattle.runqueue.proofs.EntitiesKept.{is_listed, listed_in, listed_none, listed_some, map_at, map_other, only_in}
use Rattle.runqueue.proofs.EntitiesKept.{queue_is, stays, waiting_in}

-- a task with another nice value
abbrev changed : ℤ → Entity → Entity
changed nice s = record s { nice = nice }

-- the entry of a pid that is written over with another nice value
pub written : (m n : TaskRows) (pid : ℕ) (nice : ℤ) (t : SchedEntity) → task_in m pid ≡ Some t
    → Writes m n pid (Some (record t { nice = nice })) → HasNice pid nice m n
written m n pid nice t is u = record {
  here = map_at m n pid (Some (record t { nice = nice })) u
      ∙ sym (ap (option_map (λ (x : SchedEntity). record x { nice = nice })) is);
  there = map_other m n pid (Some (record t { nice = nice })) u;
}

-- written back, it is as it was
pub written_back : (l m n : TaskRows) (pid : ℕ) (nice before : ℤ) → HasNice pid nice l m
    → HasNice pid before m n
    → Some before ≡ option_map (λ (t : SchedEntity). t.nice) (task_in l pid) → (q : ℕ) → task_in n q
    ≡ task_in l q
written_back l m n pid nice before h back was q =
    elim (cases_eq q pid) [
      | inl same ↦ subst (λ k. task_in n k ≡ task_in l k) (sym same)
          (back.here ∙ ap (option_map (λ (t : SchedEntity). record t { nice = before })) h.here
          ∙ go (task_in l pid) was)
      | inr other ↦ back.there q other ∙ h.there q other
    ]
  where
    go : (o : Option SchedEntity) → Some before ≡ option_map (λ (t : SchedEntity). t.nice) o
        → option_map (λ (t : SchedEntity). record t { nice = before })
        (option_map (λ (t : SchedEntity). record t { nice = nice }) o) ≡ o
    go None e = cc
    go (Some t) e = let same : before ≡ t.nice = cc in ap (λ (x : ℤ). Some (record t { nice = x })) same

-- nobody of a pid stands here that the map has no entry of
pub nobody_listed : (runner : Option SchedEntity) (m : TaskRows) (a : BTreeSet WaitingTask)
    → IsQueue runner m a
    → (pid : ℕ) → task_in m pid ≡ None
    → entities runner m pid ≡ None
nobody_listed None m a kept pid none = ap (option_map entity_of) none
nobody_listed (Some t) m a kept pid none =
    elim (cases_eq t.pid pid) [
      | inl own ↦
          let has : IsSome (task_in m t.pid) = (is_listed (Some t) m (listed_in (Some t) m a kept) t refl).1 in
          let gone : task_in m t.pid ≡ None = ap (task_in m) own ∙ none in
          absurd (go (task_in m t.pid) has gone)
      | inr other ↦ put-other (listed m) t.pid (Some (entity_of t)) pid (λ e. other (sym e))
          ∙ ap (option_map entity_of) none
    ]
  where
    go : (o : Option SchedEntity) → IsSome o → o ≡ None → ⊥
    go None i e = cc
    go (Some t) i e = cc

-- who runs keeps its row when a nice value changes
pub reniced_runner_row : (runner : Option SchedEntity) (pids : List ℕ) (row pid : ℕ) (nice : ℤ)
    → IsRunnerRow runner pids row → IsRunnerRow (option_map (reniced_task pid nice) runner) pids row
reniced_runner_row None pids row pid nice in_row = runner_row_none None pids row refl
reniced_runner_row (Some t) pids row pid nice in_row =
    runner_row_at (reniced_task pid nice t) pids row
    (ap (index_in pids) (go (eqb t.pid pid)) ∙ runner_row_is (Some t) pids row in_row t refl)
  where
    go : (b : Bool) → (cond b (record t { nice = nice }) t).pid ≡ t.pid
    go true = refl
    go false = refl

-- a part where nobody of the pid stands
pub nobody_changed : (part : Part) (pid : ℕ) (nice : ℤ) → part.tasks pid ≡ None
    → part ≡ with_entity part pid (option_map (λ (s : Entity). record s { nice = nice }) (part.tasks pid))
nobody_changed part pid nice none =
    written_over part pid (option_map (changed nice) (part.tasks pid)) (ap (option_map (changed nice)) none ∙ sym none)

module _ (m n : TaskRows) (pid : ℕ) (nice : ℤ) (h : HasNice pid nice m n) where
  listed_here : listed n pid ≡ option_map (changed nice) (listed m pid)
  listed_here =
      ap (option_map entity_of) h.here ∙ go (task_in m pid)
    where
      go : (o : Option SchedEntity) → option_map entity_of (option_map (λ (t : SchedEntity). record t {
        nice = nice;
      }) o)
          ≡ option_map
          (changed nice) (option_map entity_of o)
      go None = refl
      go (Some t) = refl

  listed_there : (q : ℕ) → q ≢ pid → listed n q ≡ listed m q
  listed_there q other = ap (option_map entity_of) (h.there q other)

  changed_own : (t : SchedEntity) → t.pid ≡ pid → reniced_task pid nice t ≡ record t { nice = nice }
  changed_own t own = cond-true (eqb t.pid pid) (record t { nice = nice }) t (eq-eqb t.pid pid own)

  changed_other : (t : SchedEntity) → t.pid ≢ pid → reniced_task pid nice t ≡ t
  changed_other t other = cond-false (eqb t.pid pid) (record t { nice = nice }) t (ne_eqb t.pid pid other)

  -- who stands
  pub renices : (runner : Option SchedEntity) (q : ℕ) → entities (option_map (reniced_task pid nice) runner) n q
      ≡ put (entities runner m) pid (option_map (changed nice) (entities runner m pid)) q
  renices None q =
      elim (cases_eq q pid) [
        | inl same ↦ ap (listed n) same ∙ listed_here
            ∙ sym (put-at (listed m) pid (option_map (changed nice) (listed m pid)) q same)
        | inr other ↦ listed_there q other
            ∙ sym (put-other (listed m) pid (option_map (changed nice) (listed m pid)) q other)
      ]
  renices (Some t) q =
      elim (cases_eq t.pid pid) [
        | inl own ↦ ap (λ (u : SchedEntity). entities (Some u) n q) (changed_own t own) ∙ its_own own (cases_eq q pid)
        | inr other ↦ ap (λ (u : SchedEntity). entities (Some u) n q) (changed_other t other)
            ∙ another other (cases_eq q t.pid) (cases_eq q pid)
      ]
    where
      its_own : t.pid ≡ pid → (q ≡ pid) ⊎ (q ≡ pid → ⊥) → entities (Some (record t { nice = nice })) n q
          ≡ put (entities (Some t) m) pid (option_map (changed nice) (entities (Some t) m pid)) q
      its_own own (inl same) =
          put-at (listed n) t.pid (Some (entity_of (record t { nice = nice }))) q (same ∙ sym own)
          ∙ ap (option_map (changed nice)) (sym (put-at (listed m) t.pid (Some (entity_of t)) pid (sym own)))
          ∙ sym (put-at (entities (Some t) m) pid (option_map (changed nice) (entities (Some t) m pid)) q same)
      its_own own (inr away) =
          put-other (listed n) t.pid (Some (entity_of (record t { nice = nice }))) q (λ e. away (e ∙ own))
          ∙ listed_there q away ∙ sym (put-other (listed m) t.pid (Some (entity_of t)) q (λ e. away (e ∙ own)))
          ∙ sym (put-other (entities (Some t) m) pid (option_map (changed nice) (entities (Some t) m pid)) q away)

      another : t.pid ≢ pid → (q ≡ t.pid) ⊎ (q ≡ t.pid → ⊥) → (q ≡ pid) ⊎ (q ≡ pid → ⊥) → entities (Some t) n q
          ≡ put (entities (Some t) m) pid (option_map (changed nice) (entities (Some t) m pid)) q
      another other (inl is) at =
          put-at (listed n) t.pid (Some (entity_of t)) q is ∙ sym (put-at (listed m) t.pid (Some (entity_of t)) q is)
          ∙ sym (put-other (entities (Some t) m) pid (option_map (changed nice) (entities (Some t) m pid)) q
          (λ e. other (sym is ∙ e)))
      another other (inr ne) (inl same) =
          put-other (listed n) t.pid (Some (entity_of t)) q ne ∙ ap (listed n) same ∙ listed_here
          ∙ ap (option_map (changed nice))
          (sym (put-other (listed m) t.pid (Some (entity_of t)) pid (λ e. other (sym e))))
          ∙ sym (put-at (entities (Some t) m) pid (option_map (changed nice) (entities (Some t) m pid)) q same)
      another other (inr ne) (inr away) =
          put-other (listed n) t.pid (Some (entity_of t)) q ne ∙ listed_there q away
          ∙ sym (put-other (listed m) t.pid (Some (entity_of t)) q ne)
          ∙ sym (put-other (entities (Some t) m) pid (option_map (changed nice) (entities (Some t) m pid)) q away)

  pub reniced_part : (runner : Option SchedEntity) (floor : ℤ) (mark : ℕ)
      → part_with (entities (option_map (reniced_task pid nice) runner) n) floor mark
      ≡ with_entity (part_with (entities runner m) floor mark) pid
      (option_map (λ (s : Entity). record s { nice = nice }) (entities runner m pid))
  reniced_part runner floor mark =
      same_tasks (entities (option_map (reniced_task pid nice) runner) n)
      (put (entities runner m) pid (option_map (changed nice) (entities runner m pid)))
      floor mark (renices runner)

  -- each stands where it did
  places : (runner : Option SchedEntity) (q : ℕ)
      → its_place (entities (option_map (reniced_task pid nice) runner) n q) ≡ its_place (entities runner m q)
  places runner q =
      ap its_place (renices runner q)
      ∙ elim (cases_eq q pid) [
        | inl same ↦ ap its_place (put-at (entities runner m) pid
            (option_map (changed nice) (entities runner m pid)) q same)
            ∙ go (entities runner m pid) ∙ ap (λ k. its_place (entities runner m k)) (sym same)
        | inr other ↦ ap its_place (put-other (entities runner m) pid
            (option_map (changed nice) (entities runner m pid)) q other)
      ]
    where
      go : (o : Option Entity) → its_place (option_map (changed nice) o) ≡ its_place o
      go None = refl
      go (Some s) = refl

  own_pid : (t : SchedEntity) → (reniced_task pid nice t).pid ≡ t.pid
  own_pid t = go (eqb t.pid pid)
    where
      go : (b : Bool) → (cond b (record t { nice = nice }) t).pid ≡ t.pid
      go true = refl
      go false = refl

  own_place : (t : SchedEntity) → (reniced_task pid nice t).place ≡ t.place
  own_place t = go (eqb t.pid pid)
    where
      go : (b : Bool) → (cond b (record t { nice = nice }) t).place ≡ t.place
      go true = refl
      go false = refl

  entry_kept : (k : ℕ) → IsSome (task_in m k) → IsSome (task_in n k)
  entry_kept k has =
      elim (cases_eq k pid) [
        | inl same ↦ subst (λ (o : Option SchedEntity). IsSome o) (sym (ap (task_in n) same ∙ h.here))
            (go (task_in m pid) (subst (λ x. IsSome (task_in m x)) same has))
        | inr other ↦ subst (λ (o : Option SchedEntity). IsSome o) (sym (h.there k other)) has
      ]
    where
      go : (o : Option SchedEntity) → IsSome o → IsSome (option_map (λ (t : SchedEntity). record t { nice = nice }) o)
      go None i = cc
      go (Some t) i = refl

  only_it : (runner : Option SchedEntity) → IsOnlyRunner (entities runner m) runner
      → IsOnlyRunner (entities (option_map (reniced_task pid nice) runner) n)
      (option_map (reniced_task pid nice) runner)
  unfolding IsOnlyRunner
  only_it runner only q i =
      pids runner ∙ only q (sym (places runner q) ∙ i)
    where
      pids : (r : Option SchedEntity) → option_map (λ t. t.pid) (option_map (reniced_task pid nice) r) ≡ option_map
          (λ t. t.pid) r
      pids None = refl
      pids (Some t) = ap Some (own_pid t)

  has_entry : (runner : Option SchedEntity) → IsRunnerListed runner m
      → IsRunnerListed (option_map (reniced_task pid nice) runner) n
  has_entry None has = listed_none n
  has_entry (Some t) has =
      let l = is_listed (Some t) m has t refl in
      listed_some n (reniced_task pid nice t) (own_place t ∙ l.0)
      (subst (λ k. IsSome (task_in n k)) (sym (own_pid t)) (entry_kept t.pid l.1))

  pub reniced_queue : (runner : Option SchedEntity) (a : BTreeSet WaitingTask) → IsQueue runner m a
      → IsQueue (option_map (reniced_task pid nice) runner) n a
  reniced_queue runner a kept =
      queue_is (option_map (reniced_task pid nice) runner) n a
      (stays (entities runner m) (entities (option_map (reniced_task pid nice) runner) n) pid
      (option_map (changed nice) (entities runner m pid)) (renices runner)
      a (waiting_in runner m a kept) (go (entities runner m pid)))
      (only_it runner (only_in runner m a kept))
      (has_entry runner (listed_in runner m a kept))
    where
      go : (o : Option Entity) → waiting_runtime (option_map (changed nice) o) ≡ waiting_runtime o
      go None = refl
      go (Some s) = refl

  -- who has an entry stands here
  listed_stands : task_in m pid ≢ None → listed m pid ≢ None
  listed_stands has none = has (go (task_in m pid) none)
    where
      go : (o : Option SchedEntity) → option_map entity_of o ≡ None → o ≡ None
      go None e = refl
      go (Some t) e = cc

  pub stands_listed : (runner : Option SchedEntity) → task_in m pid ≢ None → entities runner m pid ≢ None
  stands_listed None has none = listed_stands has none
  stands_listed (Some t) has none =
      elim (cases_eq pid t.pid) [
        | inl own ↦ let e : Some (entity_of t) ≡ None = sym (put-at (listed m) t.pid (Some (entity_of t)) pid own)
            ∙ none in absurd cc
        | inr other ↦ listed_stands has (sym (put-other (listed m) t.pid (Some (entity_of t)) pid other) ∙ none)
      ]

-- maps and sets that hold the same as each other
pub holds_both : (a b c : Runqueue) → HoldsSame a b → HoldsSame b c → HoldsSame a c
holds_both a b c g h = record {
  pids = h.pids ∙ g.pids;
  tasks = λ pid. h.tasks pid ∙ g.tasks pid;
  waiting = λ v pid. h.waiting v pid ∙ g.waiting v pid;
}

-- a change of a nice value that is taken back
pub renice_undone : (a b c d : Runqueue) (pid : ℕ) (nice before : ℤ) → IsReniced pid nice a b → HoldsSame b c
    → IsReniced pid before c d
    → Some before ≡ nice_listed a pid → HoldsSame a d
renice_undone a b c d pid nice before g same h was = record {
  pids = h.pids ∙ same.pids ∙ g.pids;
  tasks = written_back a.tasks c.tasks d.tasks pid nice before
      (record {
        here = same.tasks pid ∙ g.listed.here;
        there = λ q ne. same.tasks q
            ∙ g.listed.there q ne;
      }) h.listed was;
  waiting = λ v q. ap (λ w. contains by_runtime w (waiting_task v q)) h.waiting ∙ same.waiting v q
      ∙ ap (λ w. contains by_runtime w (waiting_task v q)) g.waiting;
}

-- Charging who runs and raising the floor is the charge and the lift of the part.
use Rattle.std.proofs.Common.{◌≡◌, ◌≢◌, ℕ, ◌-◌, ◌<◌, ◌≤◌, false, IsTrue, List, [], ◌∷◌, length, Option, Some, None}
use Rattle.std.proofs.Common.{option_map, ℤ, pos, ◌+ℤ◌, ◌≤ℤ◌, ◌<ℤ◌, ◌⊎◌, inl, inr, refl, sym, ap, ◌∙◌, subst}
use Rattle.std.proofs.Common.{true≢false, arith}
use Rattle.std.specs.BTreeMap.{is_at}
use Rattle.std.specs.BTreeSet.{BTreeSet, contains, IsLowerBound, btree_set_len}
use Rattle.std.specs.Int.{int_min}
use Rattle.std.specs.List.{list_any}
use Rattle.std.specs.Ordering.{int_cmp, MatchOrdering}
use Rattle.std.specs.declared.cmp.Ordering.{Ordering}
use Rattle.std.specs.declared.cmp.Ordering.TheVariants.{Less, Equal, Greater}
use Rattle.std.proofs.lemmas.Bool.{cases_lt, cases_eq}
use Rattle.std.proofs.lemmas.Cmp.{int_ranked}
use Rattle.std.proofs.lemmas.Int.{ints, clamps}
use Rattle.std.proofs.lemmas.Option.{same_Some}
use Rattle.cfs_model.specs.Charge.{greatest}
use Rattle.cfs_model.specs.Machine.{put}
use Rattle.cfs_model.specs.Told.{drift_after, IsWithin}
use Rattle.cfs_model.specs.declared.charge_line.ChargeLine.{ChargeLine}
use Rattle.replay_model.specs.Needs.{IsLeastWaiting}
use Rattle.replay_model.specs.Part.{Part, Entity, NobodyIn, charged_part, charged_in, told_in, told_part}
use Rattle.replay_model.specs.Part.{cost_in, runtime_after, IsLeastHere}
use Rattle.replay_model.specs.QueueTests.{IsOutOfRange, IsWrongCharge}
use Rattle.cfs_model.specs.declared.task.Place.{Place}
use Rattle.cfs_model.specs.declared.task.Place.TheVariants.{Run, Wait, Rest}
use Rattle.runqueue.specs.declared.sched_entity.SchedEntity.{SchedEntity}
use Rattle.runqueue.specs.Queue.{IsTheRunner, IsLeastIfWaiting, IsLeastQueued, IsChargeFault}
use Rattle.runqueue.specs.Entities.{by_runtime, listed, entities, runtime_if, waiting_runtime, IsOnlyRunner, IsQueue}
use Rattle.runqueue.specs.Entities.{waiting_task}
use Rattle.pid_table.specs.Rows.{index_in}
use Rattle.runqueue.specs.TaskRows.{IsRunnerRow, TaskRows}
use Rattle.runqueue.specs.declared.waiting_task.WaitingTask.{WaitingTask}
use Rattle.runqueue.specs.Tasks.{cost_of, charged_task, CanBeCharged, CanBeChargedAs, charged_as, told_task}
use Rattle.runqueue.specs.Tasks.{IsChargeFaultOf, entity_of}
use Rattle.runqueue.specs.declared.charging.ChargeFault.{ChargeFault}
use Rattle.runqueue.specs.declared.charging.ChargeFault.TheVariants.{Range, Told}
use Rattle.cfs_model.proofs.Moves.{put-other}
use Rattle.runqueue.proofs.Parts.{part_with, its_place, same_tasks, put-at}
use Rattle.runqueue.proofs.EntitiesKept.{queue_is, waiting_in, only_in, listed_in, listed_none, listed_some, is_listed}
use Rattle.runqueue.proofs.EntitiesKept.{waits_where, the_runner, stays, only_runs, only_none, waiting_none}
use Rattle.runqueue.proofs.EntitiesKept.{lower_runtime}
use Rattle.runqueue.proofs.TaskRows.{runner_row_at, task_none}

-- nobody stands in an empty map, and nobody waits in an empty set
pub empty_queue : (m : TaskRows) (a : BTreeSet WaitingTask) → m.pids ≡ [] → a.keys ≡ []
    → IsQueue None m a
empty_queue m a e f =
    let none : (q : ℕ) → listed m q ≡ None =
    λ q. ap (option_map entity_of) (task_none m e q) in
    queue_is None m a
    (waiting_none (listed m) a none (λ k. ap (list_any (is_at (by_runtime k))) f))
    (only_none (listed m) (λ q i. let h : None ≡ Some Run = sym (ap its_place (none q)) ∙ i in cc))
    (listed_none m)

-- who runs keeps its row when it is charged
pub charged_runner_row : (charge : Option ChargeLine) (delta : ℕ) (t : SchedEntity) (pids : List ℕ) (row : ℕ)
    → index_in pids t.pid ≡ Some row
    → IsRunnerRow (Some (charged_as charge (charged_task delta t))) pids row
charged_runner_row None delta t pids row is = runner_row_at (charged_task delta t) pids row is
charged_runner_row (Some line) delta t pids row is = runner_row_at (told_task line (charged_task delta t)) pids row is

-- one who waits
waits_is : (o : Option Entity) (v : ℤ) → waiting_runtime o ≡ Some v → (s : Entity) × (o ≡ Some s) × (s.place ≡ Wait)
    × (s.runtime ≡ v)
waits_is None v e = cc
waits_is (Some s) v e = let h = go s.place e in (s, refl, h.0, h.1)
  where
    go : (p : Place) → runtime_if p s.runtime ≡ Some v → (p ≡ Wait) × (s.runtime ≡ v)
    go Run e = absurd cc
    go Wait e = (refl, same_Some s.runtime v e)
    go Rest e = absurd cc

waiting_is : (o : Option Entity) (s : Entity) → o ≡ Some s → s.place ≡ Wait → waiting_runtime o ≡ Some s.runtime
waiting_is o s e w = ap waiting_runtime e ∙ ap (λ p. runtime_if p s.runtime) w

no_keys : (a : BTreeSet WaitingTask) → (0 < btree_set_len a → ⊥) → (k : WaitingTask) → contains by_runtime a k ≡ false
no_keys a none k = go a.keys none
  where
    go : (ks : List WaitingTask) → (0 < length ks → ⊥) → list_any (is_at (by_runtime k)) ks ≡ false
    go [] h = refl
    go (x ∷ xs) h = absurd (h (omega arith))

module _ (runner : Option SchedEntity) (m : TaskRows) (a : BTreeSet WaitingTask) (floor : ℤ) (mark : ℕ)
    (kept : IsQueue runner m a) where
  -- the first of the set is the least of those who wait
  pub least_is : (k : WaitingTask) → IsTrue (contains by_runtime a k) → IsLowerBound by_runtime a k
      → IsLeastWaiting (part_with (entities runner m) floor mark) k.v
  least_is k member least =
      let at = waits_where (entities runner m) a (waiting_in runner m a kept) in
      let w = waits_is (entities runner m k.pid) k.v ((at k.v k.pid).0 member) in
      record {
        pid = k.pid;
        task = w.0;
        stands = w.1;
        waits = w.2;
        runtime = w.3;
        least = λ other s e waits. lower_runtime k.v s.runtime k.pid other
            (least (waiting_task s.runtime other)
            ((at s.runtime other).1 (waiting_is (entities runner m other) s e waits)));
      }

  -- where the set is empty nobody waits
  pub none_waits : (0 < btree_set_len a → ⊥) → NobodyIn (part_with (entities runner m) floor mark) Wait
  none_waits none pid i =
      go (entities runner m pid) refl i
    where
      go : (o : Option Entity) → entities runner m pid ≡ o → its_place o ≡ Some Wait → ⊥
      go None e i = cc
      go (Some s) e i =
          let h = (waits_where (entities runner m) a (waiting_in runner m a kept) s.runtime pid).1
          (waiting_is (entities runner m pid) s e (same_Some s.place Wait i)) in
          true≢false (sym h ∙ no_keys a none (waiting_task s.runtime pid))

-- who is queued runs or waits
pub queued : (p : Place) → p ≢ Rest → (p ≡ Run) ⊎ (p ≡ Wait)
queued Run ne = inl refl
queued Wait ne = inr refl
queued Rest ne = absurd (ne refl)

pub run_queued : (p : Place) → p ≡ Run → p ≢ Rest
run_queued p e f = let g : Run ≡ Rest = sym e ∙ f in cc

pub wait_queued : (p : Place) → p ≡ Wait → p ≢ Rest
wait_queued p e f = let g : Wait ≡ Rest = sym e ∙ f in cc

-- the runner's virtual runtime is that of each who runs
runner_only : (part : Part) (t : SchedEntity) → IsTheRunner part (Some t) → (pid : ℕ) (s : Entity) → part.tasks pid
    ≡ Some s
    → s.place ≡ Run → s.runtime ≡ t.v
runner_only part t r pid s e runs =
    let p : pid ≡ t.pid = r.2 pid (ap its_place e ∙ ap Some runs) in
    ap (λ (x : Entity). x.runtime) (same_Some s (entity_of t) (sym e ∙ ap part.tasks p ∙ r.0))

pub least_with_runner : (part : Part) (t : SchedEntity) (v : ℤ) → IsTheRunner part (Some t) → IsLeastWaiting part v
    → IsLeastHere part (int_min v t.v)
least_with_runner part t v r w =
    elim (cases_ℤ v t.v) [
      | inl below ↦ record {
        pid = w.pid;
        task = w.task;
        stands = w.stands;
        queued = wait_queued w.task.place w.waits;
        runtime = (let h = w.runtime in omega (arith, ints, clamps, below, h));
        least = λ other s e q. each other s e (queued s.place q);
      }
      | inr above ↦ record {
        pid = t.pid;
        task = entity_of t;
        stands = r.0;
        queued = run_queued t.place r.1;
        runtime = omega (arith, ints, clamps, above);
        least = λ other s e q. each other s e (queued s.place q);
      }
    ]
  where
    cases_ℤ : (x y : ℤ) → (x ≤ℤ y) ⊎ (y <ℤ x)
    cases_ℤ x y = go (int_cmp x y) (int_ranked x y (int_cmp x y) refl)
      where
        go : (o : Ordering) → MatchOrdering o (x <ℤ y) (x ≡ y) (y <ℤ x) → (x ≤ℤ y) ⊎ (y <ℤ x)
        go Less h = inl (omega (arith, ints, h))
        go Equal h = inl (omega (arith, ints, h))
        go Greater h = inr h

    each : (other : ℕ) (s : Entity) → part.tasks other ≡ Some s → (s.place ≡ Run) ⊎ (s.place ≡ Wait)
        → int_min v t.v ≤ℤ s.runtime
    each other s e (inl runs) = let h = runner_only part t r other s e runs in omega (arith, ints, clamps, h)
    each other s e (inr waits) = let h = w.least other s e waits in omega (arith, ints, clamps, h)

pub least_of_runner : (part : Part) (t : SchedEntity) → IsTheRunner part (Some t) → NobodyIn part Wait
    → IsLeastHere part t.v
least_of_runner part t r nobody = record {
  pid = t.pid;
  task = entity_of t;
  stands = r.0;
  queued = run_queued t.place r.1;
  runtime = refl;
  least = λ other s e q. each other s e (queued s.place q);
}
  where
    each : (other : ℕ) (s : Entity) → part.tasks other ≡ Some s → (s.place ≡ Run) ⊎ (s.place ≡ Wait) → t.v ≤ℤ s.runtime
    each other s e (inl runs) = let h = runner_only part t r other s e runs in omega (arith, ints, h)
    each other s e (inr waits) = absurd (nobody other (ap its_place e ∙ ap Some waits))

pub least_without_runner : (part : Part) (o : Option ℤ) → IsTheRunner part None → IsLeastIfWaiting part o
    → IsLeastQueued part o
least_without_runner part None nobody none = λ pid s e q. each pid s e (queued s.place q)
  where
    each : (pid : ℕ) (s : Entity) → part.tasks pid ≡ Some s → (s.place ≡ Run) ⊎ (s.place ≡ Wait) → ⊥
    each pid s e (inl runs) = nobody pid (ap its_place e ∙ ap Some runs)
    each pid s e (inr waits) = none pid (ap its_place e ∙ ap Some waits)
least_without_runner part (Some v) nobody w = record {
  pid = w.pid;
  task = w.task;
  stands = w.stands;
  queued = wait_queued w.task.place w.waits;
  runtime = w.runtime;
  least = λ other s e q. each other s e (queued s.place q);
}
  where
    each : (pid : ℕ) (s : Entity) → part.tasks pid ≡ Some s → (s.place ≡ Run) ⊎ (s.place ≡ Wait) → v ≤ℤ s.runtime
    each pid s e (inl runs) = absurd (nobody pid (ap its_place e ∙ ap Some runs))
    each pid s e (inr waits) = w.least pid s e waits

-- one who doesn't run isn't charged
uncharged : (part : Part) (time : ℕ) (o : Option Entity) → (its_place o ≡ Some Run → ⊥)
    → o ≡ option_map (charged_in part time) o
uncharged part time None ne = refl
uncharged part time (Some s) ne = ap Some (go s.place (λ e. ne (ap Some e)))
  where
    go : (p : Place) → p ≢ Run → s ≡ record s { runtime = runtime_after p (cost_in part time s) s.runtime }
    go Run ne = absurd (ne refl)
    go Wait ne = refl
    go Rest ne = refl

-- nobody runs
module _ (runner : Option SchedEntity) (m : TaskRows) (a : BTreeSet WaitingTask) (floor : ℤ) (mark time
    : ℕ)
    (kept : IsQueue runner m a) (none : runner ≡ None) where
  nobody : NobodyIn (part_with (entities runner m) floor mark) Run
  nobody = subst (IsTheRunner (part_with (entities runner m) floor mark)) none (the_runner runner m a floor mark kept)

  pub idle_charged : part_with (entities runner m) floor time ≡ charged_part
      (part_with (entities runner m) floor mark) time
  idle_charged =
      same_tasks (entities runner m) (charged_part (part_with (entities runner m) floor mark) time).tasks floor time
      (λ q. uncharged (part_with (entities runner m) floor mark) time (entities runner m q) (nobody q))

  -- nothing is right that is told
  pub idle_wrong : (bound : ℕ) (charge : ChargeLine)
      → IsWrongCharge bound (part_with (entities runner m) floor mark) time (Some charge) charge.pid
  idle_wrong bound charge = ((λ h. nobody charge.pid (ap its_place h.stands ∙ ap Some h.runs)), refl)

  pub idle_in_range : (pid : ℕ) → ¬ IsOutOfRange (part_with (entities runner m) floor mark) time pid
  idle_in_range pid o = nobody pid (ap its_place o.stands ∙ ap Some o.runs)

-- somebody runs
module _ (runner : Option SchedEntity) (m : TaskRows) (a : BTreeSet WaitingTask) (floor : ℤ) (mark time
    : ℕ)
    (kept : IsQueue runner m a) (t : SchedEntity) (is : runner ≡ Some t) where
  ran : IsTheRunner (part_with (entities runner m) floor mark) (Some t)
  ran = subst (IsTheRunner (part_with (entities runner m) floor mark)) is (the_runner runner m a floor mark kept)

  pub fits_in_range : CanBeCharged (time - mark) t → (pid : ℕ)
      → ¬ IsOutOfRange (part_with (entities runner m) floor mark) time pid
  fits_in_range can pid o =
      let p : pid ≡ t.pid = ran.2 pid (ap its_place o.stands ∙ ap Some o.runs) in
      let e : o.task ≡ entity_of t = same_Some o.task (entity_of t) (sym o.stands ∙ ap (entities runner m) p ∙ ran.0) in
      let far : (greatest < cost_of (time - mark) t) ⊎ (pos greatest <ℤ (t.v +ℤ pos (cost_of (time - mark) t)))
      = subst (λ (s : Entity). (greatest < cost_in (part_with (entities runner m) floor mark) time s)
      ⊎ (pos greatest <ℤ (s.runtime +ℤ pos (cost_in (part_with (entities runner m) floor mark) time s)))) e
      o.above in
      elim far [ inl h ↦ absurd (omega (arith, can.0, h)) | inr h ↦ absurd (omega (arith, ints, can.1, h)) ]

  pub above_range : (CanBeCharged (time - mark) t → ⊥)
      → IsOutOfRange (part_with (entities runner m) floor mark) time t.pid
  above_range cannot = record {
    task = entity_of t;
    stands = ran.0;
    runs = ran.1;
    above = far (cases_lt greatest (cost_of (time - mark) t));
  }
    where
      far : ((greatest < cost_of (time - mark) t) ⊎ (cost_of (time - mark) t ≤ greatest))
          → (greatest < cost_of (time - mark) t) ⊎ (pos greatest <ℤ (t.v +ℤ pos (cost_of (time - mark) t)))
      far (inl h) = inl h
      far (inr h) = inr (let c : ((t.v +ℤ pos (cost_of (time - mark) t)) ≤ℤ pos greatest)
          → ⊥ = λ n. cannot (h, n) in grind (arith, ints, c))

  -- the runner with another virtual runtime and drift, as it stands
  abbrev with_values : ℤ → ℤ → SchedEntity
  with_values v d = record t { v = v; drift = d }

  valued_standing : (v d : ℤ) (q : ℕ)
      → entities (Some (with_values v d)) m q ≡ put (entities runner m) t.pid (Some (entity_of (with_values v d))) q
  valued_standing v d q =
      elim (cases_eq q t.pid) [
        | inl same ↦ put-at (listed m) t.pid (Some (entity_of (with_values v d))) q same
            ∙ sym (put-at (entities runner m) t.pid (Some (entity_of (with_values v d))) q same)
        | inr other ↦ put-other (listed m) t.pid (Some (entity_of (with_values v d))) q other
            ∙ sym (put-other (listed m) t.pid (Some (entity_of t)) q other) ∙ ap (λ r. entities r m q) (sym is)
            ∙ sym (put-other (entities runner m) t.pid (Some (entity_of (with_values v d))) q other)
      ]

  valued_queue : (v d : ℤ) → IsQueue (Some (with_values v d)) m a
  valued_queue v d =
      let has = is_listed runner m (listed_in runner m a kept) t is in
      queue_is (Some (with_values v d)) m a
      (stays (entities runner m) (entities (Some (with_values v d)) m) t.pid
      (Some (entity_of (with_values v d))) (valued_standing v d) a (waiting_in runner m a kept)
      (ap (λ p. runtime_if p v) ran.1
      ∙ sym (ap waiting_runtime ran.0 ∙ ap (λ p. runtime_if p t.v) ran.1)))
      (only_runs (entities runner m) (entities (Some (with_values v d)) m) t.pid
      (Some (entity_of (with_values v d))) (valued_standing v d) t (with_values v d) refl refl
      (subst (λ r. IsOnlyRunner (entities runner m) r) is (only_in runner m a kept)))
      (listed_some m (with_values v d) has.0 has.1)

  pub charged_queue : (charge : Option ChargeLine) → IsQueue (Some (charged_as charge (charged_task (time - mark)
      t))) m a
  charged_queue None = valued_queue (t.v +ℤ pos (cost_of (time - mark) t)) t.drift
  charged_queue (Some charge) =
      valued_queue charge.v (drift_after t.drift charge.v (t.v +ℤ pos (cost_of (time - mark) t)))

  exactly_is : part_with (entities (Some (charged_task (time - mark) t)) m) floor time ≡ charged_part
      (part_with (entities runner m) floor mark) time
  exactly_is =
      same_tasks (entities (Some (charged_task (time - mark) t)) m)
      (charged_part (part_with (entities runner m) floor mark) time).tasks floor time (λ q.
      valued_standing (t.v +ℤ pos (cost_of (time - mark) t)) t.drift q ∙ elim (cases_eq q t.pid) [
        | inl same ↦ put-at (entities runner m) t.pid (Some (entity_of (charged_task (time - mark) t))) q same
            ∙ ap (λ p. Some (record (entity_of t) { runtime = runtime_after p (cost_of (time - mark) t) t.v }))
            (sym ran.1 ∙ refl) ∙ refl
            ∙ sym (ap (option_map (charged_in (part_with (entities runner m) floor mark) time))
            (ap (entities runner m) same ∙ ran.0))
        | inr other ↦ put-other (entities runner m) t.pid (Some (entity_of (charged_task (time - mark) t))) q other
            ∙ uncharged (part_with (entities runner m) floor mark) time (entities runner m q) (λ i. other (ran.2 q i))
      ])

  told_standing : (charge : ChargeLine) (exact : SchedEntity) → charge.pid ≡ exact.pid → (q : ℕ)
      → entities (Some (told_task charge exact)) m q
      ≡ (told_part (Some charge) (part_with (entities (Some exact) m) floor time)).tasks q
  told_standing charge exact same q =
      elim (cases_eq q exact.pid) [
        | inl here ↦ put-at (listed m) exact.pid (Some (entity_of (told_task charge exact))) q here
            ∙ sym (ap (option_map (told_in charge.v)) (put-at (listed m) exact.pid (Some (entity_of exact)) charge.pid
            same))
            ∙ sym (put-at (entities (Some exact) m) charge.pid (option_map (told_in charge.v)
            (entities (Some exact) m charge.pid)) q (here ∙ sym same))
        | inr other ↦ put-other (listed m) exact.pid (Some (entity_of (told_task charge exact))) q other
            ∙ sym (put-other (listed m) exact.pid (Some (entity_of exact)) q other)
            ∙ sym (put-other (entities (Some exact) m) charge.pid (option_map (told_in charge.v)
            (entities (Some exact) m charge.pid)) q (λ e. other (e ∙ same)))
      ]

  pub charged_is : (bound : ℕ) (charge : Option ChargeLine)
      → CanBeChargedAs bound charge t.v (charged_task (time - mark) t)
      → part_with (entities (Some (charged_as charge (charged_task (time - mark) t))) m) floor time
      ≡ told_part charge (charged_part (part_with (entities runner m) floor mark) time)
  charged_is bound None can = exactly_is
  charged_is bound (Some charge) can =
      let exact = charged_task (time - mark) t in
      same_tasks (entities (Some (told_task charge exact)) m)
      (told_part (Some charge) (part_with (entities (Some exact) m) floor time)).tasks floor time
      (told_standing charge exact can.pid)
      ∙ ap (told_part (Some charge)) exactly_is

  -- what can be told of the runner is right in the part, and what is right in the part can be told of it
  pub told_right : (bound : ℕ) (charge : Option ChargeLine)
      → CanBeChargedAs bound charge t.v (charged_task (time - mark) t)
      → (pid : ℕ) → ¬ IsWrongCharge bound (part_with (entities runner m) floor mark) time charge pid
  told_right bound None can pid h = h
  told_right bound (Some charge) can pid h = h.0 (record {
    task = entity_of t;
    stands = ap (entities runner m) can.pid ∙ ran.0;
    runs = ran.1;
    rises = can.rises;
    within = can.within;
  })

  pub told_wrong : (bound : ℕ) (charge : Option ChargeLine) (pid : ℕ)
      → (¬ CanBeChargedAs bound charge t.v (charged_task (time - mark) t))
      → option_map (λ (line : ChargeLine). line.pid) charge ≡ Some pid
      → IsWrongCharge bound (part_with (entities runner m) floor mark) time charge pid
  told_wrong bound None pid cannot e = absurd cc
  told_wrong bound (Some charge) pid cannot e = (
    (λ h.
        let p : charge.pid ≡ t.pid = ran.2 charge.pid (ap its_place h.stands ∙ ap Some h.runs) in
        let k : h.task ≡ entity_of t = same_Some h.task (entity_of t)
        (sym h.stands ∙ ap (entities runner m) p ∙ ran.0) in
        cannot (record {
          pid = p;
          rises = subst (λ (s : Entity). s.runtime ≤ℤ charge.v) k h.rises;
          within = subst (λ (s : Entity). IsWithin bound (drift_after s.drift charge.v
              (s.runtime +ℤ pos (cost_in (part_with (entities runner m) floor mark) time s)))) k h.within;
        })),
    sym (same_Some charge.pid pid e),
  )

  -- what is wrong with the runner's charge is wrong in the part
  pub fault_there : (bound : ℕ) (charge : Option ChargeLine) (fault : ChargeFault)
      → IsChargeFaultOf bound (time - mark) charge t fault
      → IsChargeFault bound (part_with (entities runner m) floor mark) time charge fault
  fault_there bound charge (Range pid) f =
      subst (IsOutOfRange (part_with (entities runner m) floor mark) time) (sym f.0) (above_range f.1)
  fault_there bound charge (Told pid) f = (fits_in_range f.0, told_wrong bound charge pid f.1 f.2)

-- What an entry that is written or taken out makes of who stands, and of those who wait.
use Rattle.std.proofs.Common.{◌≡◌, ◌≢◌, ◌↔◌, ℕ, Bool, true, false, IsTrue, IsSome, Option, Some, None, option_map, ℤ}
use Rattle.std.proofs.Common.{pos, ◌≤ℤ◌, ◌<ℤ◌, ◌⊎◌, inl, inr, refl, sym, ap, ◌∙◌, subst, true≢false, arith}
use Rattle.std.specs.BTreeSet.{BTreeSet, contains}
use Rattle.std.specs.Ordering.{nat_cmp, int_cmp, is_eq, is_gt, ordering_then, MatchOrdering}
use Rattle.std.specs.declared.cmp.Ordering.{Ordering}
use Rattle.std.specs.declared.cmp.Ordering.TheVariants.{Less, Equal, Greater}
use Rattle.std.proofs.lemmas.Bool.{cases_eq, cases_Bool}
use Rattle.std.proofs.lemmas.Cmp.{int_ranked}
use Rattle.std.proofs.lemmas.Int.{ints}
use Rattle.std.proofs.lemmas.Map.Lookups.{exact_unsigned, exact_signed, exact_pairs}
use Rattle.std.proofs.lemmas.Option.{same_Some}
use Rattle.cfs_model.specs.Machine.{put}
use Rattle.replay_model.specs.Part.{Entity, NobodyIn}
use Rattle.cfs_model.specs.declared.task.Place.{Place}
use Rattle.cfs_model.specs.declared.task.Place.TheVariants.{Run, Wait, Rest}
use Rattle.runqueue.specs.declared.sched_entity.SchedEntity.{SchedEntity}
use Rattle.runqueue.specs.Queue.{IsTheRunner}
use Rattle.runqueue.specs.Entities.{by_runtime, listed, entities, runtime_if, waiting_runtime, IsWaitingSet}
use Rattle.runqueue.specs.Entities.{IsOnlyRunner, IsRunnerListed, IsQueue, waiting_task}
use Rattle.runqueue.specs.TaskRows.{TaskRows, Writes, task_in}
use Rattle.runqueue.specs.declared.waiting_task.WaitingTask.{WaitingTask}
use Rattle.runqueue.specs.Tasks.{entity_of}
use Rattle.runqueue.specs.WaitingTasks.{Updates}
use Rattle.cfs_model.proofs.Moves.{put-same, put-other}
use Rattle.runqueue.proofs.Parts.{its_place, put-at, put-under}

from_is_eq : (o : Ordering) → is_eq o ≡ true → o ≡ Equal
from_is_eq Less e = absurd cc
from_is_eq Equal e = refl
from_is_eq Greater e = absurd cc

-- pairs that the order takes for one are one
pub exact_runtimes : (x y : WaitingTask) → is_eq (by_runtime x y) ≡ true → x ≡ y
exact_runtimes x y e =
    ap (λ p. waiting_task p.0 p.1) (exact_pairs int_cmp nat_cmp exact_signed exact_unsigned (x.v, x.pid) (y.v, y.pid)
    (from_is_eq (by_runtime x y) e))

pub other_pair : (x y : WaitingTask) → x ≢ y → is_eq (by_runtime x y) ≡ false
other_pair x y ne =
    elim (cases_Bool (is_eq (by_runtime x y))) [ inl yes' ↦ absurd (ne (exact_runtimes x y yes')) | inr no' ↦ no' ]

-- a pair that isn't below another has no lesser virtual runtime
pub lower_runtime : (v w : ℤ) (pid other : ℕ) → is_gt (by_runtime (waiting_task v pid) (waiting_task w other)) ≡ false
    → v ≤ℤ w
lower_runtime v w pid other e = go (int_cmp v w) (int_ranked v w (int_cmp v w) refl) e
  where
    go : (o : Ordering) → MatchOrdering o (v <ℤ w) (v ≡ w) (w <ℤ v)
        → is_gt (ordering_then o (nat_cmp pid other)) ≡ false → v ≤ℤ w
    go Less h e = omega (arith, ints, h)
    go Equal h e = omega (arith, ints, h)
    go Greater h e = absurd cc

-- the parts of what the type keeps
pub queue_is : (runner : Option SchedEntity) (m : TaskRows) (s : BTreeSet WaitingTask)
    → IsWaitingSet (entities runner m) s
    → IsOnlyRunner (entities runner m) runner → IsRunnerListed runner m → IsQueue runner m s
unfolding IsQueue
queue_is runner m s waiting only has = (waiting, only, has)

pub waiting_in : (runner : Option SchedEntity) (m : TaskRows) (s : BTreeSet WaitingTask)
    → IsQueue runner m s
    → IsWaitingSet (entities runner m) s
unfolding IsQueue
waiting_in runner m s kept = kept.0

pub only_in : (runner : Option SchedEntity) (m : TaskRows) (s : BTreeSet WaitingTask) → IsQueue runner m s
    → IsOnlyRunner (entities runner m) runner
unfolding IsQueue
only_in runner m s kept = kept.1

pub listed_in : (runner : Option SchedEntity) (m : TaskRows) (s : BTreeSet WaitingTask)
    → IsQueue runner m s
    → IsRunnerListed runner m
unfolding IsQueue
listed_in runner m s kept = kept.2

pub waits_where : (f : ℕ → Option Entity) (s : BTreeSet WaitingTask) → IsWaitingSet f s → (v : ℤ) (pid : ℕ)
    → IsTrue (contains by_runtime s (waiting_task v pid)) ↔ (waiting_runtime (f pid) ≡ Some v)
unfolding IsWaitingSet
waits_where f s h = h

pub is_listed : (runner : Option SchedEntity) (m : TaskRows) → IsRunnerListed runner m → (t : SchedEntity)
    → runner ≡ Some t
    → (t.place ≡ Run) × IsSome (task_in m t.pid)
unfolding IsRunnerListed
is_listed runner m h = h

pub listed_none : (m : TaskRows) → IsRunnerListed None m
unfolding IsRunnerListed
listed_none m t e = absurd cc

pub listed_some : (m : TaskRows) (t : SchedEntity) → t.place ≡ Run → IsSome (task_in m t.pid)
    → IsRunnerListed (Some t) m
unfolding IsRunnerListed
listed_some m t runs has u e =
    let same : t ≡ u = same_Some t u e in
    let P : SchedEntity → Type 0 = λ x. (x.place ≡ Run) × IsSome (task_in m x.pid) in
    subst P same (runs, has)

pub runs_alone : (f : ℕ → Option Entity) (runner : Option SchedEntity) → IsOnlyRunner f runner → (pid : ℕ)
    → its_place (f pid) ≡ Some Run
    → option_map (λ t. t.pid) runner ≡ Some pid
unfolding IsOnlyRunner
runs_alone f runner h = h

pub only_none : (f : ℕ → Option Entity) → ((q : ℕ) → its_place (f q) ≡ Some Run → ⊥) → IsOnlyRunner f None
unfolding IsOnlyRunner
only_none f nobody q i = absurd (nobody q i)

pub waiting_none : (f : ℕ → Option Entity) (s : BTreeSet WaitingTask) → ((q : ℕ) → f q ≡ None)
    → ((k : WaitingTask) → contains by_runtime s k ≡ false)
    → IsWaitingSet f s
unfolding IsWaitingSet
waiting_none f s nobody none v q = (
  (λ h. absurd (true≢false (sym h ∙ none (waiting_task v q)))),
  (λ e. let g : None ≡ Some v = sym (ap waiting_runtime (nobody q)) ∙ e in absurd cc),
)

-- who runs here
pub the_runner : (runner : Option SchedEntity) (m : TaskRows) (s : BTreeSet WaitingTask) (floor : ℤ)
    (mark : ℕ)
    → IsQueue runner m s
    → IsTheRunner (record { tasks = entities runner m; floor = floor; mark = mark }) runner
the_runner None m s floor mark kept =
    λ pid i. let e : None ≡ Some pid = runs_alone (entities None m) None (only_in None m s kept) pid i in absurd cc
the_runner (Some t) m s floor mark kept = (
  put-same (listed m) t.pid (Some (entity_of t)),
  (is_listed (Some t) m (listed_in (Some t) m s kept) t refl).0,
  (λ pid i. sym (same_Some t.pid pid (runs_alone (entities (Some t) m) (Some t) (only_in (Some t) m s kept) pid i))),
)

-- nobody runs where the runqueue has no runner
pub no_runner : (runner : Option SchedEntity) (m : TaskRows) (s : BTreeSet WaitingTask) (floor : ℤ)
    (mark : ℕ)
    → IsQueue runner m s
    → NobodyIn (record { tasks = entities runner m; floor = floor; mark = mark }) Run → runner ≡ None
no_runner None m s floor mark kept nobody = refl
no_runner (Some t) m s floor mark kept nobody =
    let ran = the_runner (Some t) m s floor mark kept in absurd (nobody t.pid (ap its_place ran.0 ∙ ap Some ran.1))

pub nobody_runs : (runner : Option SchedEntity) (m : TaskRows) (s : BTreeSet WaitingTask) (floor : ℤ)
    (mark : ℕ)
    → IsQueue runner m s
    → runner ≡ None → NobodyIn (record { tasks = entities runner m; floor = floor; mark = mark }) Run
nobody_runs runner m s floor mark kept none =
    subst (IsTheRunner (record { tasks = entities runner m; floor = floor; mark = mark })) none
    (the_runner runner m s floor mark kept)

-- a pid that doesn't run isn't the runner's
pub runner_apart : (runner : Option SchedEntity) (m : TaskRows) (s : BTreeSet WaitingTask)
    → IsQueue runner m s
    → (pid : ℕ)
    → (its_place (entities runner m pid) ≡ Some Run → ⊥) → (t : SchedEntity) → runner ≡ Some t → t.pid ≢ pid
runner_apart None m s kept pid ne t e same = cc
runner_apart (Some u) m s kept pid ne t e same =
    let r = the_runner (Some u) m s (pos 0) 0 kept in
    let up : u.pid ≡ pid = ap (λ x. x.pid) (same_Some u t e) ∙ same in
    ne (ap its_place (ap (entities (Some u) m) (sym up) ∙ r.0) ∙ ap Some r.1)

-- another pid than the runner's stands as the map has it
pub entities_listed : (runner : Option SchedEntity) (m : TaskRows) (pid : ℕ)
    → ((t : SchedEntity) → runner ≡ Some t → t.pid ≢ pid)
    → entities runner m pid ≡ listed m pid
entities_listed None m pid apart = refl
entities_listed (Some t) m pid apart = put-other (listed m) t.pid (Some (entity_of t)) pid (λ e. apart t refl (sym e))

-- the map at the key of an update, and at another
pub map_at : (m n : TaskRows) (k : ℕ) (w : Option SchedEntity) → Writes m n k w
    → task_in n k ≡ w
map_at m n k w u = u.here

pub map_other : (m n : TaskRows) (k : ℕ) (w : Option SchedEntity) → Writes m n k w → (q : ℕ)
    → q ≢ k
    → task_in n q ≡ task_in m q
map_other m n k w u q ne = u.there q ne

listed_put : (m n : TaskRows) (k : ℕ) (w : Option SchedEntity) → Writes m n k w → (q : ℕ)
    → listed n q ≡ put (listed m) k (option_map entity_of w) q
listed_put m n k w u q =
    elim (cases_eq q k) [
      | inl same ↦ ap (listed n) same ∙ ap (option_map entity_of) (map_at m n k w u)
          ∙ sym (put-at (listed m) k (option_map entity_of w) q same)
      | inr other ↦ ap (option_map entity_of) (map_other m n k w u q other)
          ∙ sym (put-other (listed m) k (option_map entity_of w) q other)
    ]

-- the entry of one who doesn't run is written or taken out
pub rewritten : (runner : Option SchedEntity) (m n : TaskRows) (k : ℕ) (w : Option SchedEntity)
    → Writes m n k w
    → ((t : SchedEntity) → runner ≡ Some t → t.pid ≢ k) → (q : ℕ)
    → entities runner n q ≡ put (entities runner m) k (option_map entity_of w) q
rewritten None m n k w u apart q = listed_put m n k w u q
rewritten (Some t) m n k w u apart q =
    let s = Some (entity_of t) in
    let x = option_map entity_of w in
    elim (cases_eq q t.pid) [
      | inl same ↦ put-at (listed n) t.pid s q same ∙ sym (put-at (listed m) t.pid s q same)
          ∙ sym (put-other (put (listed m) t.pid s) k x q (λ e. apart t refl (sym same ∙ e)))
      | inr other ↦ put-other (listed n) t.pid s q other ∙ listed_put m n k w u q
          ∙ put-under (listed m) (put (listed m) t.pid s) k x q (sym (put-other (listed m) t.pid s q other))
    ]

-- the runner's entry is written or taken out, and nobody runs
pub put_away : (t : SchedEntity) (m n : TaskRows) (w : Option SchedEntity)
    → Writes m n t.pid w → (q : ℕ)
    → entities None n q ≡ put (entities (Some t) m) t.pid (option_map entity_of w) q
put_away t m n w u q =
    listed_put m n t.pid w u q ∙ again (cases_eq q t.pid)
  where
    again : (q ≡ t.pid) ⊎ (q ≡ t.pid → ⊥)
        → put (listed m) t.pid (option_map entity_of w) q ≡ put (put (listed m) t.pid (Some (entity_of t))) t.pid
        (option_map entity_of w) q
    again (inl same) = put-at (listed m) t.pid _ q same
        ∙ sym (put-at (put (listed m) t.pid (Some (entity_of t))) t.pid _ q same)
    again (inr other) =
        put-under (listed m) (put (listed m) t.pid (Some (entity_of t))) t.pid _ q
        (sym (put-other (listed m) t.pid (Some (entity_of t)) q other))

-- the map has the runner's entry, whatever other is written or taken out
pub listed_kept : (runner : Option SchedEntity) (m n : TaskRows) (k : ℕ) (w : Option SchedEntity)
    → Writes m n k w
    → ((t : SchedEntity) → runner ≡ Some t → t.pid ≢ k) → IsRunnerListed runner m → IsRunnerListed runner n
unfolding IsRunnerListed
listed_kept runner m n k w u apart has t e = (
  (has t e).0,
  subst (λ (o : Option SchedEntity). IsSome o) (sym (map_other m n k w u t.pid (apart t e))) (has t
      e).1,
)

-- the virtual runtime of one who waits is its own
pub runtime_own : (p : Place) (v w : ℤ) → runtime_if p v ≡ Some w → w ≡ v
runtime_own Run v w e = cc
runtime_own Wait v w e = sym (same_Some v w e)
runtime_own Rest v w e = cc

-- the entity of one pid is another
module _ (f g : ℕ → Option Entity) (pid : ℕ) (s : Option Entity) (is : (q : ℕ) → g q ≡ put f pid s q) where
  here : g pid ≡ s
  here = is pid ∙ put-same f pid s

  there : (q : ℕ) → q ≢ pid → g q ≡ f q
  there q ne = is q ∙ put-other f pid s q ne

  same_pair : (a b : BTreeSet WaitingTask) (w : ℤ) (q : ℕ)
      → contains by_runtime b (waiting_task w q) ≡ contains by_runtime a (waiting_task w q) → g q ≡ f q
      → (IsTrue (contains by_runtime a (waiting_task w q)) ↔ (waiting_runtime (f q) ≡ Some w))
      → (IsTrue (contains by_runtime b (waiting_task w q)) ↔ (waiting_runtime (g q) ≡ Some w))
  same_pair a b w q e h i =
      ((λ x. ap waiting_runtime h ∙ i.0 (sym e ∙ x)), (λ x. e ∙ i.1 (sym (ap waiting_runtime h) ∙ x)))

  by_pid : (a b : BTreeSet WaitingTask) (v : ℤ) (kept : Bool) → IsWaitingSet f a
      → Updates a b (waiting_task v pid) kept
      → ((w : ℤ) → IsTrue (contains by_runtime b (waiting_task w pid)) ↔ (waiting_runtime (g pid) ≡ Some w))
      → IsWaitingSet g b
  unfolding IsWaitingSet
  by_pid a b v kept old u at w q =
      elim (cases_eq q pid) [
        | inl same ↦ subst (λ x. IsTrue (contains by_runtime b (waiting_task w x))
            ↔ (waiting_runtime (g x) ≡ Some w)) (sym same) (at w)
        | inr other ↦ same_pair a b w q
            (u.there (waiting_task w q) (other_pair (waiting_task v pid) (waiting_task w q)
            (λ e. other (sym (ap (λ x. x.pid) e))))) (there q other) (old w q)
      ]

  -- it waits, and didn't before
  pub joins : (a b : BTreeSet WaitingTask) (v : ℤ) → IsWaitingSet f a
      → Updates a b (waiting_task v pid) true
      → waiting_runtime (f pid) ≡ None → waiting_runtime s ≡ Some v → IsWaitingSet g b
  joins a b v old u none new = by_pid a b v true old u (λ w. (forth w, back w))
    where
      is_v : waiting_runtime (g pid) ≡ Some v
      is_v = ap waiting_runtime here ∙ new

      back : (w : ℤ) → waiting_runtime (g pid) ≡ Some w → IsTrue (contains by_runtime b (waiting_task w pid))
      back w e = subst (λ x. IsTrue (contains by_runtime b (waiting_task x pid))) (same_Some v w (sym is_v ∙ e)) u.here

      forth : (w : ℤ) → IsTrue (contains by_runtime b (waiting_task w pid)) → waiting_runtime (g pid) ≡ Some w
      forth w h =
          elim (cases_Bool (is_eq (by_runtime (waiting_task v pid) (waiting_task w pid)))) [
            | inl same ↦ is_v ∙ ap (λ x. Some x.v) (exact_runtimes (waiting_task v pid) (waiting_task w pid) same)
            | inr other ↦
                let e : None ≡ Some w = sym none
                ∙ (waits_where f a old w pid).0 (sym (u.there (waiting_task w pid) other) ∙ h) in absurd cc
          ]

  -- it doesn't wait, and may have before
  pub parts : (a b : BTreeSet WaitingTask) (v : ℤ) → IsWaitingSet f a
      → Updates a b (waiting_task v pid) false
      → ((w : ℤ) → waiting_runtime (f pid) ≡ Some w → w ≡ v) → waiting_runtime s ≡ None → IsWaitingSet g b
  parts a b v old u own none = by_pid a b v false old u (λ w. (forth w, back w))
    where
      back : (w : ℤ) → waiting_runtime (g pid) ≡ Some w → IsTrue (contains by_runtime b (waiting_task w pid))
      back w e = let f : None ≡ Some w = sym none ∙ sym (ap waiting_runtime here) ∙ e in absurd cc

      not_v : (w : ℤ) → w ≡ v → IsTrue (contains by_runtime b (waiting_task w pid)) → ⊥
      not_v w e h = true≢false (sym h ∙ ap (λ x. contains by_runtime b (waiting_task x pid)) e ∙ u.here)

      forth : (w : ℤ) → IsTrue (contains by_runtime b (waiting_task w pid)) → waiting_runtime (g pid) ≡ Some w
      forth w h =
          elim (cases_Bool (is_eq (by_runtime (waiting_task v pid) (waiting_task w pid)))) [
            | inl same ↦ absurd (not_v w
                (sym (ap (λ x. x.v) (exact_runtimes (waiting_task v pid) (waiting_task w pid) same))) h)
            | inr other ↦ absurd (not_v w
                (own w ((waits_where f a old w pid).0 (sym (u.there (waiting_task w pid) other) ∙ h))) h)
          ]

  -- it waits as before, or doesn't
  pub stays : (a : BTreeSet WaitingTask) → IsWaitingSet f a → waiting_runtime s ≡ waiting_runtime (f pid)
      → IsWaitingSet g a
  unfolding IsWaitingSet
  stays a old same w q =
      elim (cases_eq q pid) [
        | inl e ↦ subst (λ x. IsTrue (contains by_runtime a (waiting_task w x))
            ↔ (waiting_runtime (g x) ≡ Some w)) (sym e) (
              (λ x. ap waiting_runtime here ∙ same ∙ (old w pid).0 x),
              (λ x. (old w pid).1 (sym same ∙ sym (ap waiting_runtime here) ∙ x)),
            )
        | inr other ↦ same_pair a a w q refl (there q other) (old w q)
      ]

  -- it doesn't run
  pub only_kept : (runner : Option SchedEntity) → IsOnlyRunner f runner → (its_place s ≡ Some Run → ⊥)
      → IsOnlyRunner g runner
  unfolding IsOnlyRunner
  only_kept runner only ne q i =
      elim (cases_eq q pid) [
        | inl same ↦ absurd (ne (sym (ap its_place here) ∙ ap (λ x. its_place (g x)) (sym same) ∙ i))
        | inr other ↦ only q (sym (ap its_place (there q other)) ∙ i)
      ]

  -- it ran, and doesn't
  pub only_left : (t : SchedEntity) → t.pid ≡ pid → IsOnlyRunner f (Some t) → (its_place s ≡ Some Run → ⊥)
      → IsOnlyRunner g None
  unfolding IsOnlyRunner
  only_left t e only ne q i =
      elim (cases_eq q pid) [
        | inl same ↦ absurd (ne (sym (ap its_place here) ∙ ap (λ x. its_place (g x)) (sym same) ∙ i))
        | inr other ↦ absurd (other (sym (same_Some t.pid q (only q (sym (ap its_place (there q other)) ∙ i))) ∙ e))
      ]

  -- it runs, and nobody did
  pub only_comes : (t : SchedEntity) → t.pid ≡ pid → IsOnlyRunner f None → IsOnlyRunner g (Some t)
  unfolding IsOnlyRunner
  only_comes t e only q i =
      elim (cases_eq q pid) [
        | inl same ↦ ap Some (e ∙ sym same)
        | inr other ↦ let n : None ≡ Some q = only q (sym (ap its_place (there q other)) ∙ i) in absurd cc
      ]

  -- it runs, as it did
  pub only_runs : (t new : SchedEntity) → new.pid ≡ t.pid → t.pid ≡ pid → IsOnlyRunner f (Some t)
      → IsOnlyRunner g (Some new)
  unfolding IsOnlyRunner
  only_runs t new same e only q i =
      elim (cases_eq q pid) [
        | inl at ↦ ap Some (same ∙ e ∙ sym at)
        | inr other ↦ ap Some same ∙ only q (sym (ap its_place (there q other)) ∙ i)
      ]

-- maps and sets that hold the same
pub entities_same : (runner : Option SchedEntity) (m n : TaskRows) → ((q : ℕ) → task_in n q
    ≡ task_in m q)
    → (q : ℕ)
    → entities runner n q ≡ entities runner m q
entities_same None m n same q = ap (option_map entity_of) (same q)
entities_same (Some t) m n same q = put-under (listed n) (listed m) t.pid (Some (entity_of t)) q
    (ap (option_map entity_of) (same q))

pub same_queue : (runner : Option SchedEntity) (m n : TaskRows) (a b : BTreeSet WaitingTask)
    → ((q : ℕ) → task_in n q ≡ task_in m q)
    → ((v : ℤ) (q : ℕ) → contains by_runtime b (waiting_task v q) ≡ contains by_runtime a (waiting_task v q))
    → IsQueue runner m a → IsQueue runner n b
unfolding IsQueue IsWaitingSet IsOnlyRunner IsRunnerListed
same_queue runner m n a b same also kept =
    let s = entities_same runner m n same in (
      (λ v q. (
        (λ x. ap waiting_runtime (s q) ∙ (kept.0 v q).0 (sym (also v q) ∙ x)),
        (λ x. also v q ∙ (kept.0 v q).1 (sym (ap waiting_runtime (s q)) ∙ x)),
      )),
      (λ q i. kept.1 q (sym (ap its_place (s q)) ∙ i)),
      (λ t e. ((kept.2 t e).0, subst (λ (o : Option SchedEntity). IsSome o) (sym (same t.pid)) (kept.2 t e).1)),
    )

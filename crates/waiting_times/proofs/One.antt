-- There is one list of waits of a run.
use Rattle.std.proofs.Common.{◌≡◌, ℕ, List, [], ◌∷◌, map, refl, sym, ap, ◌∙◌, subst}
use Rattle.cfs_model.specs.Laws.{SameStates}
use Rattle.cfs_model.specs.Machine.{Machine}
use Rattle.replay_model.specs.Summary.{tasks_of_run}
use Rattle.sched_record.specs.RecordView.{RecordView}
use Rattle.waiting_times.specs.Laws.{OneWaiting}
use Rattle.waiting_times.specs.Moments.{moments_of}
use Rattle.waiting_times.specs.Waits.{AreWaitsOf, IsWaitsOf, WaitsIn, first_state, said_events, told_by, wait_of}
use Rattle.waiting_times.specs.declared.task_waits.TaskWaits.{TaskWaits}
use Rattle.waiting_times.proofs.Stretches.{one_list}

one_told : (r : RecordView) (states : List Machine) (pid : ℕ) (told also : TaskWaits) → IsWaitsOf r states pid told
    → IsWaitsOf r states pid also → told ≡ also
one_told r states pid told also a b =
    a.is
    ∙ ap (λ s. told_by pid (map (wait_of (moments_of r)) s))
    (one_list (WaitsIn states pid) a.stretches b.stretches a.are b.are)
    ∙ sym b.is

one_each : (r : RecordView) (states : List Machine) (pids : List ℕ) (told also : List TaskWaits)
    → AreWaitsOf r states pids told → AreWaitsOf r states pids also → told ≡ also
one_each r states [] [] [] a b = refl
one_each r states [] [] (u ∷ also) a b = absurd b
one_each r states [] (t ∷ told) also a b = absurd a
one_each r states (pid ∷ pids) [] also a b = absurd a
one_each r states (pid ∷ pids) (t ∷ told) [] a b = absurd b
one_each r states (pid ∷ pids) (t ∷ told) (u ∷ also) a b =
    ap (λ x. x ∷ told) (one_told r states pid t u a.0 b.0)
    ∙ ap (λ l. u ∷ l) (one_each r states pids told also a.1 b.1)

pub one_waits : SameStates → OneWaiting
one_waits same r one other told also run again a b =
    let e = same one other r.start (first_state r) (said_events r) run again in
    let pids = tasks_of_run r.tasks (said_events r) in
    one_each r (first_state r ∷ again.states) pids told also
    (subst (λ s. AreWaitsOf r (first_state r ∷ s) pids told) e a) b

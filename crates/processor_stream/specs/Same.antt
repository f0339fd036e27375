-- `==` of streams (this project's profile).
use Rattle.std.specs.Prelude.{◌==◌, Bool, ◌&&◌}
use Rattle.std.specs.Cmp.{IsEquivalence}
use Rattle.std.specs.Cmp.Lexicographic.{pointwise}
use Rattle.std.specs.Ordering.{int_eq}
use Rattle.std.proofs.lemmas.Cmp.{nat_eq_equiv, int_eq_equiv, on_equiv, and_equiv, lists_equiv}
use Rattle.replay_model.specs.Cut.{StreamView}
use Rattle.replay_model.specs.contracts.step.StepEq.TheImpl.Laws as step_law
use Rattle.replay_model.specs.contracts.step.StepPartialEq.TheImpl as step
use Rattle.cfs_model.specs.contracts.task.TaskEq.TheImpl.Laws as task_law
use Rattle.cfs_model.specs.contracts.task.TaskPartialEq.TheImpl as task

-- each of what a stream holds is equal in both
abbrev pub is_same : StreamView → StreamView → Bool
is_same a b =
    (a.cpu == b.cpu) && (pointwise (task.ghosts).eq a.tasks b.tasks && (int_eq a.floor b.floor && ((a.start == b.start)
    && (pointwise (step.ghosts).eq a.steps b.steps && ((a.last_time == b.last_time) && (a.last_line == b.last_line))))))

-- so it is an equivalence
pub is_same_equiv : IsEquivalence is_same
is_same_equiv =
    and_equiv (on_equiv (λ (s : StreamView). s.cpu) nat_eq_equiv)
    (and_equiv (on_equiv (λ (s : StreamView). s.tasks) (lists_equiv task_law.laws-law))
    (and_equiv (on_equiv (λ (s : StreamView). s.floor) int_eq_equiv)
    (and_equiv (on_equiv (λ (s : StreamView). s.start) nat_eq_equiv)
    (and_equiv (on_equiv (λ (s : StreamView). s.steps) (lists_equiv step_law.laws-law))
    (and_equiv (on_equiv (λ (s : StreamView). s.last_time) nat_eq_equiv)
    (on_equiv (λ (s : StreamView). s.last_line) nat_eq_equiv))))))

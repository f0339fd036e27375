use Rattle.std.proofs.Common.{◌≡◌, ℤ, subst, sym, ap, ◌∙◌, rules, to_z, of_z, w64}
use Rattle.std.specs.Int.{int_min}
use Rattle.replay_model.specs.Part.{IsLeastHere}
use Rattle.runqueue.specs.Queue.{runqueue_view, IsTheRunner, IsLeastIfWaiting}
use Rattle.runqueue.proofs.EntitiesKept.{the_runner}
use Rattle.runqueue.proofs.Lifts.{least_with_runner, least_of_runner, least_without_runner}
use Rattle.runqueue.proofs.runqueue.Runqueue.least_queued.Goals as goal

pub returns-in-Some-Some : goal.returns-in-Some-Some
returns-in-Some-Some c =
    let q = c.args.self.now in
    let i = c.in-Some-Some in
    let whole : to_z w64 (of_z w64 c.min.result) ≡ c.min.result = search rules in
    let own : to_z w64 (of_z w64 i.task.v) ≡ i.task.v = search rules in
    let least : to_z w64 (of_z w64 i.least) ≡ i.least = search rules in
    subst (λ (v : ℤ). IsLeastHere (runqueue_view q) v)
    (sym (whole ∙ c.min.ensures.value ∙ ap (λ (v : ℤ). int_min v (to_z w64 (of_z w64 i.task.v))) least
    ∙ ap (int_min i.least) own))
    (least_with_runner (runqueue_view q) i.task i.least
    (subst (IsTheRunner (runqueue_view q)) i.is-0 (the_runner q.runner q.tasks q.waiting q.floor q.mark q.kept))
    (subst (IsLeastIfWaiting (runqueue_view q)) i.is-1 c.least_waiting.ensures))

pub returns-in-Some-None : goal.returns-in-Some-None
returns-in-Some-None c =
    let q = c.args.self.now in
    let i = c.in-Some-None in
    let whole : to_z w64 (of_z w64 i.task.v) ≡ i.task.v = search rules in
    subst (λ (v : ℤ). IsLeastHere (runqueue_view q) v) (sym whole)
    (least_of_runner (runqueue_view q) i.task
    (subst (IsTheRunner (runqueue_view q)) i.is-0 (the_runner q.runner q.tasks q.waiting q.floor q.mark q.kept))
    (subst (IsLeastIfWaiting (runqueue_view q)) i.is-1 c.least_waiting.ensures))

pub returns-in-None-default : goal.returns-in-None-default
returns-in-None-default c =
    let q = c.args.self.now in
    least_without_runner (runqueue_view q) c.least_waiting.result
    (subst (IsTheRunner (runqueue_view q)) c.in-None-default.is-0
    (the_runner q.runner q.tasks q.waiting q.floor q.mark q.kept)) c.least_waiting.ensures

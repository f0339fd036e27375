use Rattle.std.proofs.Common.{◌≡◌, ℤ, subst, sym, rules, to_z, of_z, w64}
use Rattle.replay_model.specs.Needs.{IsLeastWaiting}
use Rattle.runqueue.specs.Queue.{runqueue_view}
use Rattle.runqueue.proofs.Lifts.{least_is, none_waits}
use Rattle.runqueue.proofs.runqueue.Runqueue.least_waiting.Goals as goal

pub returns-in-Some : goal.returns-in-Some
returns-in-Some c =
    let q = c.args.self.now in
    let k = c.in-Some.first.now in
    let whole : to_z w64 (of_z w64 k.v) ≡ k.v = search rules in
    subst (λ (v : ℤ). IsLeastWaiting (runqueue_view q) v) (sym whole)
    (least_is q.runner q.tasks q.waiting q.floor q.mark q.kept k c.in-Some.ensures.member c.in-Some.ensures.least)

pub returns-in-None : goal.returns-in-None
returns-in-None c =
    let q = c.args.self.now in
    none_waits q.runner q.tasks q.waiting q.floor q.mark q.kept (λ h. let e = c.in-None.ensures.variant.1 h in cc)

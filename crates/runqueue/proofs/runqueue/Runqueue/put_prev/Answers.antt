use Rattle.std.proofs.Common.{◌≡◌, ℕ, OnOk, subst, sym}
use Rattle.cfs_model.specs.declared.act.Way.{Way}
use Rattle.replay_model.specs.Deeds.{part_after_prev}
use Rattle.replay_model.specs.QueueTests.{IsRunner}
use Rattle.runqueue.specs.Queue.{runqueue_view}
use Rattle.runqueue.proofs.Moved.{nobody_leaves}
use Rattle.runqueue.proofs.EntitiesKept.{nobody_runs}
use Rattle.runqueue.proofs.runqueue.Runqueue.put_prev.Goals as goal

pub returns-in_default-clause-part : goal.returns-in_default-clause-part
returns-in_default-clause-part c =
    let q = c.args.self.now in
    nobody_leaves q.runner q.tasks q.waiting q.kept c.in_default.is q.floor q.mark c.args.way

pub returns-in-Stays-clause-part : goal.returns-in-Stays-clause-part
returns-in-Stays-clause-part c =
    let q = c.args.self.now in
    let P : Way → Type 0 = λ way. OnOk c.put_back.result ((prev : ℕ) → ((IsRunner (runqueue_view q) prev → ⊥) → ⊥)
    → runqueue_view c.put_back.new.self ≡ part_after_prev (runqueue_view q) prev way) in
    subst P (sym c.in-Stays.is) c.put_back.ensures.part

pub returns-in_default-clause-nobody : goal.returns-in_default-clause-nobody
returns-in_default-clause-nobody c =
    let q = c.args.self.now in
    nobody_runs q.runner q.tasks q.waiting q.floor q.mark q.kept c.in_default.is

use Rattle.std.proofs.Common.{◌≡◌, inl, inr, sym, subst, ◌∙◌}
use Rattle.cfs_model.specs.declared.act.Way.{Way}
use Rattle.cfs_model.specs.declared.act.Way.TheVariants.{Stays, Sleeps, Ends}
use Rattle.replay_model.specs.Deeds.{part_after_prev}
use Rattle.runqueue.specs.Queue.{IsLeastIfWaiting, runqueue_view}
use Rattle.runqueue.proofs.LeastAfter.{stays_least, leaves_least}
use Rattle.runqueue.proofs.EntitiesKept.{the_runner}
use Rattle.runqueue.proofs.runqueue.Runqueue.least_after.Goals as goal

pub returns-in-Stays : goal.returns-in-Stays
returns-in-Stays c prev r =
    let q = c.args.self.now in
    subst (λ (w : Way). IsLeastIfWaiting (part_after_prev (runqueue_view q) prev w) c.least_queued.result)
    (sym c.in-Stays.is)
    (stays_least (runqueue_view q) q.runner
    (the_runner q.runner q.tasks q.waiting q.floor q.mark q.kept) c.least_queued.result c.least_queued.ensures prev
    r)

pub returns-in-Sleeps : goal.returns-in-Sleeps
returns-in-Sleeps c prev r =
    let q = c.args.self.now in
    leaves_least (runqueue_view q) q.runner (the_runner q.runner q.tasks q.waiting q.floor q.mark q.kept) c.args.way
    (λ e. elim c.in-Sleeps.is [
      | inl s ↦ let f : Sleeps ≡ Stays = sym s ∙ e in absurd cc
      | inr s ↦ let f : Ends ≡ Stays = sym s ∙ e in absurd cc
    ])
    c.least_waiting.result c.least_waiting.ensures prev r

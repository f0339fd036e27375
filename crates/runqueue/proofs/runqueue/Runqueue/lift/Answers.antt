use Rattle.std.proofs.Common.{inl, None, refl, subst}
use Rattle.replay_model.specs.Part.{Part, IsRaisedHere, charged_part, told_part}
use Rattle.runqueue.specs.Queue.{IsLeastQueued, runqueue_view}
use Rattle.runqueue.proofs.runqueue.Runqueue.lift.Goals as goal

pub returns-in_default-clause-lifted : goal.returns-in_default-clause-lifted
returns-in_default-clause-lifted c =
    let now = runqueue_view c.charge.new.self in
    let told = told_part c.args.charge (charged_part (runqueue_view c.args.self.now) c.args.time) in
    let none : IsLeastQueued now None = subst (IsLeastQueued now) c.in_default.is c.least_queued.ensures in
    record {
      floor = told.floor;
      raised = subst (λ (p : Part). IsRaisedHere p p.floor) c.in_ok-charge.ensures.charged (inl (none, refl));
      result = c.in_ok-charge.ensures.charged;
    }

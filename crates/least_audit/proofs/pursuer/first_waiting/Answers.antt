use Rattle.std.proofs.Common.{true≢false, sym, refl, ◌∙◌}
use Rattle.runqueue.specs.Queue.{runqueue_view}
use Rattle.runqueue.proofs.EntitiesKept.{waits_where}
use Rattle.least_places.proofs.Waiting.{no_keys}
use Rattle.least_audit.proofs.pursuer.first_waiting.Goals as goal

pub returns-in-Some : goal.returns-in-Some
returns-in-Some c = record {
  waiting = c.waiting.result.now;
  are = waits_where (runqueue_view c.args.queue.now).tasks c.waiting.result.now c.waiting.ensures;
  first_is = (c.in-Some.task.now, refl, c.in-Some.ensures.member, c.in-Some.ensures.least);
}

pub returns-in-None : goal.returns-in-None
returns-in-None c = record {
  waiting = c.waiting.result.now;
  are = waits_where (runqueue_view c.args.queue.now).tasks c.waiting.result.now c.waiting.ensures;
  first_is = λ k member. true≢false
      (sym member ∙ no_keys c.waiting.result.now (λ some. let e = c.in-None.ensures.variant.1 some in cc) k);
}

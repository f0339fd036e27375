use Rattle.std.proofs.Common.{◌≡◌, ◌∙◌, ◌↔◌, IsTrue, ℤ, rules, subst, to_z, of_z, w64}
use Rattle.replay_model.specs.ClaimTests.{IsInWakeBounds}
use Rattle.cfs_model.specs.declared.task.Place.TheVariants.{Rest}
use Rattle.runqueue.specs.Queue.{runqueue_view}
use Rattle.queue_replay.proofs.Answered.{entity_told, outside}
use Rattle.queue_replay.proofs.claim_tests.rests_outside.Goals as goal

pub returns-then-eq : goal.returns-then-eq
returns-then-eq c pid e =
    let q = c.args.queue.now in
    let whole : to_z w64 (of_z w64 c.floor.result) ≡ c.floor.result = search rules in
    let rests : c.in-Some.task.place ≡ Rest = search rules in
    outside (runqueue_view q) c.args.credit
    (runqueue_view q).floor c.args.claim.v pid c.in-Some.task c.is_in_wake_bounds.result
    (entity_told c.args.task c.in-Some.task _ c.in-Some.is e)
    rests (subst (λ (floor : ℤ). IsTrue c.is_in_wake_bounds.result
    ↔ IsInWakeBounds c.args.credit floor c.in-Some.task.v c.args.claim.v) (whole
    ∙ c.floor.ensures) c.is_in_wake_bounds.ensures)

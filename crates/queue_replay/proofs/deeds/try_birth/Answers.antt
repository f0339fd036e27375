use Rattle.std.proofs.Common.{◌≡◌, ◌∙◌, sym, ap, subst, refl, rules, to_z, of_z, w64, Option, Some}
use Rattle.cfs_model.specs.declared.claim.Claim.{Claim}
use Rattle.replay_model.specs.AfterDeed.{after_deed}
use Rattle.replay_model.specs.Deeds.{with_entity}
use Rattle.replay_model.specs.Needs.{IsExcess}
use Rattle.replay_model.specs.Part.{Entity}
use Rattle.replay_model.specs.declared.step.Deed.{Deed}
use Rattle.replay_model.specs.declared.step.Deed.TheVariants.{Born}
use Rattle.queue_replay.specs.Needing.{IsNeed}
use Rattle.runqueue.specs.Queue.{runqueue_view}
use Rattle.queue_replay.specs.Rows.{birth_tests, pids_after}
use Rattle.runqueue.specs.TaskRows.{with_pid}
use Rattle.runqueue.specs.Tasks.{entity_of}
use Rattle.queue_replay.proofs.Passed.{is_apart, birth_claimed}
use Rattle.queue_replay.proofs.Rows.{birth_row, fails, passes}
use Rattle.queue_replay.proofs.deeds.try_birth.Goals as goal

pub returns-in-Some-clause-tried : goal.returns-in-Some-clause-tried
returns-in-Some-clause-tried c =
    let part = runqueue_view c.args.queue.now in
    let step = c.args.step.now in
    let deed = Born c.args.pid c.args.nice c.args.policy in
    fails c.args.knobs.now c.args.cpu part step deed step.claim
    (birth_tests c.args.knobs.now.debit part deed step.claim)
    (birth_row c.args.knobs.now c.args.cpu part c.args.pid c.args.nice c.args.policy step.claim) c.requires refl part
    c.in-Some.fault c.in-Some.ensures.line
    (c.in-Some.ensures.first c.args.nice c.args.policy)

pub add-requires-clause-apart : goal.add-requires-clause-apart
add-requires-clause-apart c =
    let part = runqueue_view c.args.queue.now in
    ap part.tasks c.claimed_task.ensures.pid ∙ is_apart part c.args.pid (c.in_default.ensures.first c.args.nice
    c.args.policy).0

pub unreachable-requires : goal.unreachable-requires
unreachable-requires c = birth_claimed c.args.pid c.args.step.now.claim
    (c.in_default.ensures.first c.args.nice c.args.policy).1.0 c.in-None.is

pub returns-clause-tried : goal.returns-clause-tried
returns-clause-tried c =
    let part = runqueue_view c.args.queue.now in
    let step = c.args.step.now in
    let pid = c.args.pid in
    let nice = c.args.nice in
    let policy = c.args.policy in
    let deed = Born pid nice policy in
    let claim = c.in-Some-claim.claim in
    let at : to_z w64 (of_z w64 claim.v) ≡ claim.v = search rules in
    let floor : to_z w64 (of_z w64 c.floor.result) ≡ c.floor.result = search rules in
    let task = c.claimed_task in
    passes c.args.knobs.now c.args.cpu part step deed step.claim
    (birth_tests c.args.knobs.now.debit part deed step.claim)
    (birth_row c.args.knobs.now c.args.cpu part pid nice policy step.claim) c.requires refl _ _
    (c.in_default.ensures.first nice policy)
    (c.in_ok-add-in-Some-claim.ensures.part
    ∙ ap (λ p. with_entity part p (Some (entity_of task.result))) task.ensures.pid
    ∙ ap (λ (s : Entity). with_entity part pid (Some s)) task.ensures.entity
    ∙ ap (after_deed part deed) (sym c.in-Some-claim.is))
    refl
    (subst (λ (x : Option Claim). IsNeed part deed x c.excess-need.result) (sym c.in-Some-claim.is)
    (subst (λ v. IsExcess v part.floor c.excess-need.result) at
    (subst (λ v. IsExcess (to_z w64 (of_z w64 claim.v)) v c.excess-need.result) (floor
    ∙ c.floor.ensures) c.excess-need.ensures)))

pub returns-clause-pids : goal.returns-clause-pids
returns-clause-pids c =
    let pids = c.args.queue.now.tasks.pids in
    c.in_ok-add-in-Some-claim.ensures.pids ∙ ap (λ pid. with_pid pid pids) c.claimed_task.ensures.pid
    ∙ ap (λ (d : Deed). pids_after d pids) (sym c.requires)

use Rattle.std.proofs.Common.{◌∙◌, sym, ap, refl, Some, pos}
use Rattle.replay_model.specs.AfterDeed.{after_deed}
use Rattle.replay_model.specs.Deeds.{came_ticket, with_entity}
use Rattle.replay_model.specs.Part.{Entity}
use Rattle.replay_model.specs.declared.step.Deed.{Deed}
use Rattle.replay_model.specs.declared.step.Deed.TheVariants.{Arrive}
use Rattle.runqueue.specs.Queue.{runqueue_view}
use Rattle.queue_replay.specs.Rows.{arrival_tests, pids_after}
use Rattle.runqueue.specs.TaskRows.{with_pid}
use Rattle.runqueue.specs.Tasks.{entity_of}
use Rattle.queue_replay.proofs.Passed.{is_apart, arrival_claimed}
use Rattle.queue_replay.proofs.Rows.{arrival_row, fails, passes}
use Rattle.queue_replay.proofs.deeds.try_arrival.Goals as goal

pub returns-in-Some-clause-tried : goal.returns-in-Some-clause-tried
returns-in-Some-clause-tried c knobs =
    let part = runqueue_view c.args.queue.now in
    let step = c.args.step.now in
    let deed = Arrive c.args.pid c.args.nice c.requires.0 c.args.policy in
    fails knobs c.args.cpu part step deed step.claim (arrival_tests part deed step.claim)
    (arrival_row knobs c.args.cpu part c.args.pid c.args.nice c.requires.0 c.args.policy step.claim) c.requires.1 refl
    part c.in-Some.fault c.in-Some.ensures.line
    (c.in-Some.ensures.first part c.args.nice c.requires.0 c.args.policy c.newcomer_at-task.ensures)

pub add-requires-clause-apart : goal.add-requires-clause-apart
add-requires-clause-apart c =
    let part = runqueue_view c.args.queue.now in
    ap part.tasks c.claimed_task.ensures.pid
    ∙ is_apart part c.args.pid (c.in_default.ensures.first part c.args.nice c.requires.0 c.args.policy
    c.newcomer_at-task.ensures).0

pub unreachable-requires : goal.unreachable-requires
unreachable-requires c =
    let part = runqueue_view c.args.queue.now in
    arrival_claimed part c.args.pid c.args.nice c.requires.0 c.args.policy c.args.step.now.claim
    (c.in_default.ensures.first part c.args.nice c.requires.0 c.args.policy c.newcomer_at-task.ensures).1.0 c.in-None.is

pub returns-clause-tried : goal.returns-clause-tried
returns-clause-tried c knobs =
    let part = runqueue_view c.args.queue.now in
    let step = c.args.step.now in
    let pid = c.args.pid in
    let nice = c.args.nice in
    let policy = c.args.policy in
    let deed = Arrive pid nice c.requires.0 policy in
    let claim = c.in-Some-claim.claim in
    let task = c.claimed_task in
    passes knobs c.args.cpu part step deed step.claim (arrival_tests part deed step.claim)
    (arrival_row knobs c.args.cpu part pid nice c.requires.0 policy step.claim) c.requires.1 refl _ _
    (c.in_default.ensures.first part nice c.requires.0 policy c.newcomer_at-task.ensures)
    (c.in_ok-add-in-Some-claim.ensures.part
    ∙ ap (λ p. with_entity part p (Some (entity_of task.result))) task.ensures.pid
    ∙ ap (λ (s : Entity). with_entity part pid (Some s)) task.ensures.entity
    ∙ ap (λ p. with_entity part pid (Some (record {
      place = p;
      nice = nice;
      policy = policy;
      runtime = claim.v;
      drift =
          pos 0;
    })))
    c.place_of.ensures
    ∙ ap (after_deed part deed) (sym c.in-Some-claim.is))
    (c.came_ticket-ticket.ensures ∙ ap (came_ticket part step.line pid nice policy) (sym c.in-Some-claim.is)) refl

pub returns-clause-pids : goal.returns-clause-pids
returns-clause-pids c =
    let pids = c.args.queue.now.tasks.pids in
    c.in_ok-add-in-Some-claim.ensures.pids ∙ ap (λ pid. with_pid pid pids) c.claimed_task.ensures.pid
    ∙ ap (λ (d : Deed). pids_after d pids) (sym c.requires.1)

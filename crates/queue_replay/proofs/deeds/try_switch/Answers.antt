use Rattle.std.proofs.Common.{◌∙◌, sym, ap, refl, Some, None, option_map}
use Rattle.replay_model.specs.AfterDeed.{part_after_next}
use Rattle.replay_model.specs.Deeds.{part_after_prev}
use Rattle.replay_model.specs.Part.{Part}
use Rattle.replay_model.specs.declared.step.Deed.{Deed}
use Rattle.queue_replay.specs.FirstTest.{IsFirst}
use Rattle.queue_replay.specs.Rows.{pids_after, switch_deed, switch_tests}
use Rattle.queue_replay.proofs.Needed.{pick_needs_lead}
use Rattle.queue_replay.proofs.Passed.{next_stays, pick_tests_same, ran_prev}
use Rattle.queue_replay.proofs.Rows.{switch_row, fails, passes}
use Rattle.runqueue.specs.Queue.{runqueue_view}
use Rattle.runqueue.specs.Tasks.{entity_of}
use Rattle.queue_replay.proofs.deeds.try_switch.Goals as goal

pub returns-in-Some-clause-tried : goal.returns-in-Some-clause-tried
returns-in-Some-clause-tried c cpu =
    let part = runqueue_view c.args.queue.now in
    let step = c.args.step.now in
    let s = c.args.switch.now in
    fails c.args.knobs.now cpu part step (switch_deed s) step.claim
    (switch_tests c.args.knobs.now part (switch_deed s) step.claim)
    (switch_row c.args.knobs.now cpu part s.prev s.prev_nice s.way s.next s.next_nice step.claim) c.requires refl part
    c.in-Some.fault c.in-Some.ensures.line
    (c.in-Some.ensures.first c.args.knobs.now)

pub returns-in-Some-first_pick_test-clause-tried : goal.returns-in-Some-first_pick_test-clause-tried
returns-in-Some-first_pick_test-clause-tried c cpu =
    let part = runqueue_view c.args.queue.now in
    let step = c.args.step.now in
    let s = c.args.switch.now in
    let moved = part_after_prev part s.prev s.way in
    let own = option_map entity_of c.switch_task-next.result in
    let least = c.least_after-least.ensures s.prev
    (ran_prev part s.prev s.prev_nice s.way s.next s.next_nice (c.in_default.ensures.runner refl)) in
    let fault = c.in-Some-first_pick_test.fault in
    fails c.args.knobs.now cpu part step (switch_deed s) step.claim
    (switch_tests c.args.knobs.now part (switch_deed s) step.claim)
    (switch_row c.args.knobs.now cpu part s.prev s.prev_nice s.way s.next s.next_nice step.claim) c.requires refl part
    fault c.in-Some-first_pick_test.ensures.line
    (c.in_default.ensures.first c.args.knobs.now (Some fault)
    (pick_tests_same c.args.knobs.now part s.prev s.prev_nice s.way s.next s.next_nice own c.switch_task-next.ensures
    (Some fault)
    (c.in-Some-first_pick_test.ensures.first own moved least (c.lead-need.ensures moved least))))

pub set_next-requires-clause-task : goal.set_next-requires-clause-task
set_next-requires-clause-task c ne =
    let part = runqueue_view c.args.queue.now in
    let s = c.args.switch.now in
    let runner = ran_prev part s.prev s.prev_nice s.way s.next s.next_nice (c.in_default.ensures.runner refl) in
    c.switch_task-next.ensures ne ∙ sym (next_stays part s.prev s.way s.next (c.in_default.ensures.two refl))
    ∙ sym (ap (λ (p : Part). p.tasks s.next) (c.in_ok-put_prev.ensures.part s.prev runner))

pub returns-clause-tried : goal.returns-clause-tried
returns-clause-tried c cpu =
    let part = runqueue_view c.args.queue.now in
    let step = c.args.step.now in
    let s = c.args.switch.now in
    let runner = ran_prev part s.prev s.prev_nice s.way s.next s.next_nice (c.in_default.ensures.runner refl) in
    let moved = part_after_prev part s.prev s.way in
    let own = option_map entity_of c.switch_task-next.result in
    let least = c.least_after-least.ensures s.prev runner in
    let lead = c.lead-need.ensures moved least in
    let first : IsFirst None (switch_tests c.args.knobs.now part (switch_deed s) step.claim)
    = c.in_default.ensures.first c.args.knobs.now None
    (pick_tests_same c.args.knobs.now part s.prev s.prev_nice s.way s.next s.next_nice own c.switch_task-next.ensures
    None (c.in_default-first_pick_test.ensures.first own moved least lead)) in
    passes c.args.knobs.now cpu part step (switch_deed s) step.claim
    (switch_tests c.args.knobs.now part (switch_deed s) step.claim)
    (switch_row c.args.knobs.now cpu part s.prev s.prev_nice s.way s.next s.next_nice step.claim) c.requires refl _ _
    first
    (c.set_next.ensures.part
    ∙ ap (λ (p : Part). part_after_next p s.next) (c.in_ok-put_prev.ensures.part s.prev runner))
    refl
    (pick_needs_lead part s.prev s.prev_nice s.way s.next s.next_nice own c.lead-need.result c.switch_task-next.ensures
    (c.in_default.ensures.two refl) first.1.1.1.1.1.1.1.0 lead)

pub returns-clause-pids : goal.returns-clause-pids
returns-clause-pids c =
    c.set_next.ensures.pids ∙ c.in_ok-put_prev.ensures.pids
    ∙ ap (λ (d : Deed). pids_after d c.args.queue.now.tasks.pids) (sym c.requires)

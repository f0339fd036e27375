use Rattle.std.proofs.Common.{◌≡◌, ◌↔◌, ℕ, IsTrue, Some, ℤ, true≢false, sym, ap, ◌∙◌, subst}
use Rattle.std.specs.BTreeSet.{contains}
use Rattle.sched_record.specs.Record.{record_view}
use Rattle.replay_model.specs.Part.{Part, part_of}
use Rattle.runqueue.specs.Queue.{runqueue_view}
use Rattle.runqueue.specs.Entities.{by_runtime, waiting_runtime, waiting_task}
use Rattle.runqueue.proofs.EntitiesKept.{waits_where}
use Rattle.least_places.specs.Left.{end_of}
use Rattle.least_places.specs.Walks.{steps_to}
use Rattle.least_places.proofs.LeftThere.{end_in_order, part_reached}
use Rattle.least_places.proofs.Waiting.{first_waits, no_keys, nobody_waits}
use Rattle.least_places.proofs.leaving.left_behind.Goals as goal

-- src/leaving.rt:92:1
pub returns-in-Some : goal.returns-in-Some
returns-in-Some c =
    let r = record_view c.args.joined.now in
    let order = c.args.joined.now.in_order in
    let run = c.requires.least.0.run in
    let replay = c.in-Ok.replay in
    let after = c.go_on.new.self in
    let part = runqueue_view c.runqueue.result.now in
    let set = c.waiting.result.now in
    λ front.
    let there : part_of (end_of r c.args.knobs c.args.line front) c.args.cpu ≡ part =
    part_reached r c.args.knobs order c.replays.ensures.part c.args.cpu c.args.line run replay.stream after.stream
    replay.knobs after.knobs replay.made c.count_to-steps.result after.made replay.page after.page part
    (c.in-Ok.ensures.stream ∙ c.in_ok-stream.ensures) c.go_on.ensures.stream c.in-Ok.ensures.knobs
    c.go_on.ensures.knobs c.in-Ok.ensures.made
    (c.count_to-steps.ensures
    ∙ ap (steps_to c.args.line) (c.steps.ensures ∙ ap (λ s. s.steps) (sym c.in-Ok.ensures.stream)))
    c.go_on.ensures.page c.in_ok-go_on.ensures.made c.runqueue.ensures front in
    first_waits (end_of r c.args.knobs c.args.line front)
    (end_in_order r c.args.knobs order c.replays.ensures.part c.args.cpu run c.places.ensures.run c.places.ensures.start
    c.args.line front) c.args.cpu set
    (subst (λ (p : Part). (v : ℤ) (pid : ℕ) → IsTrue (contains by_runtime set (waiting_task v pid))
    ↔ (waiting_runtime (p.tasks pid) ≡ Some v)) (sym there) (waits_where part.tasks set c.waiting.ensures))
    c.in-Some.task.now c.in-Some.ensures.member c.in-Some.ensures.least

-- src/leaving.rt:81:1
pub returns : goal.returns
returns c =
    let r = record_view c.args.joined.now in
    let order = c.args.joined.now.in_order in
    let run = c.requires.least.0.run in
    let replay = c.in-Ok.replay in
    let after = c.go_on.new.self in
    let part = runqueue_view c.runqueue.result.now in
    let set = c.waiting.result.now in
    λ front.
    let there : part_of (end_of r c.args.knobs c.args.line front) c.args.cpu ≡ part =
    part_reached r c.args.knobs order c.replays.ensures.part c.args.cpu c.args.line run replay.stream after.stream
    replay.knobs after.knobs replay.made c.count_to-steps.result after.made replay.page after.page part
    (c.in-Ok.ensures.stream ∙ c.in_ok-stream.ensures) c.go_on.ensures.stream c.in-Ok.ensures.knobs
    c.go_on.ensures.knobs c.in-Ok.ensures.made
    (c.count_to-steps.ensures
    ∙ ap (steps_to c.args.line) (c.steps.ensures ∙ ap (λ s. s.steps) (sym c.in-Ok.ensures.stream)))
    c.go_on.ensures.page c.in_ok-go_on.ensures.made c.runqueue.ensures front in
    nobody_waits (end_of r c.args.knobs c.args.line front)
    (end_in_order r c.args.knobs order c.replays.ensures.part c.args.cpu run c.places.ensures.run c.places.ensures.start
    c.args.line front) c.args.cpu set
    (subst (λ (p : Part). (v : ℤ) (pid : ℕ) → IsTrue (contains by_runtime set (waiting_task v pid))
    ↔ (waiting_runtime (p.tasks pid) ≡ Some v)) (sym there) (waits_where part.tasks set c.waiting.ensures))
    (λ k member. true≢false (sym member ∙ no_keys set (λ some. let e = c.in-None.ensures.variant.1 some in cc) k))

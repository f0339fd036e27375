use Rattle.std.proofs.Common.{◌≡◌, ◌<◌, ◌≤◌, List, Some, get_or, length, sym, ap, ◌∙◌, subst}
use Rattle.std.specs.Prelude.{slice_get}
use Rattle.std.proofs.lemmas.Option.{slice_get-get_or}
use Rattle.fault_bounds.specs.Bounds.{steps_before}
use Rattle.fault_bounds.proofs.Moments.{going_none, less_than, made_all, moment_is}
use Rattle.replay_model.specs.Cut.{StreamView}
use Rattle.replay_model.specs.declared.step.Step.{Step}
use Rattle.runqueue.specs.Queue.{runqueue_view}
use Rattle.sched_record.specs.Record.{record_view}
use Rattle.fault_bounds.proofs.moment.moment_before.Goals as goal

pub returns-in-Going : goal.returns-in-Going
returns-in-Going c =
    let replay = c.in-Ok.replay in
    let after = c.go_on.new.self in
    let step = c.index-steps-count.result in
    let count = c.count_before-count.result in
    let dealt : List Step = c.steps.result.now in
    let own : after.stream.steps ≡ dealt =
    ap (λ (s : StreamView). s.steps) (c.go_on.ensures.stream ∙ c.in-Ok.ensures.stream) ∙ sym c.steps.ensures in
    let most : count ≤ length dealt = c.count_before-count.ensures.within in
    let none = going_none after.page.fault after.made (length after.stream.steps) (sym c.in_ok-go_on.ensures.state
    ∙ c.in-Going.is) in
    let made : after.made ≡ count =
    made_all replay.stream replay.knobs replay.made replay.page count after.made after.page
    c.in_ok-go_on.ensures.made c.in-Ok.ensures.made none
    (subst (λ (s : StreamView). count ≤ length s.steps) c.go_on.ensures.stream
    (subst (λ xs. count ≤ length xs) (sym own) most)) in
    let within : count < length dealt =
    less_than count (length dealt) most
    (λ e. c.if-count-steps.false (e ∙ ap length (c.steps.ensures ∙ sym c.steps-2.ensures))) in
    let there : slice_get dealt count ≡ Some step =
    slice_get-get_or dealt count step within
    ∙ ap Some (sym (subst (λ xs. step ≡ get_or xs count step) (c.steps-3.ensures ∙ sym c.steps.ensures)
    c.index-steps-count.is)) in
    moment_is (record_view c.args.joined.now) c.args.knobs c.args.cpu c.args.line after.stream after.knobs after.made
    (c.go_on.ensures.stream ∙ c.in-Ok.ensures.stream ∙ c.in_ok-stream.ensures)
    (c.go_on.ensures.knobs ∙ c.in-Ok.ensures.knobs)
    (made ∙ c.count_before-count.ensures.count ∙ ap (steps_before c.args.line) (sym own))
    (runqueue_view c.into_runqueue.result) step c.into_runqueue.ensures
    (subst (λ xs. slice_get xs after.made ≡ Some step) (sym own) (subst (λ n. slice_get dealt n ≡ Some step)
    (sym made) there))
    c.if-step-line.true

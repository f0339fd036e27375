use Rattle.std.proofs.Common.{◌∙◌, ap, get_or, length, arith}
use Rattle.queue_replay.proofs.Replays.{reached_one_more, at_middle, at_end}
use Rattle.queue_replay.proofs.running.advance.Goals as goal
use Rattle.processor_stream.specs.Stream.{stream_view}

pub returns-then-state-steps-clause-at : goal.returns-then-state-steps-clause-at
returns-then-state-steps-clause-at c =
    let s = stream_view c.args.stream.now in
    let old = c.args.state.now in
    let step = c.index-steps-state.result in
    let e = c.in_ok-step.ensures in
    at_end s c.args.knobs c.step.new.self c.end_test.new.state
    (reached_one_more s c.args.knobs old c.step.new.self step c.cpu.result c.cpu.ensures
    (c.requires.at.under_way c.requires.fault c.requires.left)
    c.requires.left (c.index-steps-state.is ∙ ap (λ l. get_or l old.made step) c.steps.ensures) e.stepped e.made)
    (c.if-state-steps.true ∙ ap length c.steps-2.ensures) c.end_test.ensures.made c.end_test.ensures.part
    c.end_test.ensures.since c.end_test.ensures.page c.end_test.ensures.needs

pub returns-else-state-steps-clause-at : goal.returns-else-state-steps-clause-at
returns-else-state-steps-clause-at c =
    let s = stream_view c.args.stream.now in
    let old = c.args.state.now in
    let step = c.index-steps-state.result in
    let e = c.in_ok-step.ensures in
    at_middle s c.args.knobs c.step.new.self
    (reached_one_more s c.args.knobs old c.step.new.self step c.cpu.result c.cpu.ensures
    (c.requires.at.under_way c.requires.fault c.requires.left)
    c.requires.left (c.index-steps-state.is ∙ ap (λ l. get_or l old.made step) c.steps.ensures) e.stepped e.made)
    (let n = ap length c.steps-2.ensures in let l = c.requires.left in let m = e.made in let f =
    c.if-state-steps.false in omega arith)

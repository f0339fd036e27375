use Rattle.std.proofs.Common.{sym, ◌∙◌}
use Rattle.queue_replay.proofs.Windows.{no_fault, through_failed, through_more, through_none}
use Rattle.queue_replay.proofs.running.go_through.Goals as goal

pub loop-step-init : goal.loop-step-init
loop-step-init c = record {
  through = through_none _;
  going = c.requires.going;
}

pub loop-step-preserved : goal.loop-step-preserved
loop-step-preserved c =
    let l = c.loop-step in
    let none = no_fault l.state.draft.fault (sym c.is_some.ensures ∙ c.if-is_some.false) in
    through_more c.args.cpu c.args.knobs.now c.args.steps.now c.args.state.now l.step-index l.state c.step-item.result
    c.step.new.self l.invariant none c.loop-step-test.true c.step-item.is c.in_ok-step.ensures.stepped
    c.in_ok-step.ensures.made

pub returns-then-is_some-clause-through : goal.returns-then-is_some-clause-through
returns-then-is_some-clause-through c =
    let l = c.loop-step in
    through_failed c.args.cpu c.args.knobs.now c.args.steps.now c.args.state.now l.step-index l.state l.invariant
    (sym c.is_some.ensures ∙ c.if-is_some.true)

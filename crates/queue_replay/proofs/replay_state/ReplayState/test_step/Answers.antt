use Rattle.std.proofs.Common.{Option, IfSome, inr, subst, sym, ap, ◌∙◌}
use Rattle.replay_model.specs.Page.{ReplayStateView, FailsStep, with_fault}
use Rattle.replay_model.specs.declared.page.StepFault.{StepFault}
use Rattle.queue_replay.specs.ReplayState.{replay_state_view}
use Rattle.queue_replay.proofs.Faults.{undone_state}
use Rattle.queue_replay.proofs.replay_state.ReplayState.test_step.Goals as goal

pub returns-in-Some-found-clause-stepped : goal.returns-in-Some-found-clause-stepped
returns-in-Some-found-clause-stepped g c =
    let old = c.args.self.now in
    let before = replay_state_view old in
    let fault = c.in-Some-found.fault in
    let is = c.in-Some-found.is in
    let e = c.in_ok-found.ensures in
    let F : ReplayStateView → Type 0 = FailsStep c.args.knobs.now c.args.cpu before c.args.step.now in
    let O : Option StepFault → Type 0 = λ o. IfSome o (λ f. F (with_fault before f)) in
    let same = undone_state old c.pass.new.self (e.undone (λ none. let f = sym is ∙ none in cc)) in
    inr (subst F (sym (c.fail-in-Some-found.ensures.noted ∙ ap (λ (s : ReplayStateView). with_fault s fault) same))
    (subst O is e.fails))

use Rattle.std.proofs.Common.{◌∷◌, ◌++◌, [], ap, subst, sym, take, ◌∙◌}
use Rattle.std.proofs.lemmas.List.{take_more}
use Rattle.queue_replay.specs.Windowed.{windowed_view}
use Rattle.window_audit.specs.States.{forgotten}
use Rattle.least_audit.specs.Pursuit.{Pursues}
use Rattle.least_audit.proofs.Pursued.{pursues_more, pursues_none}
use Rattle.least_audit.proofs.pursuer.Pursuer.go_through.Goals as goal

pub loop-step-init : goal.loop-step-init
loop-step-init c =
    subst (λ w. Pursues (forgotten (windowed_view c.args.self.now.replay)) [] w c.none-self.result)
    (sym c.forget.ensures)
    (pursues_none (forgotten (windowed_view c.args.self.now.replay)) c.none-self.result c.none-self.ensures)

pub loop-step-preserved : goal.loop-step-preserved
loop-step-preserved c =
    let items = c.as_slice-step-items.result.now in
    let index = c.loop-step.step-index in
    let step = c.step-item.result in
    let longer = take_more items index step c.loop-step-test.true
    ∙ ap (λ x. take index items ++ x ∷ []) (sym c.step-item.is) in
    subst (λ xs. Pursues (forgotten (windowed_view c.args.self.now.replay)) xs (windowed_view c.follow.new.self.replay)
    c.follow.new.self.rises) (sym longer)
    (pursues_more (forgotten (windowed_view c.args.self.now.replay)) (windowed_view c.loop-step.self.replay)
    (windowed_view c.follow.new.self.replay) (take index items) step c.loop-step.self.rises c.follow.new.self.rises
    c.loop-step.invariant c.in_ok-follow.ensures)

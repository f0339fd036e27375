use Rattle.std.proofs.Common.{◌≡◌, subst, ◌++◌, ◌∷◌, []}
use Rattle.std.specs.Prelude.{OnOk}
use Rattle.sched_record.proofs.window.Window.push_step.Goals as goal

pub returns : goal.returns
returns c here stands =
    subst (λ step. OnOk c.push.result (c.push.new.list.items ≡ c.args.steps.now.items ++ step ∷ []))
    (c.step_of-line.ensures here stands) c.push.ensures

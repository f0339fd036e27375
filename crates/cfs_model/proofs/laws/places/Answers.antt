use Rattle.cfs_model.proofs.StepOrder.{step_in_order, steps_in_order}
use Rattle.cfs_model.proofs.StartOrder.{start_in_order}
use Rattle.cfs_model.proofs.laws.places.Goals as goal

pub returns-clause-step : goal.returns-clause-step
returns-clause-step c = step_in_order

pub returns-clause-run : goal.returns-clause-run
returns-clause-run c = λ knobs start first events o run. steps_in_order knobs first events run.states o run.steps

pub returns-clause-start : goal.returns-clause-start
returns-clause-start c = start_in_order

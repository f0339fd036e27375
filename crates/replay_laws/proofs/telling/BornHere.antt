-- A pid whose birth passes the tests at a processor doesn't stand there.
use Rattle.std.proofs.Common.{◌≡◌, ℕ, IsSome, is_some, option_map, ℤ, refl, sym, ap, ◌∙◌, subst}
use Rattle.cfs_model.specs.Knobs.{KnobsView}
use Rattle.cfs_model.specs.Machine.{Machine, Stands}
use Rattle.cfs_model.specs.Claimed.{Claimed}
use Rattle.cfs_model.specs.Order.{IsInOrder}
use Rattle.replay_model.specs.Part.{Part, part_of, charged_in, charged_part}
use Rattle.replay_model.specs.QueueTests.{IsAlready}
use Rattle.replay_model.specs.Tests.{PassesTests}
use Rattle.replay_model.specs.StepAt.{deed_at, step_at}
use Rattle.cfs_model.proofs.StepOrder.{apart_of}
use Rattle.replay_model.proofs.PartFacts.{values_of, told_some}
use Rattle.replay_model.proofs.Clear.{clear_of}
use Rattle.part_laws.proofs.stepping.PartRenice.{reniced_some}
use Rattle.cfs_model.specs.declared.act.Act.TheVariants.{Born}
use Rattle.cfs_model.specs.declared.task.Place.{Place}

pub not_born_here : (knobs : KnobsView) (m : Machine) → IsInOrder m → (event : Claimed) (cpu here pid : ℕ) (nice : ℤ)
    (found : Part) → event.entry.act ≡ Born here pid nice
    → PassesTests knobs cpu (part_of m cpu) (step_at cpu event) found → (place : Place) → ¬ Stands m place cpu pid
not_born_here knobs m o event cpu here pid nice found e p place h =
    (clear_of knobs cpu found (step_at cpu event) p.none).already pid
    (subst (λ act. IsAlready found (deed_at cpu event.policy act) pid) (sym e) (there, refl))
  where
    there : IsSome (found.tasks pid)
    there = ap (λ (x : Part). is_some (x.tasks pid)) p.is_found.is_reniced
        ∙ reniced_some (step_at cpu event).nice p.is_found.lifted pid
        ∙ ap (λ (x : Part). is_some (x.tasks pid)) p.is_found.is_lifted.result
        ∙ told_some (step_at cpu event).charge (charged_part (part_of m cpu) event.entry.time) pid
        ∙ ap (λ x. is_some (option_map (charged_in (part_of m cpu) event.entry.time) x))
        (values_of m (apart_of m o) place cpu pid h).2

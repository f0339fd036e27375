use Rattle.std.proofs.Common.{◌≡◌, ◌∙◌, Option, Some, None, refl}
use Rattle.std.specs.Prelude.{option_map}
use Rattle.sched_event.specs.Reading.{text_at, wakeup_at}
use Rattle.sched_event.specs.RealTimeReading.{first_of}
use Rattle.sched_event.specs.Texts.{WakeupText, wakeup, wakeup_new}
use Rattle.sched_event.proofs.real_time.first_of.Goals as goal

-- a text names the same task whether it slept or is new
same_task : (read : Option WakeupText) → first_of (option_map wakeup read) ≡ first_of (option_map wakeup_new read)
same_task None = refl
same_task (Some text) = refl

pub returns-in-Switch : goal.returns-in-Switch
unfolding text_at
returns-in-Switch c = rw c.in-Switch.is c.of_switch.ensures

pub returns-in-Wakeup : goal.returns-in-Wakeup
unfolding text_at
returns-in-Wakeup c = rw c.in-Wakeup.is c.of_wakeup.ensures

pub returns-in-WakeupNew : goal.returns-in-WakeupNew
unfolding text_at
returns-in-WakeupNew c =
    rw c.in-WakeupNew.is (c.of_wakeup-in-WakeupNew.ensures ∙ same_task (wakeup_at c.args.line.rest.now))

pub returns-in-MigrateTask : goal.returns-in-MigrateTask
unfolding text_at
returns-in-MigrateTask c = rw c.in-MigrateTask.is c.of_migration.ensures

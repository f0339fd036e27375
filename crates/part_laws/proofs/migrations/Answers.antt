use Rattle.part_laws.proofs.migrating.MigrationSteps.{parts_migrate, machine_migrates}
use Rattle.part_laws.proofs.migrations.Goals as goal

pub returns-clause-part : goal.returns-clause-part
returns-clause-part c = parts_migrate

pub returns-clause-machine : goal.returns-clause-machine
returns-clause-machine c = machine_migrates

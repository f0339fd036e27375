use Rattle.cfs_model.proofs.MigrationExample.{migration_lem, later_lem}
use Rattle.cfs_model.proofs.examples.migration_example.Goals as goal

pub returns-clause-at_once : goal.returns-clause-at_once
returns-clause-at_once c = migration_lem

pub returns-clause-later : goal.returns-clause-later
returns-clause-later c = later_lem

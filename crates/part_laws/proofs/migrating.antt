-- A migration of the machine is a step of the parts at its two ends: the law `migrations`. From the bottom up.
pub mod PartMigration
pub mod MigrationSteps

-- The values that are there, with those that are still to be gone over, are the whole; and if each of those has an
-- amount, each of all has.
use Rattle.std.proofs.Common.{◌≡◌, drop}
use Rattle.clap.specs.Words.{found_of, rows_of}
use Rattle.cfs_model.specs.Knobs.{nothing}
use Rattle.audit_request.specs.CommandLine.{HaveAmounts, setting_of, with_values}
use Rattle.audit_request.proofs.command_words.amounts_of.Given as goal

abbrev pub invariant-loop-setting : goal.invariant-loop-setting
invariant-loop-setting l =
    let rows = rows_of (found_of l.fn.matches) in
    (with_values (setting_of rows) (drop l.setting-index l.settings) l.amounts
    ≡ with_values (setting_of rows) l.fn.settings nothing)
    × (HaveAmounts rows (drop l.setting-index l.settings) → HaveAmounts rows l.fn.settings)

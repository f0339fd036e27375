-- All are within just where those are that are still to be gone over.
use Rattle.std.proofs.Common.{◌≤◌, ◌↔◌, drop}
use Rattle.std.specs.List.{AllByRecursion}
use Rattle.cfs_model.specs.Knobs.{value_at}
use Rattle.cfs_model.specs.declared.setting.Setting.{Setting}
use Rattle.recording_audit.proofs.limits.are_within.Given as goal

abbrev pub invariant-loop-setting : goal.invariant-loop-setting
invariant-loop-setting l =
    let within : Setting → Type 0 = λ which. value_at l.knobs which ≤ value_at l.limits which in
    AllByRecursion within l.settings ↔ AllByRecursion within (drop l.setting-index l.settings)

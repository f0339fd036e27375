-- All are met just where those are that are still to be gone over.
use Rattle.std.proofs.Common.{◌≤◌, ◌↔◌, drop}
use Rattle.std.specs.List.{AllByRecursion}
use Rattle.cfs_model.specs.Knobs.{value_at}
use Rattle.cfs_model.specs.declared.setting.Setting.{Setting}
use Rattle.ticket_book.proofs.page_by.are_met.Given as goal

abbrev pub invariant-loop-setting : goal.invariant-loop-setting
invariant-loop-setting l =
    let met : Setting → Type 0 = λ which. value_at l.needs which ≤ value_at l.knobs which in
    AllByRecursion met l.settings ↔ AllByRecursion met (drop l.setting-index l.settings)

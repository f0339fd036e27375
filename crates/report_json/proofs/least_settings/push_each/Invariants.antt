-- What the text has, with the settings that are still to be gone over, is the whole.
use Rattle.std.proofs.Common.{◌≡◌, ◌++◌, string_bytes, drop}
use Rattle.report_json.specs.Objects.{members_of_settings}
use Rattle.report_json.proofs.least_settings.push_each.Given as goal

abbrev pub invariant-loop-setting : goal.invariant-loop-setting
invariant-loop-setting l =
    string_bytes l.text ++ members_of_settings l.knobs l.places (drop l.setting-index l.settings)
    ≡ string_bytes l.fn.text ++ members_of_settings l.fn.knobs l.fn.places l.fn.settings

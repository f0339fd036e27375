-- What the text has, with the settings that are still to be gone over, is the whole.
use Rattle.std.proofs.Common.{◌≡◌, ◌++◌, string_bytes, drop}
use Rattle.recording_audit.specs.Report.{words_of_settings}
use Rattle.recording_audit.proofs.reporting.push_each.Given as goal

abbrev pub invariant-loop-setting : goal.invariant-loop-setting
invariant-loop-setting l =
    string_bytes l.text ++ words_of_settings l.knobs (drop l.setting-index l.settings)
    ≡ string_bytes l.fn.text ++ words_of_settings l.fn.knobs l.fn.settings

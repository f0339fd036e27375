-- The options that are added, with those that are still to be gone over, are the whole.
use Rattle.std.proofs.Common.{◌≡◌, drop}
use Rattle.clap.specs.Words.{app_of}
use Rattle.audit_request.specs.CommandLine.{with_settings}
use Rattle.audit_request.proofs.command_words.with_settings.Given as goal

abbrev pub invariant-loop-setting : goal.invariant-loop-setting
invariant-loop-setting l =
    with_settings (drop l.setting-index l.settings) (app_of l.more) ≡ with_settings l.fn.settings (app_of l.fn.command)

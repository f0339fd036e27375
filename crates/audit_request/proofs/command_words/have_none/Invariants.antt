-- If none of the settings that are still to be gone over is given, none of all is.
use Rattle.std.proofs.Common.{drop}
use Rattle.clap.specs.Words.{found_of, rows_of}
use Rattle.audit_request.specs.CommandLine.{HaveNone}
use Rattle.audit_request.proofs.command_words.have_none.Given as goal

abbrev pub invariant-loop-setting : goal.invariant-loop-setting
invariant-loop-setting l =
    let rows = rows_of (found_of l.fn.matches) in
    HaveNone rows (drop l.setting-index l.settings) → HaveNone rows l.fn.settings

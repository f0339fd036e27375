-- What is excluded, with what is still to be, is the whole.
use Rattle.std.proofs.Common.{◌≡◌, drop}
use Rattle.clap.specs.Words.{rule_of}
use Rattle.audit_request.specs.CommandLine.{beside_none}
use Rattle.audit_request.proofs.command_words.beside_none.Given as goal

abbrev pub invariant-loop-setting : goal.invariant-loop-setting
invariant-loop-setting l =
    (beside_none (drop l.setting-index l.settings) (rule_of l.lone) ≡ beside_none l.fn.settings (rule_of l.fn.flag))
    × (l.lone.global ≡ l.fn.flag.global)

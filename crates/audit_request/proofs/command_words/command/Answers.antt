-- Each call adds its rules behind those that were there.
use Rattle.std.proofs.Common.{◌∙◌, ap}
use Rattle.std.proofs.lemmas.Result.{IfOk-weaker}
use Rattle.cfs_model.specs.Knobs.{all_settings}
use Rattle.audit_request.specs.CommandLine.{with_flags, with_names, with_settings, with_words}
use Rattle.audit_request.proofs.command_words.command.Goals as goal

pub returns : goal.returns
returns c =
    let named = c.in_ok-named.ensures ∙ ap with_names c.new.ensures.app in
    let set = c.in_ok-set.ensures ∙ ap (with_settings all_settings) named in
    let flagged = c.in_ok-with_flags.ensures ∙ ap with_flags set in
    IfOk-weaker c.with_words.result _ _ (λ command added. added ∙ ap with_words flagged) c.with_words.ensures

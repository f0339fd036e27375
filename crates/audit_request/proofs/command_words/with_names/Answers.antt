-- Each call adds its rule behind those that were there.
use Rattle.std.proofs.Common.{◌∙◌, ap, ap₂}
use Rattle.std.proofs.lemmas.Result.{IfOk-weaker}
use Rattle.clap.specs.Words.{with_rule}
use Rattle.clap.specs.Simple.{app_of_fields}
use Rattle.audit_request.proofs.command_words.with_names.Goals as goal

pub returns : goal.returns
returns c =
    let start = ap app_of_fields c.in_ok-bin_name.ensures.0
    ∙ (ap app_of_fields c.after_help.ensures
    ∙ (ap app_of_fields c.about.ensures ∙ ap app_of_fields c.version.ensures)) in
    let trace = c.in_ok-arg.ensures.shape c.name.ensures.local ∙ ap₂ with_rule start c.name.ensures.rule in
    IfOk-weaker c.arg-2.result _ _
    (λ command added. added.shape c.name-2.ensures.local ∙ ap₂ with_rule trace c.name-2.ensures.rule)
    c.arg-2.ensures

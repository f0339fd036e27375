-- Each call adds its rule behind those that were there.
use Rattle.std.proofs.Common.{◌∙◌, ap₂, refl}
use Rattle.std.proofs.lemmas.Result.{IfOk-weaker}
use Rattle.clap.specs.Words.{with_rule}
use Rattle.audit_request.proofs.command_words.with_words.Goals as goal

pub returns : goal.returns
returns c =
    let states = c.in_ok-arg.ensures.shape c.word_option.ensures.local
    ∙ ap₂ with_rule refl c.word_option.ensures.rule in
    let json = c.in_ok-arg-2.ensures.shape c.in_ok-json_flag.ensures.local
    ∙ ap₂ with_rule states c.in_ok-json_flag.ensures.rule in
    IfOk-weaker c.arg-3.result _ _
    (λ command added. added.shape c.word_option-2.ensures.local ∙ ap₂ with_rule json c.word_option-2.ensures.rule)
    c.arg-3.ensures

-- Each call adds its rule behind those that were there.
use Rattle.std.proofs.Common.{◌∙◌, ap₂, refl}
use Rattle.std.proofs.lemmas.Result.{IfOk-weaker}
use Rattle.clap.specs.Words.{with_rule}
use Rattle.audit_request.proofs.command_words.with_flags.Goals as goal

pub returns : goal.returns
returns c =
    let least = c.in_ok-arg.ensures.shape c.in_ok-lone_flag.ensures.local
    ∙ ap₂ with_rule refl c.in_ok-lone_flag.ensures.rule in
    let waits = c.in_ok-arg-2.ensures.shape c.flag.ensures.local ∙ ap₂ with_rule least c.flag.ensures.rule in
    let explain = c.in_ok-arg-3.ensures.shape c.flag-2.ensures.local ∙ ap₂ with_rule waits c.flag-2.ensures.rule in
    IfOk-weaker c.arg-4.result _ _
    (λ command added. added.shape c.flag-3.ensures.local ∙ ap₂ with_rule explain c.flag-3.ensures.rule)
    c.arg-4.ensures

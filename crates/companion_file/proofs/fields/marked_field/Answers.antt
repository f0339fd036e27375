use Rattle.std.proofs.Common.{◌+◌, Some, sym, ap, ◌∙◌}
use Rattle.std.proofs.lemmas.List.{take_rest}
use Rattle.companion_file.proofs.MarkedFields.{field_read}
use Rattle.companion_file.proofs.fields.marked_field.Goals as goal

pub returns-clause-field : goal.returns-clause-field
returns-clause-field c =
    let text = c.args.text.now in
    let digits = c.in_ok-digits.digits in
    let number = c.in_ok-digits.number in
    field_read text digits number c.in_ok-digits.ensures.1 c.if-text-digits-ne32.false
    ∙ ap (λ rest. Some (number, rest)) (sym (take_rest text (digits + 1)))

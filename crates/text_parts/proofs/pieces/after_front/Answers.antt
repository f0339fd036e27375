-- Where the bytes stand in front, what follows them is left.
use Rattle.std.proofs.Common.{Some, length, sym, ap, ◌∙◌}
use Rattle.std.proofs.lemmas.List.{take_rest}
use Rattle.text_parts.proofs.Fronts.{front_there}
use Rattle.text_parts.proofs.pieces.after_front.Goals as goal

pub returns-then-begins_with : goal.returns-then-begins_with
returns-then-begins_with c =
    let front = c.args.front.now in
    let text = c.args.text.now in
    front_there front text (sym c.begins_with.ensures ∙ c.if-begins_with.true)
    ∙ ap Some (sym (take_rest text (length front)))

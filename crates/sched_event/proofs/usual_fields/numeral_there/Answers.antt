use Rattle.std.proofs.Common.{length, subst}
use Rattle.std.proofs.lemmas.List.{take_rest}
use Rattle.text_parts.specs.Numerals.{is_digit}
use Rattle.text_parts.specs.Reading.{Gives}
use Rattle.text_parts.proofs.Fronts.{front_there}
use Rattle.sched_event.specs.FieldsView.{numeral_pair}
use Rattle.sched_event.specs.Reading.{numeral_behind, run_at}
use Rattle.sched_event.proofs.usual_fields.numeral_there.Goals as goal

pub returns : goal.returns
unfolding numeral_behind
returns c =
    let text = c.args.text.now in
    let key = c.args.key.now in
    rw (front_there key text c.requires)
    (subst (λ after. Gives numeral_pair c.digits.result (run_at is_digit after)) (take_rest text (length key))
    c.digits.ensures)

use Rattle.std.proofs.Common.{length, min, refl, take, ap, sym, ◌∙◌}
use Rattle.std.proofs.lemmas.List.{take_rest}
use Rattle.text_parts.specs.Numerals.{many, value_of}
use Rattle.sched_event.proofs.Keyed.{middle_prio_behind}
use Rattle.sched_event.proofs.usual_fields.middle_numeral.Goals as goal

pub returns : goal.returns
returns c =
    let text = c.args.text.now in
    let key = c.args.key.now in
    let stands = middle_prio_behind key c.args.middle.now text c.requires.middle c.requires.there in
    stands.1 ∙ rw (c.split_at.ensures.front, c.split_at.ensures.back, take_rest text (length key)) refl

pub invariant_of-result : goal.invariant_of-result
invariant_of-result c =
    let text = c.args.text.now in
    let key = c.args.key.now in
    let stands = middle_prio_behind key c.args.middle.now text c.requires.middle c.requires.there in
    let digits = c.split_at.ensures.front ∙ ap (take 3) (take_rest text (length key)) ∙ stands.0 in
    record { value_is = sym (ap (λ ds. min (value_of ds) many) digits) }

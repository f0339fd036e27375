use Rattle.text_parts.proofs.Fractions.{time_stands, no_time_without_seconds, no_time_without_fraction}
use Rattle.text_parts.proofs.time.time_at.Goals as goal

pub returns-in_default : goal.returns-in_default
returns-in_default c = no_time_without_seconds c.args.text.now c.in_default.ensures

pub returns-in_default-fraction_at : goal.returns-in_default-fraction_at
returns-in_default-fraction_at c =
    no_time_without_fraction c.args.text.now c.in-Some.seconds c.in-Some.fraction.now c.in-Some.ensures
    c.in_default-fraction_at.ensures.value

pub returns : goal.returns
returns c =
    time_stands c.args.text.now c.in-Some.seconds c.in-Some-fraction_at.nanoseconds c.in-Some.fraction.now
    c.in-Some-fraction_at.rest.now c.in-Some.ensures c.in-Some-fraction_at.ensures.value

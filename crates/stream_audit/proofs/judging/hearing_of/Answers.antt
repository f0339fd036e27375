use Rattle.stream_audit.proofs.judging.hearing_of.Goals as goal

pub returns : goal.returns
returns c = λ bytes text both.
    (c.in_ok-outcome.ensures bytes text both, c.tells_charges-tells_charges.ensures text both.done)

use Rattle.stream_audit.proofs.judging.judge_stream.Goals as goal

pub hear-requires-clause-nothing : goal.hear-requires-clause-nothing
hear-requires-clause-nothing g c κs within = (c.args.aim, c.new-listener.ensures.under_way)

pub returns-clause-outcome : goal.returns-clause-outcome
returns-clause-outcome g c = c.hear.ensures.outcome c.args.aim c.new-listener.ensures.under_way

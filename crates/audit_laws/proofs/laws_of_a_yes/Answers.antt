use Rattle.audit_laws.proofs.Lawful.{texts_start_orderly, yes_is_lawful}
use Rattle.audit_laws.proofs.laws_of_a_yes.Goals as goal

pub returns-clause-start : goal.returns-clause-start
returns-clause-start c = texts_start_orderly c.places.ensures.start

pub returns-clause-steps : goal.returns-clause-steps
returns-clause-steps c = yes_is_lawful c.places.ensures.step c.places.ensures.start

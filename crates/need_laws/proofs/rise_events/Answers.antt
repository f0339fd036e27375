use Rattle.need_laws.proofs.EventOfRise.{event_stays, rise_has_event}
use Rattle.need_laws.proofs.rise_events.Goals as goal

pub returns-clause-event : goal.returns-clause-event
returns-clause-event c = rise_has_event

pub returns-clause-stays : goal.returns-clause-stays
returns-clause-stays c = event_stays

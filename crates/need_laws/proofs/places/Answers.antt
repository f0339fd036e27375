use Rattle.need_laws.proofs.PlacesSoFar.{place_stays, window_has_idling, window_has_place}
use Rattle.need_laws.proofs.places.Goals as goal

pub returns-clause-stays : goal.returns-clause-stays
returns-clause-stays c = place_stays

pub returns-clause-place : goal.returns-clause-place
returns-clause-place c = window_has_place

pub returns-clause-idling : goal.returns-clause-idling
returns-clause-idling c = window_has_idling

-- The least settings of a record, each with its place: the second headline (this project's profile). What the least
-- settings are is said by ticket_book.
use Rattle.least_places.specs.Place.{ArePlaces}
use Rattle.least_places.specs.declared.figures.LeastFigures.{LeastFigures}
use Rattle.least_places.specs.declared.figures.LeastFigures.TheVariants.{Found, Fault}
use Rattle.sched_record.specs.Record.{RecordView}
use Rattle.ticket_book.specs.LeastAnswer.{IsLeastAnswer as AreLeastSettings}
use Rattle.ticket_book.specs.declared.least_settings.LeastSettings.TheVariants as leasts

-- of a record: the least settings at which its events are a run, and where each is needed first; or the first line up
-- to which they are one at no settings in range, and what is wrong there at the greatest
abbrev pub IsLeastAnswer : RecordView → LeastFigures → Type 0
IsLeastAnswer r (Found knobs places) = AreLeastSettings r (leasts.Found knobs) × ArePlaces r knobs places
IsLeastAnswer r (Fault fault) = AreLeastSettings r (leasts.Fault fault)

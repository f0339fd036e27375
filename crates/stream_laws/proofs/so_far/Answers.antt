use Rattle.stream_laws.proofs.Prefix.{events_are_few, record_so_far, times_stay_below}
use Rattle.stream_laws.proofs.so_far.Goals as goal

pub returns-clause-record : goal.returns-clause-record
returns-clause-record c = record_so_far

pub returns-clause-few : goal.returns-clause-few
returns-clause-few c = events_are_few

pub returns-clause-times : goal.returns-clause-times
returns-clause-times c = times_stay_below

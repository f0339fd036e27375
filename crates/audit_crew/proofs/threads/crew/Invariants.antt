use Rattle.sched_record.specs.Record.{record_view}
use Rattle.audit_crew.proofs.threads.crew.Given as goal

abbrev pub ghosts-crew_of-L-Ledger : goal.ghosts-crew_of-L-Ledger
ghosts-crew_of-L-Ledger g a = record { name = a.blank.name; parts = a.blank.parts }

abbrev pub ghosts-crew_of-L-CrewLedger : goal.ghosts-crew_of-L-CrewLedger
ghosts-crew_of-L-CrewLedger g a = record { joined = record_view a.joined.now; knobs = a.knobs }

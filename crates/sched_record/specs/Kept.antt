-- The order that each trace and each record keeps (this project's profile).
use Rattle.std.specs.Prelude.{ℕ, ◌<◌, ◌≤◌, IsTrue, List, [], ◌∷◌, All}
use Rattle.std.specs.List.{AllPairs}
use Rattle.cfs_model.specs.declared.act.Act.{Act}
use Rattle.cfs_model.specs.declared.act.Act.TheVariants.{Switch, Wake, Born, Shift}
use Rattle.cfs_model.specs.declared.act.Entry.{Entry}
use Rattle.cfs_model.specs.Limits.{greatest_pid}
use Rattle.companion_file.specs.Companion.{CompanionView}
use Rattle.companion_file.specs.Order.{IsCompanionInOrder}
use Rattle.sched_record.specs.RecordView.{RecordView}
use Rattle.sched_record.specs.Join.{IsInside, is_event_line, NamesBirth}

-- the pids that an event prints
abbrev pub pids_of : Act → List ℕ
pids_of (Switch cpu prev prev_nice way next next_nice) = prev ∷ next ∷ []
pids_of (Wake cpu pid nice) = pid ∷ []
pids_of (Born cpu pid nice) = pid ∷ []
pids_of (Shift orig dest pid nice) = pid ∷ []

-- those of them that can't be the idle task's: of a wakeup, a birth and a migration
abbrev pub tasks_of : Act → List ℕ
tasks_of (Switch cpu prev prev_nice way next next_nice) = []
tasks_of (Wake cpu pid nice) = pid ∷ []
tasks_of (Born cpu pid nice) = pid ∷ []
tasks_of (Shift orig dest pid nice) = pid ∷ []

-- an event's pids are in range, and the idle task is neither woken nor born nor migrated
pub record IsNamed (act : Act) : Type 0 where
  pub in_range : All (λ pid. pid ≤ greatest_pid) (pids_of act)
  pub no_idle : All (λ pid. 0 < pid) (tasks_of act)

-- events as a trace lists them
pub record AreInOrder (events : List Entry) : Type 0 where
  pub from_one : All (λ event. 0 < event.line) events
  pub lines_rise : AllPairs (λ a b. a.line < b.line) events
  pub never_falls : AllPairs (λ a b. a.time ≤ b.time) events
  pub named : All (λ event. IsNamed event.act) events

-- the companion's part of a record
abbrev pub companion_part : RecordView → CompanionView
companion_part r = record {
  cpus = r.cpus;
  start = r.start;
  floors = r.floors;
  tasks = r.tasks;
  claims = r.claims;
  nices = r.nices;
  idles = r.idles;
  charges = r.charges;
}

-- both parts are in order, and they go together
pub record IsRecordInOrder (r : RecordView) : Type 0 where
  pub companion : IsCompanionInOrder (companion_part r)
  pub events : AreInOrder r.events
  pub inside : All (IsInside r.cpus) r.events
  pub started : All (λ event. r.start ≤ event.time) r.events
  pub claimed : All (λ claim. IsTrue (is_event_line r.events claim.line)) r.claims
  pub reniced : All (λ change. IsTrue (is_event_line r.events change.line)) r.nices
  pub born : All (NamesBirth r.events) r.idles
  pub charged : All (λ charge. IsTrue (is_event_line r.events charge.line)) r.charges

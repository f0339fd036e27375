-- What is known of the events of a record that were handed on, but for a window that isn't judged yet (this project's
-- profile).
use Rattle.std.specs.Prelude.{◌≡◌, ◌≢◌, ℕ, ◌^◌, ◌<◌, ◌≤◌, List, [], ◌++◌, length}
use Rattle.std.specs.List.{AllByRecursion}
use Rattle.cfs_model.specs.Claimed.{Claimed}
use Rattle.companion_file.specs.Seen.{companion_view}
use Rattle.companion_file.specs.declared.companion.Companion.{Companion}
use Rattle.replay_model.specs.Record.{IsRecord}
use Rattle.sched_record.specs.Join.{joined_record}
use Rattle.sched_record.specs.Record.{RecordView}
use Rattle.sched_record.specs.Window.{window_view}
use Rattle.ticket_book.specs.SaidEvents.{events_of}
use Rattle.stream_audit.specs.Aim.{AimView, Begun, begun_of}
use Rattle.stream_audit.specs.Progress.{IsKnownOf, IsNext}
use Rattle.stream_audit.specs.declared.judge.Judge.{Judge}

-- how a record of this start begins
abbrev pub begun : AimView → Companion → Begun
begun aim start = begun_of aim (joined_record [] (companion_view start))

-- of those handed on it is known what they are, but for the window's, which come next
pub record IsAwaiting (of : Begun) (handed : List Claimed) (judge : Judge) : Type 0 where
  pub so_far : List Claimed
  pub parts : so_far ++ window_view judge.window ≡ handed
  pub known : IsKnownOf of so_far judge.progress
  pub next : window_view judge.window ≢ [] → IsNext of so_far (window_view judge.window) judge.progress

-- these are all events of a record, and it is known what they are
pub record IsAllOf (aim : AimView) (r : RecordView) (judge : Judge) : Type 0 where
  pub known : IsKnownOf (begun_of aim r) (events_of r) judge.progress
  pub is_record : IsRecord r.start r.floors r.tasks (events_of r) r.cpus
  pub last : ℕ
  pub times : AllByRecursion (λ event. event.entry.time ≤ last) (events_of r)
  pub last_fits : last < 2 ^ 64
  pub few_events : length (events_of r) < 2 ^ 32

-- How often and how long each task of a run waited (this project's profile). Said of the machine's states, as a run is,
-- so that a migration of a task that waits ends no wait.
use Rattle.std.specs.Prelude.{◌≡◌, ℕ, suc, ◌-◌, ◌<◌, ◌≤◌, ◌⊎◌, ⊤, nat_lt, if◌then◌else◌, Option, Some, None, IsSomeAnd}
use Rattle.std.specs.Prelude.{List, [], ◌∷◌, length, map, sum, slice_get}
use Rattle.std.specs.List.{AllByRecursion}
use Rattle.cfs_model.specs.Claimed.{Claimed, claimed}
use Rattle.cfs_model.specs.Machine.{Machine, Stands}
use Rattle.cfs_model.specs.Start.{start_machine}
use Rattle.cfs_model.specs.declared.task.Place.TheVariants.{Wait as WaitPlace}
use Rattle.replay_model.specs.Summary.{tasks_of_run}
use Rattle.sched_record.specs.RecordView.{RecordView, policy_of}
use Rattle.waiting_times.specs.Moments.{moment_at, moments_of}
use Rattle.waiting_times.specs.declared.moment.Moment.{Moment}
use Rattle.waiting_times.specs.declared.task_waits.TaskWaits.{TaskWaits}
use Rattle.waiting_times.specs.declared.wait.Wait.{Wait}

-- the task waits at some processor
abbrev pub IsWaiting : ℕ → Machine → Type 0
IsWaiting pid m = (cpu : ℕ) × Stands m WaitPlace cpu pid

-- the task waits in the state of this number
abbrev pub WaitsIn : List Machine → ℕ → ℕ → Type 0
WaitsIn states pid n = IsSomeAnd (slice_get states n) (IsWaiting pid)

-- consecutive numbers, from the first up to but without the last
pub record Stretch : Type 0 where
  pub from : ℕ
  pub to : ℕ

-- a longest stretch of numbers for each of which something holds: it holds neither for the number before the stretch
-- nor for that behind it
pub record IsStretch (holds : ℕ → Type 0) (stretch : Stretch) : Type 0 where
  pub some : stretch.from < stretch.to
  pub each : (n : ℕ) → stretch.from ≤ n → n < stretch.to → holds n
  pub begins : (n : ℕ) → suc n ≡ stretch.from → ¬ holds n
  pub ends : ¬ holds stretch.to

-- the stretch is one of these
abbrev pub IsOneOf : Stretch → List Stretch → Type 0
IsOneOf stretch [] = ⊥
IsOneOf stretch (other ∷ others) = (stretch ≡ other) ⊎ IsOneOf stretch others

-- each begins before those behind it
abbrev pub Rise : List Stretch → Type 0
Rise [] = ⊤
Rise (stretch ∷ others) = AllByRecursion (λ other. stretch.from < other.from) others × Rise others

-- all such stretches, in their order
pub record AreStretches (holds : ℕ → Type 0) (stretches : List Stretch) : Type 0 where
  pub each : AllByRecursion (IsStretch holds) stretches
  pub all : (stretch : Stretch) → IsStretch holds stretch → IsOneOf stretch stretches
  pub order : Rise stretches

-- how long a wait was, in nanoseconds
abbrev pub duration : Wait → ℕ
duration wait = wait.to.time - wait.from.time

-- the first, unless the second takes longer
abbrev pub longer : {A : Type 0} → (A → ℕ) → A → Option A → A
longer takes first None = first
longer takes first (Some second) = if nat_lt (takes first) (takes second) then second else first

-- the first of those that take longest
abbrev pub first_longest : {A : Type 0} → (A → ℕ) → List A → Option A
first_longest takes [] = None
first_longest takes (first ∷ others) = Some (longer takes first (first_longest takes others))

-- the second, unless the first takes as long
abbrev pub later : {A : Type 0} → (A → ℕ) → Option A → A → A
later takes None second = second
later takes (Some first) second = if nat_lt (takes first) (takes second) then second else first

-- the wait of a stretch of states
abbrev pub wait_of : List Moment → Stretch → Wait
wait_of moments stretch = record { from = moment_at moments stretch.from; to = moment_at moments stretch.to }

-- what is told of a task by its waits
abbrev pub told_by : ℕ → List Wait → TaskWaits
told_by pid waits = record {
  pid = pid;
  times = length waits;
  total = sum (map duration waits);
  longest = first_longest duration waits;
}

-- this is told of a task, of which each longest stretch of states in which it waits is a wait
pub record IsWaitsOf (r : RecordView) (states : List Machine) (pid : ℕ) (told : TaskWaits) : Type 0 where
  pub stretches : List Stretch
  pub are : AreStretches (WaitsIn states pid) stretches
  pub is : told ≡ told_by pid (map (wait_of (moments_of r)) stretches)

-- the same of each of these tasks, in their order
abbrev pub AreWaitsOf : RecordView → List Machine → List ℕ → List TaskWaits → Type 0
AreWaitsOf r states [] [] = ⊤
AreWaitsOf r states (pid ∷ pids) (told ∷ others) = IsWaitsOf r states pid told × AreWaitsOf r states pids others
AreWaitsOf r states _ _ = ⊥

-- a record's events, each with what the companion says on its line
abbrev pub said_events : RecordView → List Claimed
said_events r = claimed r.claims r.nices r.charges (policy_of r) r.events

-- the first state of a record's run
abbrev pub first_state : RecordView → Machine
first_state r = start_machine r.start r.floors r.tasks

-- this is told of the tasks of a record's run, through these states behind the first
abbrev pub AreWaits : RecordView → List Machine → List TaskWaits → Type 0
AreWaits r states told = AreWaitsOf r (first_state r ∷ states) (tasks_of_run r.tasks (said_events r)) told

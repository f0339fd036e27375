-- What the lines of a companion up to a place say, taken together (this project's companion format).
use Rattle.std.specs.Prelude.{ℕ, ◌+◌, ◌*◌, ℤ, Bool, true, false, ◌==◌, ◌&&◌, List, length, map, filter_map, Option}
use Rattle.std.specs.Prelude.{Some, None}
use Rattle.std.specs.Option.{option_map_or}
use Rattle.std.specs.List.{last_or, list_any}
use Rattle.cfs_model.specs.Limits.{no_line, nanoseconds_per_second}
use Rattle.cfs_model.specs.declared.task.Task.{Task}
use Rattle.cfs_model.specs.declared.task.Place.{Place}
use Rattle.cfs_model.specs.declared.task.Place.TheVariants.{Run, Wait, Rest}
use Rattle.cfs_model.specs.declared.claim.Claim.{Claim}
use Rattle.cfs_model.specs.declared.nice_line.NiceLine.{NiceLine}
use Rattle.cfs_model.specs.declared.charge_line.ChargeLine.{ChargeLine}
use Rattle.cfs_model.specs.declared.idle_line.IdleLine.{IdleLine}
use Rattle.cfs_model.specs.Claimed.{named_policy}
use Rattle.companion_file.specs.Shape.{Shape, version_line, cpus_line, start_line, floor_line, task_line, claim_line}
use Rattle.companion_file.specs.Shape.{nice_line, idle_line, charge_line}

-- the format's version that a line names, if it names one
abbrev pub version_in : Shape → Option ℕ
version_in (version_line n) = Some n
version_in _ = None

-- the number of processors that a line says, if it says one
abbrev pub cpus_in : Shape → Option ℕ
cpus_in (cpus_line n) = Some n
cpus_in _ = None

-- the start that a line says, in nanoseconds
abbrev pub start_in : Shape → Option ℕ
start_in (start_line seconds nanoseconds) = Some (seconds * nanoseconds_per_second + nanoseconds)
start_in _ = None

-- the floor that a line says
abbrev pub floor_in : Shape → Option ℤ
floor_in (floor_line cpu floor) = Some floor
floor_in _ = None

-- the task that a line names
abbrev pub task_named_on : Shape → Option Task
task_named_on (task_line task) = Some task
task_named_on _ = None

-- the claim that a line makes
abbrev pub claim_in : Shape → Option Claim
claim_in (claim_line claim) = Some claim
claim_in _ = None

-- the change of a nice value that a line tells
abbrev pub nice_in : Shape → Option NiceLine
nice_in (nice_line change) = Some change
nice_in _ = None

-- who is of the idle policy by a line
abbrev pub idle_in : Shape → Option IdleLine
idle_in (idle_line idle) = Some idle
idle_in _ = None

-- the charge that a line tells
abbrev pub charge_in : Shape → Option ChargeLine
charge_in (charge_line charge) = Some charge
charge_in _ = None

-- a task of the start state with the policy that idle lines tell
abbrev pub with_policy_told : List IdleLine → Task → Task
with_policy_told idles task = record task { policy = named_policy idles no_line task.pid }

-- what lines say, taken together
pub record Said : Type 0 where
  -- the format's version, once the first line has named it
  pub version : Option ℕ
  -- the number of processors, once a line has said it
  pub cpus : Option ℕ
  -- the start in nanoseconds, once a line has said it
  pub start : Option ℕ
  -- the floors so far, from processor 0 on
  pub floors : List ℤ
  -- the tasks so far, with the policies so far
  pub tasks : List Task
  -- the claims so far
  pub claims : List Claim
  -- the changes of nice values so far
  pub nices : List NiceLine
  -- who is of the idle policy so far
  pub idles : List IdleLine
  -- the charges told so far
  pub charges : List ChargeLine

-- what these lines say, taken together
abbrev pub summed : List Shape → Said
summed lines =
    record {
      version = last_or None (filter_map version_in lines);
      cpus = last_or None (filter_map cpus_in lines);
      start = last_or None (filter_map start_in lines);
      floors = filter_map floor_in lines;
      tasks = map (with_policy_told (filter_map idle_in lines)) (filter_map task_named_on lines);
      claims = filter_map claim_in lines;
      nices = filter_map nice_in lines;
      idles = filter_map idle_in lines;
      charges = filter_map charge_in lines;
    }

-- the last task so far
abbrev pub last_task : Said → Option Task
last_task said = last_or None said.tasks

-- the last claim so far
abbrev pub last_claim : Said → Option Claim
last_claim said = last_or None said.claims

-- the last change of a nice value so far
abbrev pub last_nice : Said → Option NiceLine
last_nice said = last_or None said.nices

-- the last idle line so far
abbrev pub last_idle : Said → Option IdleLine
last_idle said = last_or None said.idles

-- the last charge told so far
abbrev pub last_charge : Said → Option ChargeLine
last_charge said = last_or None said.charges

-- each processor has its floor
abbrev pub has_all_floors : Said → Bool
has_all_floors said = option_map_or (λ n. length said.floors == n) said.cpus false

-- the place is that of a running task
abbrev pub is_run : Place → Bool
is_run Run = true
is_run Wait = false
is_run Rest = false

-- a task so far runs at the processor
abbrev pub is_taken : List Task → ℕ → Bool
is_taken tasks cpu = list_any (λ task. is_run task.place && (task.cpu == cpu)) tasks

-- a task so far has this pid
abbrev pub is_task : List Task → ℕ → Bool
is_task tasks pid = list_any (λ task. task.pid == pid) tasks

-- The part of a machine at one processor, and its charge, exactly or as told, and lift. Sources: sched-design-CFS.rst,
-- "Few implementation
-- details" and "The rbtree" (a running task's virtual runtime grows by the time that it ran, scaled by its weight;
-- min_vruntime is monotonic and follows the smallest virtual runtime of the runqueue). That only events charge, the
-- weight of the idle policy and the rounding are this project's profile.
use Rattle.std.specs.Prelude.{◌≡◌, ◌≢◌, ℕ, ◌-◌, Bool, true, false, Option, Some, None, option_map, ℤ, pos, ◌+ℤ◌}
use Rattle.std.specs.Prelude.{◌≤ℤ◌, ◌⊎◌}
use Rattle.std.specs.Int.{int_max}
use Rattle.cfs_model.specs.Charge.{charge_of}
use Rattle.cfs_model.specs.Nice.{task_weight}
use Rattle.cfs_model.specs.Machine.{Machine, put}
use Rattle.cfs_model.specs.Told.{drift_after}
use Rattle.cfs_model.specs.declared.charge_line.ChargeLine.{ChargeLine}
use Rattle.cfs_model.specs.declared.task.Place.{Place}
use Rattle.cfs_model.specs.declared.task.Place.TheVariants.{Run, Wait, Rest}
use Rattle.cfs_model.specs.declared.policy.Policy.{Policy}

-- a task as it stands at the processor
pub record Entity : Type 0 where
  pub place : Place
  pub nice : ℤ
  pub policy : Policy
  -- the virtual runtime, in virtual nanoseconds
  pub runtime : ℤ
  -- by how much its told charges stray in sum from exact ones since it came here, in virtual nanoseconds
  pub drift : ℤ

pub record Part : Type 0 where
  -- each pid that stands here
  pub tasks : ℕ → Option Entity
  -- the floor of the runqueue, in virtual nanoseconds
  pub floor : ℤ
  -- the time of the last charge, in nanoseconds
  pub mark : ℕ

-- the place that is told by three flags: it runs, it waits, it rests
abbrev pub place_by : Bool → Bool → Bool → Option Place
place_by true waits rests = Some Run
place_by false true rests = Some Wait
place_by false false true = Some Rest
place_by false false false = None

-- a task of this policy and drift with this place, nice value and virtual runtime, where it has all three
abbrev pub entity_by : Policy → ℤ → Option Place → Option ℤ → Option ℤ → Option Entity
entity_by policy drift (Some place) (Some nice) (Some v) =
    Some (record { place = place; nice = nice; policy = policy; runtime = v; drift = drift })
entity_by policy drift _ _ _ = None

-- what a machine has of a pid at a processor
abbrev pub entity_at : Machine → ℕ → ℕ → Option Entity
entity_at m cpu pid =
    entity_by (m.policy pid) (m.drift pid) (place_by (m.running cpu pid) (m.waiting cpu pid) (m.resting cpu pid))
    (m.nice pid) (m.runtime pid)

-- the part of a machine at a processor
abbrev pub part_of : Machine → ℕ → Part
part_of m cpu = record { tasks = entity_at m cpu; floor = m.floor cpu; mark = m.mark cpu }

-- where the pid stands here
abbrev pub place_in : Part → ℕ → Option Place
place_in part pid = option_map (λ s. s.place) (part.tasks pid)

-- the pid stands here in this place
abbrev pub IsIn : Part → Place → ℕ → Type 0
IsIn part place pid = place_in part pid ≡ Some place

-- nobody stands here in this place
abbrev pub NobodyIn : Part → Place → Type 0
NobodyIn part place = (pid : ℕ) → ¬ IsIn part place pid

-- what a task is charged at a time, in virtual nanoseconds: for the time since the mark
abbrev pub cost_in : Part → ℕ → Entity → ℕ
cost_in part time s = charge_of (time - part.mark) (task_weight s.nice s.policy)

-- a virtual runtime after a charge: it costs one who runs
abbrev pub runtime_after : Place → ℕ → ℤ → ℤ
runtime_after Run cost v = v +ℤ pos cost
runtime_after _ cost v = v

-- a task after the exact charge at a time
abbrev pub charged_in : Part → ℕ → Entity → Entity
charged_in part time s = record s { runtime = runtime_after s.place (cost_in part time s) s.runtime }

-- who runs is charged exactly, and the mark is the time
abbrev pub charged_part : Part → ℕ → Part
charged_part part time = record {
  tasks = λ pid. option_map (charged_in part time) (part.tasks pid);
  floor = part.floor;
  mark = time;
}

-- a task that is told to have a virtual runtime, from what it is when charged exactly
abbrev pub told_in : ℤ → Entity → Entity
told_in told s = record s { runtime = told; drift = drift_after s.drift told s.runtime }

-- a part as it is charged, exactly or as told, from what it is when charged exactly
abbrev pub told_part : Option ChargeLine → Part → Part
told_part None part = part
told_part (Some charge) part =
    record part { tasks = put part.tasks charge.pid (option_map (told_in charge.v) (part.tasks charge.pid)) }

-- s is somebody who runs or waits
abbrev pub IsQueuedHere : Entity → Type 0
IsQueuedHere s = s.place ≢ Rest

-- v is the least virtual runtime of those who run or wait here
pub record IsLeastHere (part : Part) (v : ℤ) : Type 0 where
  pub pid : ℕ
  pub task : Entity
  pub stands : part.tasks pid ≡ Some task
  pub queued : IsQueuedHere task
  pub runtime : task.runtime ≡ v
  pub least : (other : ℕ) (s : Entity) → part.tasks other ≡ Some s → IsQueuedHere s → v ≤ℤ s.runtime

-- the floor stays where nobody runs or waits; else it is raised to the least virtual runtime, and never lowered
abbrev pub IsRaisedHere : Part → ℤ → Type 0
IsRaisedHere part floor =
    (((pid : ℕ) (s : Entity) → part.tasks pid ≡ Some s → ¬ IsQueuedHere s) × (floor ≡ part.floor))
    ⊎ ((v : ℤ) × IsLeastHere part v × (floor ≡ int_max part.floor v))

-- after is before with its runner charged, exactly or as told, and then the floor raised
pub record IsLiftedPart (time : ℕ) (charge : Option ChargeLine) (before after : Part) : Type 0 where
  pub floor : ℤ
  pub raised : IsRaisedHere (told_part charge (charged_part before time)) floor
  pub result : after ≡ record (told_part charge (charged_part before time)) { floor = floor }

-- What the reader keeps of the lines so far, and what one more line makes of it. It is proved that this is what
-- those lines say, taken together.
use Rattle.std.specs.Prelude.{◌≡◌, ℕ, ◌+◌, ◌*◌, ◌<◌, ◌≤◌, Bool, true, false, List, [], ◌∷◌, ◌++◌, length, map}
use Rattle.std.specs.Prelude.{unwrap_or, All, AllPairs, Option, Some, None, Result, Ok, Err, slice_index_or, ◌⊎◌}
use Rattle.std.specs.Option.{ForSome}
use Rattle.cfs_model.specs.declared.task.Task.{Task}
use Rattle.companion_file.specs.declared.fault.Refusal.{Refusal}
use Rattle.companion_file.specs.declared.fault.Refusal.TheVariants as refusals
use Rattle.companion_file.specs.Shape.{Shape, version_line, cpus_line, start_line, floor_line, task_line, claim_line}
use Rattle.companion_file.specs.Shape.{nice_line, idle_line, charge_line}
use Rattle.companion_file.specs.declared.fault.CompanionCause.TheVariants.{Version}
use Rattle.companion_file.specs.declared.fault.CompanionFault.{CompanionFault}
use Rattle.companion_file.specs.declared.fault.CompanionFault.TheVariants as faults
use Rattle.companion_file.specs.Spelling.{IsFirstLine}
use Rattle.companion_file.specs.Earlier.{Said, has_all_floors, is_taken, is_task, with_policy_told}
use Rattle.text_parts.specs.Lines.{IsComment}
use Rattle.cfs_model.specs.Limits.{no_line, most_processors, greatest_seconds, nanoseconds_per_second}
use Rattle.cfs_model.specs.Charge.{IsInRange}
use Rattle.companion_file.specs.Companion.{CompanionView}
use Rattle.companion_file.specs.Order.{IsTaskInLimits, IsClaimInLimits, IsNiceLineInLimits, IsIdleLineInLimits}
use Rattle.companion_file.specs.Order.{IsChargeLineInLimits}
use Rattle.companion_file.specs.Order.{IdleRises}
use Rattle.cfs_model.specs.Order.{RunApart}
use Rattle.companion_file.specs.Tests.{fault_of, IsJudged}

-- the processors are few, and of each it is known whether a task runs there
pub record KnowsRunning (cpus : Option ℕ) (tasks : List Task) (running : List Bool) : Type 0 where
  pub few : ForSome cpus (λ n. n ≤ most_processors)
  pub known : (cpu : ℕ) → cpu < most_processors → slice_index_or running cpu false ≡ is_taken tasks cpu

-- what is said with one more line
abbrev pub with_line : Said → Shape → Said
with_line said (version_line n) = record said { version = Some n }
with_line said (cpus_line n) = record said { cpus = Some n }
with_line said (start_line seconds nanoseconds) =
    record said { start = Some (seconds * nanoseconds_per_second + nanoseconds) }
with_line said (floor_line cpu floor) = record said { floors = said.floors ++ floor ∷ [] }
with_line said (task_line task) = record said { tasks = said.tasks ++ with_policy_told said.idles task ∷ [] }
with_line said (claim_line claim) = record said { claims = said.claims ++ claim ∷ [] }
with_line said (nice_line change) = record said { nices = said.nices ++ change ∷ [] }
with_line said (idle_line idle) = record said {
  tasks = map (with_policy_told (said.idles ++ idle ∷ [])) said.tasks;
  idles = said.idles ++ idle ∷ [];
}
with_line said (charge_line charge) = record said { charges = said.charges ++ charge ∷ [] }

-- the line with this shape was added, if memory sufficed; else all is as it was
abbrev pub Adds : Said → Shape → Result Unit Refusal → Said → Type 0
Adds old x (Ok _) new = new ≡ with_line old x
Adds old x (Err (refusals.Bad cause)) new = ⊥
Adds old x (Err refusals.Memory) new = new ≡ old

-- the line with this shape was added, or it fails a test; where it wasn't added all is as it was
abbrev pub AddsTested : Said → Shape → Result Unit Refusal → Said → Type 0
AddsTested old x (Ok _) new = (fault_of old x ≡ None) × (new ≡ with_line old x)
AddsTested old x (Err (refusals.Bad cause)) new = (fault_of old x ≡ Some cause) × (new ≡ old)
AddsTested old x (Err refusals.Memory) new = new ≡ old

-- the first line was taken, or it is bad, and then all is as it was
abbrev pub TakesFirst : Said → List ℕ → Result Unit Refusal → Said → Type 0
TakesFirst old line (Ok _) new = (version : ℕ) × IsFirstLine line version
    × (new ≡ record old { version = Some version })
TakesFirst old line (Err (refusals.Bad cause)) new =
    ((version : ℕ) → ¬ IsFirstLine line version) × (cause ≡ Version) × (new ≡ old)
TakesFirst old line (Err refusals.Memory) new = new ≡ old

-- the line was a comment, or it was taken, or it is bad; where it wasn't taken all is as it was
abbrev pub Takes : Said → List ℕ → Result Unit Refusal → Said → Type 0
Takes old line (Ok _) new =
    (IsComment line × (new ≡ old))
    ⊎ ((¬ IsComment line) × ((x : Shape) × IsJudged old line (Ok x) × (new ≡ with_line old x)))
Takes old line (Err (refusals.Bad cause)) new = (¬ IsComment line) × IsJudged old line (Err cause) × (new ≡ old)
Takes old line (Err refusals.Memory) new = new ≡ old

-- the task of this pid stands at this index
pub record IsTaskIndex (tasks : List Task) (pid index : ℕ) : Type 0 where
  pub within : index < length tasks
  pub pid_is : (d : Task) → (slice_index_or tasks index d).pid ≡ pid

-- what lines say that are all good
pub record KeepsOrder (said : Said) : Type 0 where
  pub cpus_kept : ForSome said.cpus (λ n. (1 ≤ n) × (n ≤ most_processors))
  pub start_kept : ForSome said.start (λ n. n < (greatest_seconds + 1) * nanoseconds_per_second)
  pub floors_after_start : said.start ≡ None → length said.floors ≡ 0
  pub floors_kept : All IsInRange said.floors
  pub tasks_kept : All (IsTaskInLimits (unwrap_or said.cpus 0)) said.tasks
  pub pids_rise : AllPairs (λ t u. t.pid < u.pid) said.tasks
  pub one_runs_a_cpu : AllPairs RunApart said.tasks
  pub claims_kept : All IsClaimInLimits said.claims
  pub lines_rise : AllPairs (λ a b. a.line < b.line) said.claims
  pub nices_kept : All IsNiceLineInLimits said.nices
  pub nice_lines_rise : AllPairs (λ a b. a.line < b.line) said.nices
  pub idles_kept : All IsIdleLineInLimits said.idles
  pub idles_rise : AllPairs IdleRises said.idles
  pub charges_kept : All IsChargeLineInLimits said.charges
  pub charge_lines_rise : AllPairs (λ a b. a.line < b.line) said.charges
  pub policies_kept : map (with_policy_told said.idles) said.tasks ≡ said.tasks
  pub named_kept : All (λ idle. idle.line ≡ no_line → is_task said.tasks idle.pid ≡ true) said.idles

-- no floor is missing, and this is what was said
pub record IsCompleted (said : Said) (r : CompanionView) : Type 0 where
  pub whole : has_all_floors said ≡ true
  pub cpus_is : said.cpus ≡ Some r.cpus
  pub start_is : said.start ≡ Some r.start
  pub floors_is : r.floors ≡ said.floors
  pub tasks_is : r.tasks ≡ said.tasks
  pub claims_is : r.claims ≡ said.claims
  pub nices_is : r.nices ≡ said.nices
  pub idles_is : r.idles ≡ said.idles
  pub charges_is : r.charges ≡ said.charges

-- the fault of a text whose line was refused
abbrev pub fault_at : ℕ → Refusal → CompanionFault
fault_at line (refusals.Bad cause) = faults.Text line cause
fault_at line refusals.Memory = faults.Memory
